use Rattle.std.proofs.Common.{◌≡◌, ◌∙◌, sym, ap, ap₂, ℕ, suc, List, [], ◌∷◌, ◌++◌, map, length, arith, rules}
use Rattle.std.specs.List.{range_with_len}
use Rattle.std.proofs.lemmas.List.FromFn.{map-range_with_len_more}
use Rattle.fdb_keys.specs.Points.{Point}
use Rattle.fdb_keys.specs.Ranges.{Range}
use Rattle.fdb_txn.specs.rules.Splits.{piece}
use Rattle.fdb_storage.proofs.shard_map.pieces_of.Goals as goal

pub loop-number-preserved : goal.loop-number-preserved
loop-number-preserved c =
    c.in_ok-push.ensures.ok
    ∙ ap₂ (λ (ranges : List Range) (range : Range). ranges ++ range ∷ []) c.loop-number.invariant (search rules)
    ∙ sym (map-range_with_len_more (piece c.args.splits.now) 0 c.loop-number.number c.loop-number.number (omega arith))

pub returns : goal.returns
returns c =
    let count : c.loop-number.number ≡ suc (length c.args.splits.now) =
    let long : length c.as_slice.result.now ≡ length c.args.splits.now =
    ap (λ (splits : List Point). length splits) c.as_slice.ensures in
    omega (arith, c.loop-number-test.false, c.loop-number.auto.number-end, long) in
    c.loop-number.invariant ∙ ap (λ (n : ℕ). map (piece c.args.splits.now) (range_with_len 0 n)) count
