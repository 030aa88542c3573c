use Rattle.std.proofs.Common.{◌≡◌, ◌<◌, refl, sym, subst, ℕ, add-one, length, take, arith, Some, slice_get}
use Rattle.std.specs.List.{AllByRecursion}
use Rattle.std.proofs.lemmas.Option.{slice_get_read}
use Rattle.fdb_core.specs.check.Holding.{HasTheMapThere}
use Rattle.fdb_roles.proofs.Exports.{all-next}
use Rattle.fdb_core.proofs.check.shards.compare_shards.Goals as goal

pub loop-number-preserved : goal.loop-number-preserved
loop-number-preserved c =
    let shards = c.args.shards.now in
    let number = c.loop-number.number in
    let role = c.index-shards-number.result in
    let inside : number < length shards = omega arith in
    let there : slice_get shards number ≡ Some role = slice_get_read shards (length shards) number role refl inside
    c.index-shards-number.is in
    subst (λ (n : ℕ). AllByRecursion (HasTheMapThere c.args.from c.args.until c.args.map.now) (take n shards))
    (sym (add-one number))
    (all-next (HasTheMapThere c.args.from c.args.until c.args.map.now) number shards role c.loop-number.invariant there
    c.in_ok-compare_shard.ensures)
