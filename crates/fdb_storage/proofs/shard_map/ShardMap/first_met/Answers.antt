use Rattle.std.proofs.Common.{◌≡◌, ◌∙◌, ap, refl, ℕ, zero, suc, ◌<◌, Bool, true, false, ◌&&◌, List, [], ◌∷◌, ⊎_elim}
use Rattle.std.proofs.Common.{arith, rules}
use Rattle.std.proofs.lemmas.Bool.{cases_Bool, cond-true, cond-false}
use Rattle.fdb_keys.specs.Points.{Point, point_lt}
use Rattle.fdb_keys.specs.Ranges.{Range, ranges_meet}
use Rattle.fdb_txn.specs.rules.Owners.{first_owner}
use Rattle.fdb_txn.specs.rules.Splits.{piece, piece_after}
use Rattle.fdb_storage.proofs.shard_map.ShardMap.first_met.Goals as goal

-- the pieces before that of a point end by it
ends-by : (before : Point) (splits : List Point) (i : ℕ) (x : Point) → i < first_owner splits x
    → point_lt x (piece_after before splits i).end ≡ false
ends-by before [] i x earlier = absurd (omega (arith, earlier))
ends-by before (split ∷ splits) i x earlier = ⊎_elim
    (λ (below : point_lt x split ≡ true).
    let none = cond-true (point_lt x split) 0 (suc (first_owner splits x)) below in
    absurd (omega (arith, earlier, none)))
    (λ (reached : point_lt x split ≡ false).
    let count = cond-false (point_lt x split) 0 (suc (first_owner splits x)) reached in
    from i reached (omega (arith, earlier, count)) (λ j within. ends-by split splits j x within))
    (cases_Bool (point_lt x split))
  where
    from : (j : ℕ) → point_lt x split ≡ false → j < suc (first_owner splits x)
        → ((k : ℕ) → k < first_owner splits x → point_lt x (piece_after split splits k).end ≡ false)
        → point_lt x (piece_after before (split ∷ splits) j).end ≡ false
    from zero reached within others = reached
    from (suc j) reached within others = others j (omega (arith, within))

-- what ends by the begin of a range doesn't meet it
apart-before : (a b : Range) → point_lt b.begin a.end ≡ false → ranges_meet a b ≡ false
apart-before a b ends =
    ap (λ (c : Bool). point_lt a.begin a.end && point_lt a.begin b.end && (c && point_lt b.begin b.end)) ends
    ∙ none (point_lt a.begin a.end && point_lt a.begin b.end)
  where
    none : (c : Bool) → (c && false) ≡ false
    none true = refl
    none false = refl

pub returns-clause-first : goal.returns-clause-first
returns-clause-first c other earlier =
    let number : c.piece_of_text.result ≡ first_owner c.args.self.now c.args.range.now.begin = search rules in
    apart-before (piece c.args.self.now other) c.args.range.now
    (ends-by [] c.args.self.now other c.args.range.now.begin (omega (arith, earlier, number)))
