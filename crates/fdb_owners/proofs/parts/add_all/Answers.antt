use Rattle.std.proofs.Common.{◌≡◌, ◌∙◌, sym, ap, true, ◌||◌, ◌==◌, List, [], ◌∷◌, length, arith}
use Rattle.std.proofs.lemmas.Bool.{eqb-true}
use Rattle.std.proofs.Math.Bool.{or-false}
use Rattle.fdb_keys.specs.Ranges.{Range, in_set}
use Rattle.fdb_keys.specs.Points.{Point}
use Rattle.fdb_txn.proofs.Exports.{same_set}
use Rattle.fdb_owners.proofs.parts.add_all.Goals as goal

-- a set without ranges has no point to add to
copied : (added copy old : List Range) → copy ≡ added → (length old == 0) ≡ true → (x : Point)
    → in_set copy x ≡ (in_set added x || in_set old x)
copied added copy [] same none x = ap (λ (set : List Range). in_set set x) same ∙ sym (or-false (in_set added x))
copied added copy (range ∷ old) same none x =
    let is = eqb-true (length (range ∷ old)) 0 none in absurd (omega (arith, is))

pub returns-then-is_empty-clause-answers : goal.returns-then-is_empty-clause-answers
returns-then-is_empty-clause-answers c =
    copied c.args.added.now c.in_ok-set.field-0 c.args.set.now
    (same_set c.args.added.now c.in_ok-set.field-0 c.in_ok-set.ensures.cases)
    (sym c.is_empty.ensures ∙ c.if-is_empty.true)
