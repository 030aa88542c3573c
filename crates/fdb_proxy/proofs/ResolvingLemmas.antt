-- Which verdicts are missing, resolver by resolver, and on which places they are.
use Rattle.std.proofs.Common.{◌≡◌, ◌∙◌, refl, sym, ap, ℕ, zero, suc, Bool, true, false, ◌&&◌, List, [], ◌∷◌, drop}
use Rattle.std.proofs.Common.{length, slice_get, ◌==◌, Option, Some, None, if◌then◌else◌}
use Rattle.std.proofs.lemmas.Bool.{and_parts, and_from, eq-eqb}
use Rattle.fdb_keys.specs.Points.{Point}
use Rattle.fdb_resolver.specs.declared.part.Item.{Item}
use Rattle.fdb_resolver.specs.declared.part.Part.{Part}
use Rattle.fdb_resolver.specs.declared.verdict.Verdict.{Verdict}
use Rattle.fdb_resolver.specs.Rule.{AreVerdicts, versions_with}
use Rattle.fdb_proxy.specs.Deciding.{Said}
use Rattle.fdb_proxy.specs.Resolving.{are_on, asks, has_not_come, first_missing}

missing-past : (m : ℕ) (parts : List Part) → first_missing m parts [] ≡ None
missing-past m [] = refl
missing-past m (part ∷ parts) = refl

-- one that isn't missing is passed over
pub missing-next : (m n : ℕ) (parts : List Part) (verdicts : List (Option Said)) (part : Part)
    → slice_get parts n ≡ Some part → asks part && has_not_come (slice_get verdicts n) ≡ false
    → first_missing (suc m) (drop (suc n) parts) (drop (suc n) verdicts)
    ≡ first_missing m (drop n parts) (drop n verdicts)
missing-next m n [] verdicts part there isnt = cc
missing-next m zero (first ∷ parts) [] part there isnt = missing-past (suc m) parts
missing-next m zero (first ∷ parts) (of ∷ verdicts) part there isnt =
    let same : first ≡ part = cc in
    sym (ap (λ (b : Bool). if b then Some m else first_missing (suc m) parts verdicts)
    (ap (λ (p : Part). asks p && has_not_come (Some of)) same ∙ isnt))
missing-next m (suc n) (first ∷ parts) [] part there isnt =
    missing-past (suc m) (drop (suc n) parts) ∙ sym (missing-past m (drop n parts))
missing-next m (suc n) (first ∷ parts) (of ∷ verdicts) part there isnt =
    missing-next m n parts verdicts part there isnt

none-missing : (b : Bool) → b && false ≡ true → ⊥
none-missing true is = cc
none-missing false is = cc

-- the first one that is missing is found
pub missing-here : (m n : ℕ) (parts : List Part) (verdicts : List (Option Said)) (part : Part)
    → slice_get parts n ≡ Some part → asks part && has_not_come (slice_get verdicts n) ≡ true
    → first_missing m (drop n parts) (drop n verdicts) ≡ Some m
missing-here m n [] verdicts part there is = cc
missing-here m zero (first ∷ parts) [] part there is = absurd (none-missing (asks part) is)
missing-here m zero (first ∷ parts) (of ∷ verdicts) part there is =
    let same : first ≡ part = cc in
    ap (λ (b : Bool). if b then Some m else first_missing (suc m) parts verdicts)
    (ap (λ (p : Part). asks p && has_not_come (Some of)) same ∙ is)
missing-here m (suc n) (first ∷ parts) [] part there is = absurd (none-missing (asks part) is)
missing-here m (suc n) (first ∷ parts) (of ∷ verdicts) part there is = missing-here m n parts verdicts part there is

-- verdicts on as many places are on the same ones
pub on-lengths : (items : List Item) (said : Said) → are_on items said ≡ true → length items ≡ length said
on-lengths [] [] is = refl
on-lengths [] (one ∷ said) is = cc
on-lengths (item ∷ items) [] is = cc
on-lengths (item ∷ items) (one ∷ said) is = ap suc (on-lengths items said
    (and_parts (item.place == one.0) (are_on items said) is).1)

-- a resolver's verdicts on the items of its part are on just their places
pub verdicts-are-on : (version horizon : ℕ) (f : Point → ℕ) (items : List Item) (answers : List (ℕ × Verdict))
    → AreVerdicts version horizon f items answers → are_on items answers ≡ true
verdicts-are-on version horizon f [] [] are = refl
verdicts-are-on version horizon f [] (answer ∷ answers) are = absurd are
verdicts-are-on version horizon f (item ∷ items) [] are = absurd are
verdicts-are-on version horizon f (item ∷ items) (answer ∷ answers) are = and_from (item.place == answer.0)
    (are_on items answers) (eq-eqb item.place answer.0 (sym are.0))
    (verdicts-are-on version horizon (versions_with version item answer.1 f) items answers are.2)
