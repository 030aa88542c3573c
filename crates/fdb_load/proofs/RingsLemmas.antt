-- The way from key to key.
use Rattle.std.proofs.Common.{◌≡◌, ◌≢◌, ◌∙◌, ap, sym, refl, ℕ, zero, suc, ◌+◌, ◌-◌, ◌<◌, ◌≤◌, ⊎_elim, false, List}
use Rattle.std.proofs.Common.{nat_eq, Some, None, arith}
use Rattle.std.specs.Cmp.Lexicographic.{pointwise, bytes_decides}
use Rattle.std.specs.Option.{option_and_then}
use Rattle.std.proofs.lemmas.Option.{none-some, same_Some}
use Rattle.std.proofs.lemmas.Bool.{cases_lt, false≢true}
use Rattle.fdb_keys.specs.Points.{Point}
use Rattle.fdb_load.specs.Rings.{first_name, value_at, name_in, next_name, name_after}

abbrev Pairs : Type 0
Pairs = List (Point × List ℕ)

-- fewer steps than so many don't lead to the first key again
abbrev pub IsAwayBelow : Pairs → ℕ → Type 0
IsAwayBelow pairs steps = (fewer : ℕ) → 0 < fewer → fewer < steps → name_after pairs fewer ≢ Some first_name

pub name_after-begin : (pairs : Pairs) → name_after pairs 0 ≡ Some first_name
unfolding name_after
name_after-begin pairs = refl

name_after-more : (pairs : Pairs) (steps : ℕ) (at : Point) → name_after pairs steps ≡ Some at
    → name_after pairs (suc steps) ≡ next_name pairs at
unfolding name_after
name_after-more pairs steps at before = ap (option_and_then (next_name pairs)) before

name_after-step : (pairs : Pairs) (steps : ℕ) (at : Point) → 0 < steps → name_after pairs (steps - 1) ≡ Some at
    → name_after pairs steps ≡ next_name pairs at
name_after-step pairs steps at any before =
    let same : steps ≡ suc (steps - 1) = omega arith in
    ap (name_after pairs) same ∙ name_after-more pairs (steps - 1) at before

-- One step more leads to the name that the key has.
pub name_after-leads : (pairs : Pairs) (steps : ℕ) (at value next : Point) → 0 < steps
    → name_after pairs (steps - 1) ≡ Some at → Some value ≡ value_at pairs at → Some next ≡ name_in value
    → name_after pairs steps ≡ Some next
name_after-leads pairs steps at value next any before there is =
    name_after-step pairs steps at any before ∙ ap (option_and_then name_in) (sym there) ∙ sym is

-- Where the way ends, it leads no further.
name_after-ends : (pairs : Pairs) (steps more : ℕ) → steps ≤ more → name_after pairs steps ≡ None
    → name_after pairs more ≡ None
unfolding name_after
name_after-ends pairs steps zero within ends =
    let same : zero ≡ steps = omega arith in
    ap (name_after pairs) same ∙ ends
name_after-ends pairs steps (suc more) within ends = ⊎_elim
    (λ (below : steps < suc more).
    ap (option_and_then (next_name pairs)) (name_after-ends pairs steps more (omega arith) ends))
    (λ (above : suc more ≤ steps). let same : suc more ≡ steps = omega arith in ap (name_after pairs) same ∙ ends)
    (cases_lt steps (suc more))

-- Where the next key has no name, the way never leads to the first key again.
pub never-back : (pairs : Pairs) (steps : ℕ) (at : Point) → 0 < steps → name_after pairs (steps - 1) ≡ Some at
    → next_name pairs at ≡ None → IsAwayBelow pairs steps → (more : ℕ) → 0 < more
    → name_after pairs more ≢ Some first_name
never-back pairs steps at some before ends away more any = λ back. ⊎_elim
    (λ (below : more < steps). away more any below back)
    (λ (above : steps ≤ more).
    let lost = name_after-ends pairs steps more above (name_after-step pairs steps at some before ∙ ends) in
    none-some first_name (sym lost ∙ back))
    (cases_lt more steps)

-- A key with another name than the first one isn't the first one.
pub away-other : (pairs : Pairs) (steps : ℕ) (at : Point) → name_after pairs steps ≡ Some at
    → false ≡ pointwise nat_eq at first_name → name_after pairs steps ≢ Some first_name
away-other pairs steps at is other back =
    let same = same_Some at first_name (sym is ∙ back) in
    false≢true (other ∙ (bytes_decides at first_name).1 same)

pub away-more : (pairs : Pairs) (steps : ℕ) → IsAwayBelow pairs steps → name_after pairs steps ≢ Some first_name
    → IsAwayBelow pairs (steps + 1)
away-more pairs steps away other = λ fewer any within back. ⊎_elim
    (λ (below : fewer < steps). away fewer any below back)
    (λ (above : steps ≤ fewer).
    let same : steps ≡ fewer = omega arith in
    other (ap (name_after pairs) same ∙ back))
    (cases_lt fewer steps)
