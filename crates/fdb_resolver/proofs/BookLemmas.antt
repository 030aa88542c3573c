-- The rule over versions says what the rule over the book says.
use Rattle.std.proofs.Common.{◌≡◌, ◌∙◌, ◌↔◌, sym, ap, ap₂, refl, ℕ, Bool, true, false, not, ◌&&◌, nat_lt, List}
use Rattle.std.proofs.Common.{if◌then◌else◌, arith}
use Rattle.std.proofs.lemmas.Bool.{both_ways, not_from_true, not_from_false, false_from_ne_true, cond-true, cond-false}
use Rattle.fdb_keys.specs.Points.{Point}
use Rattle.fdb_txn.specs.book.Book.{Place}
use Rattle.fdb_txn.specs.rules.Admission.{is_fresh, admits}
use Rattle.fdb_txn.specs.rules.Resolvers.{with_place, IsAdmittedBy}
use Rattle.fdb_txn.proofs.Exports.{state_decides, state_finds_conflicts, state_takes_place}
use Rattle.fdb_resolver.specs.declared.part.Item.{Item}
use Rattle.fdb_resolver.specs.declared.verdict.Verdict.{Verdict}
use Rattle.fdb_resolver.specs.declared.verdict.Verdict.TheVariants.{Yes, Conflict, Old}
use Rattle.fdb_resolver.specs.Rule.{is_old, IsVerdict, versions_with}
use Rattle.fdb_resolver.specs.RuleLaws.{IsItemOf, VerdictsAreByTheBook, PlacesKeepState, FoundByTheBook}

-- a place is fresh just where its item isn't old
fresh-item : (splits : List Point) (i : ℕ) (place : Place) (item : Item) → IsItemOf splits i place item
    → is_fresh place ≡ not (is_old place.horizon item)
fresh-item splits i place item of_place =
    ap₂ (λ (has_reads : Bool) (read : ℕ). not (has_reads && nat_lt read place.horizon))
    (sym of_place.has_reads) (sym of_place.read)

-- whether a verdict is yes
abbrev is_yes : Verdict → Bool
is_yes Yes = true
is_yes Conflict = false
is_yes Old = false

-- By the versions that decide, the verdict is yes just where the place is admitted.
yes-admits : (splits : List Point) (i : ℕ) (place : Place) (earlier : List Place) (f : Point → ℕ) (item : Item)
    (verdict : Verdict)
    → ((admits splits i earlier place ≡ true) ↔ IsAdmittedBy splits i f place) → IsItemOf splits i place item
    → IsVerdict place.horizon f item verdict
    → is_yes verdict ≡ admits splits i earlier place
yes-admits splits i place earlier f item Yes decides of_place is =
    sym (decides.1 (
      fresh-item splits i place item of_place ∙ not_from_false _ is.0,
      λ x of_part. let bounded = is.1 x (of_place.reads x ∙ of_part) in let read = of_place.read in omega
          (arith, bounded, read),
    ))
yes-admits splits i place earlier f item Conflict decides of_place is =
    sym (false_from_ne_true _ (λ admitted.
    let bounded = (decides.0 admitted).1 is.1.0 (sym (of_place.reads is.1.0) ∙ is.1.1) in
    let newer = is.1.2 in let read = of_place.read in omega (arith, bounded, newer, read)))
yes-admits splits i place earlier f item Old decides of_place is =
    sym (false_from_ne_true _
    (λ admitted. both_ways _ (fresh-item splits i place item of_place ∙ not_from_true _ is) (decides.0 admitted).0))

-- the verdict by whether the place is fresh and admitted
by-parts : (splits : List Point) (i : ℕ) (place : Place) (f : Point → ℕ) (item : Item) (verdict : Verdict)
    → IsItemOf splits i place item → IsVerdict place.horizon f item verdict
    → verdict ≡ (if is_fresh place then (if is_yes verdict then Yes else Conflict) else Old)
by-parts splits i place f item Yes of_place is = sym
    (cond-true _ Yes Old (fresh-item splits i place item of_place ∙ not_from_false _ is.0))
by-parts splits i place f item Conflict of_place is = sym
    (cond-true _ Conflict Old (fresh-item splits i place item of_place ∙ not_from_false _ is.0))
by-parts splits i place f item Old of_place is = sym
    (cond-false _ Conflict Old (fresh-item splits i place item of_place ∙ not_from_true _ is))

-- what the verdict leaves at a point is what the place leaves where it is admitted
versions-with_place : (splits : List Point) (i : ℕ) (place : Place) (f : Point → ℕ) (item : Item) (verdict : Verdict)
    → IsItemOf splits i place item
    → (x : Point) → versions_with place.version item verdict f x ≡ with_place splits i (is_yes verdict) place f x
versions-with_place splits i place f item Yes of_place x =
    ap (λ (written : Bool). if written then place.version else f x) (of_place.writes x)
versions-with_place splits i place f item Conflict of_place x = refl
versions-with_place splits i place f item Old of_place x = refl

pub verdicts_are_by_the_book : VerdictsAreByTheBook
verdicts_are_by_the_book splits i place earlier floor f item verdict history state reached_back of_place is =
    by-parts splits i place f item verdict of_place is
    ∙ ap (λ (yes : Bool). if is_fresh place then (if yes then Yes else Conflict) else Old)
    (yes-admits splits i place earlier f item verdict
    (state_decides splits i place earlier floor f history state reached_back) of_place is)

pub places_keep_state : PlacesKeepState
places_keep_state splits i place earlier floor f item verdict history state reached_back of_place is x v reached =
    let yes = yes-admits splits i place earlier f item verdict
    (state_decides splits i place earlier floor f history state reached_back) of_place is in
    ap (λ (n : ℕ). nat_lt v n) (versions-with_place splits i place f item verdict of_place x)
    ∙ ap (λ (admitted : Bool). nat_lt v (with_place splits i admitted place f x)) yes
    ∙ state_takes_place splits i place earlier floor f history state x v reached

pub found_by_the_book : FoundByTheBook
found_by_the_book splits i place earlier floor f item history state reached_back of_place fresh x =
    ap₂ (λ (is_read : Bool) (read : ℕ). is_read && nat_lt read (f x)) (of_place.reads x) of_place.read
    ∙ state_finds_conflicts splits i place earlier floor f history state reached_back fresh x
