-- One owner of a whole set: no breakpoint is between its first begin and its last end.
use Rattle.std.proofs.Common.{◌≡◌, ◌∙◌, sym, ap, subst, ℕ, suc, ◌-◌, Bool, true, false, ◌||◌, ◌==◌, List, [], ◌∷◌}
use Rattle.std.proofs.Common.{◌++◌, ◌≢◌, length, filter}
use Rattle.std.specs.BTreeMap.Range.{entries_between, range_contains}
use Rattle.std.specs.Cmp.Lexicographic.{slice_cmp}
use Rattle.std.specs.Ordering.{nat_cmp, is_lt}
use Rattle.std.specs.declared.ops.Bound.TheVariants.{Excluded, Unbounded}
use Rattle.std.proofs.Common.{⊎_elim, Option, Some, unwrap_or, refl, slice_get, arith}
use Rattle.std.specs.List.{list_any}
use Rattle.std.proofs.lemmas.Bool.{both_ways, or_cases, or_left, and_from, false_from_ne_true, cases_Bool}
use Rattle.std.proofs.lemmas.Bool.{cond-true, cond-false}
use Rattle.fdb_keys.specs.Points.{Point, point_lt}
use Rattle.fdb_keys.specs.Ranges.{Range, in_range, in_set, is_apart}
use Rattle.fdb_keys.proofs.Exports.{all_after, in_set-before, apart_parts, lt-itself, lt_chain, in_range_parts}
use Rattle.fdb_keys.proofs.Exports.{in_range_from}
use Rattle.fdb_interval.specs.Breakpoints.{Breaks, value_from, breaks_inside, AreRising}
use Rattle.fdb_owners.specs.declared.history.Change.{Change}
use Rattle.fdb_owners.specs.declared.history.History.{History}
use Rattle.fdb_owners.specs.declared.pieces.Pieces.{Pieces}
use Rattle.fdb_owners.specs.Histories.{owner_in}
use Rattle.fdb_owners.specs.Parts.{owned_from, changes_within}
use Rattle.fdb_owners.specs.Pieces.{history_at}
use Rattle.fdb_owners.proofs.ChangesLemmas.{any-within}
use Rattle.fdb_owners.proofs.OwnedFromLemmas.{or-none}
use Rattle.fdb_owners.proofs.WalkLemmas.{value-inside}

-- a history without a change in the span has one owner in it
pub owned-throughout : (history : History) (i since through : ℕ) → changes_within since through history.changes ≡ []
    → owned_from history i since through ≡ (owner_in history since == i)
owned-throughout history i since through none =
    ap (λ (any : Bool). (owner_in history since == i) || any)
    (sym (any-within i since through history.changes)
    ∙ ap (list_any (λ (change : Change). change.owner == i)) none)
    ∙ or-none (owner_in history since == i)

-- ---- a breakpoint between two points
-- what passes one test last passes the other one, so that one leaves an item, too
by_front : {A : Type 0} (q r : A → Bool) (item : A) (rest front : List A) (x : A) → r item ≡ false
    → (q x ≡ true → r x ≡ true) → q item ≡ true → item ∷ rest ≡ front ++ x ∷ []
    → ((behind : List A) → rest ≡ behind ++ x ∷ [] → ⊥) → ⊥
by_front q r item rest [] x left passes here same others =
    let is_x : item ≡ x = cc in
    both_ways (r item) left (ap r is_x ∙ passes (ap q (sym is_x) ∙ here))
by_front {A} q r item rest (first ∷ front) x left passes here same others =
    let behind : rest ≡ front ++ x ∷ [] = cc in
    others front behind

some-left : {A : Type 0} (q r : A → Bool) (items front : List A) (x : A) → filter q items ≡ front ++ x ∷ []
    → (q x ≡ true → r x ≡ true) → filter r items ≡ [] → ⊥
some-left q r [] [] x is passes none = cc
some-left q r [] (first ∷ front) x is passes none = cc
some-left q r (item ∷ items) front x is passes none = ⊎_elim
    (λ (kept : r item ≡ true). let same : item ∷ filter r items ≡ [] =
    sym (cond-true (r item) (item ∷ filter r items) (filter r items) kept) ∙ none in cc)
    (λ (left : r item ≡ false).
    let later : filter r items ≡ [] = sym (cond-false (r item) (item ∷ filter r items) (filter r items) left) ∙ none in
    ⊎_elim
    (λ (here : q item ≡ true).
    by_front q r item (filter q items) front x left passes here
    (sym (cond-true (q item) (item ∷ filter q items) (filter q items) here) ∙ is)
    (λ behind rest. some-left q r items behind x rest passes later))
    (λ (elsewhere : q item ≡ false).
    some-left q r items front x (sym (cond-false (q item) (item ∷ filter q items) (filter q items) elsewhere) ∙ is)
    passes later)
    (cases_Bool (q item)))
    (cases_Bool (r item))

pub one-inside : (breaks front : Breaks History) (last : Point × History) (begin end : Point)
    → entries_between (slice_cmp nat_cmp) Unbounded (Excluded end) breaks ≡ front ++ last ∷ []
    → point_lt begin last.0 ≡ true → breaks_inside (record { begin = begin; end = end }) breaks ≢ []
unfolding point_lt
one-inside breaks front last begin end between later none =
    some-left (λ (e : Point × History). range_contains (slice_cmp nat_cmp) Unbounded (Excluded end) e.0)
    (λ (e : Point × History). range_contains (slice_cmp nat_cmp) (Excluded begin) (Excluded end) e.0) breaks front last
    between (λ before. and_from (is_lt (slice_cmp nat_cmp begin last.0)) _ later before) none

-- ---- a set lies from the begin of its first range up to the end of its last one
inside-first : (first : Range) (rest : List Range) → is_apart (first ∷ rest) ≡ true
    → in_set (first ∷ rest) first.begin ≡ true
inside-first first rest apart =
    or_left _ _ (in_range_from first first.begin (lt-itself first.begin) (apart_parts first rest apart).0)

first-inside : (set : List Range) (first : Range) → is_apart set ≡ true → slice_get set 0 ≡ Some first
    → in_set set first.begin ≡ true
first-inside [] first apart begins = cc
first-inside (range ∷ rest) first apart begins =
    subst (λ (one : Range). in_set (range ∷ rest) one.begin ≡ true)
    (ap (λ (one : Option Range). unwrap_or one range) begins) (inside-first range rest apart)

from-first : (set : List Range) (first : Range) (x : Point) → is_apart set ≡ true → slice_get set 0 ≡ Some first
    → in_set set x ≡ true → point_lt x first.begin ≡ false
from-first [] first x apart begins inside = absurd (both_ways _ refl inside)
from-first (range ∷ rest) first x apart begins inside =
    subst (λ (one : Range). point_lt x one.begin ≡ false) (ap (λ (one : Option Range). unwrap_or one range) begins)
    (false_from_ne_true _ (λ sooner.
    both_ways _ (in_set-before x (range ∷ rest) (all_after x (range ∷ rest) apart sooner)) inside))

until-last : (set : List Range) (last : Range) (x : Point) → is_apart set ≡ true
    → slice_get set (length set - 1) ≡ Some last → in_set set x ≡ true → point_lt x last.end ≡ true
until-last [] last x apart ends inside = absurd (both_ways _ refl inside)
until-last (range ∷ []) last x apart ends inside =
    subst (λ (one : Range). point_lt x one.end ≡ true) (ap (λ (one : Option Range). unwrap_or one range) ends)
    (in_range_parts range x (sym (or-none (in_range range x)) ∙ inside)).1
until-last (range ∷ (next ∷ rest)) last x apart ends inside =
    let parts = apart_parts range (next ∷ rest) apart in
    let count : length (range ∷ (next ∷ rest)) - 1 ≡ suc (length (next ∷ rest) - 1) = omega arith in
    let later : slice_get (next ∷ rest) (length (next ∷ rest) - 1) ≡ Some last =
    sym (ap (λ (i : ℕ). slice_get (range ∷ (next ∷ rest)) i) count) ∙ ends in
    ⊎_elim
    (λ (here : in_range range x ≡ true).
    let further = until-last (next ∷ rest) last next.begin parts.2 later (inside-first next rest parts.2) in
    lt_chain x range.end last.end (in_range_parts range x here).1
    (lt_chain range.end next.begin last.end parts.1 further))
    (λ (there : in_set (next ∷ rest) x ≡ true). until-last (next ∷ rest) last x parts.2 later there)
    (or_cases (in_range range x) (in_set (next ∷ rest) x) inside)

-- ---- what is found between these two holds of the whole set
module _ (set : List Range) (first last : Range) (apart : is_apart set ≡ true) (begins : slice_get set 0 ≡ Some first)
    (ends : slice_get set (length set - 1) ≡ Some last) where
  pub sole-order : point_lt first.begin last.end ≡ true
  sole-order = until-last set last first.begin apart ends (first-inside set first apart begins)

  pub sole-history : (pieces : Pieces) → AreRising pieces.breaks.entries
      → breaks_inside (record { begin = first.begin; end = last.end }) pieces.breaks.entries ≡ []
      → (x : Point) → in_set set x ≡ true → history_at pieces x ≡ history_at pieces first.begin
  sole-history pieces rising none x inside =
      value-inside pieces.lowest pieces.breaks.entries first.begin last.end rising sole-order x
      (from-first set first x apart begins inside) (until-last set last x apart ends inside)
      ∙ ap (λ (within : Breaks History). value_from (history_at pieces first.begin) within x) none
