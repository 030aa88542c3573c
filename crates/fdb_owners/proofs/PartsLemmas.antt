-- Parts to which the points of a range come.
use Rattle.std.proofs.Common.{◌≡◌, ◌∙◌, sym, ap, refl, subst, ℕ, ◌<◌, ◌≤◌, Bool, true, false, ◌&&◌, ◌||◌}
use Rattle.std.proofs.Common.{◌==◌, nat_lt, List, [], ◌∷◌, length, get_or, set, ⊎_elim, arith}
use Rattle.std.specs.List.{AllByRecursion, insert, list_any, prefix_len}
use Rattle.std.specs.List.Sorted.{IsPartitionedBy}
use Rattle.std.proofs.lemmas.Bool.{cases_Bool, cond-true, cond-false, ltb-true, lt-ltb, ltb-false, eqb-true}
use Rattle.std.proofs.lemmas.Bool.{eq-eqb, both_ways, or_cases, or_left, or_right, false_from_ne_true}
use Rattle.fdb_keys.specs.Insertion.{with_range}
use Rattle.fdb_keys.specs.Points.{Point, point_lt}
use Rattle.fdb_keys.specs.Ranges.{Range, in_range, in_set}
use Rattle.fdb_keys.proofs.Exports.{all-weaken, in_range_from, in_range_parts, in_with_range, le_lt_chain, lt-itself}
use Rattle.fdb_keys.proofs.Exports.{all-filter, ordered-parted}
use Rattle.fdb_txn.specs.rules.Admission.{has_points}
use Rattle.fdb_owners.specs.declared.history.Change.{Change}
use Rattle.fdb_owners.specs.declared.history.History.{History}
use Rattle.fdb_owners.specs.declared.parts.Owned.{Owned}
use Rattle.fdb_owners.specs.Histories.{owner_in}
use Rattle.fdb_owners.specs.Parts.{ranges_at, AreRising, ArePartsOf, owned_from, changes_within}
use Rattle.fdb_owners.specs.Parts.{with_part, with_changes, with_owners}
use Rattle.fdb_owners.proofs.ChangesLemmas.{counts-first, counts-none, owner-below, any-within}

-- ---- where the part of a resolver stands
abbrev pub below : ℕ → Owned → Bool
below i part = nat_lt part.resolver i

pub rising-parted : (i : ℕ) (parts : List Owned) → AreRising parts → IsPartitionedBy (below i) parts
rising-parted i = ordered-parted (λ (part later : Owned). part.resolver < later.resolver) (below i)
    (λ part later rises before.
    let sooner = ltb-true later.resolver i before in lt-ltb part.resolver i (omega (arith, rises, sooner)))

-- the part with the range's points too, and one of these alone
abbrev pub grown : ℕ → Range → Owned → Owned
grown i range part = record { resolver = i; ranges = with_range range part.ranges }

abbrev pub fresh : ℕ → Range → Owned
fresh i range = record { resolver = i; ranges = with_range range [] }

-- the cases of where the part goes
placed : (P : List Owned → Type 0) (i : ℕ) (range : Range) (part : Owned) (parts : List Owned)
    → (part.resolver < i → P (part ∷ with_part i range parts))
    → (part.resolver ≡ i → P (grown i range part ∷ parts))
    → (i < part.resolver → P (fresh i range ∷ part ∷ parts))
    → P (with_part i range (part ∷ parts))
placed P i range part parts low same high = ⊎_elim
    (λ (is : nat_lt part.resolver i ≡ true).
    subst P (sym (cond-true _ _ _ is)) (low (ltb-true part.resolver i is)))
    (λ (from : nat_lt part.resolver i ≡ false).
    let reached = ltb-false part.resolver i from in
    subst P (sym (cond-false _ _ _ from)) (⊎_elim
    (λ (equal : (part.resolver == i) ≡ true).
    subst P (sym (cond-true _ _ _ equal)) (same (eqb-true part.resolver i equal)))
    (λ (other : (part.resolver == i) ≡ false).
    subst P (sym (cond-false _ _ _ other)) (high (beyond reached other)))
    (cases_Bool (part.resolver == i))))
    (cases_Bool (nat_lt part.resolver i))
  where
    beyond : i ≤ part.resolver → (part.resolver == i) ≡ false → i < part.resolver
    beyond reached other =
        omega (arith, reached, λ (equal : part.resolver ≡ i). both_ways _ other (eq-eqb part.resolver i equal))

-- a part that is there grows at its place, and a new one is put in there
pub grown-in_place : (i : ℕ) (range : Range) (parts : List Owned) (d : Owned)
    → prefix_len (below i) parts < length parts → (get_or parts (prefix_len (below i) parts) d).resolver ≡ i
    → set parts (prefix_len (below i) parts) (grown i range (get_or parts (prefix_len (below i) parts) d))
    ≡ with_part i range parts
grown-in_place i range [] d within same = absurd (omega (arith, within))
grown-in_place i range (part ∷ parts) d within same = ⊎_elim
    (λ (before : nat_lt part.resolver i ≡ true).
    let counts = counts-first (below i) part parts before in
    ap (λ (k : ℕ). set (part ∷ parts) k (grown i range (get_or (part ∷ parts) k d))) counts
    ∙ ap (λ (l : List Owned). part ∷ l)
    (grown-in_place i range parts d (omega (arith, counts, within))
    (sym (ap (λ (k : ℕ). (get_or (part ∷ parts) k d).resolver) counts) ∙ same))
    ∙ sym (cond-true (nat_lt part.resolver i) _ _ before))
    (λ (from : nat_lt part.resolver i ≡ false).
    let counts = counts-none (below i) part parts from in
    let here : part.resolver ≡ i = sym (ap (λ (k : ℕ). (get_or (part ∷ parts) k d).resolver) counts) ∙ same in
    ap (λ (k : ℕ). set (part ∷ parts) k (grown i range (get_or (part ∷ parts) k d))) counts
    ∙ sym (cond-true (part.resolver == i) _ _ (eq-eqb part.resolver i here))
    ∙ sym (cond-false (nat_lt part.resolver i) _ _ from))
    (cases_Bool (nat_lt part.resolver i))

pub fresh-in_place : (i : ℕ) (range : Range) (parts : List Owned)
    → ((d : Owned) → prefix_len (below i) parts < length parts
    → (get_or parts (prefix_len (below i) parts) d).resolver ≡ i → ⊥)
    → insert parts (prefix_len (below i) parts) (fresh i range) ≡ with_part i range parts
fresh-in_place i range [] other = refl
fresh-in_place i range (part ∷ parts) other = ⊎_elim
    (λ (before : nat_lt part.resolver i ≡ true).
    let counts = counts-first (below i) part parts before in
    ap (λ (k : ℕ). insert (part ∷ parts) k (fresh i range)) counts
    ∙ ap (λ (l : List Owned). part ∷ l)
    (fresh-in_place i range parts (λ d within same. other d (omega (arith, counts, within))
    (ap (λ (k : ℕ). (get_or (part ∷ parts) k d).resolver) counts ∙ same)))
    ∙ sym (cond-true (nat_lt part.resolver i) _ _ before))
    (λ (from : nat_lt part.resolver i ≡ false).
    let counts = counts-none (below i) part parts from in
    let apart : (part.resolver == i) ≡ false = false_from_ne_true _ (λ equal. other part (omega (arith, counts))
    (ap (λ (k : ℕ). (get_or (part ∷ parts) k part).resolver) counts ∙ eqb-true part.resolver i equal)) in
    ap (λ (k : ℕ). insert (part ∷ parts) k (fresh i range)) counts
    ∙ sym (cond-false (part.resolver == i) _ _ apart)
    ∙ sym (cond-false (nat_lt part.resolver i) _ _ from))
    (cases_Bool (nat_lt part.resolver i))

-- the same, by the place that a search found
pub grown-found : (i : ℕ) (range : Range) (parts : List Owned) (place : ℕ) (d : Owned)
    → place ≡ prefix_len (below i) parts → place < length parts → (get_or parts place d).resolver ≡ i
    → set parts place (record {
      resolver = (get_or parts place d).resolver;
      ranges = with_range range (get_or parts place d).ranges;
    })
    ≡ with_part i range parts
grown-found i range parts place d found within same =
    ap (λ (resolver : ℕ). set parts place (grown resolver range (get_or parts place d))) same
    ∙ ap (λ (k : ℕ). set parts k (grown i range (get_or parts k d))) found
    ∙ grown-in_place i range parts d (omega (arith, found, within))
    (ap (λ (k : ℕ). (get_or parts k d).resolver) (sym found) ∙ same)

pub fresh-found : (i : ℕ) (range : Range) (parts : List Owned) (place : ℕ) → place ≡ prefix_len (below i) parts
    → ((d : Owned) → place < length parts → (get_or parts place d).resolver ≡ i → ⊥)
    → insert parts place (fresh i range) ≡ with_part i range parts
fresh-found i range parts place found other =
    ap (λ (k : ℕ). insert parts k (fresh i range)) found
    ∙ fresh-in_place i range parts (λ d within same. other d (omega (arith, found, within))
    (ap (λ (k : ℕ). (get_or parts k d).resolver) found ∙ same))

-- ---- what stays so
all-with_part : (P : ℕ → Type 0) (i : ℕ) (range : Range) (parts : List Owned) → P i
    → AllByRecursion (λ (part : Owned). P part.resolver) parts
    → AllByRecursion (λ (part : Owned). P part.resolver) (with_part i range parts)
all-with_part P i range [] of_i all = (of_i, tt)
all-with_part P i range (part ∷ parts) of_i all =
    let others = all-with_part P i range parts of_i all.1 in
    placed (AllByRecursion (λ (part : Owned). P part.resolver)) i range part parts
    (λ low. (all.0, others)) (λ same. (of_i, all.1)) (λ high. (of_i, all))

pub rising-with_part : (i : ℕ) (range : Range) (parts : List Owned) → AreRising parts
    → AreRising (with_part i range parts)
rising-with_part i range [] rising = (tt, tt)
rising-with_part i range (part ∷ parts) rising =
    let others = rising-with_part i range parts rising.1 in
    placed AreRising i range part parts
    (λ low. (all-with_part (λ (n : ℕ). part.resolver < n) i range parts low rising.0, others))
    (λ same. (
      all-weaken _ (λ (later : Owned). i < later.resolver) (λ (later : Owned) after. omega (arith, after, same))
          parts rising.0,
      rising.1,
    ))
    (λ high. (
      (
        high,
        all-weaken _ (λ (later : Owned). i < later.resolver)
            (λ (later : Owned) after. omega (arith, after, high)) parts rising.0,
      ),
      rising,
    ))

pub rising-with_changes : (range : Range) (changes : List Change) (parts : List Owned) → AreRising parts
    → AreRising (with_changes range parts changes)
rising-with_changes range [] parts rising = rising
rising-with_changes range (change ∷ changes) parts rising =
    rising-with_changes range changes (with_part change.owner range parts)
    (rising-with_part change.owner range parts rising)

pub rising-with_owners : (history : History) (since through : ℕ) (range : Range) (parts : List Owned) → AreRising parts
    → AreRising (with_owners history since through range parts)
rising-with_owners history since through range parts rising =
    rising-with_changes range (changes_within since through history.changes)
    (with_part (owner_in history since) range parts)
    (rising-with_part (owner_in history since) range parts rising)

-- a point of a set lies in a range of it, which has a point then
has-point : (ranges : List Range) (x : Point) → in_set ranges x ≡ true → has_points ranges ≡ true
has-point [] x inside = absurd (both_ways false refl inside)
has-point (range ∷ ranges) x inside = ⊎_elim
    (λ (here : in_range range x ≡ true).
    let parts = in_range_parts range x here in
    or_left _ _ (le_lt_chain range.begin x range.end parts.0 parts.1))
    (λ (there : in_set ranges x ≡ true). or_right _ _ (has-point ranges x there))
    (or_cases (in_range range x) (in_set ranges x) inside)

has-range : (range : Range) (ranges : List Range) → point_lt range.begin range.end ≡ true
    → has_points (with_range range ranges) ≡ true
has-range range ranges some = has-point (with_range range ranges) range.begin
    (in_with_range range ranges range.begin
    ∙ or_left _ _ (in_range_from range range.begin (lt-itself range.begin) some))

some-with_part : (i : ℕ) (range : Range) (parts : List Owned) → point_lt range.begin range.end ≡ true
    → AllByRecursion (λ (part : Owned). has_points part.ranges ≡ true) parts
    → AllByRecursion (λ (part : Owned). has_points part.ranges ≡ true) (with_part i range parts)
some-with_part i range [] some all = (has-range range [] some, tt)
some-with_part i range (part ∷ parts) some all =
    let others = some-with_part i range parts some all.1 in
    placed (AllByRecursion (λ (part : Owned). has_points part.ranges ≡ true)) i range part parts
    (λ low. (all.0, others)) (λ same. (has-range range part.ranges some, all.1))
    (λ high. (has-range range [] some, all))

-- ---- the points of each resolver's part
or-unmet : (a b c : Bool) → b ≡ false → a ≡ (a || (c && b))
or-unmet true b c none = refl
or-unmet false b true none = sym none
or-unmet false b false none = refl

turned : (a b : Bool) → (a || b) ≡ (b || a)
turned true true = refl
turned true false = refl
turned false true = refl
turned false false = refl

and-met : (a b : Bool) → b ≡ true → (a && b) ≡ a
and-met true b met = met
and-met false b met = refl

ranges_at-none : (j : ℕ) (parts : List Owned) → AllByRecursion (λ (part : Owned). j < part.resolver) parts
    → ranges_at parts j ≡ []
ranges_at-none j [] later = refl
ranges_at-none j (part ∷ parts) later =
    cond-false (part.resolver == j) part.ranges (ranges_at parts j)
    (false_from_ne_true _ (λ equal. let same = eqb-true part.resolver j equal in
    let after = later.0 in absurd (omega (arith, same, after))))
    ∙ ranges_at-none j parts later.1

-- the set that grew has the points of both
grown-points : (range : Range) (ranges : List Range) (same : Bool) (x : Point) → same ≡ true
    → in_set (with_range range ranges) x ≡ (in_set ranges x || (in_range range x && same))
grown-points range ranges same x is =
    in_with_range range ranges x
    ∙ turned (in_range range x) (in_set ranges x)
    ∙ ap (λ (b : Bool). in_set ranges x || b) (sym (and-met (in_range range x) same is))

module _ (i j : ℕ) (range : Range) (x : Point) where
  -- what resolver j has after the range came to resolver i
  abbrev more : List Owned → Bool
  more parts = in_set (ranges_at parts j) x || (in_range range x && (i == j))

  points-low : (part : Owned) (parts grown_parts : List Owned) → part.resolver < i
      → in_set (ranges_at grown_parts j) x ≡ more parts
      → in_set (ranges_at (part ∷ grown_parts) j) x ≡ more (part ∷ parts)
  points-low part parts grown_parts low others = ⊎_elim
      (λ (here : (part.resolver == j) ≡ true).
      let apart : (i == j) ≡ false = false_from_ne_true _ (λ equal. let same = eqb-true i j equal in
      let is = eqb-true part.resolver j here in absurd (omega (arith, low, same, is))) in
      ap (λ (l : List Range). in_set l x) (cond-true (part.resolver == j) part.ranges (ranges_at grown_parts j) here)
      ∙ or-unmet (in_set part.ranges x) (i == j) (in_range range x) apart
      ∙ ap (λ (l : List Range). in_set l x || (in_range range x && (i == j)))
      (sym (cond-true (part.resolver == j) part.ranges (ranges_at parts j) here)))
      (λ (there : (part.resolver == j) ≡ false).
      ap (λ (l : List Range). in_set l x) (cond-false (part.resolver == j) part.ranges (ranges_at grown_parts j) there)
      ∙ others
      ∙ ap (λ (l : List Range). in_set l x || (in_range range x && (i == j)))
      (sym (cond-false (part.resolver == j) part.ranges (ranges_at parts j) there)))
      (cases_Bool (part.resolver == j))

  points-same : (part : Owned) (parts : List Owned) → part.resolver ≡ i
      → in_set (ranges_at (grown i range part ∷ parts) j) x ≡ more (part ∷ parts)
  points-same part parts same = ⊎_elim
      (λ (here : (i == j) ≡ true).
      ap (λ (l : List Range). in_set l x) (cond-true (i == j) (with_range range part.ranges) (ranges_at parts j) here)
      ∙ grown-points range part.ranges (i == j) x here
      ∙ ap (λ (l : List Range). in_set l x || (in_range range x && (i == j)))
      (sym (cond-true (part.resolver == j) part.ranges (ranges_at parts j)
      (ap (λ (n : ℕ). n == j) same ∙ here))))
      (λ (there : (i == j) ≡ false).
      ap (λ (l : List Range). in_set l x) (cond-false (i == j) (with_range range part.ranges) (ranges_at parts j) there)
      ∙ or-unmet (in_set (ranges_at parts j) x) (i == j) (in_range range x) there
      ∙ ap (λ (l : List Range). in_set l x || (in_range range x && (i == j)))
      (sym (cond-false (part.resolver == j) part.ranges (ranges_at parts j)
      (ap (λ (n : ℕ). n == j) same ∙ there))))
      (cases_Bool (i == j))

  points-fresh : (parts : List Owned) → AllByRecursion (λ (part : Owned). i < part.resolver) parts
      → in_set (ranges_at (fresh i range ∷ parts) j) x ≡ more parts
  points-fresh parts later = ⊎_elim
      (λ (here : (i == j) ≡ true).
      let none : ranges_at parts j ≡ [] =
      subst (λ (n : ℕ). ranges_at parts n ≡ []) (eqb-true i j here) (ranges_at-none i parts later) in
      ap (λ (l : List Range). in_set l x) (cond-true (i == j) (with_range range []) (ranges_at parts j) here)
      ∙ grown-points range [] (i == j) x here
      ∙ ap (λ (l : List Range). in_set l x || (in_range range x && (i == j))) (sym none))
      (λ (there : (i == j) ≡ false).
      ap (λ (l : List Range). in_set l x) (cond-false (i == j) (with_range range []) (ranges_at parts j) there)
      ∙ or-unmet (in_set (ranges_at parts j) x) (i == j) (in_range range x) there)
      (cases_Bool (i == j))

  points-with_part : (parts : List Owned) → AreRising parts
      → in_set (ranges_at (with_part i range parts) j) x ≡ more parts
  points-with_part [] rising = points-fresh [] tt
  points-with_part (part ∷ parts) rising =
      let others = points-with_part parts rising.1 in
      placed (λ (l : List Owned). in_set (ranges_at l j) x ≡ more (part ∷ parts)) i range part parts
      (λ low. points-low part parts (with_part i range parts) low others)
      (λ same. points-same part parts same)
      (λ high. points-fresh (part ∷ parts) (
        high,
        all-weaken _ (λ (later : Owned). i < later.resolver)
            (λ (later : Owned) after. omega (arith, after, high)) parts rising.0,
      ))

-- ---- parts of resolvers
pub parts-alike : (n : ℕ) (held other : ℕ → Point → Bool) (parts : List Owned) → ArePartsOf n held parts
    → ((i : ℕ) (x : Point) → held i x ≡ other i x) → ArePartsOf n other parts
parts-alike n held other parts are alike = record {
  rising = are.rising;
  within = are.within;
  some = are.some;
  points = λ i x. are.points i x ∙ alike i x;
}

pub parts-with_part : (n i : ℕ) (range : Range) (held : ℕ → Point → Bool) (parts : List Owned) → i < n
    → point_lt range.begin range.end ≡ true → ArePartsOf n held parts
    → ArePartsOf n (λ j x. held j x || (in_range range x && (i == j))) (with_part i range parts)
parts-with_part n i range held parts low some are = record {
  rising = rising-with_part i range parts are.rising;
  within = all-with_part (λ (k : ℕ). k < n) i range parts low are.within;
  some = some-with_part i range parts some are.some;
  points = λ j x.
      points-with_part i j range x parts are.rising
      ∙ ap (λ (b : Bool). b || (in_range range x && (i == j))) (are.points j x);
}

joined : (a c p q : Bool) → ((a || (c && p)) || (c && q)) ≡ (a || (c && (p || q)))
joined true c p q = refl
joined false true true q = refl
joined false true false q = refl
joined false false p q = refl

pub parts-with_changes : (n : ℕ) (range : Range) (changes : List Change) (held : ℕ → Point → Bool)
    (parts : List Owned) → AllByRecursion (λ (change : Change). change.owner < n) changes
    → point_lt range.begin range.end ≡ true → ArePartsOf n held parts
    → ArePartsOf n (λ j x. held j x || (in_range range x && list_any (λ (change : Change). change.owner == j) changes))
    (with_changes range parts changes)
parts-with_changes n range [] held parts low some are =
    parts-alike n held _ parts are (λ j x. or-unmet (held j x) false (in_range range x) refl)
parts-with_changes n range (change ∷ changes) held parts low some are =
    parts-alike n _ _ (with_changes range (with_part change.owner range parts) changes)
    (parts-with_changes n range changes _ (with_part change.owner range parts) low.1 some
    (parts-with_part n change.owner range held parts low.0 some are))
    (λ j x. joined (held j x) (in_range range x) (change.owner == j)
    (list_any (λ (other : Change). other.owner == j) changes))

-- all owners of the history are among the first so many
pub record HasOwnersBelow (n : ℕ) (history : History) : Type 0 where
  pub first : history.first < n
  pub changes : AllByRecursion (λ (change : Change). change.owner < n) history.changes

pub parts-with_owners : (n : ℕ) (history : History) (since through : ℕ) (range : Range) (held : ℕ → Point → Bool)
    (parts : List Owned) → HasOwnersBelow n history → point_lt range.begin range.end ≡ true → ArePartsOf n held parts
    → ArePartsOf n (λ j x. held j x || (in_range range x && owned_from history j since through))
    (with_owners history since through range parts)
parts-with_owners n history since through range held parts low some are =
    let changes = changes_within since through history.changes in
    parts-alike n _ _ (with_owners history since through range parts)
    (parts-with_changes n range changes _ (with_part (owner_in history since) range parts)
    (all-filter _ _ _ (all-filter _ _ history.changes low.changes)) some
    (parts-with_part n (owner_in history since) range held parts
    (owner-below n history.first since history.changes low.first low.changes) some are))
    (λ j x.
    joined (held j x) (in_range range x) (owner_in history since == j)
    (list_any (λ (change : Change). change.owner == j) changes)
    ∙ ap (λ (any : Bool). held j x || (in_range range x && ((owner_in history since == j) || any)))
    (any-within j since through history.changes))

-- no resolver has a part yet
pub parts-none : (n : ℕ) → ArePartsOf n (λ j x. false) []
parts-none n = record { rising = tt; within = tt; some = tt; points = λ j x. refl }
