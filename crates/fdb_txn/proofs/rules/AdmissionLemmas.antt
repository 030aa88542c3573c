-- A resolver admits a place exactly where the place is not old and has no conflict there.
use Rattle.std.proofs.Common.{◌≡◌, ap, subst, refl, ⊎_elim, ℕ, Bool, true, false, not, ◌&&◌, nat_lt, List, [], ◌∷◌}
use Rattle.std.proofs.Common.{◌++◌}
use Rattle.std.proofs.lemmas.Bool.{both_ways, true_from_ne_false, and_parts, and_cases, and_from, not-true, not-false}
use Rattle.std.proofs.lemmas.Bool.{ltb-true, lt-ltb}
use Rattle.fdb_keys.specs.Points.{Point}
use Rattle.fdb_txn.specs.book.Book.{Place}
use Rattle.fdb_txn.specs.rules.Admission.{is_fresh, overlaps, no_conflict, admits}
use Rattle.fdb_txn.specs.laws.AdmissionLaws.{Conflict, AdmitsWithoutConflict}
use Rattle.fdb_txn.proofs.rules.CornersLemmas.{overlaps_at_some_point}

-- the first of the earlier places is one of conflict
abbrev is_conflict : List Point → ℕ → Place → List Place → Place → Bool
is_conflict splits i other older place =
    nat_lt place.transaction.read other.version && overlaps splits i other place
    && (is_fresh other && no_conflict splits i older other)

-- a conflict with the first of the earlier places
conflict-here : (splits : List Point) (i : ℕ) (other : Place) (older : List Place) (place : Place)
    → is_conflict splits i other older place ≡ true → Conflict splits i (other ∷ older) place
conflict-here splits i other older place conflict =
    let parts : (nat_lt place.transaction.read other.version && overlaps splits i other place ≡ true)
    × (admits splits i older other ≡ true)
    = and_parts _ _ conflict in
    let first : (nat_lt place.transaction.read other.version ≡ true)
    × (overlaps splits i other place ≡ true) = and_parts _ _ parts.0 in
    let some = (overlaps_at_some_point splits i other place).0 first.1 in
    record {
      newer = [];
      other = other;
      older = older;
      is_earlier = refl;
      is_unseen = ltb-true _ _ first.0;
      is_admitted = parts.1;
      point = some.0;
      overlap = some.1;
    }

-- a conflict stays with one more place before it
conflict-later : (splits : List Point) (i : ℕ) (newest : Place) (earlier : List Place) (place : Place)
    → Conflict splits i earlier place → Conflict splits i (newest ∷ earlier) place
conflict-later splits i newest earlier place conflict = record {
  newer = newest ∷ conflict.newer;
  other = conflict.other;
  older = conflict.older;
  is_earlier = ap (λ (places : List Place). newest ∷ places) conflict.is_earlier;
  is_unseen = conflict.is_unseen;
  is_admitted = conflict.is_admitted;
  point = conflict.point;
  overlap = conflict.overlap;
}

-- where the test fails there is a conflict
pub conflict_from_failure : (splits : List Point) (i : ℕ) (earlier : List Place) (place : Place)
    → no_conflict splits i earlier place ≡ false → Conflict splits i earlier place
conflict_from_failure splits i [] place none = cc
conflict_from_failure splits i (other ∷ older) place fails = ⊎_elim
    (λ here. conflict-here splits i other older place (not-false _ here))
    (λ later. conflict-later splits i other older place (conflict_from_failure splits i older place later))
    (and_cases (not (is_conflict splits i other older place)) (no_conflict splits i older place) fails)

-- a place of conflict makes the test fail
fails-here : (splits : List Point) (i : ℕ) (newer : List Place) (other : Place) (older : List Place) (place : Place)
    → is_conflict splits i other older place ≡ true → no_conflict splits i (newer ++ other ∷ older) place ≡ true → ⊥
fails-here splits i [] other older place conflict none =
    both_ways _ (not-true _ (and_parts _ _ none).0) conflict
fails-here splits i (newest ∷ newer) other older place conflict none =
    fails-here splits i newer other older place conflict (and_parts _ _ none).1

-- and where there is a conflict the test fails
pub conflict-fails : (splits : List Point) (i : ℕ) (earlier : List Place) (place : Place)
    → Conflict splits i earlier place → no_conflict splits i earlier place ≡ true → ⊥
conflict-fails splits i earlier place conflict none =
    fails-here splits i conflict.newer conflict.other conflict.older place
    (and_from _ _
    (and_from _ _ (lt-ltb _ _ conflict.is_unseen)
    ((overlaps_at_some_point splits i conflict.other place).1 (conflict.point, conflict.overlap)))
    conflict.is_admitted)
    (subst (λ (places : List Place). no_conflict splits i places place ≡ true) conflict.is_earlier none)

-- a resolver admits a place exactly where the place is not old and has no conflict there
pub admits_without_conflict : AdmitsWithoutConflict
admits_without_conflict splits i earlier place = (
  λ admitted.
      let parts : (is_fresh place ≡ true) × (no_conflict splits i earlier place ≡ true) = and_parts _ _ admitted in
      (parts.0, λ conflict. conflict-fails splits i earlier place conflict parts.1),
  λ fresh.
      and_from _ _ fresh.0
      (true_from_ne_false _ (λ fails. fresh.1 (conflict_from_failure splits i earlier place fails))),
)
