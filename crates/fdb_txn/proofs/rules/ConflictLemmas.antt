-- What is in the conflict set of a place, and what resolvers find of it.
use Rattle.std.proofs.Common.{◌≡◌, ◌↔◌, ◌∙◌, sym, ap, subst, refl, ⊎_elim, ℕ, zero, suc, ◌<◌, max, Bool, true, false}
use Rattle.std.proofs.Common.{◌&&◌, ◌==◌, nat_lt, List, [], ◌∷◌, ◌++◌, length, arith}
use Rattle.std.specs.List.{AllByRecursion}
use Rattle.std.proofs.lemmas.Bool.{cases_Bool, cases_lt, both_ways, false_from_ne_true, and_parts}
use Rattle.std.proofs.lemmas.Bool.{and_from, or_cases, or_left, or_right, ltb-true, ltb-false, lt-ltb, eqb-true}
use Rattle.std.proofs.lemmas.Bool.{eq-eqb, cond-true, cond-false, and_cases}
use Rattle.fdb_keys.specs.Points.{Point}
use Rattle.fdb_keys.specs.Ranges.{in_set}
use Rattle.fdb_txn.specs.book.Book.{Place}
use Rattle.fdb_txn.specs.book.History.{Follows, IsHistory}
use Rattle.fdb_txn.specs.rules.Owners.{owner}
use Rattle.fdb_txn.specs.rules.Admission.{is_fresh, overlaps_at, admits, all_below}
use Rattle.fdb_txn.specs.rules.Resolvers.{part_writes, part_reads, last_commit_version}
use Rattle.fdb_txn.specs.rules.Conflicts.{in_conflict, in_conflict_of}
use Rattle.fdb_txn.specs.laws.ConflictLaws.{ConflictAt, ConflictsAtSomeEarlier, ConflictsAreRead, ConflictsAreFound}
use Rattle.fdb_txn.specs.laws.ConflictLaws.{FoundIsInConflict, FinderIsAsked, CommittedWithoutConflict}
use Rattle.fdb_txn.specs.laws.ConflictLaws.{RefusedByConflict, StateFindsConflicts}
use Rattle.fdb_txn.proofs.rules.AdmissionLemmas.{conflict_from_failure}
use Rattle.fdb_txn.proofs.rules.AskedLemmas.{all_below-decides, fresh-within, owner-exists}
use Rattle.fdb_txn.proofs.rules.CornersLemmas.{asked_at_some_point}
use Rattle.fdb_txn.proofs.rules.ResolverLemmas.{last-grows, last-reaches, last_versions_decide, part_reads-earlier}

-- the point is in the conflict set on account of the first of the earlier places
abbrev is_conflict_at : List Point → Place → List Place → Place → Point → Bool
is_conflict_at splits other older place x =
    in_set place.transaction.reads x && in_set other.transaction.writes x
    && nat_lt place.transaction.read other.version
    && admits splits (owner splits other.moves x other.version) older other

-- resolver i finds the point on account of the first of the earlier places
abbrev is_found_at : List Point → ℕ → Place → List Place → Place → Point → Bool
is_found_at splits i other older place x =
    nat_lt place.transaction.read other.version && overlaps_at splits i other place x && admits splits i older other

-- what it takes for that
found-parts : (splits : List Point) (i : ℕ) (other : Place) (older : List Place) (place : Place) (x : Point)
    → is_found_at splits i other older place x ≡ true
    → (place.transaction.read < other.version)
    × (in_set place.transaction.reads x ≡ true)
    × (in_set other.transaction.writes x ≡ true)
    × (owner splits other.moves x other.version ≡ i)
    × (admits splits i older other ≡ true)
found-parts splits i other older place x found =
    let parts = and_parts (nat_lt place.transaction.read other.version && overlaps_at splits i other place x)
    (admits splits i older other) found in
    let first = and_parts (nat_lt place.transaction.read other.version) (overlaps_at splits i other place x) parts.0 in
    let overlap = and_parts (in_set other.transaction.writes x && in_set place.transaction.reads x)
    (owner splits other.moves x other.version == i) first.1 in
    let sets = and_parts (in_set other.transaction.writes x) (in_set place.transaction.reads x) overlap.0 in
    (ltb-true _ _ first.0, sets.1, sets.0, eqb-true _ _ overlap.1, parts.1)

-- what it takes for a conflict with the first of the earlier places
conflict-parts : (splits : List Point) (other : Place) (older : List Place) (place : Place) (x : Point)
    → is_conflict_at splits other older place x ≡ true
    → (place.transaction.read < other.version)
    × (in_set place.transaction.reads x ≡ true)
    × (in_set other.transaction.writes x ≡ true)
    × (admits splits (owner splits other.moves x other.version) older other ≡ true)
conflict-parts splits other older place x conflict =
    let parts = and_parts (in_set place.transaction.reads x && in_set other.transaction.writes x
    && nat_lt place.transaction.read other.version)
    (admits splits (owner splits other.moves x other.version) older other) conflict in
    let first = and_parts (in_set place.transaction.reads x && in_set other.transaction.writes x)
    (nat_lt place.transaction.read other.version) parts.0 in
    let sets = and_parts (in_set place.transaction.reads x) (in_set other.transaction.writes x) first.0 in
    (ltb-true _ _ first.1, sets.0, sets.1, parts.1)

-- a conflict with the first of the earlier places
conflict_at-here : (splits : List Point) (other : Place) (older : List Place) (place : Place) (x : Point)
    → is_conflict_at splits other older place x ≡ true → ConflictAt splits (other ∷ older) place x
conflict_at-here splits other older place x conflict =
    let parts = conflict-parts splits other older place x conflict in
    record {
      newer = [];
      other = other;
      older = older;
      is_earlier = refl;
      is_unseen = parts.0;
      is_written = parts.2;
      is_read = parts.1;
      is_admitted = parts.3;
    }

-- a conflict stays with one more place before it
conflict_at-later : (splits : List Point) (newest : Place) (earlier : List Place) (place : Place) (x : Point)
    → ConflictAt splits earlier place x → ConflictAt splits (newest ∷ earlier) place x
conflict_at-later splits newest earlier place x conflict = record {
  newer = newest ∷ conflict.newer;
  other = conflict.other;
  older = conflict.older;
  is_earlier = ap (λ (places : List Place). newest ∷ places) conflict.is_earlier;
  is_unseen = conflict.is_unseen;
  is_written = conflict.is_written;
  is_read = conflict.is_read;
  is_admitted = conflict.is_admitted;
}

-- a point of the conflict set has a conflict at it
conflict_at-of : (splits : List Point) (earlier : List Place) (place : Place) (x : Point)
    → in_conflict splits earlier place x ≡ true → ConflictAt splits earlier place x
conflict_at-of splits [] place x conflict = cc
conflict_at-of splits (other ∷ older) place x conflict = ⊎_elim
    (λ here. conflict_at-here splits other older place x here)
    (λ later. conflict_at-later splits other older place x (conflict_at-of splits older place x later))
    (or_cases (is_conflict_at splits other older place x) (in_conflict splits older place x) conflict)

-- a conflict with a place that comes after some newer ones
in_conflict-after : (splits : List Point) (newer : List Place) (other : Place) (older : List Place) (place : Place)
    (x : Point)
    → is_conflict_at splits other older place x ≡ true → in_conflict splits (newer ++ other ∷ older) place x ≡ true
in_conflict-after splits [] other older place x conflict =
    or_left (is_conflict_at splits other older place x) (in_conflict splits older place x) conflict
in_conflict-after splits (newest ∷ newer) other older place x conflict =
    or_right (is_conflict_at splits newest (newer ++ other ∷ older) place x)
    (in_conflict splits (newer ++ other ∷ older) place x)
    (in_conflict-after splits newer other older place x conflict)

-- a point is in the conflict set exactly where there is a conflict at it
pub conflicts_at_some_earlier : ConflictsAtSomeEarlier
conflicts_at_some_earlier splits earlier place x = (
  λ conflict. conflict_at-of splits earlier place x conflict,
  λ conflict. subst (λ (places : List Place). in_conflict splits places place x ≡ true) (sym conflict.is_earlier)
      (in_conflict-after splits conflict.newer conflict.other conflict.older place x
      (and_from _ _ (and_from _ _ (and_from _ _ conflict.is_read conflict.is_written) (lt-ltb _ _ conflict.is_unseen))
      conflict.is_admitted)),
)

-- each point of the conflict set was read
pub conflicts_are_read : ConflictsAreRead
conflicts_are_read splits earlier place x conflict = (conflict_at-of splits earlier place x conflict).is_read

-- what a resolver finds on account of a place is in conflict with it
conflict_at-found : (splits : List Point) (i : ℕ) (other : Place) (older : List Place) (place : Place) (x : Point)
    → is_found_at splits i other older place x ≡ true → is_conflict_at splits other older place x ≡ true
conflict_at-found splits i other older place x found =
    let parts = found-parts splits i other older place x found in
    and_from _ _ (and_from _ _ (and_from _ _ parts.1 parts.2) (lt-ltb _ _ parts.0))
    (subst (λ (j : ℕ). admits splits j older other ≡ true) (sym parts.3) parts.4)

-- what is in conflict with a place is found by the point's owner at that place's version
found_at-conflict : (splits : List Point) (other : Place) (older : List Place) (place : Place) (x : Point)
    → is_conflict_at splits other older place x ≡ true
    → is_found_at splits (owner splits other.moves x other.version) other older place x ≡ true
found_at-conflict splits other older place x conflict =
    let here = conflict-parts splits other older place x conflict in
    and_from _ _
    (and_from _ _ (lt-ltb _ _ here.0) (and_from _ _ (and_from _ _ here.2 here.1) (eq-eqb _ _ refl)))
    here.3

-- what a resolver finds is in the conflict set
pub found_is_in_conflict : FoundIsInConflict
found_is_in_conflict splits i [] place x found = found
found_is_in_conflict splits i (other ∷ older) place x found = ⊎_elim
    (λ here. or_left (is_conflict_at splits other older place x) (in_conflict splits older place x)
    (conflict_at-found splits i other older place x here))
    (λ later. or_right (is_conflict_at splits other older place x) (in_conflict splits older place x)
    (found_is_in_conflict splits i older place x later))
    (or_cases (is_found_at splits i other older place x) (in_conflict_of splits i older place x) found)

-- among the places of a history, what is in the conflict set is found by a resolver that exists
finder-exists : (splits : List Point) (earlier : List Place) (place : Place) (x : Point)
    → IsHistory (suc (length splits)) earlier → in_conflict splits earlier place x ≡ true
    → (i : ℕ) × (i < suc (length splits)) × (in_conflict_of splits i earlier place x ≡ true)
finder-exists splits [] place x history conflict = cc
finder-exists splits (other ∷ older) place x history conflict = ⊎_elim
    (λ here.
    let i = owner splits other.moves x other.version in (
      i,
      owner-exists splits other.version other.moves x other.version history.0.2,
      or_left (is_found_at splits i other older place x) (in_conflict_of splits i older place x)
          (found_at-conflict splits other older place x here),
    ))
    (λ later.
    let others = finder-exists splits older place x history.2 later in (
      others.0,
      others.1,
      or_right (is_found_at splits others.0 other older place x) (in_conflict_of splits others.0 older place x)
          others.2,
    ))
    (or_cases (is_conflict_at splits other older place x) (in_conflict splits older place x) conflict)

-- the conflict set is what the resolvers find
pub conflicts_are_found : ConflictsAreFound
conflicts_are_found splits earlier place x history = (
  λ conflict. finder-exists splits earlier place x history.2 conflict,
  λ found. found_is_in_conflict splits found.0 earlier place x found.2,
)

-- What a resolver finds, by the last versions at which it admitted writes: the points that were read and have a version
-- above the read version.
module _ (splits : List Point) (i : ℕ) (place : Place) (x : Point) where
  -- a point that is found was read, and has a last version above the read version
  last-of_found : (us : List Place) → in_conflict_of splits i us place x ≡ true
      → (in_set place.transaction.reads x ≡ true)
      × (place.transaction.read < last_commit_version splits i us x)
  last-of_found [] found = cc
  last-of_found (u ∷ us) found = ⊎_elim
      (λ here.
      let parts = found-parts splits i u us place x here in
      let reached = last-reaches splits i u us x parts.4 (and_from _ _ parts.2 (eq-eqb _ _ parts.3)) in
      (parts.1, omega (arith, reached, parts.0)))
      (λ later.
      let rest = last-of_found us later in
      let grown = last-grows splits i u us x in
      (rest.0, omega (arith, rest.1, grown)))
      (or_cases (is_found_at splits i u us place x) (in_conflict_of splits i us place x) found)

  -- a point that was read, and has a last version above the read version, is found
  found-of_last : (us : List Place) → in_set place.transaction.reads x ≡ true
      → place.transaction.read < last_commit_version splits i us x → in_conflict_of splits i us place x ≡ true
  found-of_last [] is_read above = absurd (omega (arith, above))
  found-of_last (u ∷ us) is_read above = ⊎_elim
      (λ here. or_left _ _ here)
      (λ none. or_right (is_found_at splits i u us place x) _ (found-of_last us is_read (kept none)))
      (cases_Bool (is_found_at splits i u us place x))
    where
      -- where the first place isn't found, it didn't make the last version what it is
      kept : is_found_at splits i u us place x ≡ false
          → place.transaction.read < last_commit_version splits i us x
      kept none = ⊎_elim
          (λ written.
          let parts = and_parts (admits splits i us u) (part_writes splits i u x) written in
          let sets = and_parts (in_set u.transaction.writes x) (owner splits u.moves x u.version == i) parts.1 in
          let is = cond-true _ (max u.version (last_commit_version splits i us x)) (last_commit_version splits i us x)
          written in
          ⊎_elim
          (λ newer. absurd (both_ways _ none
          (and_from _ _ (and_from _ _ (lt-ltb _ _ newer) (and_from _ _ (and_from _ _ sets.0 is_read) sets.1))
          parts.0)))
          (λ older. omega (arith, above, is, older))
          (cases_lt place.transaction.read u.version))
          (λ unwritten.
          let is = cond-false _ (max u.version (last_commit_version splits i us x)) (last_commit_version splits i us x)
          unwritten in
          omega (arith, above, is))
          (cases_Bool (admits splits i us u && part_writes splits i u x))

-- what a resolver finds of a fresh place is of its part of the read set
part_reads-found : (splits : List Point) (i : ℕ) (us : List Place) (place : Place) (x : Point)
    → AllByRecursion (Follows place) us → is_fresh place ≡ true → in_conflict_of splits i us place x ≡ true
    → part_reads splits i place x ≡ true
part_reads-found splits i [] place x follows fresh found = cc
part_reads-found splits i (u ∷ us) place x follows fresh found = ⊎_elim
    (λ here.
    let parts = found-parts splits i u us place x here in
    part_reads-earlier splits i place u x follows.0 fresh parts.0 parts.1 parts.3)
    (λ later. part_reads-found splits i us place x follows.1 fresh later)
    (or_cases (is_found_at splits i u us place x) (in_conflict_of splits i us place x) found)

-- who finds a point is asked
pub finder_is_asked : FinderIsAsked
finder_is_asked splits i earlier place x history fresh found =
    let of_part = part_reads-found splits i earlier place x history.1 fresh found in
    (of_part, (asked_at_some_point splits i place).1 (x, or_right _ _ of_part))

-- a resolver that admits a fresh place finds nothing of it, and one that finds nothing admits it
found-none : (splits : List Point) (i : ℕ) (earlier : List Place) (place : Place)
    → IsHistory (suc (length splits)) (place ∷ earlier) → is_fresh place ≡ true
    → (admits splits i earlier place ≡ true) ↔ ((x : Point) → in_conflict_of splits i earlier place x ≡ false)
found-none splits i earlier place history fresh = (
  λ admitted x. false_from_ne_true _ (λ found.
      let last = last-of_found splits i place x earlier found in
      let of_part = part_reads-found splits i earlier place x history.1 fresh found in
      let bounded = ((last_versions_decide splits i place earlier history).0 admitted).1 x of_part in
      omega (arith, last.1, bounded)),
  λ none. (last_versions_decide splits i place earlier history).1 (
    fresh,
    λ x of_part. ltb-false _ _ (false_from_ne_true _ (λ above. both_ways _ (none x)
        (found-of_last splits i place x earlier (and_parts (in_set place.transaction.reads x) _ of_part).0
        (ltb-true _ _ above)))),
  ),
)

-- a fresh place is committed exactly where its conflict set has no point
pub committed_without_conflict : CommittedWithoutConflict
committed_without_conflict splits earlier place history fresh = (
  λ commits x. false_from_ne_true _ (λ conflict.
      let found = finder-exists splits earlier place x history.2 conflict in
      both_ways _
      ((found-none splits found.0 earlier place history fresh).0
      ((all_below-decides (λ (i : ℕ). admits splits i earlier place) (suc (length splits))).0 commits found.0 found.1)
      x)
      found.2),
  λ none. (all_below-decides (λ (i : ℕ). admits splits i earlier place) (suc (length splits))).1
      (λ i exists. (found-none splits i earlier place history fresh).1
      (λ x. false_from_ne_true _ (λ found.
      both_ways _ (none x) (found_is_in_conflict splits i earlier place x found)))),
)

-- of numbers that don't all pass a test, some one fails it
failing-below : (n : ℕ) (test : ℕ → Bool) → all_below n test ≡ false → (i : ℕ) × (test i ≡ false)
failing-below zero test fails = cc
failing-below (suc n) test fails = ⊎_elim
    (λ here. (n, here))
    (λ below. failing-below n test below)
    (and_cases (test n) (all_below n test) fails)

-- what is found on account of a place is found after some newer ones
found-after : (splits : List Point) (i : ℕ) (newer : List Place) (other : Place) (older : List Place) (place : Place)
    (x : Point)
    → is_found_at splits i other older place x ≡ true → in_conflict_of splits i (newer ++ other ∷ older) place x ≡ true
found-after splits i [] other older place x found =
    or_left (is_found_at splits i other older place x) (in_conflict_of splits i older place x) found
found-after splits i (newest ∷ newer) other older place x found =
    or_right (is_found_at splits i newest (newer ++ other ∷ older) place x)
    (in_conflict_of splits i (newer ++ other ∷ older) place x)
    (found-after splits i newer other older place x found)

-- where a resolver doesn't admit a fresh place, it finds some point
found-of_refused : (splits : List Point) (i : ℕ) (earlier : List Place) (place : Place) → is_fresh place ≡ true
    → admits splits i earlier place ≡ false → (x : Point) × (in_conflict_of splits i earlier place x ≡ true)
found-of_refused splits i earlier place fresh refused =
    let conflict = conflict_from_failure splits i earlier place
    (false_from_ne_true _ (λ none. both_ways _ refused (and_from _ _ fresh none))) in (
      conflict.point,
      subst (λ (places : List Place). in_conflict_of splits i places place conflict.point ≡ true)
          (sym conflict.is_earlier)
          (found-after splits i conflict.newer conflict.other conflict.older place conflict.point
          (and_from _ _ (and_from _ _ (lt-ltb _ _ conflict.is_unseen) conflict.overlap) conflict.is_admitted)),
    )

-- the conflict set of a fresh place that isn't committed has some point
pub refused_by_conflict : RefusedByConflict
refused_by_conflict splits earlier place history fresh refused =
    let i = failing-below (suc (length splits)) (λ i. admits splits i earlier place) refused in
    let found = found-of_refused splits i.0 earlier place fresh i.1 in
    (found.0, found_is_in_conflict splits i.0 earlier place found.0 found.1)

-- tests that hold where the other does are the same
same_test : (a b : Bool) → (a ≡ true → b ≡ true) → (b ≡ true → a ≡ true) → a ≡ b
same_test true b there back = sym (there refl)
same_test false b there back = sym (false_from_ne_true b (λ holds. both_ways _ refl (back holds)))

-- a state finds what is to be found
pub state_finds_conflicts : StateFindsConflicts
state_finds_conflicts splits i place earlier floor f history state in_window fresh x = same_test _ _
    (λ newer.
    let parts = and_parts (part_reads splits i place x) (nat_lt place.transaction.read (f x)) newer in
    let is_read = (and_parts (in_set place.transaction.reads x) _ parts.0).0 in
    found-of_last splits i place x earlier is_read (ltb-true _ _ (sym (at is_read) ∙ parts.1)))
    (λ found.
    let last = last-of_found splits i place x earlier found in
    and_from _ _ (part_reads-found splits i earlier place x history.1 fresh found)
    (at last.0 ∙ lt-ltb _ _ last.1))
  where
    -- the read version is not below the floor
    at : in_set place.transaction.reads x ≡ true
        → nat_lt place.transaction.read (f x) ≡ nat_lt place.transaction.read (last_commit_version splits i earlier x)
    at is_read =
        let within = fresh-within place x fresh is_read in
        state x place.transaction.read (omega (arith, in_window, within))
