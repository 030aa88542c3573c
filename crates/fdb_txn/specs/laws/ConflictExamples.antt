-- Small books, and the conflict sets of places in them.
use Rattle.std.specs.Prelude.{◌≡◌, ℕ, suc, Bool, true, false, List, [], ◌∷◌, ◌++◌, map, filter, length, codes}
use Rattle.std.specs.Prelude.{Option, Some, None}
use Rattle.fdb_keys.specs.Points.{Point}
use Rattle.fdb_txn.specs.declared.entry.Entry.{Entry}
use Rattle.fdb_txn.specs.book.Book.{Place}
use Rattle.fdb_txn.specs.book.Places.{place_at}
use Rattle.fdb_txn.specs.rules.Admission.{is_fresh, committed}
use Rattle.fdb_txn.specs.rules.Conflicts.{in_conflict, in_conflict_of}
use Rattle.fdb_txn.specs.laws.Examples.{at_m, at_window, entry_of, equal_versions, false_conflict, former_owner}
use Rattle.fdb_txn.specs.laws.Examples.{move_of, numbers_below, one_batch, reads_and_sets, there_and_back}

-- of a place: whether it is fresh, whether it is committed, and of some keys those that are in its conflict set, and
-- those that each resolver finds
pub record Finding : Type 0 where
  pub fresh : Bool
  pub commits : Bool
  pub conflicting : List Point
  pub found : List (List Point)

-- what the rules say of the keys at a place after the earlier ones
abbrev pub found_of : List Point → List Point → Option (Place × List Place) → Option Finding
found_of splits keys None = None
found_of splits keys (Some there) =
    Some (record {
      fresh = is_fresh there.0;
      commits = committed splits there.1 there.0;
      conflicting = filter (in_conflict splits there.1 there.0) keys;
      found = map (λ (i : ℕ). filter (in_conflict_of splits i there.1 there.0) keys)
          (numbers_below (suc (length splits)) (λ i. true));
    })

-- what the rules say of the keys at place p of entry n, where 0 has the keys below `m`, and 1 the others
abbrev pub finding : List Point → List Entry → ℕ → ℕ → Option Finding
finding keys book n p = found_of at_m keys (place_at book n p)

-- a fresh place that is committed, and for which nobody finds a conflict
abbrev pub free : Option Finding
free = Some (record { fresh = true; commits = true; conflicting = []; found = [] ∷ [] ∷ [] })

-- a fresh place with these conflicts, of which resolvers 0 and 1 find these
abbrev pub conflicts : (all of_first of_second : List Point) → Option Finding
conflicts all of_first of_second =
    Some (record { fresh = true; commits = false; conflicting = all; found = of_first ∷ of_second ∷ [] })

-- At 100 transaction 0 sets b. At 200 transaction 1 reads the keys from a up to d at version 0, and sets c.
abbrev pub one_key : List Entry
one_key =
    entry_of 100 0 [] (reads_and_sets 0 0 [] (codes "b" ∷ []) ∷ [])
    ∷ entry_of 200 100 []
    (record (reads_and_sets 1 0 [] (codes "c" ∷ [])) { reads = record { begin = codes "a"; end = codes "d" } ∷ [] }
    ∷ [])
    ∷ []

-- One key of a range that was read: the conflict set is that key, and none beside it.
abbrev pub OneKey : Type 0
OneKey =
    (finding (codes "b" ∷ []) one_key 0 0 ≡ free)
    × (finding (codes "a" ∷ codes "b" ∷ (codes "b" ++ 0 ∷ []) ∷ codes "c" ∷ codes "d" ∷ []) one_key 1 0
    ≡ conflicts (codes "b" ∷ []) (codes "b" ∷ []) [])

-- At 100 transaction 0 sets a and c, transaction 1 sets z. At 200 transaction 2 reads a, p and z at version 0.
abbrev pub two_resolvers : List Entry
two_resolvers =
    entry_of 100 0 []
    (reads_and_sets 0 0 [] (codes "a" ∷ codes "c" ∷ []) ∷ reads_and_sets 1 0 [] (codes "z" ∷ []) ∷ [])
    ∷ entry_of 200 100 [] (reads_and_sets 2 0 (codes "a" ∷ codes "p" ∷ codes "z" ∷ []) [] ∷ [])
    ∷ []

-- Two resolvers: each finds the key that was its own, and the conflict set has both. What was set and not read isn't in
-- it, nor what was read and not set.
abbrev pub TwoResolvers : Type 0
TwoResolvers =
    finding (codes "a" ∷ codes "c" ∷ codes "p" ∷ codes "z" ∷ []) two_resolvers 1 0
    ≡ conflicts (codes "a" ∷ codes "z" ∷ []) (codes "a" ∷ []) (codes "z" ∷ [])

-- At 100 transaction 0 sets z. At 200 transaction 1 reads z at version 0, and sets a, b and p. At 300 the keys from m
-- up to t go over to resolver 0, and those from b up to c to resolver 1; transaction 2 reads a, b and p at version 100.
abbrev pub half_refused : List Entry
half_refused =
    entry_of 100 0 [] (reads_and_sets 0 0 [] (codes "z" ∷ []) ∷ [])
    ∷ entry_of 200 100 []
    (reads_and_sets 1 0 (codes "z" ∷ []) (codes "a" ∷ codes "b" ∷ codes "p" ∷ []) ∷ [])
    ∷ entry_of 300 200 (move_of (codes "m") (codes "t") 0 ∷ move_of (codes "b") (codes "c") 1 ∷ [])
    (reads_and_sets 2 100 (codes "a" ∷ codes "b" ∷ codes "p" ∷ []) [] ∷ [])
    ∷ []

-- Half refused: resolver 1 refused transaction 1, and resolver 0 admitted it. What it set of resolver 0's keys is in
-- the conflict set of transaction 2, though it isn't committed, and what it set of resolver 1's isn't. Who owned a key
-- then decides, and not who owns it now.
abbrev pub HalfRefused : Type 0
HalfRefused =
    (finding (codes "z" ∷ []) half_refused 1 0 ≡ conflicts (codes "z" ∷ []) [] (codes "z" ∷ []))
    × (finding (codes "a" ∷ codes "b" ∷ codes "p" ∷ []) half_refused 2 0
    ≡ conflicts (codes "a" ∷ codes "b" ∷ []) (codes "a" ∷ codes "b" ∷ []) [])

-- A key that moved is found by who owned it when it was set, be it the owner before or one in between.
abbrev pub MovedKeys : Type 0
MovedKeys =
    (finding (codes "p" ∷ []) former_owner 2 0 ≡ conflicts (codes "p" ∷ []) [] (codes "p" ∷ []))
    × (finding (codes "p" ∷ []) there_and_back 4 0 ≡ conflicts (codes "p" ∷ []) (codes "p" ∷ []) [])

-- What is no conflict: what was set at the read version, and what was set by a transaction that the key's owner
-- refused. What was set in the same batch is one, and so is what its owner admitted of a transaction that isn't
-- committed.
abbrev pub OtherPlaces : Type 0
OtherPlaces =
    (finding (codes "a" ∷ codes "b" ∷ []) equal_versions 1 0 ≡ free)
    × (finding (codes "a" ∷ codes "c" ∷ []) one_batch 0 1 ≡ conflicts (codes "a" ∷ []) (codes "a" ∷ []) [])
    × (finding (codes "c" ∷ codes "d" ∷ []) one_batch 1 0 ≡ free)
    × (finding (codes "a" ∷ codes "b" ∷ []) false_conflict 2 0 ≡ conflicts (codes "a" ∷ []) (codes "a" ∷ []) [])

-- At 200 transaction 0 sets a. At 5000101 transaction 1 reads a at version 100.
abbrev pub written_and_old : List Entry
written_and_old =
    entry_of 200 0 [] (reads_and_sets 0 0 [] (codes "a" ∷ []) ∷ [])
    ∷ entry_of 5000101 200 [] (reads_and_sets 1 100 (codes "a" ∷ []) [] ∷ [])
    ∷ []

-- An old place isn't committed, and its conflict set tells nothing of that: it may have points or none.
abbrev pub OldPlaces : Type 0
OldPlaces =
    (finding (codes "a" ∷ []) at_window 2 0 ≡ Some
    (record { fresh = false; commits = false; conflicting = []; found = [] ∷ [] ∷ [] }))
    × (finding (codes "a" ∷ []) written_and_old 1 0 ≡ Some
    (record {
      fresh = false;
      commits = false;
      conflicting = codes "a" ∷ [];
      found = (codes "a" ∷ []) ∷ [] ∷ [];
    }))

-- what the conflict sets of these places are
abbrev pub WorkedConflicts : Type 0
WorkedConflicts = OneKey × TwoResolvers × HalfRefused × MovedKeys × OtherPlaces × OldPlaces
