-- Owners and their changes, computed.
use Rattle.std.specs.Prelude.{◌≡◌, ℕ, true, false, List, [], ◌∷◌, codes, map, Some, None}
use Rattle.std.specs.List.{range_with_len}
use Rattle.fdb_keys.specs.declared.refusal.Refusal.TheVariants.{BadConfig, Stale}
use Rattle.fdb_keys.specs.Points.{Point}
use Rattle.fdb_owners.specs.declared.history.Change.{Change}
use Rattle.fdb_owners.specs.Ownership.{Ownership, one_owner, owner_at, owned_between, changes_of}
use Rattle.fdb_owners.specs.Ownership.{owners_fault, learn_fault}

-- a change at a version to an owner
abbrev pub change : ℕ → ℕ → Change
change version owner = record { version = version; owner = owner }

-- Two resolvers, split at m. From version 300 on the first one owns the keys from m to t, too; with these changes of
-- theirs, the latest first.
abbrev pub split_at_m : ℕ → List Change → Ownership
split_at_m floor changes = record {
  splits = codes "m" ∷ [];
  lowest = record { first = 0; changes = [] };
  breaks = (codes "m", record { first = 1; changes = changes })
      ∷ (codes "t", record { first = 1; changes = [] }) ∷ [];
  last = 300;
  floor = floor;
}

-- that change alone
abbrev pub moved : ℕ → Ownership
moved floor = split_at_m floor (change 300 0 ∷ [])

-- there and back, and once more to the same one
abbrev pub moved_back : Ownership
moved_back = split_at_m 0 (change 30 1 ∷ change 20 1 ∷ change 10 0 ∷ [])

-- An owner goes from its version on, and a piece from its breakpoint up to the next one. Who owned a point between two
-- versions did so above the lesser and at most at the greater one. A version is a change where the owner isn't the one
-- before, above the floor.
abbrev pub WorkedOwners : Type 0
WorkedOwners =
    (owner_at (moved 0) (codes "p") 299 ≡ 1)
    × (owner_at (moved 0) (codes "p") 300 ≡ 0)
    × (owner_at (moved 0) (codes "m") 300 ≡ 0)
    × (owner_at (moved 0) (codes "t") 300 ≡ 1)
    × (owner_at (moved 0) (codes "a") 300 ≡ 0)
    × (owned_between (moved 0) 0 (codes "p") 100 300 ≡ true)
    × (owned_between (moved 0) 1 (codes "p") 100 300 ≡ true)
    × (owned_between (moved 0) 1 (codes "p") 299 300 ≡ false)
    × (owned_between (moved 0) 0 (codes "p") 299 300 ≡ true)
    × (owned_between (moved 0) 0 (codes "p") 100 299 ≡ false)
    × (owned_between (moved 0) 0 (codes "p") 300 300 ≡ false)
    × (changes_of (moved 0) (codes "p") ≡ 1)
    × (changes_of (moved 299) (codes "p") ≡ 1)
    × (changes_of (moved 300) (codes "p") ≡ 0)
    × (changes_of (moved 0) (codes "z") ≡ 0)
    × (changes_of moved_back (codes "p") ≡ 2)

-- so many splits, each of one byte, from the byte 1 on
abbrev pub rising_splits : ℕ → List Point
rising_splits count = map (λ (byte : ℕ). byte ∷ []) (range_with_len 1 count)

-- There is one split less than there are resolvers, no more and no fewer. 64 resolvers are the most, the splits rise,
-- and the first one isn't empty. A version is learnt once, and none below it is.
abbrev pub WorkedRefusals : Type 0
WorkedRefusals =
    (owners_fault 1 [] ≡ None)
    × (owners_fault 2 (codes "m" ∷ []) ≡ None)
    × (owners_fault 3 (codes "c" ∷ codes "m" ∷ []) ≡ None)
    × (owners_fault 1 (codes "m" ∷ []) ≡ Some BadConfig)
    × (owners_fault 2 (codes "c" ∷ codes "m" ∷ []) ≡ Some BadConfig)
    × (owners_fault 0 [] ≡ Some BadConfig)
    × (owners_fault 2 [] ≡ Some BadConfig)
    × (owners_fault 3 (codes "m" ∷ []) ≡ Some BadConfig)
    × (owners_fault 64 (rising_splits 63) ≡ None)
    × (owners_fault 65 (rising_splits 64) ≡ Some BadConfig)
    × (owners_fault 3 (codes "m" ∷ codes "c" ∷ []) ≡ Some BadConfig)
    × (owners_fault 3 (codes "m" ∷ codes "m" ∷ []) ≡ Some BadConfig)
    × (owners_fault 2 ((0 ∷ []) ∷ []) ≡ None)
    × (owners_fault 2 ([] ∷ []) ≡ Some BadConfig)
    × (owners_fault 3 ([] ∷ codes "m" ∷ []) ≡ Some BadConfig)
    × (learn_fault (one_owner 0) 0 ≡ Some Stale)
    × (learn_fault (one_owner 0) 1 ≡ None)
    × (learn_fault (moved 0) 299 ≡ Some Stale)
    × (learn_fault (moved 0) 300 ≡ Some Stale)
    × (learn_fault (moved 0) 301 ≡ None)
