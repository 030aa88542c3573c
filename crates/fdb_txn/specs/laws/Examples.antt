-- Small books, and what the rules say of each place in them.
use Rattle.std.specs.Prelude.{◌≡◌, ◌-◌, ℕ, zero, suc, Bool, true, false, List, [], ◌∷◌, ◌++◌, map, length, Option, Some}
use Rattle.std.specs.Prelude.{None, codes, if◌then◌else◌}
use Rattle.std.specs.FinMap.{empty}
use Rattle.fdb_keys.specs.Points.{Point}
use Rattle.fdb_keys.specs.Ranges.{single_range}
use Rattle.fdb_mutations.specs.declared.mutation.Mutation.{Mutation}
use Rattle.fdb_mutations.specs.declared.mutation.Mutation.TheVariants.{Set}
use Rattle.fdb_mutations.specs.Maps.{Map}
use Rattle.fdb_mutations.specs.Mutations.{effects}
use Rattle.fdb_txn.specs.Limits.{size_limit, place_limit, book_limit, greatest_advance, version_limit, ticket_limit}
use Rattle.fdb_txn.specs.Limits.{window, move_limit, proxy_limit, resolver_limit, log_limit, tag_limit, shard_limit}
use Rattle.fdb_txn.specs.declared.entry.Move.{Move}
use Rattle.fdb_txn.specs.declared.entry.Entry.{Entry}
use Rattle.fdb_txn.specs.declared.tag_msg.TagMsg.{TagMsg}
use Rattle.fdb_txn.specs.book.Transactions.{Transaction}
use Rattle.fdb_txn.specs.book.Size.{size_of}
use Rattle.fdb_txn.specs.book.Book.{Place, seen_of, last_horizon, next_horizon}
use Rattle.fdb_txn.specs.book.History.{AreEntries, IsBook}
use Rattle.fdb_txn.specs.rules.Owners.{is_asked}
use Rattle.fdb_txn.specs.rules.Admission.{is_fresh, admits, committed}
use Rattle.fdb_txn.specs.book.Places.{place_at}
use Rattle.fdb_txn.specs.rules.SerialMap.{serial_map_at}
use Rattle.fdb_txn.specs.rules.Messages.{messages_for}

-- the setting of keys
abbrev pub sets : List Point → List Mutation
sets keys = map (λ (key : Point). Set key (codes "1")) keys

-- transaction `number` reads the keys at the version, and sets others
abbrev pub reads_and_sets : ℕ → ℕ → List Point → List Point → Transaction
reads_and_sets number version keys others =
    record {
      id = record { session = number; number = 0 };
      read = version;
      reads = map single_range keys;
      writes = map single_range others;
      mutations = sets others;
    }

-- the entry of a version after a previous one, by the first window
abbrev pub entry_of : ℕ → ℕ → List Move → List Transaction → Entry
entry_of version prev moves batch = record {
  version = version;
  prev = prev;
  horizon = version - window;
  moves = moves;
  batch = batch;
}

-- the entry with another horizon
abbrev pub with_horizon : ℕ → Entry → Entry
with_horizon horizon entry = record entry { horizon = horizon }

-- entries at 100, 250 and 251, the last two of these horizons
abbrev pub of_horizons : ℕ → ℕ → List Entry
of_horizons second third =
    entry_of 100 0 [] [] ∷ with_horizon second (entry_of 250 100 [] []) ∷ with_horizon third (entry_of 251 250 [] [])
    ∷ []

-- the keys from one up to another go over to a resolver
abbrev pub move_of : Point → Point → ℕ → Move
move_of begin end target = record { range = record { begin = begin; end = end }; to = target }

-- the numbers below n of which the test holds, the least first
abbrev pub numbers_below : ℕ → (ℕ → Bool) → List ℕ
numbers_below zero test = []
numbers_below (suc n) test = numbers_below n test ++ (if test n then n ∷ [] else [])

-- of a place: whether it is fresh, which resolvers are asked about it, which admit it (asked or not), and
-- whether it is committed
pub record Ruling : Type 0 where
  pub fresh : Bool
  pub asked : List ℕ
  pub admitting : List ℕ
  pub commits : Bool

-- what the rules say of a place after the earlier ones
abbrev pub ruled : List Point → Option (Place × List Place) → Option Ruling
ruled splits None = None
ruled splits (Some found) =
    Some (record {
      fresh = is_fresh found.0;
      asked = numbers_below (suc (length splits)) (λ i. is_asked splits i found.0);
      admitting = numbers_below (suc (length splits)) (λ i. admits splits i found.1 found.0);
      commits = committed splits found.1 found.0;
    })

-- what the rules say of place p of entry n
abbrev pub ruling : List Point → List Entry → ℕ → ℕ → Option Ruling
ruling splits book n p = ruled splits (place_at book n p)

-- the serial map at a version of a book
abbrev pub run_at : List Point → List Entry → ℕ → Map
run_at splits book version = serial_map_at splits version (seen_of book).places

-- the map on which these keys were set, one after the other, and nothing else
abbrev pub only : List Point → Map
only keys = effects empty (sets keys)

-- two resolvers: 0 has the keys below `m`, 1 the others
abbrev pub at_m : List Point
at_m = codes "m" ∷ []

-- three resolvers: 0 has the keys below `m`, 1 those from `m` up to `t`, 2 the others
abbrev pub at_m_and_t : List Point
at_m_and_t = codes "m" ∷ codes "t" ∷ []

-- At 100 transaction 0 reads a and sets it, transaction 1 reads a and sets c. At 200 transaction 2 reads c and sets
-- d. All three read at version 0.
abbrev pub one_batch : List Entry
one_batch =
    entry_of 100 0 []
    (reads_and_sets 0 0 (codes "a" ∷ []) (codes "a" ∷ []) ∷ reads_and_sets 1 0 (codes "a" ∷ []) (codes "c" ∷ [])
    ∷ [])
    ∷ entry_of 200 100 [] (reads_and_sets 2 0 (codes "c" ∷ []) (codes "d" ∷ []) ∷ [])
    ∷ []

-- One batch: the first place commits, and the second one conflicts with it. What the resolver refused is no conflict
-- for a later one.
abbrev pub OneBatch : Type 0
OneBatch =
    (ruling at_m one_batch 0 0 ≡ Some (record { fresh = true; asked = 0 ∷ []; admitting = 0 ∷ 1 ∷ []; commits = true }))
    × (ruling at_m one_batch 0 1 ≡ Some (record { fresh = true; asked = 0 ∷ []; admitting = 1 ∷ []; commits = false }))
    × (ruling at_m one_batch 1 0 ≡ Some
    (record { fresh = true; asked = 0 ∷ []; admitting = 0 ∷ 1 ∷ []; commits = true }))

-- the numbers of the places of a book, of which the newest is the first
abbrev pub numbers_of : List Entry → List ℕ
numbers_of book = map (λ (place : Place). place.number) (seen_of book).places

-- Places are numbered from 0 in each entry: two of the first entry, one of the second.
abbrev pub Numbers : Type 0
Numbers =
    (numbers_of one_batch ≡ 0 ∷ 1 ∷ 0 ∷ [])
    × (numbers_of (one_batch ++ one_batch) ≡ 0 ∷ 1 ∷ 0 ∷ 0 ∷ 1 ∷ 0 ∷ [])

-- At 100 transaction 0 reads a and sets z, at 200 transaction 1 reads z and sets a, both from version 0.
abbrev pub write_skew : List Entry
write_skew =
    entry_of 100 0 [] (reads_and_sets 0 0 (codes "a" ∷ []) (codes "z" ∷ []) ∷ [])
    ∷ entry_of 200 100 [] (reads_and_sets 1 0 (codes "z" ∷ []) (codes "a" ∷ []) ∷ [])
    ∷ []

-- Write skew: transaction 0 commits. Transaction 1 is refused by the resolver of z, and the resolver of a admits it.
abbrev pub WriteSkew : Type 0
WriteSkew =
    (ruling at_m write_skew 0 0 ≡ Some
    (record { fresh = true; asked = 0 ∷ 1 ∷ []; admitting = 0 ∷ 1 ∷ []; commits = true }))
    × (ruling at_m write_skew 1 0 ≡ Some
    (record { fresh = true; asked = 0 ∷ 1 ∷ []; admitting = 0 ∷ []; commits = false }))

-- After these, at 300, transaction 2 reads a at version 100 and sets b.
abbrev pub false_conflict : List Entry
false_conflict = write_skew ++ entry_of 300 200 [] (reads_and_sets 2 100 (codes "a" ∷ []) (codes "b" ∷ []) ∷ []) ∷ []

-- False conflict: the resolver of a admitted transaction 1, so it refuses transaction 2, though transaction 1 wasn't
-- committed and nothing of it is on the map.
abbrev pub FalseConflict : Type 0
FalseConflict =
    (ruling at_m false_conflict 2 0 ≡ Some
    (record { fresh = true; asked = 0 ∷ []; admitting = 1 ∷ []; commits = false }))
    × (run_at at_m false_conflict 300 ≡ only (codes "z" ∷ []))

-- At 100 nothing. At 200 transaction 1 sets p. At 300 the keys from m up to t go over to resolver 0, and
-- transaction 0 reads p at version 100 and sets b.
abbrev pub former_owner : List Entry
former_owner =
    entry_of 100 0 [] []
    ∷ entry_of 200 100 [] (reads_and_sets 1 100 [] (codes "p" ∷ []) ∷ [])
    ∷ entry_of 300 200 (move_of (codes "m") (codes "t") 0 ∷ [])
    (reads_and_sets 0 100 (codes "p" ∷ []) (codes "b" ∷ []) ∷ [])
    ∷ []

-- Former owner: transaction 0 is refused by resolver 1, that owned p when it was set; the new owner admits it.
abbrev pub FormerOwner : Type 0
FormerOwner =
    (ruling at_m former_owner 1 0 ≡ Some
    (record { fresh = true; asked = 1 ∷ []; admitting = 0 ∷ 1 ∷ []; commits = true }))
    × (ruling at_m former_owner 2 0 ≡ Some
    (record { fresh = true; asked = 0 ∷ 1 ∷ []; admitting = 0 ∷ []; commits = false }))

-- At 100 and 200 nothing. At 300 the keys from m up to t go over to resolver 0, and transaction 1 sets p. At 400
-- they go back to resolver 1. At 500 transaction 0 reads p at version 100 and sets b.
abbrev pub there_and_back : List Entry
there_and_back =
    entry_of 100 0 [] []
    ∷ entry_of 200 100 [] []
    ∷ entry_of 300 200 (move_of (codes "m") (codes "t") 0 ∷ []) (reads_and_sets 1 100 [] (codes "p" ∷ []) ∷ [])
    ∷ entry_of 400 300 (move_of (codes "m") (codes "t") 1 ∷ []) []
    ∷ entry_of 500 400 [] (reads_and_sets 0 100 (codes "p" ∷ []) (codes "b" ∷ []) ∷ [])
    ∷ []

-- There and back: transaction 0 is refused by resolver 0, that owned p in between; the owner before and now admits it.
abbrev pub ThereAndBack : Type 0
ThereAndBack =
    (ruling at_m there_and_back 2 0 ≡ Some
    (record { fresh = true; asked = 0 ∷ []; admitting = 0 ∷ 1 ∷ []; commits = true }))
    × (ruling at_m there_and_back 4 0 ≡ Some
    (record { fresh = true; asked = 0 ∷ 1 ∷ []; admitting = 1 ∷ []; commits = false }))

-- At 100 transaction 0 sets a. At 200 transaction 1 reads a at version 100 and sets b.
abbrev pub equal_versions : List Entry
equal_versions =
    entry_of 100 0 [] (reads_and_sets 0 0 [] (codes "a" ∷ []) ∷ [])
    ∷ entry_of 200 100 [] (reads_and_sets 1 100 (codes "a" ∷ []) (codes "b" ∷ []) ∷ [])
    ∷ []

-- Equal isn't newer: transaction 1 saw what was set at its read version, so it commits.
-- At 100 the map has what is set at 100.
abbrev pub EqualIsNotNewer : Type 0
EqualIsNotNewer =
    (ruling at_m equal_versions 0 0 ≡ Some
    (record { fresh = true; asked = 0 ∷ []; admitting = 0 ∷ 1 ∷ []; commits = true }))
    × (ruling at_m equal_versions 1 0 ≡ Some
    (record { fresh = true; asked = 0 ∷ []; admitting = 0 ∷ 1 ∷ []; commits = true }))
    × (run_at at_m equal_versions 99 ≡ only [])
    × (run_at at_m equal_versions 100 ≡ only (codes "a" ∷ []))
    × (run_at at_m equal_versions 200 ≡ only (codes "a" ∷ codes "b" ∷ []))

-- At 100 nothing. Then three transactions of read version 100: at 5000100 transaction 0 reads a and sets b, at
-- 5000101 transaction 1 reads a and sets c, and transaction 2 sets d. At 5000102 transaction 3 reads c at version
-- 5000100 and sets e, and transaction 4, of read version 100 again, has an empty read range and sets f.
abbrev pub at_window : List Entry
at_window =
    entry_of 100 0 [] []
    ∷ entry_of 5000100 100 [] (reads_and_sets 0 100 (codes "a" ∷ []) (codes "b" ∷ []) ∷ [])
    ∷ entry_of 5000101 5000100 []
    (reads_and_sets 1 100 (codes "a" ∷ []) (codes "c" ∷ []) ∷ reads_and_sets 2 100 [] (codes "d" ∷ []) ∷ [])
    ∷ entry_of 5000102 5000101 []
    (reads_and_sets 3 5000100 (codes "c" ∷ []) (codes "e" ∷ [])
    ∷ record (reads_and_sets 4 100 [] (codes "f" ∷ [])) { reads = record { begin = codes "a"; end = codes "a" } ∷ [] }
    ∷ [])
    ∷ []

-- Window: transaction 0 read 5000000 versions before its own, and commits. Transaction 1 read one more, and is old.
-- Transactions 2 and 4 read no key, and are never old. What an old one sets is no conflict for transaction 3.
abbrev pub Window : Type 0
Window =
    (ruling at_m at_window 1 0 ≡ Some (record { fresh = true; asked = 0 ∷ []; admitting = 0 ∷ 1 ∷ []; commits = true }))
    × (ruling at_m at_window 2 0 ≡ Some (record { fresh = false; asked = 0 ∷ []; admitting = []; commits = false }))
    × (ruling at_m at_window 2 1 ≡ Some
    (record { fresh = true; asked = 0 ∷ []; admitting = 0 ∷ 1 ∷ []; commits = true }))
    × (ruling at_m at_window 3 0 ≡ Some
    (record { fresh = true; asked = 0 ∷ []; admitting = 0 ∷ 1 ∷ []; commits = true }))
    × (ruling at_m at_window 3 1 ≡ Some
    (record { fresh = true; asked = 0 ∷ []; admitting = 0 ∷ 1 ∷ []; commits = true }))

-- At 100 the window is the first one; it is 150 from 250 on, and the first one again from 252 on. All transactions read
-- a. At 250 transaction 0 reads it at version 100 and sets b, and transaction 4 reads it at 99 and sets f. At 251
-- transaction 1 reads it at 100 and sets c. At 252 transaction 2 reads it at 100 and sets d, and transaction 3 reads it
-- at 101 and sets e.
abbrev pub a_horizon : List Entry
a_horizon =
    entry_of 100 0 [] []
    ∷ with_horizon 100 (entry_of 250 100 []
    (reads_and_sets 0 100 (codes "a" ∷ []) (codes "b" ∷ []) ∷ reads_and_sets 4 99 (codes "a" ∷ []) (codes "f" ∷ [])
    ∷ []))
    ∷ with_horizon 101 (entry_of 251 250 [] (reads_and_sets 1 100 (codes "a" ∷ []) (codes "c" ∷ []) ∷ []))
    ∷ with_horizon 101 (entry_of 252 251 []
    (reads_and_sets 2 100 (codes "a" ∷ []) (codes "d" ∷ []) ∷ reads_and_sets 3 101 (codes "a" ∷ []) (codes "e" ∷ [])
    ∷ []))
    ∷ []

-- At 301 the keys from m up to t go over to resolver 0. At 400, with this horizon, transaction 0 reads p at version
-- 100.
abbrev pub a_span : ℕ → List Entry
a_span horizon =
    entry_of 300 0 [] []
    ∷ entry_of 301 300 (move_of (codes "m") (codes "t") 0 ∷ []) []
    ∷ with_horizon horizon (entry_of 400 301 [] (reads_and_sets 0 100 (codes "p" ∷ []) [] ∷ []))
    ∷ []

-- A horizon: who reads at it commits, and who reads right below it is old. So transaction 0 commits and transaction 4
-- doesn't; transaction 1 is old, and so is transaction 2 though the window grew again, since the horizon stays;
-- transaction 3 commits. A span begins at the horizon: resolver 1 owned p last at 300, and is asked where the horizon
-- is 299, but not where it is 300.
abbrev pub Horizon : Type 0
Horizon =
    (ruling at_m a_horizon 1 0 ≡ Some (record { fresh = true; asked = 0 ∷ []; admitting = 0 ∷ 1 ∷ []; commits = true }))
    × (ruling at_m a_horizon 1 1 ≡ Some (record { fresh = false; asked = 0 ∷ []; admitting = []; commits = false }))
    × (ruling at_m a_horizon 2 0 ≡ Some (record { fresh = false; asked = 0 ∷ []; admitting = []; commits = false }))
    × (ruling at_m a_horizon 3 0 ≡ Some (record { fresh = false; asked = 0 ∷ []; admitting = []; commits = false }))
    × (ruling at_m a_horizon 3 1 ≡ Some
    (record { fresh = true; asked = 0 ∷ []; admitting = 0 ∷ 1 ∷ []; commits = true }))
    × (ruling at_m (a_span 299) 2 0 ≡ Some
    (record { fresh = false; asked = 0 ∷ 1 ∷ []; admitting = []; commits = false }))
    × (ruling at_m (a_span 300) 2 0 ≡ Some
    (record { fresh = false; asked = 0 ∷ []; admitting = []; commits = false }))

-- The horizon of an entry, after that of the one before it: it rises with the version, is 0 where the window is
-- greater than the version, stays where the window grows as much as the version rises, and would fall where it grows
-- by more, but stays. The last horizon is that of the last entry, whatever the others are, and 0 where there is none.
abbrev pub Horizons : Type 0
Horizons =
    (next_horizon 0 150 250 ≡ 100)
    × (next_horizon 100 150 251 ≡ 101)
    × (next_horizon 0 5000000 250 ≡ 0)
    × (next_horizon 101 151 252 ≡ 101)
    × (next_horizon 101 5000000 252 ≡ 101)
    × (last_horizon [] ≡ 0)
    × (last_horizon a_horizon ≡ 101)
    × (last_horizon (of_horizons 100 99) ≡ 99)

-- At 100 nothing. At 301 the keys from m up to t go over to resolver 0. At 5000299 transaction 0, and at 5000300
-- transaction 1, read p at version 100 and set z.
abbrev pub old_reading : List Entry
old_reading =
    entry_of 100 0 [] []
    ∷ entry_of 301 100 (move_of (codes "m") (codes "t") 0 ∷ []) []
    ∷ entry_of 5000299 301 [] (reads_and_sets 0 100 (codes "p" ∷ []) (codes "z" ∷ []) ∷ [])
    ∷ entry_of 5000300 5000299 [] (reads_and_sets 1 100 (codes "p" ∷ []) (codes "z" ∷ []) ∷ [])
    ∷ []

-- An old reading: resolver 1 owned p last at 300. That lies in the window of transaction 0, so resolver 1 is asked
-- about it; it lies just before that of transaction 1, so resolver 1 isn't asked. Others are, and both are old.
abbrev pub OldReading : Type 0
OldReading =
    (ruling at_m_and_t old_reading 2 0 ≡ Some
    (record { fresh = false; asked = 0 ∷ 1 ∷ 2 ∷ []; admitting = []; commits = false }))
    × (ruling at_m_and_t old_reading 3 0 ≡ Some
    (record { fresh = false; asked = 0 ∷ 2 ∷ []; admitting = []; commits = false }))

-- At 100 the keys from a up to p go over to resolver 1, then those from m up to z to resolver 2; transaction 0
-- sets n, transaction 1 sets c. At 200 transaction 2 reads n at version 0 and sets z.
abbrev pub two_moves : List Entry
two_moves =
    entry_of 100 0 (move_of (codes "a") (codes "p") 1 ∷ move_of (codes "m") (codes "z") 2 ∷ [])
    (reads_and_sets 0 0 [] (codes "n" ∷ []) ∷ reads_and_sets 1 0 [] (codes "c" ∷ []) ∷ [])
    ∷ entry_of 200 100 [] (reads_and_sets 2 0 (codes "n" ∷ []) (codes "z" ∷ []) ∷ [])
    ∷ []

-- Two moves of overlapping ranges in one entry: where both hold a key, the later one counts. Moves count for the
-- transactions of their own entry.
abbrev pub TwoMoves : Type 0
TwoMoves =
    (ruling at_m_and_t two_moves 0 0 ≡ Some
    (record { fresh = true; asked = 2 ∷ []; admitting = 0 ∷ 1 ∷ 2 ∷ []; commits = true }))
    × (ruling at_m_and_t two_moves 0 1 ≡ Some
    (record { fresh = true; asked = 1 ∷ []; admitting = 0 ∷ 1 ∷ 2 ∷ []; commits = true }))
    × (ruling at_m_and_t two_moves 1 0 ≡ Some
    (record { fresh = true; asked = 1 ∷ 2 ∷ []; admitting = 0 ∷ 1 ∷ []; commits = false }))

-- At 100 the keys from m up to t go over to resolver 2, and at 101 to resolver 0. At 200 transaction 0 reads p at
-- version 100 and sets a. At 300 the keys go over to resolver 1, and transaction 1 reads p at version 200 and sets a.
abbrev pub spans : List Entry
spans =
    entry_of 100 0 (move_of (codes "m") (codes "t") 2 ∷ []) []
    ∷ entry_of 101 100 (move_of (codes "m") (codes "t") 0 ∷ []) []
    ∷ entry_of 200 101 [] (reads_and_sets 0 100 (codes "p" ∷ []) (codes "a" ∷ []) ∷ [])
    ∷ entry_of 300 200 (move_of (codes "m") (codes "t") 1 ∷ [])
    (reads_and_sets 1 200 (codes "p" ∷ []) (codes "a" ∷ []) ∷ [])
    ∷ []

-- A span is without its begin and with its end: resolver 2, that owned p last at transaction 0's read version, isn't
-- asked about it, and resolver 1, that owns p from transaction 1's version on, is asked about that one.
abbrev pub Spans : Type 0
Spans =
    (ruling at_m_and_t spans 2 0 ≡ Some
    (record { fresh = true; asked = 0 ∷ []; admitting = 0 ∷ 1 ∷ 2 ∷ []; commits = true }))
    × (ruling at_m_and_t spans 3 0 ≡ Some
    (record { fresh = true; asked = 0 ∷ 1 ∷ []; admitting = 0 ∷ 1 ∷ 2 ∷ []; commits = true }))

-- At 100 the keys from n up to t go over to resolver 0; transaction 0 sets m, transaction 1 sets n, transaction 2
-- sets t.
abbrev pub at_bounds : List Entry
at_bounds =
    entry_of 100 0 (move_of (codes "n") (codes "t") 0 ∷ [])
    (reads_and_sets 0 0 [] (codes "m" ∷ []) ∷ reads_and_sets 1 0 [] (codes "n" ∷ []) ∷ reads_and_sets 2 0 []
    (codes "t" ∷ []) ∷ [])
    ∷ []

-- Bounds: a split is a key of the resolver above it, the begin of a move goes over, and its end stays.
abbrev pub AtBounds : Type 0
AtBounds =
    (ruling at_m at_bounds 0 0 ≡ Some (record { fresh = true; asked = 1 ∷ []; admitting = 0 ∷ 1 ∷ []; commits = true }))
    × (ruling at_m at_bounds 0 1 ≡ Some
    (record { fresh = true; asked = 0 ∷ []; admitting = 0 ∷ 1 ∷ []; commits = true }))
    × (ruling at_m at_bounds 0 2 ≡ Some
    (record { fresh = true; asked = 1 ∷ []; admitting = 0 ∷ 1 ∷ []; commits = true }))

-- what sets the keys, one after the other, each at the place beside it
abbrev pub sent_of : List (ℕ × Point) → List (ℕ × Mutation)
sent_of keys = map (λ (sent : ℕ × Point). (sent.0, Set sent.1 (codes "1"))) keys

-- the message of an entry that sets the keys, one after the other, each at the place beside it
abbrev pub message_of : (version prev : ℕ) → List (ℕ × Point) → TagMsg
message_of version prev keys = record { version = version; prev = prev; body = sent_of keys }

-- the messages of a book for the shard of the keys from one up to another
abbrev pub messages_from : Point → Point → List Entry → List TagMsg
messages_from begin end book = messages_for at_m (record { begin = begin; end = end }) book

-- Messages: a shard has one for each entry, with what committed transactions set in its range, in order. That of the
-- keys from a up to d has neither c, which conflicts, nor d; that from d on has d alone. That of the keys from m up to
-- t has m and n at their places, and t is another's.
abbrev pub ShardMessages : Type 0
ShardMessages =
    (messages_from (codes "a") (codes "d") one_batch
    ≡ message_of 100 0 ((0, codes "a") ∷ []) ∷ message_of 200 100 [] ∷ [])
    × (messages_from (codes "d") (codes "e") one_batch
    ≡ message_of 100 0 [] ∷ message_of 200 100 ((0, codes "d") ∷ []) ∷ [])
    × (messages_from (codes "m") (codes "t") at_bounds
    ≡ message_of 100 0 ((0, codes "m") ∷ (1, codes "n") ∷ []) ∷ [])

-- What entries of two resolvers after version 0 are. The first two are, with a read version right below the entry's,
-- versions that rise by one, and a move to the last resolver.
abbrev pub Entries : Type 0
Entries =
    AreEntries 2 0
    (entry_of 1 0 (move_of (codes "m") (codes "t") 1 ∷ []) (reads_and_sets 0 0 (codes "a" ∷ []) [] ∷ []) ∷ entry_of
    2 1 [] [] ∷ [])
    -- versions rise
    × (AreEntries 2 0 (entry_of 0 0 [] [] ∷ []) → ⊥)
    -- an entry names the version of the one before it
    × (AreEntries 2 0 (entry_of 1 0 [] [] ∷ entry_of 2 0 [] [] ∷ []) → ⊥)
    -- a move goes to a resolver that exists
    × (AreEntries 2 0 (entry_of 1 0 (move_of (codes "m") (codes "t") 2 ∷ []) [] ∷ []) → ⊥)
    -- a transaction reads below its entry's version
    × (AreEntries 2 0 (entry_of 1 0 [] (reads_and_sets 0 1 (codes "a" ∷ []) [] ∷ []) ∷ []) → ⊥)
    -- what it sets is in its write set
    × (AreEntries 2 0 (entry_of 1 0 [] (record (reads_and_sets 0 0 [] (codes "a" ∷ [])) { writes = [] } ∷ []) ∷ []) → ⊥)
    -- a horizon lies below its entry's version
    × (AreEntries 2 0 (with_horizon 1 (entry_of 1 0 [] []) ∷ []) → ⊥)

-- At 1 the transactions with number 0 of the sessions 0 and 1, at 2 the one with number 1 of session 0.
abbrev pub of_three_ids : List Entry
of_three_ids =
    entry_of 1 0 [] (reads_and_sets 0 0 [] [] ∷ reads_and_sets 1 0 [] [] ∷ [])
    ∷ entry_of 2 1 [] (record (reads_and_sets 0 1 [] []) { id = record { session = 0; number = 1 } } ∷ [])
    ∷ []

-- Which lists are books of two resolvers. By the ids of their transactions: with three ids for three transactions
-- there is one, and with one id twice in an entry, or in two entries, there is none. By their horizons: where one stays
-- there is one; where one falls, or isn't below its entry's version, there is none.
abbrev pub Books : Type 0
Books =
    IsBook 2 of_three_ids
    × (IsBook 2 (entry_of 1 0 [] (reads_and_sets 0 0 [] [] ∷ reads_and_sets 0 0 [] [] ∷ []) ∷ []) → ⊥)
    × (IsBook 2
    (entry_of 1 0 [] (reads_and_sets 0 0 [] [] ∷ []) ∷ entry_of 2 1 [] (reads_and_sets 0 1 [] [] ∷ []) ∷ []) → ⊥)
    × (IsBook 2 (of_horizons 100 100) × (IsBook 2 (of_horizons 100 99) → ⊥) × (IsBook 2 (of_horizons 250 250) → ⊥))

-- the number of each limit
abbrev pub LimitNumbers : Type 0
LimitNumbers =
    (size_limit ≡ 10000000)
    × (place_limit ≡ 4096)
    × (book_limit ≡ 1048576)
    × (window ≡ 5000000)
    × (greatest_advance ≡ 5000000)
    × (version_limit ≡ 4611686018427387904)
    × (ticket_limit ≡ 4294967296)
    × (move_limit ≡ 65536)
    × (proxy_limit ≡ 16)
    × (resolver_limit ≡ 64)
    × (log_limit ≡ 16)
    × (tag_limit ≡ 64)
    × (shard_limit ≡ 64)

-- How many bytes transactions have: of both bounds of what they read, of both bounds of what they write, and of their
-- mutations.
abbrev pub Sizes : Type 0
Sizes =
    (size_of (reads_and_sets 0 0 (codes "abc" ∷ []) (codes "de" ∷ [])) ≡ 15)
    × (size_of (reads_and_sets 0 0 (codes "a" ∷ codes "b" ∷ []) []) ≡ 6)
    × (size_of (reads_and_sets 0 0 [] (codes "de" ∷ [])) ≡ 8)
