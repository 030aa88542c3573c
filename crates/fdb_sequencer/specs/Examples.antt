-- Refusals of a sequencer, computed.
use Rattle.std.specs.Prelude.{◌≡◌, ℕ, [], ◌∷◌, Some, None}
use Rattle.fdb_keys.specs.declared.refusal.Refusal.TheVariants.{Stale, Exhausted, BadConfig, MovesFull}
use Rattle.fdb_txn.specs.declared.entry.Move.{Move}
use Rattle.fdb_sequencer.specs.Sequencer.{fresh}
use Rattle.fdb_sequencer.specs.Sequencer.{Sequencer, new_fault, next_version, planned, plan_fault, accept_fault}
use Rattle.fdb_sequencer.specs.Sequencer.{accepting, move_fault, set_window_fault, windowing, report_fault, reporting}

-- a sequencer of two proxies and two resolvers, by its accepted tickets, its last version and the moves made
abbrev pub sequencer : ℕ → ℕ → ℕ → Sequencer
sequencer accepted last made =
    record {
      proxies = 2;
      resolvers = 2;
      accepted = accepted;
      last = last;
      committed = 0;
      window = 5000000;
      horizon = 0;
      pending = [];
      unlearnt = [] ∷ [] ∷ [];
      made = made;
    }

-- the same after a last version, with a window and the last horizon
abbrev pub windowed : ℕ → ℕ → ℕ → Sequencer
windowed last window horizon = record (sequencer 0 last 0) { window = window; horizon = horizon }

-- once its first proxy got the ticket that is an advance further
abbrev pub once_taken : Sequencer → ℕ → Sequencer
once_taken s advance = accepting s (planned s 0 advance)

-- the keys from a to b, or from b to b, go over to the resolver
abbrev pub some_keys : ℕ → Move
some_keys target = record { range = record { begin = 97 ∷ []; end = 98 ∷ [] }; to = target }

abbrev pub no_keys : ℕ → Move
no_keys target = record { range = record { begin = 98 ∷ []; end = 98 ∷ [] }; to = target }

-- An advance counts as at least 1 and at most 5,000,000.
abbrev pub WorkedVersions : Type 0
WorkedVersions =
    (next_version 100 0 ≡ 101)
    × (next_version 100 1 ≡ 101)
    × (next_version 100 5000000 ≡ 5000100)
    × (next_version 100 5000001 ≡ 5000100)

-- A proxy that isn't there comes before a version or a ticket too many. There are 2^32 tickets, and the last version
-- is 2^62.
abbrev pub WorkedPlans : Type 0
WorkedPlans =
    (plan_fault (sequencer 0 4611686018427387904 0) 2 1 ≡ Some BadConfig)
    × (plan_fault (sequencer 0 4611686018427387904 0) 1 1 ≡ Some Exhausted)
    × (plan_fault (sequencer 0 4611686018427387903 0) 1 1 ≡ None)
    × (plan_fault (sequencer 4294967296 0 0) 0 1 ≡ Some Exhausted)
    × (plan_fault (sequencer 4294967295 0 0) 0 1 ≡ None)

-- A ticket is accepted once.
abbrev pub WorkedTickets : Type 0
WorkedTickets =
    (accept_fault (sequencer 0 0 0) (planned (sequencer 0 0 0) 0 100) ≡ None)
    × (accept_fault (accepting (sequencer 0 0 0) (planned (sequencer 0 0 0) 0 100)) (planned (sequencer 0 0 0) 0 100)
    ≡ Some Stale)

-- A window has 1 to 5,000,000 versions.
abbrev pub WorkedWindows : Type 0
WorkedWindows =
    (set_window_fault 0 ≡ Some BadConfig)
    × (set_window_fault 1 ≡ None)
    × (set_window_fault 5000000 ≡ None)
    × (set_window_fault 5000001 ≡ Some BadConfig)

-- By a window of 150 the horizon at version 250 is 100, and at version 150 or below it is 0. A horizon stays where the
-- version less the window isn't above it: so it doesn't fall where the window grows to the greatest one, and rises
-- again once versions are that far on. A ticket that was planned before the window was set is stale where its horizon
-- would differ then, and only there.
abbrev pub WorkedHorizons : Type 0
WorkedHorizons =
    ((planned (windowed 100 150 0) 0 150).horizon ≡ 100)
    × ((planned (windowed 100 150 0) 0 50).horizon ≡ 0)
    × ((planned (windowed 100 150 0) 0 1).horizon ≡ 0)
    × ((planned (windowed 250 150 100) 0 1).horizon ≡ 101)
    × ((planned (windowing (windowed 250 150 100) 5000000) 0 1).horizon ≡ 100)
    × ((planned (windowing (windowed 250 150 100) 151) 0 1).horizon ≡ 100)
    × ((planned (windowing (windowed 250 150 100) 5000000) 0 5000000).horizon ≡ 250)
    × ((once_taken (windowing (once_taken (windowed 100 150 0) 150) 5000000) 1).horizon ≡ 100)
    × (accept_fault (windowing (windowed 100 5000000 0) 10) (planned (windowed 100 5000000 0) 0 150) ≡ Some Stale)
    × (accept_fault (windowing (windowed 100 5000000 0) 250) (planned (windowed 100 5000000 0) 0 150) ≡ None)
    × (accept_fault (windowing (windowed 250 150 100) 5000000) (planned (windowed 250 151 100) 0 1) ≡ None)
    × ((planned (windowing (windowing (windowed 250 5000000 0) 10) 5000000) 0 1).horizon ≡ 0)
    × ((fresh 1 1 100).window ≡ 5000000)
    × ((fresh 1 1 100).horizon ≡ 0)

-- A move of no keys or to no resolver comes before one too many. There are 65,536 moves.
abbrev pub WorkedMoves : Type 0
WorkedMoves =
    (move_fault (sequencer 0 0 65536) (some_keys 2) ≡ Some BadConfig)
    × (move_fault (sequencer 0 0 65536) (no_keys 1) ≡ Some BadConfig)
    × (move_fault (sequencer 0 0 65536) (some_keys 1) ≡ Some MovesFull)
    × (move_fault (sequencer 0 0 65535) (some_keys 1) ≡ None)

-- A version that wasn't issued can't be reported. A report of a lesser version than an earlier one leaves that one.
abbrev pub WorkedReports : Type 0
WorkedReports =
    (report_fault (sequencer 0 100 0) 101 ≡ Some BadConfig)
    × (report_fault (sequencer 0 100 0) 100 ≡ None)
    × ((reporting (sequencer 0 100 0) 70).committed ≡ 70)
    × ((reporting (reporting (sequencer 0 100 0) 70) 60).committed ≡ 70)
    × ((reporting (reporting (sequencer 0 100 0) 70) 80).committed ≡ 80)
    × ((accepting (reporting (sequencer 0 100 0) 70) (planned (sequencer 0 100 0) 0 100)).committed ≡ 70)

-- There are 1 to 16 proxies, 1 to 64 resolvers and versions through 2^62.
abbrev pub WorkedNumbers : Type 0
WorkedNumbers =
    (new_fault 0 1 0 ≡ Some BadConfig)
    × (new_fault 1 0 0 ≡ Some BadConfig)
    × (new_fault 17 1 0 ≡ Some BadConfig)
    × (new_fault 1 65 0 ≡ Some BadConfig)
    × (new_fault 1 1 4611686018427387905 ≡ Some BadConfig)
    × (new_fault 16 64 4611686018427387904 ≡ None)
