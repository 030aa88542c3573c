-- The sequencer, what each call answers and what it leaves.
use Rattle.std.specs.Prelude.{◌≡◌, ℕ, suc, ◌+◌, ◌<◌, ◌≤◌, min, max, Bool, ◌&&◌, ◌||◌, ◌==◌, nat_lt, nat_le, List}
use Rattle.std.specs.Prelude.{length, Option, Some, None, if◌then◌else◌}
use Rattle.std.specs.List.{AllByRecursion}
use Rattle.std.specs.Cmp.Lexicographic.{pointwise}
use Rattle.fdb_keys.specs.declared.refusal.Refusal.{Refusal}
use Rattle.fdb_keys.specs.declared.refusal.Refusal.TheVariants.{Stale, Exhausted, BadConfig, MovesFull}
use Rattle.fdb_keys.specs.Ranges.{is_empty_range}
use Rattle.fdb_txn.specs.declared.entry.Move.{Move}
use Rattle.fdb_txn.specs.Equality.{move_eq}
use Rattle.fdb_txn.specs.Limits.{resolver_limit, proxy_limit, ticket_limit, version_limit, greatest_advance, move_limit}
use Rattle.fdb_txn.specs.Limits.{window}
use Rattle.fdb_txn.specs.book.Book.{next_horizon}
use Rattle.fdb_sequencer.specs.declared.ticket.Ticket.{Ticket}
use Rattle.fdb_sequencer.specs.Equality.{dated_eq}
use Rattle.fdb_sequencer.specs.declared.dated.Dated.{Dated}
use Rattle.fdb_sequencer.specs.Moves.{Moves, no_moves, with_move, unlearnt_of, moves_at, handed_out}

pub record Sequencer : Type 0 where
  -- how many commit proxies and how many resolvers there are
  pub proxies : ℕ
  pub resolvers : ℕ
  -- how many tickets were accepted
  pub accepted : ℕ
  -- the last version that was issued
  pub last : ℕ
  -- the greatest version that was reported
  pub committed : ℕ
  -- the window of the tickets to come
  pub window : ℕ
  -- the horizon of the last ticket that was accepted, 0 before the first
  pub horizon : ℕ
  -- the moves that take effect with the next ticket that is accepted, the earliest one first
  pub pending : List Move
  -- for each proxy the moves that it hasn't had, but for the pending ones, by version
  pub unlearnt : List (List Dated)
  -- how many moves were made
  pub made : ℕ

-- what holds of every sequencer
pub record IsSequencer (s : Sequencer) : Type 0 where
  pub proxies : (1 ≤ s.proxies) × (s.proxies ≤ proxy_limit)
  pub resolvers : (1 ≤ s.resolvers) × (s.resolvers ≤ resolver_limit)
  pub accepted : s.accepted ≤ ticket_limit
  pub last : s.last ≤ version_limit
  pub committed : s.committed ≤ s.last
  pub count : length s.unlearnt ≡ s.proxies
  pub targets : AllByRecursion (λ (move : Move). move.to < s.resolvers) s.pending
  pub made : s.made ≤ move_limit
  pub pending : length s.pending ≤ s.made
  pub window : (1 ≤ s.window) × (s.window ≤ window)
  pub horizon : s.horizon ≤ s.last

-- a number is at least 1, and at most the limit
abbrev pub is_count : ℕ → ℕ → Bool
is_count limit n = nat_le 1 n && nat_le n limit

-- why there is no sequencer of these numbers
abbrev pub new_fault : ℕ → ℕ → ℕ → Option Refusal
new_fault proxies resolvers last =
    if is_count proxy_limit proxies && is_count resolver_limit resolvers && nat_le last version_limit then None
    else Some BadConfig

-- before the first ticket, the first report, the first move and the first change of the window
abbrev pub fresh : ℕ → ℕ → ℕ → Sequencer
fresh proxies resolvers last =
    record {
      proxies = proxies;
      resolvers = resolvers;
      accepted = 0;
      last = last;
      committed = 0;
      window = window;
      horizon = 0;
      pending = (no_moves proxies).pending;
      unlearnt = (no_moves proxies).unlearnt;
      made = 0;
    }

-- the moves of a sequencer
abbrev pub moves_in : Sequencer → Moves
moves_in s = record { pending = s.pending; unlearnt = s.unlearnt }

-- the moves that the proxy hasn't had, by version
abbrev pub unlearnt_by : Sequencer → ℕ → List Dated
unlearnt_by s proxy = unlearnt_of (moves_in s) proxy

-- the version an advance above the last one, but at least 1 and at most the greatest advance above it
abbrev pub next_version : ℕ → ℕ → ℕ
next_version last advance = last + max 1 (min advance greatest_advance)

-- the ticket of a proxy for an advance
abbrev pub planned : Sequencer → ℕ → ℕ → Ticket
planned s proxy advance =
    record {
      proxy = proxy;
      index = s.accepted;
      version = next_version s.last advance;
      prev = s.last;
      horizon = next_horizon s.horizon s.window (next_version s.last advance);
      moves = moves_at (moves_in s) proxy (next_version s.last advance);
      pending = s.pending;
    }

-- why a proxy gets no ticket for an advance
abbrev pub plan_fault : Sequencer → ℕ → ℕ → Option Refusal
plan_fault s proxy advance =
    if nat_le s.proxies proxy then Some BadConfig
    else (if nat_lt version_limit (next_version s.last advance) || nat_le ticket_limit s.accepted then Some Exhausted
    else None)

-- the version is above the last one by at most the greatest advance, and isn't above the limit
abbrev pub is_next : ℕ → ℕ → Bool
is_next last version = nat_lt last version && nat_le version (last + greatest_advance) && nat_le version version_limit

-- some proxy gets just this ticket for some advance
abbrev pub is_planned : Sequencer → Ticket → Bool
is_planned s ticket =
    nat_lt ticket.proxy s.proxies && (ticket.index == s.accepted) && nat_lt ticket.index ticket_limit
    && (ticket.prev == s.last)
    && is_next s.last ticket.version
    && (ticket.horizon == next_horizon s.horizon s.window ticket.version)
    && (pointwise dated_eq ticket.moves (moves_at (moves_in s) ticket.proxy ticket.version)
    && pointwise move_eq ticket.pending s.pending)

-- why a ticket isn't accepted
abbrev pub accept_fault : Sequencer → Ticket → Option Refusal
accept_fault s ticket = if is_planned s ticket then None else Some Stale

-- once the ticket was accepted
abbrev pub accepting : Sequencer → Ticket → Sequencer
accepting s ticket =
    let moves = handed_out (moves_in s) ticket.proxy ticket.version in
    record s {
      accepted = suc s.accepted;
      last = ticket.version;
      horizon = ticket.horizon;
      pending = moves.pending;
      unlearnt = moves.unlearnt;
    }

-- why a move isn't made: there is no such resolver, its range is empty, or too many were made
abbrev pub move_fault : Sequencer → Move → Option Refusal
move_fault s move =
    if nat_le s.resolvers move.to || is_empty_range move.range then Some BadConfig
    else (if nat_le move_limit s.made then Some MovesFull
    else None)

-- once the move was made
abbrev pub moving : Sequencer → Move → Sequencer
moving s move = record s { pending = (with_move (moves_in s) move).pending; made = suc s.made }

-- why a window isn't set
abbrev pub set_window_fault : ℕ → Option Refusal
set_window_fault versions = if is_count window versions then None else Some BadConfig

-- once the window was set
abbrev pub windowing : Sequencer → ℕ → Sequencer
windowing s versions = record s { window = versions }

-- why a report isn't taken
abbrev pub report_fault : Sequencer → ℕ → Option Refusal
report_fault s version = if nat_lt s.last version then Some BadConfig else None

-- once the version was reported
abbrev pub reporting : Sequencer → ℕ → Sequencer
reporting s version = record s { committed = max s.committed version }
