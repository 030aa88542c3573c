-- What who waits for a shared role gets.
use Rattle.std.specs.Prelude.{Bool, true, false, not, ◌&&◌, ◌||◌, ℕ, nat_lt, Option, Some, None, if◌then◌else◌}
use Rattle.fdb_keys.specs.declared.refusal.Refusal.{Refusal}
use Rattle.fdb_keys.specs.declared.refusal.Refusal.TheVariants.{Closed}

-- the database is closed
abbrev pub is_closed : Refusal → Bool
is_closed Closed = true
is_closed _ = false

-- Why a shard's thread ended: for the first reason that was given; but once the database is closed, for that, unless
-- the shard has failed.
abbrev pub ended_by : Bool → Option Refusal → Refusal → Option Refusal
ended_by has_failed None why = Some why
ended_by has_failed (Some first) why = Some (if is_closed why && not has_failed then why else first)

-- why nobody reads at a version of a shard, by the version that it has come to and by why its thread ended, if it did
abbrev pub reach_fault : Option Refusal → ℕ → ℕ → Option Refusal
reach_fault None own version = None
reach_fault (Some why) own version = if is_closed why || nat_lt own version then Some why else None
