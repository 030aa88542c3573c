-- When a database starts, and how it numbers its sessions.
use Rattle.std.specs.Prelude.{◌≡◌, ◌==◌, ◌||◌, ◌⊎◌, ℕ, suc, nat_le, Bool, true, false, [], length, Option, Some}
use Rattle.std.specs.Prelude.{None, Result, Ok, Err, if◌then◌else◌}
use Rattle.fdb_keys.specs.Ranges.{is_empty_range}
use Rattle.fdb_keys.specs.declared.refusal.Refusal.{Refusal}
use Rattle.fdb_keys.specs.declared.refusal.Refusal.TheVariants.{BadConfig, Exhausted, MovesFull, NoMemory}
use Rattle.fdb_proxy.specs.declared.config.Config.{Config}
use Rattle.fdb_proxy.specs.Configs.{config_fault}
use Rattle.fdb_txn.specs.declared.entry.Move.{Move}
use Rattle.fdb_sections.specs.Sessions.{Session}

-- why no database starts on cells for so many entries: these are others than the configuration asks for, or it isn't
-- legal
abbrev pub start_fault : Config → ℕ → Option Refusal
start_fault config room = if room == config.book then config_fault config else Some BadConfig

-- why a database gives no session: all numbers are used
abbrev pub session_fault : ℕ → Option Refusal
session_fault sessions = if sessions == 4_294_967_295 then Some Exhausted else None

-- the session of a number, which has seen nothing and began nothing
abbrev pub new_session : ℕ → Session
new_session number = record { number = number; next_number = 0; front = []; mark = 0; current = None }

-- a move names no resolver that there is, or no key
abbrev pub is_bad_move : Config → Move → Bool
is_bad_move config move = nat_le (suc (length config.resolver_splits)) move.to || is_empty_range move.range

-- What a move is answered, by whether it is a bad one: it is refused as `BadConfig` just where it is, and else as
-- `MovesFull`, unless memory ran out.
abbrev pub AnswersMove : {T : Type 0} → Bool → Result T Refusal → Type 0
AnswersMove is_bad (Ok done) = is_bad ≡ false
AnswersMove is_bad (Err why) =
    (why ≡ NoMemory) ⊎ ((is_bad ≡ true) × (why ≡ BadConfig) ⊎ (is_bad ≡ false) × (why ≡ MovesFull))
