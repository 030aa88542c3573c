-- When a message is in its turn.
use Rattle.std.specs.Prelude.{ℕ, nat_lt, Option, Some, None, if◌then◌else◌}
use Rattle.fdb_keys.specs.declared.refusal.Refusal.{Refusal}
use Rattle.fdb_keys.specs.declared.refusal.Refusal.TheVariants.{NotYet, Stale}

-- why a message isn't in its turn, by the last version that its role took and the one after which it comes
abbrev pub turn_fault : (last prev : ℕ) → Option Refusal
turn_fault last prev =
    if nat_lt prev last then Some Stale else (if nat_lt last prev then Some (NotYet prev) else None)
