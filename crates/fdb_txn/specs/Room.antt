-- When an item may wait.
use Rattle.std.specs.Prelude.{Option, Some, None}
use Rattle.fdb_keys.specs.declared.refusal.Refusal.{Refusal}
use Rattle.fdb_keys.specs.declared.refusal.Refusal.TheVariants.{Stale}

-- why an item isn't let wait under a previous version, by what waits there
abbrev pub room_fault : {T : Type 0} → Option T → Option Refusal
room_fault None = None
room_fault (Some waiting) = Some Stale
