-- What the machine does where the window is set, computed.
use Rattle.std.proofs.Common.{refl}
use Rattle.fdb_keys.specs.Points.{point_lt}
use Rattle.fdb_machine.specs.headline.WindowExamples.{WindowsHoldFromTheNextEntry, WindowsAreRead}
use Rattle.fdb_machine.specs.machine.CommitProxySteps.{seals}
use Rattle.fdb_machine.specs.machine.SequencerSteps.{moves, sets_window}

pub windows_hold_from_the_next_entry : WindowsHoldFromTheNextEntry
unfolding point_lt moves seals sets_window
windows_hold_from_the_next_entry = (refl, refl, refl, refl, refl, refl, refl, refl, refl, refl)

pub windows_are_read : WindowsAreRead
windows_are_read = (refl, refl, refl, refl, refl)
