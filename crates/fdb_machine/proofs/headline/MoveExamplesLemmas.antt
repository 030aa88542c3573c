-- What the machine does where keys go over, computed.
use Rattle.std.proofs.Common.{refl}
use Rattle.fdb_keys.specs.Points.{point_lt}
use Rattle.fdb_machine.specs.headline.MoveExamples.{TheSpanBeginsAtTheHorizon, TheLaterMoveCounts}
use Rattle.fdb_machine.specs.headline.MoveExamples.{MovesTakeEffectWithTheNextEntry}
use Rattle.fdb_machine.specs.machine.CommitProxySteps.{seals}
use Rattle.fdb_machine.specs.machine.RoleSteps.{resolves}
use Rattle.fdb_machine.specs.machine.SequencerSteps.{moves}

pub the_span_begins_at_the_horizon : TheSpanBeginsAtTheHorizon
unfolding point_lt resolves
the_span_begins_at_the_horizon = (refl, refl, refl, refl)

pub the_later_move_counts : TheLaterMoveCounts
unfolding point_lt resolves
the_later_move_counts = (refl, refl, refl, refl)

pub moves_take_effect_with_the_next_entry : MovesTakeEffectWithTheNextEntry
unfolding point_lt moves seals
moves_take_effect_with_the_next_entry = (refl, refl, refl, refl, refl, refl)
