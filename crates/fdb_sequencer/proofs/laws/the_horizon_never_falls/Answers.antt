use Rattle.fdb_sequencer.proofs.HorizonLemmas.{horizon_never_falls, horizon_is_the_greatest_begin}
use Rattle.fdb_sequencer.proofs.laws.the_horizon_never_falls.Goals as goal

pub returns : goal.returns
returns c = record { falls = horizon_never_falls; greatest = horizon_is_the_greatest_begin }
