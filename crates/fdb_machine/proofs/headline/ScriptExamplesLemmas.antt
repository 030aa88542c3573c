-- The scripts compute.
use Rattle.std.proofs.Common.{refl}
use Rattle.fdb_keys.specs.Points.{point_lt}
use Rattle.fdb_keys.specs.Insertion as insertion
use Rattle.fdb_machine.specs.headline.ScriptExamples.{WorkedScriptsAreTraces, parted_at_m, freshness, one_batch}
use Rattle.fdb_machine.specs.headline.ScriptExamples.{write_skew, there_and_back, forgetting, window, order_and_repeats}
use Rattle.fdb_machine.specs.headline.ScriptExamples.{reported_in_the_other_order, window_that_grows_again}
use Rattle.fdb_machine.specs.headline.ScriptExamples.{versionstamps}
use Rattle.fdb_machine.specs.machine.CommitProxySteps.{seals, receives, decides, reports}
use Rattle.fdb_machine.specs.machine.RoleSteps.{resolves, pushes, pulls, forgets}
use Rattle.fdb_machine.specs.machine.SequencerSteps.{moves, sets_window}
use Rattle.fdb_machine.proofs.headline.ScriptLemmas.{computes}

pub worked_scripts_are_traces : WorkedScriptsAreTraces
unfolding point_lt insertion.inserted seals receives decides reports resolves pushes pulls forgets moves sets_window
worked_scripts_are_traces = (
  computes (parted_at_m 1) freshness refl,
  computes (parted_at_m 1) one_batch refl,
  computes (parted_at_m 1) write_skew refl,
  computes (parted_at_m 1) there_and_back refl,
  computes (parted_at_m 1) forgetting refl,
  computes (parted_at_m 1) window refl,
  computes (parted_at_m 2) order_and_repeats refl,
  computes (parted_at_m 2) reported_in_the_other_order refl,
  computes (parted_at_m 1) window_that_grows_again refl,
  computes (parted_at_m 1) versionstamps refl,
)
