use Rattle.std.proofs.Common.{refl, rules}
use Rattle.fdb_sequencer.specs.Sequencer.{set_window_fault}
use Rattle.fdb_machine.specs.declared.step.AnyStep.TheVariants as step
use Rattle.fdb_machine.specs.machine.SequencerSteps.{sets_window}
use Rattle.fdb_machine.proofs.Exports.{unless}
use Rattle.fdb_roles.proofs.Exports.{refused-fault}
use Rattle.fdb_core.proofs.refinement.RestoringLemmas.{keeps-roles, restored}
use Rattle.fdb_core.proofs.refinement.sequencer.Moving.{sequencer-same}
use Rattle.fdb_core.proofs.refinement.sequencer.Windowing.{window-refused, window-taken}
use Rattle.fdb_core.proofs.refinement.StepLemmas.{left, refused-restored}
use Rattle.fdb_core.proofs.cluster.Cluster.set_window.Goals as goal

-- where the sequencer refuses the window, it stays, and the machine refuses it, too
pub returns-in_err-set_window : goal.returns-in_err-set_window
returns-in_err-set_window c =
    let k = c.args.self.now in
    let why = c.in_err-set_window.field-0.0 in
    let one_step = step.Window c.args.window in
    left k one_step c.from_residual.result _ why (search rules)
    (unless _ _ (refused-restored k one_step c.requires why refl
    (window-refused (restored k c.requires) c.requires.refines c.args.window why
    (refused-fault (set_window_fault c.args.window) why _ c.in_err-set_window.ensures.answers))))
    (sequencer-same k c.requires c.set_window.new.self c.in_err-set_window.ensures.err)

pub returns : goal.returns
unfolding sets_window
returns c =
    let taken = window-taken (restored c.args.self.now c.requires) c.requires.refines c.args.window
    c.set_window.new.self c.in_ok-set_window.field-0 c.in_ok-set_window.ensures.answers in
    record {
      answer = rw taken.0 refl;
      machine = rw (taken.0, taken.1) refl;
      failed = refl;
      tied = keeps-roles c.args.self.now c.requires _ refl refl refl refl taken.2;
    }
