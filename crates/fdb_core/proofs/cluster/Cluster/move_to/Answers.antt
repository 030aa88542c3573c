use Rattle.std.proofs.Common.{◌≡◌, refl, subst, Err, rules}
use Rattle.fdb_keys.specs.Ranges.{Range}
use Rattle.fdb_sequencer.specs.Sequencer.{move_fault}
use Rattle.fdb_machine.specs.declared.step.AnyStep.TheVariants as step
use Rattle.fdb_core.specs.refinement.Cluster.{machine_of}
use Rattle.fdb_machine.specs.machine.SequencerSteps.{moves}
use Rattle.fdb_machine.proofs.Exports.{unless-fault}
use Rattle.fdb_core.proofs.refinement.RestoringLemmas.{keeps-roles, restored}
use Rattle.fdb_core.proofs.refinement.sequencer.Moving.{moves-refused, refines-taken, sequencer-same}
use Rattle.fdb_core.proofs.refinement.StepLemmas.{left, refused-restored}
use Rattle.fdb_core.proofs.cluster.Cluster.move_to.Goals as goal

-- where the sequencer refuses the move, it stays, and the machine refuses it, too
pub returns-in_err-move_to : goal.returns-in_err-move_to
returns-in_err-move_to c =
    let k = c.args.self.now in
    let why = c.in_err-move_to.field-0.0 in
    let move = step.Move c.args.range.now c.args.to in
    let same : c.in_ok-range.range ≡ c.args.range.now = search rules in
    left k move c.from_residual-in_err-move_to.result _ why (search rules)
    (unless-fault (move_fault k.sequencer (record { range = c.in_ok-range.range; to = c.args.to })) why _ _
    c.in_err-move_to.ensures.answers (λ faulty. refused-restored k move c.requires why refl
    (subst (λ (range : Range). moves (machine_of (restored k c.requires)) range c.args.to ≡ Err why) same
    (moves-refused (restored k c.requires) c.requires.refines c.in_ok-range.range c.args.to why faulty))))
    (sequencer-same k c.requires c.move_to.new.self c.in_err-move_to.ensures.err)

pub returns : goal.returns
unfolding moves
returns c = record {
  answer = search rules;
  machine = search rules;
  failed = refl;
  tied = keeps-roles c.args.self.now c.requires _ refl refl refl refl
      (refines-taken (restored c.args.self.now c.requires) c.requires.refines c.in_ok-range.range c.args.to
      c.move_to.new.self c.in_ok-move_to.field-0 c.in_ok-move_to.ensures.answers);
}
