use Rattle.std.proofs.Common.{◌≡◌, ◌+◌, ℕ, suc, arith, subst}
use Rattle.fdb_play.specs.random.Runs.{CountsSteps}
use Rattle.fdb_play.proofs.random.take_all.Goals as goal

pub loop-done-preserved : goal.loop-done-preserved
loop-done-preserved g c =
    let done = c.loop-done.done in
    let old = c.args.world.now.state in
    let new = c.take_one.new.world.state in
    let tally = c.take_one.new.tally in
    let counts : CountsSteps (suc done) old new tally
    = (_, _, c.loop-done.invariant, c.in_ok-take_one.ensures) in
    let more : suc done ≡ done + 1 = omega arith in
    subst (λ (steps : ℕ). CountsSteps steps old new tally) more counts
