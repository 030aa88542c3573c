use Rattle.std.proofs.Common.{ap, refl}
use Rattle.fdb_check.specs.Running.{run_of}
use Rattle.fdb_check.proofs.serial_run.SerialRun.new.Goals as goal

pub invariant_of-result : goal.invariant_of-result
invariant_of-result c =
    let judged = c.args.judged.now in
    let come = c.new_run.ensures judged.splits judged.book c.outcomes.ensures in
    (come.0, refl, come.2)

pub returns : goal.returns
returns c =
    let judged = c.args.judged.now in
    ap (run_of judged.splits judged.book) (c.new_run.ensures judged.splits judged.book c.outcomes.ensures).1
