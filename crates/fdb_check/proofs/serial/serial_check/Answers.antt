use Rattle.std.proofs.Common.{subst}
use Rattle.fdb_check.specs.Checking.{FindsSerialized}
use Rattle.fdb_check.specs.Judged.{JudgedBook}
use Rattle.fdb_check.proofs.serial.serial_check.Goals as goal

pub returns : goal.returns
returns c =
    let same = rw c.as_slice.ensures at c.in-Ok.ensures.1 in
    subst (λ (judged : JudgedBook). FindsSerialized c.check.result judged.splits judged.book c.args.placed.now) same
    c.check.ensures
