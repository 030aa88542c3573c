use Rattle.std.proofs.Common.{refl, arith}
use Rattle.fdb_play.proofs.lemmas.WriteLines.{names_no_operation}
use Rattle.fdb_play.proofs.script.operation.operation_named.Goals as goal

pub returns : goal.returns
returns c = (
  refl,
  names_no_operation c.args.word.now
      (λ k below. c.loop-operation.invariant k (omega (arith, below, c.loop-operation-test.false))),
)
