use Rattle.std.proofs.Common.{refl, arith}
use Rattle.fdb_play.proofs.lemmas.Kinds.{names_none}
use Rattle.fdb_play.proofs.script.step_line.kind_named.Goals as goal

pub returns : goal.returns
returns c = (
  refl,
  names_none c.args.word.now
      (λ k below. c.loop-kind.invariant k (omega (arith, below, c.loop-kind-test.false))),
)
