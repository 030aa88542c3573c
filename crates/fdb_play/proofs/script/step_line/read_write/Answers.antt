use Rattle.std.proofs.Common.{refl}
use Rattle.std.proofs.lemmas.Result.{err_from_is_err_and}
use Rattle.fdb_machine.specs.declared.step.AnyStep.TheVariants as made
use Rattle.fdb_play.specs.script.Grammar.{WritesMutation, mutation_fault, step_fault}
use Rattle.fdb_play.proofs.lemmas.Grammar.{number_fault}
use Rattle.fdb_play.proofs.script.step_line.read_write.Goals as goal

pub returns-in_err-mutation : goal.returns-in_err-mutation
returns-in_err-mutation c =
    let p = err_from_is_err_and c.from_residual-in_err-mutation.result c.from_residual-in_err-mutation.ensures.1 in
    rw (p.1, p.2)
    (number_fault (λ mutation rest. WritesMutation rest mutation) mutation_fault made.Write
    step_fault _ _ _ _ c.in_ok-session.ensures.ok (λ mutation. refl) c.in_err-mutation.ensures)
