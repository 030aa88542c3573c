use Rattle.std.proofs.Common.{refl}
use Rattle.std.proofs.lemmas.Result.{err_from_is_err_and}
use Rattle.fdb_keys.specs.Texts.{key_fault}
use Rattle.fdb_machine.specs.declared.step.AnyStep.TheVariants as made
use Rattle.fdb_play.specs.script.Grammar.{WritesOneText, step_fault}
use Rattle.fdb_play.proofs.lemmas.Grammar.{number_fault}
use Rattle.fdb_play.proofs.script.step_line.read_get.Goals as goal

pub returns-in_err-key : goal.returns-in_err-key
returns-in_err-key c =
    let p = err_from_is_err_and c.from_residual-in_err-key.result c.from_residual-in_err-key.ensures.1 in
    rw (p.1, p.2)
    (number_fault (λ key rest. WritesOneText rest key) key_fault (λ session key. made.Get session key c.args.snapshot)
    step_fault _ _ _ _ c.in_ok-session.ensures.ok (λ key. refl) c.in_err-key.ensures)
