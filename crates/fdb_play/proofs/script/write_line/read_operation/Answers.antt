use Rattle.std.proofs.Common.{◌≡◌, ◌∙◌, ap}
use Rattle.std.proofs.lemmas.Result.{err_from_is_err_and}
use Rattle.fdb_keys.specs.Texts.{key_fault}
use Rattle.fdb_play.specs.script.Operations.{operation_on}
use Rattle.fdb_play.proofs.lemmas.Faults.{MatchFault-bad_alone}
use Rattle.fdb_play.proofs.lemmas.WriteLines.{no_operation_text, no_operation_operand, operation_read}
use Rattle.fdb_play.proofs.lemmas.WriteLines.{operation_refused}
use Rattle.fdb_play.proofs.script.write_line.read_operation.Goals as goal

pub returns-in_err-text : goal.returns-in_err-text
returns-in_err-text c =
    let p = err_from_is_err_and c.from_residual.result c.from_residual.ensures.1 in
    rw (p.1, p.2) (MatchFault-bad_alone _ _ _ _ c.in_err-text.ensures.bad (no_operation_text c.args.operation _))

pub returns-in_err-operand : goal.returns-in_err-operand
returns-in_err-operand c =
    let p = err_from_is_err_and c.from_residual-in_err-operand.result c.from_residual-in_err-operand.ensures.1 in
    rw (p.1, p.2) (MatchFault-bad_alone _ _ _ _ c.in_err-operand.ensures.bad
    (no_operation_operand c.args.operation _ _ _ c.in_ok-text.ensures.ok))

pub returns-in_err-key : goal.returns-in_err-key
returns-in_err-key c =
    let p = err_from_is_err_and c.from_residual-in_err-key.result c.from_residual-in_err-key.ensures.1 in
    rw (p.1, p.2)
    (operation_refused c.args.operation _ _ _ _ _ _ c.in_ok-text.ensures.ok c.in_ok-operand.ensures.ok
    c.as_slice.ensures.value c.in_err-key.ensures.refused)

pub returns : goal.returns
returns c =
    let made : c.on.result ≡ operation_on c.args.operation c.in_ok-key.key c.in_ok-operand.operand.items =
    c.on.ensures ∙ ap (operation_on c.args.operation c.in_ok-key.key) c.in_ok-operand-2.ensures.ok in
    rw made
    (operation_read c.args.operation _ _ _ c.in_ok-key.key c.in_ok-operand.operand.items c.in_ok-text.ensures.ok
    c.in_ok-operand.ensures.ok (c.in_ok-key.ensures.ok.0 ∙ c.as_slice.ensures.value)
    (ap key_fault c.in_ok-key.ensures.ok.0 ∙ c.in_ok-key.ensures.ok.1))
