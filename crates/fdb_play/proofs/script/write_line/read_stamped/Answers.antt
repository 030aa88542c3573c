use Rattle.std.proofs.Common.{ap, ◌∙◌}
use Rattle.std.proofs.lemmas.Result.{err_from_is_err_and}
use Rattle.fdb_keys.specs.Texts.{key_fault}
use Rattle.fdb_play.proofs.lemmas.Faults.{MatchFault-bad_alone}
use Rattle.fdb_play.proofs.lemmas.WriteLines.{no_stamped_key, no_stamped_operand, no_stamped_offset, stamped_read}
use Rattle.fdb_play.proofs.lemmas.WriteLines.{stamped_refused}
use Rattle.fdb_play.proofs.script.write_line.read_stamped.Goals as goal

pub returns-in_err-text : goal.returns-in_err-text
returns-in_err-text c =
    let p = err_from_is_err_and c.from_residual.result c.from_residual.ensures.1 in
    rw (p.1, p.2) (MatchFault-bad_alone _ _ _ _ c.in_err-text.ensures.bad (no_stamped_key _))

pub returns-in_err-operand : goal.returns-in_err-operand
returns-in_err-operand c =
    let p = err_from_is_err_and c.from_residual-in_err-operand.result c.from_residual-in_err-operand.ensures.1 in
    rw (p.1, p.2) (MatchFault-bad_alone _ _ _ _ c.in_err-operand.ensures.bad
    (no_stamped_operand _ _ _ c.in_ok-text.ensures.ok))

pub returns-in_err-offset : goal.returns-in_err-offset
returns-in_err-offset c =
    let p = err_from_is_err_and c.from_residual-in_err-offset.result c.from_residual-in_err-offset.ensures.1 in
    let bad = c.in_err-offset.ensures.bad in
    rw (p.1, p.2, bad.0)
    (no_stamped_offset _ _ _ c.in_ok-text.ensures.ok _ _ c.in_ok-operand.ensures.ok bad.1)

pub returns-in_err-key : goal.returns-in_err-key
returns-in_err-key c =
    let p = err_from_is_err_and c.from_residual-in_err-key.result c.from_residual-in_err-key.ensures.1 in
    rw (p.1, p.2)
    (stamped_refused _ _ _ c.in_ok-text.ensures.ok _ _ c.in_ok-operand.ensures.ok _ c.in_ok-offset.ensures.ok _ _
    c.as_slice.ensures.value c.in_err-key.ensures.refused)

pub returns : goal.returns
returns c =
    rw c.in_ok-operand-2.ensures.ok
    (stamped_read _ _ _ c.in_ok-text.ensures.ok _ _ c.in_ok-operand.ensures.ok _ c.in_ok-offset.ensures.ok
    c.in_ok-key.key (c.in_ok-key.ensures.ok.0 ∙ c.as_slice.ensures.value)
    (ap key_fault c.in_ok-key.ensures.ok.0 ∙ c.in_ok-key.ensures.ok.1))
