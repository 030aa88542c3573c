use Rattle.std.proofs.Common.{sym, ap, ◌∙◌, ◌++◌, Ok}
use Rattle.std.proofs.lemmas.Result.{err_from_is_err_and}
use Rattle.fdb_play.proofs.lemmas.Script.{if_ok_map, if_err_map, steps_reading_stops, steps_checked, steps_unchecked}
use Rattle.fdb_play.proofs.lemmas.Script.{steps_line_stops, steps_silent, steps_line}
use Rattle.fdb_play.proofs.play.script.take_steps.Goals.{then-not-is_silent+in_ok-take_line+in_ok-write_all}
use Rattle.fdb_play.proofs.play.script.take_steps.Goals.{else-not-is_silent}
use Rattle.fdb_print.specs.declared.stop.Stop.TheVariants.{NoMemory}
use Rattle.fdb_play.proofs.play.script.take_steps.Goals as goal

pub returns-in_err-advance-clause-stops : goal.returns-in_err-advance-clause-stops
returns-in_err-advance-clause-stops g c =
    let p = err_from_is_err_and c.from_residual.result c.from_residual.ensures.1 in
    rw p.1 (rw p.2 (steps_reading_stops _ _ _ _ _ _ _ _ _ _ c.loop.invariant c.in_err-advance.ensures.fault))

pub returns-then-not-branch-clause-printed : goal.returns-then-not-branch-clause-printed
returns-then-not-branch-clause-printed g c =
    let end = c.in_ok-advance.ensures.end (ap Ok c.if-not-branch.true) in
    if_ok_map c.print_check.result _ _
    (λ status checked. steps_checked _ _ _ _ _ _ _ status _ _ c.loop.invariant end.0 checked)
    c.print_check.ensures.printed

pub returns-then-not-branch-clause-stops : goal.returns-then-not-branch-clause-stops
returns-then-not-branch-clause-stops g c =
    let end = c.in_ok-advance.ensures.end (ap Ok c.if-not-branch.true) in
    if_err_map c.print_check.result _ _
    (λ stopped checked. steps_unchecked _ _ _ _ _ _ _ _ _ stopped c.loop.invariant end.0 checked)
    c.print_check.ensures.stops

pub returns-in_err-take_line-clause-stops : goal.returns-in_err-take_line-clause-stops
returns-in_err-take_line-clause-stops g c =
    let p = err_from_is_err_and c.from_residual-in_err-take_line.result c.from_residual-in_err-take_line.ensures.1 in
    let takes = c.in_ok-advance.ensures.line (ap Ok c.if-not-branch.false) in
    let says = sym c.is_silent.ensures ∙ c.if-not-is_silent.true in
    rw p.1 (rw p.2
    (steps_line_stops _ _ _ _ _ _ _ _ _ _ _ _ c.loop.invariant takes c.in_ok-advance.ensures.number
    (rw (sym c.text.ensures) says) c.in_err-take_line.ensures.stops))

pub loop-preserved : goal.loop-preserved
loop-preserved g c =
    let takes = c.in_ok-advance.ensures.line (ap Ok c.if-not-branch.false) in
    let silent = rw c.text.ensures at c.is_silent.ensures in
    elim c.if-not-is_silent.branch [
      | then-not-is_silent+in_ok-take_line+in_ok-write_all w ↦
          let told = w.in_ok-take_line.ensures.ok in
          let written = w.as_bytes.ensures.value ∙ told.1 ∙ ap (λ bytes. bytes ++ told.0) w.clear.ensures.bytes in
          rw (w.world-is, w.writer-is)
          (steps_line _ _ _ _ _ _ _ told.0 _ _ _ _ _ _ c.loop.invariant takes c.in_ok-advance.ensures.number
          (sym silent ∙ w.if-not-is_silent.true) told.2 (rw written at w.in_ok-write_all.ensures.bytes))
      | else-not-is_silent w ↦
          rw (w.world-is, w.writer-is)
          (steps_silent _ _ _ _ _ _ _ _ _ _ _ c.loop.invariant takes c.in_ok-advance.ensures.number
          (sym silent ∙ w.if-not-is_silent.false))
    ]

pub returns-clause-stops : goal.returns-clause-stops
returns-clause-stops g c = steps_reading_stops g.R.Source.errors _ _ _ _ _ _ _ _ NoMemory c.loop.invariant tt
