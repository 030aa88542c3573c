use Rattle.std.proofs.Common.{sym, ap, ◌∙◌, Ok}
use Rattle.std.proofs.lemmas.Result.{err_from_is_err_and}
use Rattle.fdb_play.proofs.lemmas.Script.{config_reading_stops, config_found, if_ok_map}
use Rattle.fdb_print.specs.declared.stop.Stop.TheVariants.{NoMemory}
use Rattle.fdb_play.proofs.play.script.first_config.Goals as goal

pub returns-in_err-advance-clause-stops : goal.returns-in_err-advance-clause-stops
returns-in_err-advance-clause-stops g c =
    let p = err_from_is_err_and c.from_residual.result c.from_residual.ensures.1 in
    rw p.1 (rw p.2 (config_reading_stops _ _ _ _ _ _ c.loop.invariant c.in_err-advance.ensures.fault))

pub returns-then-not-is_silent-clause-ok : goal.returns-then-not-is_silent-clause-ok
returns-then-not-is_silent-clause-ok g c =
    let takes = c.in_ok-advance.ensures.line (ap Ok c.if-not-branch.false) in
    let says = sym c.is_silent.ensures ∙ c.if-not-is_silent.true in
    if_ok_map c.config_of.result _ _
    (λ config writes. config_found _ _ _ c.text.result.now _ _ _ config c.loop.invariant (rw c.text.ensures takes)
    c.in_ok-advance.ensures.number says (rw c.text.ensures writes))
    c.config_of.ensures.ok

pub returns-clause-stops : goal.returns-clause-stops
returns-clause-stops g c = config_reading_stops g.R.Source.errors _ _ _ _ NoMemory c.loop.invariant tt
