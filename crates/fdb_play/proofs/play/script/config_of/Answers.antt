use Rattle.std.proofs.Common.{ap, refl, inl, inr}
use Rattle.fdb_print.specs.Stops.{bad_line}
use Rattle.fdb_play.proofs.play.script.config_of.Goals as goal

pub returns-in-Err-Bad-clause-stops : goal.returns-in-Err-Bad-clause-stops
returns-in-Err-Bad-clause-stops g c =
    let bad = rw (c.in-Err-Bad.field-0-is, c.text.ensures) at c.in-Err-Bad.ensures in
    inr (inl (bad, (ap bad_line c.number.ensures, refl)))
