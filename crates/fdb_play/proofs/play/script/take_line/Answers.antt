use Rattle.std.proofs.Common.{ap, refl, inl}
use Rattle.fdb_print.specs.Stops.{bad_line}
use Rattle.fdb_play.proofs.play.script.take_line.Goals as goal

pub returns-in-Err-Bad-clause-stops : goal.returns-in-Err-Bad-clause-stops
returns-in-Err-Bad-clause-stops g c =
    let bad = rw (c.in-Err-Bad.field-0-is, c.text.ensures) at c.in-Err-Bad.ensures in
    inl (bad, (ap bad_line c.number-number.ensures, refl))
