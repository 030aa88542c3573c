use Rattle.std.proofs.lemmas.Result.{err_from_is_err_and}
use Rattle.fdb_play.proofs.lemmas.WriteLines.{clear_range_fault}
use Rattle.fdb_play.proofs.script.write_line.read_clear_range.Goals as goal

pub returns-in_err-range : goal.returns-in_err-range
returns-in_err-range c =
    let p = err_from_is_err_and c.from_residual.result c.from_residual.ensures.1 in
    rw (p.1, p.2) (clear_range_fault _ _ c.in_err-range.ensures)
