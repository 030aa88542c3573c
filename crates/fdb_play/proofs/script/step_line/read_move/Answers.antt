use Rattle.std.proofs.Common.{ℕ, List, refl}
use Rattle.std.proofs.lemmas.Result.{err_from_is_err_and}
use Rattle.fdb_machine.specs.machine.AnyStep.{Step}
use Rattle.fdb_machine.specs.declared.step.AnyStep.TheVariants as made
use Rattle.fdb_play.specs.declared.script.fault.Fault.{Fault}
use Rattle.fdb_play.specs.declared.script.keys.RangeTarget.{RangeTarget}
use Rattle.fdb_play.specs.declared.script.step_line.Kind.TheVariants.{Move}
use Rattle.fdb_play.specs.script.Faults.{Reads}
use Rattle.fdb_play.specs.script.Grammar.{WritesRest, WritesTarget, bounds_fault, step_fault}
use Rattle.fdb_play.proofs.lemmas.Faults.{Reads-whole}
use Rattle.fdb_play.proofs.script.step_line.read_move.Goals as goal
use Rattle.std.proofs.Common.{Err}

-- words that write no range and resolver write no move
no_target : (words : List (List ℕ)) (fault : Fault)
    → Reads {T = RangeTarget} (Err fault) (WritesTarget words) (λ target. bounds_fault target.range)
    → Reads {T = Step} (Err fault) (WritesRest Move words) step_fault
no_target words fault found =
    Reads-whole {Part = RangeTarget} {Whole = Step} fault (WritesTarget words) (λ target. bounds_fault target.range)
    (WritesRest Move words) step_fault found
    (λ none step written. none written.0 written.1)
    (λ target written. (made.Move target.range target.to, (target, written, refl), refl))

pub returns-in_err-range : goal.returns-in_err-range
returns-in_err-range c =
    let p = err_from_is_err_and c.from_residual.result c.from_residual.ensures.1 in
    rw (p.1, p.2) (no_target _ _ c.in_err-range.ensures)
