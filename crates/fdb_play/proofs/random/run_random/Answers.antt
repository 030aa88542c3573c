use Rattle.std.proofs.Common.{ℕ, List, Option, Result, Ok, Err, inl, inr, ⊎_elim}
use Rattle.std.specs.Prelude.{IfOk}
use Rattle.std.specs.declared.io.Error.{Error}
use Rattle.fdb_play.specs.declared.random.report.Report.{Report}
use Rattle.fdb_play.specs.declared.random.tally.Tally.{Tally}
use Rattle.fdb_play.specs.play.Scripts.{Printed}
use Rattle.fdb_play.specs.random.Reports.{IsReportOf, ReportPrints, RunPrints}
use Rattle.fdb_play.proofs.random.run_random.Goals as goal

-- what prints the report of a run prints what the run prints
told : (steps : ℕ) (tally : Tally) (report : Report) (old new : Option (List ℕ)) (result : Result ℕ Error)
    → IsReportOf steps tally report
    → IfOk result (λ status. Printed old new (λ printed. ReportPrints report printed status))
    → IfOk result (λ status. Printed old new (λ printed. RunPrints steps printed status))
told steps tally report old new (Ok status) is prints = (
  prints.0,
  prints.1,
  ⊎_elim (λ reported. inl (tally, report, is, reported)) (λ ended. inr ended) prints.2,
)
told steps tally report old new (Err error) is prints = tt

pub returns-in-Ok-clause-printed : goal.returns-in-Ok-clause-printed
returns-in-Ok-clause-printed g c =
    told c.args.steps c.in-Ok._tally c.in-Ok.report (g.O.Sink.contents c.args.out.now)
    (g.O.Sink.contents c.print_report.new.out) c.print_report.result c.in-Ok.ensures.report
    c.print_report.ensures.printed
