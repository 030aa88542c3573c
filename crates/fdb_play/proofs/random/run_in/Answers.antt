use Rattle.std.proofs.Common.{◌∙◌, ap}
use Rattle.fdb_play.specs.random.Reports.{report_of}
use Rattle.fdb_play.proofs.random.run_in.Goals as goal

pub returns-clause-report : goal.returns-clause-report
returns-clause-report g c = (
  _,
  rw c.requires at c.in_ok-tally.ensures.counted,
  c.new-report.ensures ∙ ap (report_of c.in_ok-tally.tally c.args.steps) c.in_ok-checked.ensures,
)
