-- What a run prints, and the status that it ends with.
use Rattle.std.specs.Prelude.{◌≡◌, ◌*◌, ℕ, List, true, codes, Some, ◌⊎◌, if◌then◌else◌}
use Rattle.serde_json.specs.Data.{Data, Members, number, unsigned, string, boolean, object, member, no_members}
use Rattle.serde_json.specs.Written.{compact_text}
use Rattle.fdb_print.specs.declared.stop.Stop.{Stop}
use Rattle.fdb_print.specs.Stops.{printed_line, stop_text}
use Rattle.fdb_load.specs.declared.load.Load.{Load}
use Rattle.fdb_load.specs.declared.report.Report.{Report}
use Rattle.fdb_load.specs.declared.workload.Workload.{Workload}
use Rattle.fdb_load.specs.declared.workload.Workload.TheVariants.{Ring, Transfers, Counters}
use Rattle.fdb_load.specs.Judging.{AreAllTold, IsShown, IsTakenUp}

abbrev pub workload_name : Workload → List ℕ
workload_name Ring = codes "ring"
workload_name Transfers = codes "transfers"
workload_name Counters = codes "counters"

-- the members of the report as an object of JSON, in this order
abbrev pub report_members : Report → Members
report_members report =
    (member (codes "aborted") (number (unsigned report.aborted))
    (member (codes "acknowledged") (number (unsigned report.acknowledged))
    (member (codes "checked") (number (unsigned report.checked))
    (member (codes "entries") (number (unsigned report.entries))
    (member (codes "mode") (string (codes "threads"))
    (member (codes "ok") (boolean report.ok)
    (member (codes "unknown") (number (unsigned report.unknown))
    (member (codes "workload") (string (workload_name report.workload)) no_members))))))))

abbrev pub report_data : Report → Data
report_data report = object (report_members report)

-- It is a report of so many tries of the workload: where all checks held, of all of them, which were taken up, and what
-- the database holds in the end shows it.
abbrev pub IsReportOf : Workload → ℕ → Report → Type 0
IsReportOf workload tries report =
    (report.workload ≡ workload)
    × (report.ok ≡ true → AreAllTold tries report × IsTakenUp tries report × IsShown workload tries report)

-- the report is printed, and the status says whether all checks held
abbrev pub PrintsReport : Report → List ℕ → ℕ → Type 0
PrintsReport report printed status =
    (printed ≡ printed_line (compact_text (report_data report))) × (status ≡ (if report.ok then 0 else 1))

-- why there is no report is printed
abbrev pub PrintsStop : List ℕ → ℕ → Type 0
PrintsStop printed status = (stop : Stop) × (stop_text stop ≡ Some printed) × (status ≡ 2)

-- what the report prints, unless memory runs out
abbrev pub ReportPrints : Report → List ℕ → ℕ → Type 0
ReportPrints report printed status = PrintsReport report printed status ⊎ PrintsStop printed status

-- what a run of the load prints
abbrev pub PrintsEnd : Load → List ℕ → ℕ → Type 0
PrintsEnd load printed status =
    ((report : Report) × IsReportOf load.workload (load.clients * load.txns) report
    × PrintsReport report printed status) ⊎ PrintsStop printed status
