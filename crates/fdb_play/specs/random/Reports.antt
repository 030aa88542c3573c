-- What a run of drawn steps prints, and the status that it ends with.
use Rattle.std.specs.Prelude.{◌≡◌, ◌+◌, ℕ, Bool, true, false, List, length, ◌⊎◌, ⊤, Option, Some, None, codes}
use Rattle.std.specs.declared.io.Error.{Error}
use Rattle.serde_json.specs.Data.{Members, boolean, number, unsigned, string, object, member, no_members}
use Rattle.serde_json.specs.Written.{compact_text}
use Rattle.fdb_keys.specs.declared.refusal.Refusal.{Refusal}
use Rattle.fdb_machine.specs.machine.Failures.{State}
use Rattle.fdb_machine.specs.machine.Worlds.{first_state}
use Rattle.fdb_print.specs.Stops.{printed_line, refused_line}
use Rattle.fdb_play.specs.declared.random.ended.Ended.{Ended}
use Rattle.fdb_play.specs.declared.random.ended.Ended.TheVariants.{Io, Refused}
use Rattle.fdb_play.specs.declared.random.report.Report.{Report}
use Rattle.fdb_play.specs.declared.random.tally.Tally.{Tally}
use Rattle.fdb_play.specs.random.Runs.{CountsSteps, drawn_config}

-- whether the check found no difference, where it then says how many transactions it compared
abbrev pub has_held : Option ℕ → Bool
has_held None = false
has_held (Some count) = true

-- how many transactions the check compared
abbrev pub compared : Option ℕ → ℕ
compared None = 0
compared (Some count) = count

-- the report of so many steps, by what they were answered and by what the check found
abbrev pub report_of : Tally → ℕ → Option ℕ → Report
report_of tally steps checked = record {
  aborted = tally.conflicting + tally.too_old;
  acknowledged = tally.committed + tally.read_only;
  checked = compared checked;
  ok = has_held checked;
  refused = tally.refused;
  steps = steps;
}

-- It is the report of so many steps that the world took and that were answered so, after which the check found no
-- difference in any transaction that was acknowledged.
abbrev pub IsReportFrom : State → ℕ → Tally → Report → Type 0
IsReportFrom old steps tally report =
    (new : State) × CountsSteps steps old new tally
    × (report ≡ report_of tally steps (Some (length new.machine.acknowledged)))

-- the same of the world that drawn steps begin with
abbrev pub IsReportOf : ℕ → Tally → Report → Type 0
IsReportOf steps tally report = IsReportFrom (first_state drawn_config) steps tally report

-- the members of the report as an object of JSON, in the order of their keys
abbrev pub report_members : Report → Members
report_members report =
    member (codes "aborted") (number (unsigned report.aborted))
    (member (codes "acknowledged") (number (unsigned report.acknowledged))
    (member (codes "checked") (number (unsigned report.checked))
    (member (codes "mode") (string (codes "random"))
    (member (codes "ok") (boolean report.ok)
    (member (codes "refused") (number (unsigned report.refused))
    (member (codes "steps") (number (unsigned report.steps)) no_members))))))

-- the status of a run whose check found no difference, or found one
abbrev pub report_status : Bool → ℕ
report_status true = 0
report_status false = 1

-- the report is printed, and gives the status
abbrev pub IsReported : Report → List ℕ → ℕ → Type 0
IsReported report printed status =
    (printed ≡ printed_line (compact_text (object (report_members report)))) × (status ≡ report_status report.ok)

-- the run ends before its report, since this was refused
abbrev pub IsEnded : List ℕ → ℕ → Type 0
IsEnded printed status = (refusal : Refusal) × (printed ≡ refused_line refusal) × (status ≡ 2)

-- what the report prints, unless memory runs out
abbrev pub ReportPrints : Report → List ℕ → ℕ → Type 0
ReportPrints report printed status = IsReported report printed status ⊎ IsEnded printed status

-- what a run of so many steps prints
abbrev pub RunPrints : ℕ → List ℕ → ℕ → Type 0
RunPrints steps printed status =
    ((tally : Tally) × (report : Report) × IsReportOf steps tally report × IsReported report printed status)
    ⊎ IsEnded printed status

-- a run that ends by an error ends by one of these
abbrev pub EndsWith : (Error → Type 0) → Ended → Type 0
EndsWith errors (Refused refusal) = ⊤
EndsWith errors (Io error) = errors error
