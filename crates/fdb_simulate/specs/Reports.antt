-- What a simulation prints, and the status that it ends with.
use Rattle.std.specs.Prelude.{◌≡◌, ℕ, List, codes, Some, ◌⊎◌, if◌then◌else◌}
use Rattle.serde_json.specs.Data.{Data, Members, number, unsigned, string, boolean, object, member, no_members}
use Rattle.serde_json.specs.Written.{compact_text}
use Rattle.fdb_print.specs.declared.stop.Stop.{Stop}
use Rattle.fdb_print.specs.Stops.{printed_line, stop_text}
use Rattle.fdb_simulate.specs.declared.report.Report.{Report}
use Rattle.fdb_simulate.specs.declared.simulation.Simulation.{Simulation}
use Rattle.fdb_simulate.specs.declared.tally.Tally.{Tally}
use Rattle.fdb_simulate.specs.Tallies.{is_right}

-- how much there was of what, before other members
abbrev pub counts : Tally → Members → Members
counts tally rest =
    member (codes "aborted") (number (unsigned tally.turned_down))
    (member (codes "acknowledged") (number (unsigned tally.acknowledged))
    (member (codes "checked") (number (unsigned tally.checked))
    (member (codes "early") (number (unsigned tally.early))
    (member (codes "entries") (number (unsigned tally.entries))
    (member (codes "found") (number (unsigned tally.found)) rest)))))

-- what was asked for, and whether all is right
abbrev pub details : Report → Members → Members
details report rest =
    member (codes "mode") (string (codes "simulate"))
    (member (codes "ok") (boolean (is_right report.tally))
    (member (codes "recorded") (boolean report.tally.is_recorded)
    (member (codes "refused") (number (unsigned report.tally.refused))
    (member (codes "seed") (number (unsigned report.asked.seed))
    (member (codes "steps") (number (unsigned report.asked.steps)) rest)))))

-- what isn't known, and what there should be none of
abbrev pub faults : Tally → Members → Members
faults tally rest =
    member (codes "unexplained") (number (unsigned tally.unexplained))
    (member (codes "unknown") (number (unsigned tally.unknown))
    (member (codes "waiting") (number (unsigned tally.waiting)) rest))

-- the report as an object of JSON
abbrev pub report_data : Report → Data
report_data report = object (counts report.tally (details report (faults report.tally no_members)))

-- the report is printed, and the status says whether all is right
abbrev pub PrintsReport : Report → List ℕ → ℕ → Type 0
PrintsReport report printed status =
    (printed ≡ printed_line (compact_text (report_data report)))
    × (status ≡ (if is_right report.tally then 0 else 1))

-- why there is no report is printed
abbrev pub PrintsStop : List ℕ → ℕ → Type 0
PrintsStop printed status = (stop : Stop) × (stop_text stop ≡ Some printed) × (status ≡ 2)

-- what the report prints, unless memory runs out
abbrev pub ReportPrints : Report → List ℕ → ℕ → Type 0
ReportPrints report printed status = PrintsReport report printed status ⊎ PrintsStop printed status

-- what a simulation prints
abbrev pub SimulationPrints : Simulation → List ℕ → ℕ → Type 0
SimulationPrints asked printed status =
    ((tally : Tally) × PrintsReport (record { asked = asked; tally = tally }) printed status)
    ⊎ PrintsStop printed status
