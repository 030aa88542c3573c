use Rattle.std.proofs.Common.{◌≡◌, ℕ, List, Option, Some, Result, Ok, Err, IfOk, OnOk, inr}
use Rattle.std.specs.declared.io.Error.{Error}
use Rattle.std.specs.Io.KnownBytes.{Appends}
use Rattle.fdb_print.specs.Stops.{stop_text}
use Rattle.fdb_print.specs.declared.stop.Stop.{Stop}
use Rattle.fdb_print.specs.declared.stop.Stop.TheVariants.{Refused}
use Rattle.fdb_simulate.specs.Reports.{SimulationPrints}
use Rattle.fdb_simulate.specs.declared.simulation.Simulation.{Simulation}
use Rattle.fdb_simulate.proofs.simulation.run_simulation.Goals as goal

-- what is printed of a stop is what a simulation that stops prints
stopped : (result : Result ℕ Error) (stop : Stop) (asked : Simulation) (old new : Option (List ℕ))
    → IfOk result (λ status. status ≡ 2)
    → OnOk result ((last : List ℕ) × (stop_text stop ≡ Some last) × Appends old new last)
    → IfOk result (λ status. (printed : List ℕ) × SimulationPrints asked printed status × Appends old new printed)
stopped (Ok status) stop asked old new is printed = (printed.0, inr (stop, printed.1, is), printed.2)
stopped (Err error) stop asked old new is printed = tt

pub returns-in-Err-clause-printed : goal.returns-in-Err-clause-printed
returns-in-Err-clause-printed g c =
    stopped c.print_stop.result (Refused c.in-Err.why) c.args.asked.now (g.O.Sink.contents c.args.out.now)
    (g.O.Sink.contents c.print_stop.new.writer) c.print_stop.ensures.status c.print_stop.ensures.printed
