-- What the program's words lead to.
use Rattle.std.specs.Prelude.{◌≡◌, ℕ, List, [], codes, Option, Result, Ok, Err, ◌⊎◌}
use Rattle.std.specs.declared.io.Error.{Error}
use Rattle.std.specs.Io.KnownBytes.{Appends, Keeps}
use Rattle.clap.specs.Words.{App, IsAmong, Text, fault_of, subcommand_of}
use Rattle.clap.specs.declared.builder.value_parser.ValueParser.{ValueParser}
use Rattle.clap.specs.declared.error.kind.ErrorKind.{ErrorKind}
use Rattle.clap.specs.declared.error.kind.ErrorKind.TheVariants as kind
use Rattle.fdb_play.specs.random.Reports.{RunPrints}
use Rattle.fdb_play.specs.play.Scripts.{Knows, Plays, Printed}
use Rattle.fdb_print.specs.Stops.{printed_line}
use Rattle.fdb_load.specs.declared.load.Load.{Load}
use Rattle.fdb_load.specs.Reports.{PrintsEnd}
use Rattle.fdb_simulate.specs.declared.simulation.Simulation.{Simulation}
use Rattle.fdb_simulate.specs.Reports.{SimulationPrints}
use Rattle.fdb_sim.specs.command.Options.{IsWorkloadParser, commands}
use Rattle.fdb_sim.specs.command.Tasks.{IsAsked}
use Rattle.fdb_sim.specs.declared.command.task.Task.TheVariants.{Draw, Random, Run, Simulate, Threads}
use Rattle.fdb_sim.specs.declared.command.task.Schedule.{Schedule}

-- what an error of the kind leads to: help goes to the output with status 0, and of any other kind nothing does
abbrev pub EndsBy : ErrorKind → Option (List ℕ) → Option (List ℕ) → ℕ → Type 0
EndsBy kind.DisplayHelp old new status = status ≡ 0
EndsBy kind.DisplayVersion old new status = status ≡ 0
EndsBy other old new status = (status ≡ 2) × Keeps old new

-- the words ask for `run`, which plays the script of the input
abbrev pub PlaysScript : App → List Text → Option (List ℕ) → Option (List ℕ) → Option (List ℕ) → ℕ → Type 0
PlaysScript app words input old new status =
    (fault_of app words ≡ []) × IsAsked (subcommand_of app words) Run
    × Printed old new (λ printed. Knows input (λ lines. Plays 0 lines printed status))

-- the words ask for drawn steps, of which the report is printed
abbrev pub DrawsSteps : App → List Text → Option (List ℕ) → Option (List ℕ) → ℕ → Type 0
DrawsSteps app words old new status =
    (fault_of app words ≡ [])
    × (schedule : Schedule) × IsAsked (subcommand_of app words) (Random schedule)
    × Printed old new (λ printed. RunPrints schedule.steps printed status)

-- the words ask for clients in threads, of which the report is printed
abbrev pub RunsThreads : App → List Text → Option (List ℕ) → Option (List ℕ) → ℕ → Type 0
RunsThreads app words old new status =
    (fault_of app words ≡ [])
    × (load : Load) × IsAsked (subcommand_of app words) (Threads load)
    × Printed old new (λ printed. PrintsEnd load printed status)

-- the words ask for a simulation, of which the report is printed
abbrev pub Simulates : App → List Text → Option (List ℕ) → Option (List ℕ) → ℕ → Type 0
Simulates app words old new status =
    (fault_of app words ≡ [])
    × (asked : Simulation) × IsAsked (subcommand_of app words) (Simulate asked)
    × Printed old new (λ printed. SimulationPrints asked printed status)

-- the words ask for a picture of the script's run, and nothing is said of what is printed
abbrev pub DrawsRun : App → List Text → Type 0
DrawsRun app words = (fault_of app words ≡ []) × IsAsked (subcommand_of app words) Draw

-- the words are at fault, and end by the kind of one of their faults
abbrev pub AreRefused : App → List Text → Option (List ℕ) → Option (List ℕ) → ℕ → Type 0
AreRefused app words old new status =
    (fault : ErrorKind) × IsAmong fault (fault_of app words) × EndsBy fault old new status

-- what is printed to the standard error where memory runs out
abbrev pub out_of_memory : List ℕ
out_of_memory = printed_line (codes "error: out of memory")

-- memory ran out while the words were read, which is said on the standard error
abbrev pub LackMemory : Option (List ℕ) → Option (List ℕ) → Option (List ℕ) → Option (List ℕ) → ℕ → Type 0
LackMemory old new err_old err_new status = (status ≡ 2) × Keeps old new × Appends err_old err_new out_of_memory

-- what words lead to that are read as this program's
abbrev pub ObeysBy : App → List Text → Option (List ℕ) → Option (List ℕ) → Option (List ℕ) → ℕ → Type 0
ObeysBy app words input old new status =
    PlaysScript app words input old new status
    ⊎ (DrawsSteps app words old new status
    ⊎ (RunsThreads app words old new status
    ⊎ (Simulates app words old new status
    ⊎ (DrawsRun app words ⊎ AreRefused app words old new status))))

-- Words play the script of the input exactly where they ask for `run`, draw steps, run threads or simulate where they
-- ask for that, and else ask for a picture or end by their fault, unless memory runs out.
abbrev pub Obeys : List Text → Option (List ℕ) → Option (List ℕ) → Option (List ℕ) → Option (List ℕ)
    → Option (List ℕ) → ℕ → Type 0
Obeys words input old new err_old err_new status =
    ((workloads : ValueParser) × IsWorkloadParser workloads
    × ObeysBy (commands workloads) words input old new status)
    ⊎ LackMemory old new err_old err_new status

-- the status that the process ends with: what its command answered, and 2 where its streams failed
abbrev pub status_of : Result ℕ Error → ℕ
status_of (Ok status) = status
status_of (Err error) = 2
