-- What the words ask for, as clap's matches have it.
use Rattle.std.specs.Prelude.{◌≡◌, ◌⊎◌, IsErrAnd, ◌≢◌, ◌<◌, ◌^◌, ℕ, Bool, List, Option, Some, true, false, codes}
use Rattle.std.specs.Prelude.{Result, IfOk, if◌then◌else◌}
use Rattle.std.specs.Option.{option_map_or}
use Rattle.std.specs.Str.{bytes_eq}
use Rattle.std.specs.Str.Parse.{IsNumeral, digits_value, without_leading_plus}
use Rattle.clap.specs.Words.{App, FailsBy, Row, Text, fault_of, first_of, kind_of, one_of, subcommand_of}
use Rattle.clap.specs.declared.builder.value_parser.ValueParser.{ValueParser}
use Rattle.clap.specs.declared.error.Error.{Error}
use Rattle.clap.specs.declared.error.kind.ErrorKind.TheVariants.{OutOfMemory}
use Rattle.fdb_load.specs.declared.load.Load.{Load}
use Rattle.fdb_load.specs.declared.workload.Workload.{Workload}
use Rattle.fdb_load.specs.declared.workload.Workload.TheVariants.{Counters, Ring, Transfers}
use Rattle.fdb_simulate.specs.declared.simulation.Simulation.{Simulation}
use Rattle.fdb_sim.specs.command.Options.{IsWorkloadParser, commands}
use Rattle.fdb_sim.specs.declared.command.task.Task.{Task}
use Rattle.fdb_sim.specs.declared.command.task.Task.TheVariants.{Draw, Random, Run, Simulate, Threads}
use Rattle.fdb_sim.specs.declared.command.task.Schedule.{Schedule}

-- n is the number of so many bits that the option has, where that is one
abbrev pub ReadsBits : ℕ → Text → List Row → ℕ → Type 0
ReadsBits bits name rows n = (text : Text) → one_of name rows ≡ Some text → IsNumeral 10 (without_leading_plus text)
    → digits_value 10 (without_leading_plus text) < 2 ^ bits → n ≡ digits_value 10 (without_leading_plus text)

abbrev pub ReadsNumber : Text → List Row → ℕ → Type 0
ReadsNumber = ReadsBits 32

-- whether the flag is given, of which clap has a text in either case
abbrev pub ReadsFlag : Text → List Row → Bool → Type 0
ReadsFlag name rows given =
    (one_of name rows ≡ Some (codes "true") → given ≡ true) × (one_of name rows ≡ Some (codes "false") → given ≡ false)

abbrev pub workload_called : Text → Workload
workload_called name =
    if bytes_eq name (codes "transfers") then Transfers
    else (if bytes_eq name (codes "counters") then Counters else Ring)

pub record HasSchedule (rows : List Row) (schedule : Schedule) : Type 0 where
  pub seed : ReadsBits 64 (codes "seed") rows schedule.seed
  pub steps : ReadsNumber (codes "steps") rows schedule.steps
  pub progress : ReadsFlag (codes "progress") rows schedule.progress

pub record HasLoad (rows : List Row) (load : Load) : Type 0 where
  pub clients : ReadsNumber (codes "clients") rows load.clients
  pub txns : ReadsNumber (codes "txns") rows load.txns
  pub resolvers : ReadsNumber (codes "resolvers") rows load.resolvers
  pub proxies : ReadsNumber (codes "proxies") rows load.proxies
  pub workload : load.workload ≡ option_map_or workload_called (first_of (codes "workload") rows) Ring
  pub progress : ReadsFlag (codes "progress") rows load.progress

pub record HasSimulation (rows : List Row) (asked : Simulation) : Type 0 where
  pub seed : ReadsBits 64 (codes "seed") rows asked.seed
  pub steps : ReadsNumber (codes "steps") rows asked.steps
  pub clients : ReadsNumber (codes "clients") rows asked.clients
  pub resolvers : ReadsNumber (codes "resolvers") rows asked.resolvers
  pub proxies : ReadsNumber (codes "proxies") rows asked.proxies

-- the command that was found, with its options, asks for this; any other than the four that are named is `run`
abbrev pub IsAsked : Option (Text × List Row) → Task → Type 0
IsAsked found Run = (rows : List Row) → (found ≢ Some (codes "random", rows))
    × (found ≢ Some (codes "threads", rows)) × (found ≢ Some (codes "simulate", rows))
    × (found ≢ Some (codes "draw", rows))
IsAsked found Draw = (rows : List Row) × (found ≡ Some (codes "draw", rows))
IsAsked found (Random schedule) =
    (rows : List Row) × (found ≡ Some (codes "random", rows)) × HasSchedule rows schedule
IsAsked found (Threads load) = (rows : List Row) × (found ≡ Some (codes "threads", rows)) × HasLoad rows load
IsAsked found (Simulate asked) =
    (rows : List Row) × (found ≡ Some (codes "simulate", rows)) × HasSimulation rows asked

-- the words fail by a fault that clap finds in them, or else ask for the task
abbrev pub AsksBy : App → List Text → Result Task Error → Type 0
AsksBy app words result = FailsBy (fault_of app words) result × IfOk result (IsAsked (subcommand_of app words))

-- the same under a parser of the workloads' names, unless memory runs out
abbrev pub Asks : List Text → Result Task Error → Type 0
Asks words result =
    IsErrAnd result (λ fault. kind_of fault ≡ OutOfMemory)
    ⊎ ((workloads : ValueParser) × IsWorkloadParser workloads × AsksBy (commands workloads) words result)
