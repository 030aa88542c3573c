-- The program's commands and their options, as clap reads them.
use Rattle.std.specs.Prelude.{◌≡◌, ℕ, List, [], ◌∷◌, Some, true, codes, map, pos}
use Rattle.clap.specs.Words.{App, Rule, Text, new_app, new_rule, with_rule, with_subcommand}
use Rattle.clap.specs.declared.builder.action.ArgAction.TheVariants.{SetTrue}
use Rattle.clap.specs.declared.builder.value_parser.ValueParser.{ValueParser}
use Rattle.clap.specs.declared.builder.value_parser.ValueParser.TheVariants.{Names, Signed, Unsigned}
use Rattle.std.specs.Borrow.{Bor}

-- an option of this name, and the value that it has where it isn't given
abbrev pub option : Text → Text → ValueParser → Rule
option name value parser = record (new_rule name) {
  long = Some name;
  value_names = 1;
  defaults = value ∷ [];
  parser = Some parser;
}

-- an option without a value
abbrev pub flag : Text → Rule
flag name = record (new_rule name) { long = Some name; action = Some SetTrue }

-- a number from 1 to the most
abbrev pub up_to : ℕ → ValueParser
up_to most = Signed (pos 1) (pos most)

-- `run` has no option
abbrev pub run_command : App
run_command = new_app (codes "run")

-- `draw` has none, either
abbrev pub draw_command : App
draw_command = new_app (codes "draw")

-- which steps are drawn, and how many
abbrev pub with_schedule : App → App
with_schedule app = with_rule (with_rule app
    (option (codes "seed") (codes "1") (Unsigned 0 18446744073709551615)))
    (option (codes "steps") (codes "10000") (up_to 1000000))

abbrev pub random_command : App
random_command = with_rule (with_schedule (new_app (codes "random"))) (flag (codes "progress"))

abbrev pub workload_names : List Text
workload_names = codes "ring" ∷ codes "transfers" ∷ codes "counters" ∷ []

-- the parser takes the names of the workloads
abbrev pub IsWorkloadParser : ValueParser → Type 0
IsWorkloadParser parser =
    (names : Bor (List (Bor Text))) × (parser ≡ Names names) × (map (λ name. name.now) names.now ≡ workload_names)

-- how many resolvers and proxies there are
abbrev pub with_roles : App → App
with_roles app = with_rule (with_rule app
    (option (codes "resolvers") (codes "2") (up_to 64)))
    (option (codes "proxies") (codes "2") (up_to 16))

-- how much there is of what
abbrev pub with_sizes : App → App
with_sizes app = with_roles (with_rule (with_rule app
    (option (codes "clients") (codes "4") (up_to 64)))
    (option (codes "txns") (codes "100") (up_to 10000)))

abbrev pub simulate_command : App
simulate_command = with_roles (with_rule (with_schedule (new_app (codes "simulate")))
    (option (codes "clients") (codes "8") (up_to 64)))

abbrev pub threads_command : ValueParser → App
threads_command workloads = with_rule (with_rule (with_sizes (new_app (codes "threads")))
    (option (codes "workload") (codes "ring") workloads))
    (flag (codes "progress"))

-- the program's name is not among the words, one command must be given, and there is a version to ask for
abbrev pub named : App
named =
    record (new_app (codes "fdb_sim")) {
      top = record (new_app (codes "fdb_sim")).top {
        no_binary_name = true;
        subcommand_required = true;
        has_version = true;
      };
    }

abbrev pub commands : ValueParser → App
commands workloads =
    with_subcommand (with_subcommand (with_subcommand (with_subcommand (with_subcommand named run_command.top)
    draw_command.top) random_command.top) (threads_command workloads).top) simulate_command.top

abbrev pub AreCommands : App → Type 0
AreCommands app = (workloads : ValueParser) × IsWorkloadParser workloads × (app ≡ commands workloads)
