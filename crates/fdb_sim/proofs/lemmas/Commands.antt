-- Examples of words that give a command, of what they ask for, and of the kinds of the faults of words that don't.
use Rattle.std.proofs.Common.{refl, ◌≡◌, List, Option, Some, [], ◌∷◌, codes, option_map}
use Rattle.std.specs.Prelude.{option_and_then}
use Rattle.clap.specs.Words.{Text, fault_of, first_of, one_of, subcommand_of}
use Rattle.clap.specs.declared.builder.value_parser.ValueParser.{ValueParser}
use Rattle.clap.specs.declared.error.kind.ErrorKind.{ErrorKind}
use Rattle.clap.specs.declared.error.kind.ErrorKind.TheVariants.{DisplayHelp, InvalidSubcommand, MissingSubcommand}
use Rattle.clap.specs.declared.error.kind.ErrorKind.TheVariants.{UnknownArgument, ValueValidation}
use Rattle.clap.proofs.OnLiterals.{clap_on_literals}
use Rattle.fdb_sim.specs.command.Options.{commands}

module _ (workloads : ValueParser) where
  abbrev faults : List Text → List ErrorKind
  faults = fault_of (commands workloads)

  abbrev named : List Text → Option Text
  named words = option_map (λ found. found.0) (subcommand_of (commands workloads) words)

  abbrev text_of : Text → List Text → Option Text
  text_of name words = option_and_then (λ found. one_of name found.1) (subcommand_of (commands workloads) words)

  abbrev workload_of : List Text → Option Text
  workload_of words = option_and_then (λ found. first_of (codes "workload") found.1)
      (subcommand_of (commands workloads) words)

  run_is_one : faults (codes "run" ∷ []) ≡ []
  unfolding clap_on_literals
  run_is_one = refl

  run_is_asked_for : named (codes "run" ∷ []) ≡ Some (codes "run")
  unfolding clap_on_literals
  run_is_asked_for = refl

  draw_is_one : faults (codes "draw" ∷ []) ≡ []
  unfolding clap_on_literals
  draw_is_one = refl

  draw_is_asked_for : named (codes "draw" ∷ []) ≡ Some (codes "draw")
  unfolding clap_on_literals
  draw_is_asked_for = refl

  random_is_one : faults (codes "random" ∷ codes "--seed" ∷ codes "18446744073709551615" ∷ []) ≡ []
  unfolding clap_on_literals
  random_is_one = refl

  random_is_asked_for : named (codes "random" ∷ []) ≡ Some (codes "random")
  unfolding clap_on_literals
  random_is_asked_for = refl

  a_seed_is_read : text_of (codes "seed") (codes "random" ∷ codes "--seed" ∷ codes "7" ∷ []) ≡ Some (codes "7")
  unfolding clap_on_literals
  a_seed_is_read = refl

  steps_are_given : text_of (codes "steps") (codes "random" ∷ codes "--seed=7" ∷ []) ≡ Some (codes "10000")
  unfolding clap_on_literals
  steps_are_given = refl

  too_many_steps : faults (codes "random" ∷ codes "--steps" ∷ codes "1000001" ∷ []) ≡ ValueValidation ∷ []
  unfolding clap_on_literals
  too_many_steps = refl

  no_steps : faults (codes "random" ∷ codes "--steps" ∷ codes "0" ∷ []) ≡ ValueValidation ∷ []
  unfolding clap_on_literals
  no_steps = refl

  threads_are_asked_for : named (codes "threads" ∷ codes "--clients" ∷ codes "64" ∷ []) ≡ Some (codes "threads")
  unfolding clap_on_literals
  threads_are_asked_for = refl

  a_workload_is_read : workload_of (codes "threads" ∷ codes "--workload" ∷ codes "counters" ∷ [])
      ≡ Some (codes "counters")
  unfolding clap_on_literals
  a_workload_is_read = refl

  progress_is_told : text_of (codes "progress") (codes "threads" ∷ codes "--progress" ∷ []) ≡ Some (codes "true")
  unfolding clap_on_literals
  progress_is_told = refl

  too_many_clients : faults (codes "threads" ∷ codes "--clients" ∷ codes "65" ∷ []) ≡ ValueValidation ∷ []
  unfolding clap_on_literals
  too_many_clients = refl

  simulate_is_asked_for : named (codes "simulate" ∷ codes "--seed" ∷ codes "9" ∷ []) ≡ Some (codes "simulate")
  unfolding clap_on_literals
  simulate_is_asked_for = refl

  clients_are_given : text_of (codes "clients") (codes "simulate" ∷ codes "--steps=7" ∷ []) ≡ Some (codes "8")
  unfolding clap_on_literals
  clients_are_given = refl

  too_many_proxies : faults (codes "simulate" ∷ codes "--proxies" ∷ codes "17" ∷ []) ≡ ValueValidation ∷ []
  unfolding clap_on_literals
  too_many_proxies = refl

  no_words_are_none : faults [] ≡ MissingSubcommand ∷ []
  unfolding clap_on_literals
  no_words_are_none = refl

  another_word_is_none : faults (codes "walk" ∷ []) ≡ UnknownArgument ∷ InvalidSubcommand ∷ []
  unfolding clap_on_literals
  another_word_is_none = refl

  a_word_more_is_none : faults (codes "run" ∷ codes "fast" ∷ []) ≡ UnknownArgument ∷ []
  unfolding clap_on_literals
  a_word_more_is_none = refl

  help_is_none : faults (codes "--help" ∷ []) ≡ DisplayHelp ∷ []
  unfolding clap_on_literals
  help_is_none = refl

  help_on_a_word_is_none : faults (codes "help" ∷ codes "walk" ∷ []) ≡ DisplayHelp ∷ InvalidSubcommand ∷ []
  unfolding clap_on_literals
  help_on_a_word_is_none = refl
