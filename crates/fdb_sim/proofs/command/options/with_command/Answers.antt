use Rattle.clap.proofs.SimpleLemmas.{plain_fields}
use Rattle.fdb_sim.proofs.command.options.with_command.Goals as goal

pub returns-clause-ok : goal.returns-clause-ok
returns-clause-ok c = c.in_ok-subcommand.ensures.shape (plain_fields c.args.below c.requires).globals
