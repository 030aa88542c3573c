use Rattle.std.proofs.Common.{ap, codes, ◌∙◌}
use Rattle.std.specs.Option.{option_map_or}
use Rattle.clap.proofs.WalkLemmas.{first_value-rows, one_text-rows}
use Rattle.clap.specs.Words.{found_of}
use Rattle.fdb_load.specs.declared.workload.Workload.TheVariants.{Ring}
use Rattle.fdb_sim.specs.command.Tasks.{workload_called}
use Rattle.fdb_sim.proofs.command.task.load_of.Goals as goal

pub returns : goal.returns
returns c =
    let found = found_of c.args.matches.now in
    record {
      clients = c.number_of.ensures;
      txns = c.number_of-2.ensures;
      resolvers = c.number_of-3.ensures;
      proxies = c.number_of-4.ensures;
      workload = c.workload_of.ensures
          ∙ ap (λ name. option_map_or workload_called name Ring) (first_value-rows found (codes "workload"));
      progress = (
        λ has. c.get_flag.ensures.value (one_text-rows found (codes "progress") ∙ has),
        λ has. c.get_flag.ensures.other (one_text-rows found (codes "progress") ∙ has),
      );
    }
