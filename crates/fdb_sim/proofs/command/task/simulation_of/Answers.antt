use Rattle.std.proofs.Common.{codes, ◌∙◌}
use Rattle.clap.proofs.WalkLemmas.{one_text-rows}
use Rattle.clap.specs.Words.{found_of}
use Rattle.fdb_sim.proofs.lemmas.Options.{reads}
use Rattle.fdb_sim.proofs.command.task.simulation_of.Goals as goal

pub returns : goal.returns
returns c =
    let found = found_of c.args.matches.now in
    record {
      seed = λ text has numeral fits. c.unwrap_or.ensures ∙ reads 64 1 text c.get_one.result
          (c.get_one.ensures.value text (one_text-rows found (codes "seed") ∙ has)) numeral fits;
      steps = c.number_of.ensures;
      clients = c.number_of-2.ensures;
      resolvers = c.number_of-3.ensures;
      proxies = c.number_of-4.ensures;
    }
