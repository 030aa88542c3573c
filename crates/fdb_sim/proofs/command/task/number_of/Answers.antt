use Rattle.std.proofs.Common.{◌∙◌}
use Rattle.clap.proofs.WalkLemmas.{one_text-rows}
use Rattle.clap.specs.Words.{found_of}
use Rattle.fdb_sim.proofs.lemmas.Options.{reads}
use Rattle.fdb_sim.proofs.command.task.number_of.Goals as goal

pub returns : goal.returns
returns c = λ text has numeral fits. c.unwrap_or.ensures ∙ reads 32 1 text c.get_one.result
    (c.get_one.ensures.value text (one_text-rows (found_of c.args.matches.now) c.args.name.now ∙ has)) numeral fits
