use Rattle.fdb_play.proofs.lemmas.Acts.{range_unmade}
use Rattle.fdb_play.proofs.random.acts.range_of.Goals as goal

pub returns : goal.returns
returns c = range_unmade c.text_of.result.now c.text_of-2.result.now c.new.result _ c.new.ensures
