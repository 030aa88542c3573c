use Rattle.fdb_play.proofs.lemmas.Acts.{key_unmade}
use Rattle.fdb_play.proofs.random.acts.key_of.Goals as goal

pub returns : goal.returns
returns c = key_unmade c.text_of.result.now c.new.result _ c.new.ensures
