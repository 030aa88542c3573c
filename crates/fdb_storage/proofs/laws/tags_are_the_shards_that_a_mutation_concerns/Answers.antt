use Rattle.fdb_storage.proofs.TagLemmas.{tags_are_the_shards}
use Rattle.fdb_storage.proofs.laws.tags_are_the_shards_that_a_mutation_concerns.Goals as goal

pub returns : goal.returns
returns c = tags_are_the_shards
