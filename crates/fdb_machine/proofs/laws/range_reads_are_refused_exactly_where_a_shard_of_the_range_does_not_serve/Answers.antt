use Rattle.fdb_machine.proofs.headline.PromiseLaws.{range_reads_refused}
use Rattle.fdb_machine.proofs.laws.range_reads_are_refused_exactly_where_a_shard_of_the_range_does_not_serve.Goals as
    goal

pub returns : goal.returns
returns c = range_reads_refused
