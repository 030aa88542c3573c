use Rattle.fdb_layers.proofs.UnwrittenLemmas.{given-are}
use Rattle.fdb_layers.proofs.operations.read_range.Goals as goal

pub returns-clause-pairs : goal.returns-clause-pairs
returns-clause-pairs g c = given-are g.B.ClusterName.config.resolver_splits c.args.range.now c.args.session.now
    c.get_range.new.self c.all.result c.all.ensures c.get_range.result c.get_range.ensures.answered
