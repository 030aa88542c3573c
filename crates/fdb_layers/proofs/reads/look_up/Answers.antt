use Rattle.fdb_layers.proofs.ReadsLemmas.{value-is, value-more, value-only-read}
use Rattle.fdb_layers.proofs.reads.look_up.Goals as goal

pub returns-clause-reads : goal.returns-clause-reads
returns-clause-reads g c = value-only-read g.B.ClusterName.config.resolver_splits c.args.session.now c.get.new.self
    c.args.key.now c.in_ok-value.value c.requires.unwritten c.in_ok-value.ensures.answered

pub returns-clause-value : goal.returns-clause-value
returns-clause-value g c = value-is g.B.ClusterName.config.resolver_splits c.args.session.now c.get.new.self
    c.args.key.now c.in_ok-value.value c.requires.unwritten c.in_ok-value.ensures.answered

pub returns-clause-more : goal.returns-clause-more
returns-clause-more g c = value-more g.B.ClusterName.config.resolver_splits c.args.session.now c.get.new.self
    c.args.key.now c.in_ok-value.value c.requires.unwritten c.in_ok-value.ensures.answered
