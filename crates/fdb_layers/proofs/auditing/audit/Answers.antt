use Rattle.std.proofs.Common.{◌∙◌, ◌+◌, arith}
use Rattle.fdb_layers.proofs.AuditingLemmas.{audited, reader-allowed, sum-there}
use Rattle.fdb_layers.proofs.ReadsLemmas.{untouched-unwritten}
use Rattle.fdb_layers.proofs.auditing.audit.Goals as goal

pub walk-requires-clause-unwritten : goal.walk-requires-clause-unwritten
walk-requires-clause-unwritten g c = untouched-unwritten c.args.session.now.current c.requires.begun

pub sum-requires : goal.sum-requires
sum-requires g c = omega (
  arith,
  (audited g.B.ClusterName.config.resolver_splits c.args.session.now c.walk.new.session
      c.in_ok-amounts.amounts c.in_ok-amounts.ensures.reads c.in_ok-amounts.ensures.amounts c.know_layer.ensures).1,
)

pub returns-clause-sum : goal.returns-clause-sum
returns-clause-sum g c =
    let splits = g.B.ClusterName.config.resolver_splits in
    let old = c.args.session.now in
    let amounts = c.in_ok-amounts.amounts in
    sum-there splits old.front old.current c.sum.result (amounts.ann + amounts.bob + amounts.cid) c.sum.ensures
    (audited splits old c.walk.new.session amounts c.in_ok-amounts.ensures.reads c.in_ok-amounts.ensures.amounts
    c.know_layer.ensures).0

pub returns-clause-stays : goal.returns-clause-stays
returns-clause-stays g c = c.sum.ensures
    ∙ (audited g.B.ClusterName.config.resolver_splits c.args.session.now c.walk.new.session c.in_ok-amounts.amounts
    c.in_ok-amounts.ensures.reads c.in_ok-amounts.ensures.amounts c.know_layer.ensures).1

pub returns-clause-allowed : goal.returns-clause-allowed
returns-clause-allowed g c =
    reader-allowed c.walk.new.session.current c.in_ok-amounts.ensures.reads.unwritten
