use Rattle.fdb_layers.proofs.PayingLemmas.{both-fit, both-more, payee-there}
use Rattle.fdb_layers.proofs.ReadsLemmas.{read-on}
use Rattle.fdb_layers.proofs.paying.had_by_both.Goals as goal

pub returns-clause-reads : goal.returns-clause-reads
returns-clause-reads g c = read-on c.args.session.now c.had_by.new.session c.had_by-2.new.session
    c.in_ok-payer_had.ensures.reads c.in_ok-payee_had.ensures.reads

pub returns-clause-had : goal.returns-clause-had
returns-clause-had g c = (
  c.in_ok-payer_had.ensures.had,
  payee-there g.B.ClusterName.config.resolver_splits c.args.session.now c.had_by.new.session c.had_by-2.new.session
      c.args.payer c.args.payee c.in_ok-payer_had.payer_had c.in_ok-payee_had.payee_had
      c.in_ok-payer_had.ensures.reads c.in_ok-payee_had.ensures.reads c.in_ok-payer_had.ensures.had
      c.in_ok-payee_had.ensures.had,
)

pub returns-clause-fits : goal.returns-clause-fits
returns-clause-fits g c =
    both-fit g.B.ClusterName.config.resolver_splits c.args.session.now c.had_by.new.session c.had_by-2.new.session
    c.args.payer c.args.payee c.in_ok-payer_had.payer_had c.in_ok-payee_had.payee_had
    c.in_ok-payer_had.ensures.reads c.in_ok-payee_had.ensures.reads c.in_ok-payer_had.ensures.had
    c.in_ok-payee_had.ensures.had c.know_layer.ensures

pub returns-clause-more : goal.returns-clause-more
returns-clause-more g c =
    both-more g.B.ClusterName.config.resolver_splits c.args.session.now c.had_by.new.session c.had_by-2.new.session
    c.args.payer c.args.payee c.in_ok-payer_had.payer_had c.in_ok-payee_had.payee_had
    c.in_ok-payer_had.ensures.reads c.in_ok-payee_had.ensures.reads c.in_ok-payer_had.ensures.had
    c.in_ok-payee_had.ensures.had c.in_ok-payer_had.ensures.more c.in_ok-payee_had.ensures.more
