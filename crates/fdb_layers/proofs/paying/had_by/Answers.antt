use Rattle.fdb_layers.specs.Accounts.{account_key}
use Rattle.fdb_layers.specs.Reads.{run_read}
use Rattle.fdb_layers.proofs.PayingLemmas.{had-is, had-more}
use Rattle.fdb_layers.proofs.paying.had_by.Goals as goal

pub returns-clause-had : goal.returns-clause-had
returns-clause-had g c =
    had-is c.in_ok-key.key (account_key c.args.account) c.in_ok-key.ensures c.args.session.now.current
    c.look_up.new.session.current (run_read g.B.ClusterName.config.resolver_splits c.args.session.now)
    c.in_ok-had.had c.amount_at.result c.in_ok-had.ensures.value c.amount_at.ensures

pub returns-clause-more : goal.returns-clause-more
returns-clause-more g c =
    had-more c.in_ok-key.key (account_key c.args.account) c.in_ok-key.ensures c.args.session.now.current
    c.look_up.new.session.current (run_read g.B.ClusterName.config.resolver_splits c.args.session.now)
    c.in_ok-had.had c.in_ok-had.ensures.value c.in_ok-had.ensures.more
