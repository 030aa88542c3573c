use Rattle.std.specs.FinMap.{get}
use Rattle.fdb_layers.specs.Accounts.{account_key}
use Rattle.fdb_layers.specs.Reads.{run_read}
use Rattle.fdb_layers.proofs.PayingLemmas.{settled}
use Rattle.fdb_layers.proofs.ReadsLemmas.{unread, untouched-unwritten}
use Rattle.fdb_layers.proofs.paying.PayWorkTransfers.run.Goals as goal

pub had_by_both-requires : goal.had_by_both-requires
had_by_both-requires g c = record { unwritten = untouched-unwritten c.args.session.now.current c.requires.begun }

pub settle-requires-clause-open : goal.settle-requires-clause-open
settle-requires-clause-open g c =
    (unread c.had_by_both.new.session c.in_ok-had.ensures.reads.unwritten).still_open

pub returns-clause-allowed : goal.returns-clause-allowed
returns-clause-allowed g c =
    let map = run_read g.B.ClusterName.config.resolver_splits c.args.session.now in
    let pay = c.args.self.now in
    (settled pay.payer pay.payee pay.amount c.in_ok-had.had.0 c.in_ok-had.had.1 (get map (account_key pay.payer))
    (get map (account_key pay.payee)) c.args.session.now.current c.had_by_both.new.session.current
    c.settle.new.session.current c.in_ok-self.field-0 c.requires.begun c.in_ok-had.ensures.had
    c.in_ok-had.ensures.fits c.in_ok-had.ensures.more c.in_ok-self.ensures.settles).1

pub returns-clause-done : goal.returns-clause-done
returns-clause-done g c =
    let map = run_read g.B.ClusterName.config.resolver_splits c.args.session.now in
    let pay = c.args.self.now in
    (settled pay.payer pay.payee pay.amount c.in_ok-had.had.0 c.in_ok-had.had.1 (get map (account_key pay.payer))
    (get map (account_key pay.payee)) c.args.session.now.current c.had_by_both.new.session.current
    c.settle.new.session.current c.in_ok-self.field-0 c.requires.begun c.in_ok-had.ensures.had
    c.in_ok-had.ensures.fits c.in_ok-had.ensures.more c.in_ok-self.ensures.settles).0
