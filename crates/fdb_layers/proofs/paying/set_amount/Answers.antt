use Rattle.std.proofs.Common.{◌≡◌, rules}
use Rattle.std.specs.Int.{to_le_bytes, w64}
use Rattle.fdb_layers.specs.Accounts.{account_key}
use Rattle.fdb_layers.proofs.DoingLemmas.{on-ok}
use Rattle.fdb_layers.proofs.PayingLemmas.{set-more}
use Rattle.fdb_layers.proofs.paying.set_amount.Goals as goal

pub returns-clause-sets : goal.returns-clause-sets
returns-clause-sets g c =
    let bytes : c.to_le_bytes.result ≡ to_le_bytes w64 c.args.amount = search rules in
    on-ok c.set.result _ _
    (set-more c.in_ok-key.key (account_key c.args.account) c.in_ok-key.ensures c.args.session.now.current
    c.set.new.session.current c.to_le_bytes.result (to_le_bytes w64 c.args.amount) bytes)
    c.set.ensures.sets
