use Rattle.std.proofs.Common.{◌≡◌, subst, List, None}
use Rattle.fdb_keys.specs.Answers.{Answers}
use Rattle.fdb_txn.specs.book.Transactions.{Transaction}
use Rattle.fdb_proxy.specs.CommitProxies.{ProxyWithRoom}
use Rattle.fdb_proxy.specs.Logging.{messages_by}
use Rattle.fdb_proxy.proofs.commit_core.CommitCore.messages_by.Goals as goal

pub returns : goal.returns
returns c =
    subst (λ (core : ProxyWithRoom). Answers c.messages.result None (λ messages. messages
    ≡ messages_by core.proxy.shard_splits core.proxy.logs core.proxy.batch c.args.decided.now)) c.self.view_is
    (subst (λ (batch : List Transaction). Answers c.messages.result None (λ messages. messages
    ≡ messages_by c.self.inside.shards c.self.inside.logs batch c.args.decided.now)) c.batch-batch.ensures.value
    c.messages.ensures)
