use Rattle.std.proofs.Common.{sym}
use Rattle.fdb_client.proofs.TxnStateLemmas.{are-noted}
use Rattle.fdb_client.proofs.txn_state.TxnState.note.Goals as goal

pub returns-clause-kept : goal.returns-clause-kept
returns-clause-kept c =
    let old = c.args.self.now in
    rw c.in_ok-push.ensures.ok (are-noted old.transcript.ops c.args.done old.own old.reads old.writes old.reads
    old.mutates old.stamps c.requires.kept c.requires.unwritten (sym c.requires.unread))
