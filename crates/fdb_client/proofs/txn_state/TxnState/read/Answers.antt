use Rattle.fdb_client.specs.Programs.{program}
use Rattle.fdb_client.proofs.TxnStateLemmas.{left_at-decides, left_at-unreadable, left_at-value}
use Rattle.fdb_client.proofs.txn_state.TxnState.read.Goals as goal

pub returns-clause-value : goal.returns-clause-value
returns-clause-value g c =
    let now = c.args.self.now in
    let decides = left_at-decides (program now.transcript.ops) now.own now.writes c.requires.written
    c.args.key.now in
    let value = left_at-value (program now.transcript.ops) now.own now.writes c.requires.written
    c.args.key.now (g.S.Snapshot.map c.args.snapshot.now) in
    let unreadable = left_at-unreadable (program now.transcript.ops) now.own now.writes c.requires.written
    c.args.key.now in
    rw unreadable at (rw decides at (rw value at c.readable_value_of.ensures.value))

pub returns-clause-decided : goal.returns-clause-decided
returns-clause-decided g c =
    let now = c.args.self.now in
    let decides = left_at-decides (program now.transcript.ops) now.own now.writes c.requires.written
    c.args.key.now in
    rw decides at c.readable_value_of.ensures.decided
