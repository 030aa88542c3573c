use Rattle.std.proofs.Common.{◌∙◌}
use Rattle.fdb_client.specs.Programs.{program}
use Rattle.fdb_client.proofs.TxnStateLemmas.{left_at-decides}
use Rattle.fdb_client.proofs.txn_state.TxnState.decides.Goals as goal

pub returns : goal.returns
returns c =
    let now = c.args.self.now in
    c.decides.ensures ∙ left_at-decides (program now.transcript.ops) now.own now.writes c.requires.written
    c.args.key.now
