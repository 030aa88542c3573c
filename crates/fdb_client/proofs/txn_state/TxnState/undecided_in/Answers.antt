use Rattle.fdb_client.specs.Programs.{program}
use Rattle.fdb_client.proofs.FaultLemmas.{with_both}
use Rattle.fdb_client.proofs.TxnStateLemmas.{undecided-outside}
use Rattle.fdb_client.proofs.txn_state.TxnState.undecided_in.Goals as goal

pub returns : goal.returns
returns c =
    let now = c.args.self.now in
    with_both c.undecided_in.result _ _ _
    (undecided-outside (program now.transcript.ops) now.own now.writes c.requires.written c.args.range.now)
    c.undecided_in.ensures.answers c.undecided_in.ensures.apart
