use Rattle.std.proofs.Common.{◌≡◌, rules, Err}
use Rattle.fdb_sections.proofs.ReadingLemmas.{open-ran-out, read-refused, shard-fault}
use Rattle.fdb_sections.proofs.session_state.SessionState.get_at.Goals as goal

pub returns-in_err-version-clause-fault : goal.returns-in_err-version-clause-fault
returns-in_err-version-clause-fault g c =
    let same : c.from_residual.result ≡ Err c.in_err-version.field-0.0 = search rules in
    rw same (open-ran-out _ c.args.self.now.current c.in_err-version.field-0.0 _ c.in_err-version.ensures.answers)

pub returns-clause-fault : goal.returns-clause-fault
returns-clause-fault g c =
    read-refused c.args.self.now.current c.get.result _ _ _
    (shard-fault c.args.self.now.current c.args.at.now c.new-view.result c.args.self.now.front
    (c.in_ok-version.version, c.in_ok-version.front) c.args.key.now c.new-view.ensures c.in_ok-version.ensures.answers)
    c.get.ensures.answers
