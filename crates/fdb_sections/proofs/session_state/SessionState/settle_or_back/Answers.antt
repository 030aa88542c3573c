use Rattle.std.proofs.Common.{inl}
use Rattle.fdb_sections.proofs.CommitLemmas.{turned-back}
use Rattle.fdb_sections.proofs.session_state.SessionState.settle_or_back.Goals as goal

pub returns-in-Err-clause-ends : goal.returns-in-Err-clause-ends
returns-in-Err-clause-ends g c =
    inl (turned-back g.B.DatabaseName.config c.args.self.now c.settle.new.self c.args.message
    c.args.submitted.transaction c.in-Err.refused c.conflict_of.result c.requires.none c.in-Err.ensures.begins
    c.in-Err.ensures.answers c.in-Err.ensures.turned c.conflict_of.ensures.conflicts c.conflict_of.ensures.nowhere)
