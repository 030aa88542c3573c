use Rattle.std.proofs.Common.{◌≡◌, refl, rules, true, ◌||◌}
use Rattle.fdb_client.specs.declared.program.Op.TheVariants as operation
use Rattle.fdb_client.specs.declared.program.Reply.TheVariants as answer
use Rattle.fdb_mutations.specs.Stamping.{is_stamped}
use Rattle.fdb_client.specs.Programs.{mutations_of, program}
use Rattle.fdb_client.specs.Unreadable.{stamped_keys}
use Rattle.fdb_client.proofs.TxnStateLemmas.{are-push, legal-push, pushed-not-empty, stamps-push}
use Rattle.fdb_client.proofs.txn_state.TxnState.write.Goals as goal

pub returns-clause-kept : goal.returns-clause-kept
returns-clause-kept c =
    let old = c.args.self.now in
    let mutation = c.args.mutation.now in
    let mutations = mutations_of (program old.transcript.ops) in
    let stamps : c.if-self.self ≡ (old.stamps || is_stamped mutation) = search rules in
    rw (c.in_ok-push_write.ensures.answers, c.hold.ensures, stamps)
    (are-push old.transcript.ops (operation.Write mutation, answer.Done) old.own
    c.buffer.new.own old.reads old.writes old.reads c.buffer.new.writes old.mutates true old.stamps
    (old.stamps || is_stamped mutation) c.requires.kept
    c.in_default.ensures.kept c.in_default.ensures.legal_keys c.in_default.ensures.cleared refl
    c.in_default.ensures.writes (pushed-not-empty mutations mutation)
    (stamps-push mutation (stamped_keys (program old.transcript.ops)) old.stamps c.requires.kept.unless_stamps)
    (legal-push mutations mutation c.requires.kept.legal c.requires.legal))
