use Rattle.std.proofs.Common.{◌≡◌, refl, rules}
use Rattle.fdb_client.specs.declared.program.Op.TheVariants as operation
use Rattle.fdb_client.specs.declared.program.Reply.TheVariants as answer
use Rattle.fdb_client.proofs.TxnStateLemmas.{are-push}
use Rattle.fdb_client.proofs.txn_state.TxnState.add_write.Goals as goal

pub returns-clause-kept : goal.returns-clause-kept
returns-clause-kept c =
    let old = c.args.self.now in
    let range = c.args.range.now in
    let same : c.in_ok-noted.noted ≡ range = search rules in
    rw (c.in_ok-push.ensures.ok, same) (are-push old.transcript.ops (operation.AddWrite range, answer.Done) old.own
    old.own old.reads old.writes old.reads c.add.new.self old.mutates old.mutates old.stamps
    old.stamps c.requires (λ x. refl)
    c.requires.written.legal_keys c.requires.written.cleared_decided refl c.in_default.ensures.answers
    c.requires.unless_mutates c.requires.unless_stamps c.requires.legal)
