use Rattle.std.proofs.Common.{rules}
use Rattle.fdb_machine.specs.machine.Sessions.{open_at}
use Rattle.fdb_machine.proofs.Exports.{open-given}
use Rattle.fdb_roles.proofs.Exports.{answers-fault}
use Rattle.fdb_core.specs.refinement.client.Noting.{note_fault, step_with}
use Rattle.fdb_core.proofs.refinement.StepLemmas.{left}
use Rattle.fdb_core.proofs.refinement.client.Sessions.{note-refused, note-taken, sessions-same}
use Rattle.fdb_core.proofs.cluster.Cluster.note.Goals as goal

pub returns-in_err-note : goal.returns-in_err-note
returns-in_err-note c =
    let k = c.args.self.now in
    let why = c.in_err-note.field-0.0 in
    left k (step_with c.args.session c.args.note) c.from_residual.result _ why (search rules)
    (note-refused k c.args.session c.args.note why _ c.in_err-note.ensures.answers)
    (sessions-same k c.note.new.self c.requires c.in_err-note.ensures.err)

pub returns : goal.returns
returns c =
    let k = c.args.self.now in
    let there = open-given (open_at k.sessions c.args.session) c.in_ok-note.field-0 _ c.in_ok-note.ensures.answers in
    let given = answers-fault (note_fault c.args.note) c.in_ok-note.field-0 _ there.2 in
    note-taken k c.requires c.args.session c.note.new.self c.args.note given.0 (there.0, there.1, given.1)
