use Rattle.std.proofs.Common.{refl, rules}
use Rattle.fdb_machine.proofs.Exports.{of-open, answers-follow, refused-follows, open-none, open-known, state-put}
use Rattle.fdb_machine.proofs.Exports.{state-kept}
use Rattle.fdb_core.proofs.roles.client.sessions.Sessions.note.Goals as goal

pub returns-in_default-clause-answers : goal.returns-in_default-clause-answers
returns-in_default-clause-answers c = rw (open-none c.self.inside.by_number.entries c.args.self.now c.args.session
    c.self.view_is c.in_default.ensures.value) refl

pub returns-clause-answers : goal.returns-clause-answers
returns-clause-answers c =
    let pairs = c.self.inside.by_number.entries in
    let known = c.in-Some.known.now in
    let new = c.note.new.self in
    of-open _ _ c.note.result _ _
    (open-known pairs c.args.self.now c.args.session c.self.view_is known c.in-Some.ensures.value)
    (λ transcript. answers-follow c.note.result _ _ _ (λ given changed.
    state-put pairs c.args.self.now c.args.session c.self.view_is known c.in-Some.ensures.value
    (c.get_mut.follows.lender new).entries new _ ((c.get_mut.follows.holds new).3 (search rules)).0 changed))
    c.note.ensures.answers

pub returns-clause-err : goal.returns-clause-err
returns-clause-err c =
    let new = c.note.new.self in
    refused-follows c.note.result _ _ (state-kept c.self.inside.by_number.entries c.args.self.now c.args.session
    c.self.view_is c.in-Some.known.now c.in-Some.ensures.value (c.get_mut.follows.lender new).entries new
    (c.get_mut.follows.holds new).0)
    c.note.ensures.err
