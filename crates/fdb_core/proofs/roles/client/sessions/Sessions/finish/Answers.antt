use Rattle.std.proofs.Common.{refl, rules}
use Rattle.fdb_machine.proofs.Exports.{of-open, given-follows, refused-follows, open-none, open-known, state-put}
use Rattle.fdb_machine.proofs.Exports.{state-kept}
use Rattle.fdb_core.proofs.roles.client.sessions.Sessions.finish.Goals as goal

pub returns-in_default-clause-answers : goal.returns-in_default-clause-answers
returns-in_default-clause-answers c = rw (open-none c.self.inside.by_number.entries c.args.self.now c.args.session
    c.self.view_is c.in_default.ensures.value) refl

pub returns-clause-answers : goal.returns-clause-answers
returns-clause-answers c =
    of-open _ _ c.finish.result _ _
    (open-known c.self.inside.by_number.entries c.args.self.now c.args.session c.self.view_is c.in-Some.known.now
    c.in-Some.ensures.value)
    (λ transcript is. is) c.finish.ensures.answers

pub returns-clause-ok : goal.returns-clause-ok
returns-clause-ok c =
    let new = c.finish.new.self in
    given-follows c.finish.result _ _ (state-put c.self.inside.by_number.entries c.args.self.now c.args.session
    c.self.view_is c.in-Some.known.now c.in-Some.ensures.value (c.get_mut.follows.lender new).entries new _
    ((c.get_mut.follows.holds new).3 (search rules)).0)
    c.finish.ensures.ok

pub returns-clause-err : goal.returns-clause-err
returns-clause-err c =
    let new = c.finish.new.self in
    refused-follows c.finish.result _ _ (state-kept c.self.inside.by_number.entries c.args.self.now c.args.session
    c.self.view_is c.in-Some.known.now c.in-Some.ensures.value (c.get_mut.follows.lender new).entries new
    (c.get_mut.follows.holds new).0)
    c.finish.ensures.err
