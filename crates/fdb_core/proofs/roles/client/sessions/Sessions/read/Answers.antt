use Rattle.std.proofs.Common.{refl, rules}
use Rattle.fdb_machine.proofs.Exports.{of-open, answers-follow, refused-follows, some-follows, open-none, open-known}
use Rattle.fdb_machine.proofs.Exports.{state-put, state-kept}
use Rattle.fdb_core.proofs.roles.client.sessions.Sessions.read.Goals as goal

pub read-requires : goal.read-requires
read-requires g c = some-follows _ _ _
    (open-known c.self.inside.by_number.entries c.args.self.now c.args.session c.self.view_is c.in-Some.known.now
    c.in-Some.ensures.value) c.requires

pub returns-in_default-clause-answers : goal.returns-in_default-clause-answers
returns-in_default-clause-answers g c = rw (open-none c.self.inside.by_number.entries c.args.self.now c.args.session
    c.self.view_is c.in_default.ensures.value) refl

pub returns-clause-answers : goal.returns-clause-answers
returns-clause-answers g c =
    let pairs = c.self.inside.by_number.entries in
    let known = c.in-Some.known.now in
    let new = c.read.new.self in
    of-open _ _ c.read.result _ _
    (open-known pairs c.args.self.now c.args.session c.self.view_is known c.in-Some.ensures.value)
    (λ transcript. answers-follow c.read.result _ _ _ (λ given changed. (
      changed.0,
      state-put pairs c.args.self.now c.args.session c.self.view_is known c.in-Some.ensures.value
          (c.get_mut.follows.lender new).entries new _ ((c.get_mut.follows.holds new).3 (search rules)).0 changed.1,
    )))
    c.read.ensures.answers

pub returns-clause-err : goal.returns-clause-err
returns-clause-err g c =
    let new = c.read.new.self in
    refused-follows c.read.result _ _ (state-kept c.self.inside.by_number.entries c.args.self.now c.args.session
    c.self.view_is c.in-Some.known.now c.in-Some.ensures.value (c.get_mut.follows.lender new).entries new
    (c.get_mut.follows.holds new).0)
    c.read.ensures.err
