use Rattle.std.proofs.Common.{rules}
use Rattle.fdb_machine.proofs.Exports.{state-put, acted-there}
use Rattle.fdb_core.proofs.roles.client.sessions.Sessions.tell.Goals as goal

-- the session has an entry
pub returns-in_default : goal.returns-in_default
returns-in_default c = absurd (acted-there c.self.inside.by_number.entries c.args.self.now
    c.args.transcript.now.id.session c.self.view_is c.requires c.in_default.ensures.value)

pub returns : goal.returns
returns c =
    let new = c.end.new.self in
    state-put c.self.inside.by_number.entries c.args.self.now c.args.transcript.now.id.session
    c.self.view_is c.in-Some.known.now c.in-Some.ensures.value (c.get_mut.follows.lender new).entries new _
    ((c.get_mut.follows.holds new).3 (search rules)).0 c.end.ensures
