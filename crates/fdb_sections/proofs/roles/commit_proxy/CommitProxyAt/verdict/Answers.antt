use Rattle.std.proofs.Common.{◌≡◌, length, arith}
use Rattle.fdb_sections.proofs.CommitProxyLemmas.{same-length, takes-verdicts-or-stays, verdict-answers}
use Rattle.fdb_sections.proofs.roles.commit_proxy.CommitProxyAt.verdict.Goals as goal

pub invariant_of-self : goal.invariant_of-self
invariant_of-self g c =
    let count : length c.message.inside.front ≡ length c.self.inside.front =
    omega (arith, c.if-len.false, c.len.ensures, c.len-2.ensures) in
    takes-verdicts-or-stays g.B.DatabaseName.config c.self.inside.front c.self.inside.conflicts c.self.inside.state
    c.verdict.new.self (record { front = c.message.inside.front; verdicts = c.message.inside.verdicts })
    c.verdict.result c.self.invariant c.message.invariant
    (same-length c.self.inside.front c.message.inside.front count
    (c.know_one_book.ensures.shorter (omega (arith, count)))) c.verdict.ensures.answers c.verdict.ensures.refused

pub returns-clause-answers : goal.returns-clause-answers
returns-clause-answers g c =
    let count : length c.message.inside.front ≡ length c.self.inside.front =
    omega (arith, c.if-len.false, c.len.ensures, c.len-2.ensures) in
    verdict-answers
    (record {
      front = c.self.inside.front;
      state = c.self.inside.state;
      conflicts = c.self.inside.conflicts;
    })
    c.args.self.now
    (record { front = c.message.inside.front; verdicts = c.message.inside.verdicts }) c.args.message
    c.verdict.new.self.proxy c.verdict.result c.self.view_is c.message.view_is count c.verdict.ensures.answers
