use Rattle.std.proofs.Common.{◌≡◌, ◌∙◌, sym, ap, subst, inl, ℕ, ◌-◌, List, Some, Err, arith}
use Rattle.std.proofs.lemmas.Bool.{eq-eqb}
use Rattle.std.proofs.lemmas.Result.{err_from_is_err_and}
use Rattle.fdb_keys.specs.declared.refusal.Refusal.{Refusal}
use Rattle.fdb_txn.specs.declared.entry.Entry.{Entry}
use Rattle.fdb_proxy.specs.CommitProxies.{CommitProxy, with_verdict}
use Rattle.fdb_roles.proofs.Exports.{given-fault, refused-fault}
use Rattle.fdb_sections.specs.Asking.{HasAsked}
use Rattle.fdb_sections.specs.CommitMachines.{CommitMachine}
use Rattle.fdb_sections.specs.CommitProxiesAtFronts.{CommitProxyAtFront, verdict_fault}
use Rattle.fdb_sections.proofs.AskedProxyLemmas.{verdict-late, verdict-last, verdict-why}
use Rattle.fdb_sections.proofs.machines.commit_proxy.CommitMachine.verdict.Goals as goal

pub invariant_of-self : goal.invariant_of-self
invariant_of-self g c =
    subst (HasAsked g.B.DatabaseName.allows g.B.DatabaseName.config.resolver_splits c.self.inside.asked)
    (sym (ap (λ (at : CommitProxyAtFront). at.state.proxy) c.in_err-verdict.ensures.refused)) c.self.invariant

pub returns-in_err-verdict-clause-late : goal.returns-in_err-verdict-clause-late
returns-in_err-verdict-clause-late g c =
    let seen : List Entry → CommitProxy → ℕ → CommitMachine g.row.B.Denot g.row.W.Denot = λ front proxy left. record {
      front = front;
      proxy = proxy;
      resolvers = c.self.inside.resolvers;
      logs = c.self.inside.logs;
      phase = c.self.inside.phase;
      left = left;
      waiting = c.self.inside.waiting.items;
      entered = c.self.inside.entered;
      parts = c.self.inside.parts.items;
      messages = c.self.inside.messages.items;
      replies = c.self.inside.replies.items;
      full = c.self.inside.full;
    } in
    let own = seen c.self.inside.at.front c.self.inside.at.state.proxy c.self.inside.left in
    let why = c.in_err-verdict.field-0.0 in
    let left = err_from_is_err_and c.from_residual.result c.from_residual.ensures.1 in
    verdict-late c.from_residual.result own c.args.self.now c.self.view_is c.args.message why
    (seen c.verdict.new.self.front c.verdict.new.self.state.proxy c.self.inside.left)
    (ap (λ (at : CommitProxyAtFront). seen at.front at.state.proxy c.self.inside.left) c.in_err-verdict.ensures.refused)
    (left.1 ∙ ap (λ (because : Refusal). Err because) left.2)
    (refused-fault (verdict_fault c.self.inside.at.front c.self.inside.at.state.proxy c.args.message) why _
    c.in_err-verdict.ensures.answers)

pub returns-in_err-verdict-clause-why : goal.returns-in_err-verdict-clause-why
returns-in_err-verdict-clause-why g c =
    let why = c.in_err-verdict.field-0.0 in
    let left = err_from_is_err_and c.from_residual.result c.from_residual.ensures.1 in
    rw (left.1, left.2)
    (inl (subst (λ (it : CommitMachine g.row.B.Denot g.row.W.Denot).
    verdict_fault it.front it.proxy c.args.message ≡ Some why) c.self.view_is
    (refused-fault (verdict_fault c.self.inside.at.front c.self.inside.at.state.proxy c.args.message) why _
    c.in_err-verdict.ensures.answers)))

pub invariant_of-self-then-self-gt0 : goal.invariant_of-self-then-self-gt0
invariant_of-self-then-self-gt0 g c =
    let p = c.self.inside.at.state.proxy in
    let takes = given-fault (verdict_fault c.self.inside.at.front p c.args.message) c.in_ok-verdict.field-0
    (λ _. c.verdict.new.self.state.proxy ≡ with_verdict p c.args.message.verdicts) c.in_ok-verdict.ensures.answers in
    subst (HasAsked g.B.DatabaseName.allows g.B.DatabaseName.config.resolver_splits c.self.inside.asked) (sym takes.1)
    c.self.invariant

pub invariant_of-self-2 : goal.invariant_of-self-2
invariant_of-self-2 g c =
    let p = c.self.inside.at.state.proxy in
    let takes = given-fault (verdict_fault c.self.inside.at.front p c.args.message) c.in_ok-verdict.field-0
    (λ _. c.verdict.new.self.state.proxy ≡ with_verdict p c.args.message.verdicts) c.in_ok-verdict.ensures.answers in
    subst (HasAsked g.B.DatabaseName.allows g.B.DatabaseName.config.resolver_splits c.self.inside.asked) (sym takes.1)
    c.self.invariant

pub returns-clause-taken : goal.returns-clause-taken
returns-clause-taken g c =
    let seen : List Entry → CommitProxy → ℕ → CommitMachine g.row.B.Denot g.row.W.Denot = λ front proxy left. record {
      front = front;
      proxy = proxy;
      resolvers = c.self.inside.resolvers;
      logs = c.self.inside.logs;
      phase = c.self.inside.phase;
      left = left;
      waiting = c.self.inside.waiting.items;
      entered = c.self.inside.entered;
      parts = c.self.inside.parts.items;
      messages = c.self.inside.messages.items;
      replies = c.self.inside.replies.items;
      full = c.self.inside.full;
    } in
    let own = seen c.self.inside.at.front c.self.inside.at.state.proxy c.self.inside.left in
    let p = c.self.inside.at.state.proxy in
    let takes = given-fault (verdict_fault c.self.inside.at.front p c.args.message) c.in_ok-verdict.field-0
    (λ _. c.verdict.new.self.state.proxy ≡ with_verdict p c.args.message.verdicts) c.in_ok-verdict.ensures.answers in
    let left = c.saturating_sub-self-inside.result in
    let left-is : left ≡ c.self.inside.left - 1 = c.saturating_sub-self-inside.ensures in
    verdict-last c.decide.result own c.args.self.now c.self.view_is c.args.message
    (seen c.verdict.new.self.front c.verdict.new.self.state.proxy left) c.decide.new.self
    (ap (λ (front : List Entry). seen front c.verdict.new.self.state.proxy left) c.in_ok-verdict.ensures.front
    ∙ ap (λ (proxy : CommitProxy). seen c.self.inside.at.front proxy left) takes.1
    ∙ ap (λ (n : ℕ). seen c.self.inside.at.front (with_verdict p c.args.message.verdicts) n) left-is)
    (eq-eqb (c.self.inside.left - 1) 0 (let none = c.if-self-gt0.false in omega (arith, none, left-is)))
    c.decide.ensures.taken

pub returns-clause-why : goal.returns-clause-why
returns-clause-why g c =
    let seen : List Entry → CommitProxy → ℕ → CommitMachine g.row.B.Denot g.row.W.Denot = λ front proxy left. record {
      front = front;
      proxy = proxy;
      resolvers = c.self.inside.resolvers;
      logs = c.self.inside.logs;
      phase = c.self.inside.phase;
      left = left;
      waiting = c.self.inside.waiting.items;
      entered = c.self.inside.entered;
      parts = c.self.inside.parts.items;
      messages = c.self.inside.messages.items;
      replies = c.self.inside.replies.items;
      full = c.self.inside.full;
    } in
    let own = seen c.self.inside.at.front c.self.inside.at.state.proxy c.self.inside.left in
    let p = c.self.inside.at.state.proxy in
    let takes = given-fault (verdict_fault c.self.inside.at.front p c.args.message) c.in_ok-verdict.field-0
    (λ _. c.verdict.new.self.state.proxy ≡ with_verdict p c.args.message.verdicts) c.in_ok-verdict.ensures.answers in
    verdict-why c.decide.result own c.args.self.now c.self.view_is c.args.message c.verdict.new.self.state.proxy takes.1
    c.decide.ensures.why
