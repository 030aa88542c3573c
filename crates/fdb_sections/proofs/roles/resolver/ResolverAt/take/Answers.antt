use Rattle.std.proofs.Common.{sym, subst, List}
use Rattle.std.proofs.lemmas.Result.{err_from_is_err_and}
use Rattle.fdb_txn.specs.declared.entry.Entry.{Entry}
use Rattle.fdb_resolver.specs.Resolvers.{part_fault, IsAnswer}
use Rattle.fdb_roles.proofs.Exports.{answers-fault, given-fault}
use Rattle.fdb_sections.specs.Messages.{AreLastVerdicts}
use Rattle.fdb_sections.specs.Turns.{front_fault, HasOneMore}
use Rattle.fdb_sections.proofs.TurnLemmas.{where-refused}
use Rattle.fdb_sections.proofs.ResolverLemmas.{sent-part, stays, takes-own, says, is-there, IsThere}
use Rattle.fdb_sections.proofs.ResolverLemmas.{refused-take, left-by-take}
use Rattle.fdb_sections.proofs.roles.resolver.ResolverAt.take.Goals as goal

pub take-requires : goal.take-requires
take-requires g c =
    sent-part g.B.DatabaseName.config.resolver_splits _ c.message.invariant c.check_next.ensures.entries

pub invariant_of-self : goal.invariant_of-self
invariant_of-self g c =
    (stays g.B.DatabaseName.config.resolver_splits c.self.inside.front c.self.inside.state c.take.new.self
    (part_fault c.self.inside.state c.message.inside.part) c.in_err-verdicts.ensures.refused
    c.in_err-verdicts.ensures.failed c.self.invariant).0

pub returns-in_err-verdicts-clause-answers : goal.returns-in_err-verdicts-clause-answers
returns-in_err-verdicts-clause-answers g c =
    let next = given-fault (front_fault c.self.inside.front c.message.inside.front) _
    (λ _. HasOneMore c.self.inside.front c.message.inside.front) c.in_ok-check_next.ensures.answers in
    let left = err_from_is_err_and c.from_residual-in_err-verdicts.result c.from_residual-in_err-verdicts.ensures.1 in
    rw (left.1, left.2)
    (refused-take (record { front = c.self.inside.front; state = c.self.inside.state }) c.args.self.now c.self.view_is
    (record { front = c.message.inside.front; part = c.message.inside.part }) c.args.message.now
    c.in_err-verdicts.field-0.0 _ c.message.view_is next.0 c.in_err-verdicts.ensures.answers)

pub returns-in_err-verdicts-clause-refused : goal.returns-in_err-verdicts-clause-refused
returns-in_err-verdicts-clause-refused g c =
    where-refused c.from_residual-in_err-verdicts.result _
    (left-by-take (record { front = c.self.inside.front; state = c.self.inside.state }) c.args.self.now c.self.view_is
    c.take.new.self
    (stays g.B.DatabaseName.config.resolver_splits c.self.inside.front c.self.inside.state c.take.new.self
    (part_fault c.self.inside.state c.message.inside.part) c.in_err-verdicts.ensures.refused
    c.in_err-verdicts.ensures.failed c.self.invariant).1)

pub invariant_of-result : goal.invariant_of-result
invariant_of-result g c =
    let splits = g.B.DatabaseName.config.resolver_splits in
    let state = c.self.inside.state in
    let more = (given-fault (front_fault c.self.inside.front c.message.inside.front) _
    (λ _. HasOneMore c.self.inside.front c.message.inside.front) c.in_ok-check_next.ensures.answers).1 in
    let took = answers-fault (part_fault state c.message.inside.part) c.in_ok-verdicts.verdicts
    (IsAnswer state c.message.inside.part) c.in_ok-verdicts.ensures.answers in
    let own = takes-own state c.message.inside.part took.0 in
    subst (λ (front : List Entry). AreLastVerdicts splits
    (record { front = front; verdicts = c.in_ok-verdicts.verdicts })) (sym c.in_ok-sent.ensures)
    (says splits _ c.message.invariant c.check_next.ensures.entries c.check_next.ensures.horizons
    c.self.inside.front more state (c.self.invariant.1 own.1) own.0 c.in_ok-verdicts.verdicts c.take.new.self took.1
    c.in_ok-verdicts.ensures.taken c.self.invariant.0)

pub invariant_of-self-2 : goal.invariant_of-self-2
invariant_of-self-2 g c =
    let splits = g.B.DatabaseName.config.resolver_splits in
    let state = c.self.inside.state in
    let more = (given-fault (front_fault c.self.inside.front c.message.inside.front) _
    (λ _. HasOneMore c.self.inside.front c.message.inside.front) c.in_ok-check_next.ensures.answers).1 in
    let took = answers-fault (part_fault state c.message.inside.part) c.in_ok-verdicts.verdicts
    (IsAnswer state c.message.inside.part) c.in_ok-verdicts.ensures.answers in
    let own = takes-own state c.message.inside.part took.0 in
    subst (λ (front : List Entry). IsThere splits front c.take.new.self) (sym c.in_ok-front.ensures)
    (is-there splits _ c.message.invariant c.check_next.ensures.entries c.check_next.ensures.horizons
    c.self.inside.front more state (c.self.invariant.1 own.1) own.0 c.in_ok-verdicts.verdicts c.take.new.self took.1
    c.in_ok-verdicts.ensures.taken c.self.invariant.0)
