use Rattle.std.proofs.Common.{◌≡◌, sym, subst, List}
use Rattle.std.proofs.lemmas.Result.{err_from_is_err_and}
use Rattle.fdb_txn.specs.declared.entry.Entry.{Entry}
use Rattle.fdb_log.specs.declared.message.LogAck.{LogAck}
use Rattle.fdb_log.specs.Logs.{push_fault}
use Rattle.fdb_roles.proofs.Exports.{answers-fault, given-fault}
use Rattle.fdb_sections.specs.Messages.{IsLastAck}
use Rattle.fdb_sections.specs.Turns.{front_fault, HasOneMore}
use Rattle.fdb_sections.proofs.TurnLemmas.{where-refused}
use Rattle.fdb_sections.proofs.LogLemmas.{IsLogThere, rises, log-there, log-stays, takes-its-own, refused-push}
use Rattle.fdb_sections.proofs.LogLemmas.{left-by-push, acknowledges}
use Rattle.fdb_sections.proofs.roles.log.LogAt.push.Goals as goal

pub push-requires : goal.push-requires
push-requires g c = rises g.B.DatabaseName.config _ c.message.invariant c.check_next.ensures.entries

pub invariant_of-self : goal.invariant_of-self
invariant_of-self g c =
    (log-stays g.B.DatabaseName.config c.self.inside.front c.self.inside.state c.push.new.self
    (push_fault c.self.inside.state c.message.inside.message) c.in_err-ack.ensures.refused
    c.in_err-ack.ensures.failed c.self.invariant).0

pub returns-in_err-ack-clause-answers : goal.returns-in_err-ack-clause-answers
returns-in_err-ack-clause-answers g c =
    let next = given-fault (front_fault c.self.inside.front c.message.inside.front) _
    (λ _. HasOneMore c.self.inside.front c.message.inside.front) c.in_ok-check_next.ensures.answers in
    let left = err_from_is_err_and c.from_residual-in_err-ack.result c.from_residual-in_err-ack.ensures.1 in
    rw (left.1, left.2)
    (refused-push (record { front = c.self.inside.front; state = c.self.inside.state }) c.args.self.now c.self.view_is
    (record { front = c.message.inside.front; message = c.message.inside.message }) c.args.message.now
    c.in_err-ack.field-0.0 c.message.view_is next.0 c.in_err-ack.ensures.answers)

pub returns-in_err-ack-clause-refused : goal.returns-in_err-ack-clause-refused
returns-in_err-ack-clause-refused g c =
    where-refused c.from_residual-in_err-ack.result _
    (left-by-push (record { front = c.self.inside.front; state = c.self.inside.state }) c.args.self.now c.self.view_is
    c.push.new.self
    (log-stays g.B.DatabaseName.config c.self.inside.front c.self.inside.state c.push.new.self
    (push_fault c.self.inside.state c.message.inside.message) c.in_err-ack.ensures.refused
    c.in_err-ack.ensures.failed c.self.invariant).1)

pub invariant_of-result : goal.invariant_of-result
invariant_of-result g c =
    let config = g.B.DatabaseName.config in
    let state = c.self.inside.state in
    let message = c.message.inside.message in
    let more = (given-fault (front_fault c.self.inside.front c.message.inside.front) _
    (λ _. HasOneMore c.self.inside.front c.message.inside.front) c.in_ok-check_next.ensures.answers).1 in
    let took = answers-fault (push_fault state message) c.in_ok-ack.ack
    (λ (ack : LogAck). ack ≡ record { log = state.log; index = message.index }) c.in_ok-ack.ensures.answers in
    let own = takes-its-own state message took.0 in
    subst (λ (front : List Entry). IsLastAck config (record { front = front; ack = c.in_ok-ack.ack }))
    (sym c.in_ok-sent.ensures)
    (acknowledges config _ c.message.invariant c.check_next.ensures.entries c.self.inside.front more state
    c.push.new.self (c.self.invariant.1 own.1) own.0 c.in_ok-ack.ensures.taken c.self.invariant.0 c.in_ok-ack.ack
    took.1)

pub invariant_of-self-2 : goal.invariant_of-self-2
invariant_of-self-2 g c =
    let config = g.B.DatabaseName.config in
    let state = c.self.inside.state in
    let message = c.message.inside.message in
    let more = (given-fault (front_fault c.self.inside.front c.message.inside.front) _
    (λ _. HasOneMore c.self.inside.front c.message.inside.front) c.in_ok-check_next.ensures.answers).1 in
    let took = answers-fault (push_fault state message) c.in_ok-ack.ack
    (λ (ack : LogAck). ack ≡ record { log = state.log; index = message.index }) c.in_ok-ack.ensures.answers in
    let own = takes-its-own state message took.0 in
    subst (λ (front : List Entry). IsLogThere config front c.push.new.self) (sym c.in_ok-front.ensures)
    (log-there config _ c.message.invariant c.check_next.ensures.entries c.self.inside.front more state
    c.push.new.self (c.self.invariant.1 own.1) own.0 c.in_ok-ack.ensures.taken c.self.invariant.0)
