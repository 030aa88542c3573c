use Rattle.std.proofs.Common.{◌≡◌, ◌∙◌, refl, sym, subst, rules, arith, Err, IsNone, Option}
use Rattle.fdb_keys.specs.declared.refusal.Refusal.{Refusal}
use Rattle.fdb_storage.specs.Shards.{apply_fault}
use Rattle.fdb_roles.proofs.Exports.{answers-fault, given-fault, hands-on}
use Rattle.fdb_sections.specs.ShardsAtFronts.{peek_fault}
use Rattle.fdb_sections.proofs.ShardLemmas.{takes, within, goes-on, has-gone-on, answers-on, failed-there, state-takes}
use Rattle.fdb_sections.proofs.roles.shard.ShardAt.apply.Goals as goal

pub cut-requires : goal.cut-requires
cut-requires g c =
    let took = takes g.B.DatabaseName.config _ c.args.self.now _ c.args.message.now c.self.view_is
    c.message.view_is c.self.invariant.1 c.message.invariant c.check_peek.ensures.entries
    c.in_ok-check_peek.ensures.answers in
    let few = within g.B.DatabaseName.config _ _ took in
    omega (arith, few, c.len.ensures, c.len-2.ensures)

pub overflow_add-count : goal.overflow_add-count
overflow_add-count g c =
    let took = takes g.B.DatabaseName.config _ c.args.self.now _ c.args.message.now c.self.view_is
    c.message.view_is c.self.invariant.1 c.message.invariant c.check_peek.ensures.entries
    c.in_ok-check_peek.ensures.answers in
    let few = within g.B.DatabaseName.config _ _ took in
    omega (arith, few, c.len.ensures, c.len-2.ensures, c.know_len.ensures)

pub invariant_of-self : goal.invariant_of-self
invariant_of-self g c =
    let took = takes g.B.DatabaseName.config _ c.args.self.now _ c.args.message.now c.self.view_is
    c.message.view_is c.self.invariant.1 c.message.invariant c.check_peek.ensures.entries
    c.in_ok-check_peek.ensures.answers in
    let failed = c.in_err-apply.ensures.failed
    (subst (λ (fault : Option Refusal). IsNone fault) (sym (state-takes g.B.DatabaseName.config _ _ took)) refl) in (
      c.self.invariant.0 ∙ sym failed.tag,
      failed-there g.B.DatabaseName.config c.self.inside.front c.self.inside.shard c.apply.new.self
          c.self.invariant.1.0 failed,
    )

pub returns-in_err-apply-clause-answers : goal.returns-in_err-apply-clause-answers
returns-in_err-apply-clause-answers g c =
    let took = takes g.B.DatabaseName.config _ c.args.self.now _ c.args.message.now c.self.view_is
    c.message.view_is c.self.invariant.1 c.message.invariant c.check_peek.ensures.entries
    c.in_ok-check_peek.ensures.answers in
    let same : c.from_residual-in_err-apply.result ≡ Err c.in_err-apply.field-0.0 = search rules in
    let none = given-fault (peek_fault c.args.self.now c.args.message.now) c.in_ok-check_peek.field-0 _
    c.in_ok-check_peek.ensures.answers in
    rw same (hands-on c.in_err-apply.field-0.0 (apply_fault c.self.inside.shard c.message.inside.peek)
    (peek_fault c.args.self.now c.args.message.now) _ _
    (state-takes g.B.DatabaseName.config _ _ took ∙ sym none.0) c.in_err-apply.ensures.answers)

pub invariant_of-self-2 : goal.invariant_of-self-2
invariant_of-self-2 g c =
    let took = takes g.B.DatabaseName.config _ c.args.self.now _ c.args.message.now c.self.view_is
    c.message.view_is c.self.invariant.1 c.message.invariant c.check_peek.ensures.entries
    c.in_ok-check_peek.ensures.answers in
    let applied = (answers-fault (apply_fault c.self.inside.shard c.message.inside.peek) c.in_ok-apply.field-0 _
    c.in_ok-apply.ensures.answers).1 in (
      c.self.invariant.0 ∙ sym applied.tag,
      goes-on g.B.DatabaseName.config _ _ took c.len.result c.len-2.result c.in_ok-front.front c.len.ensures
          c.len-2.ensures c.in_ok-front.ensures c.apply.new.self applied,
    )

pub returns-clause-answers : goal.returns-clause-answers
returns-clause-answers g c =
    let took = takes g.B.DatabaseName.config _ c.args.self.now _ c.args.message.now c.self.view_is
    c.message.view_is c.self.invariant.1 c.message.invariant c.check_peek.ensures.entries
    c.in_ok-check_peek.ensures.answers in
    let none = given-fault (peek_fault c.args.self.now c.args.message.now) c.in_ok-check_peek.field-0 _
    c.in_ok-check_peek.ensures.answers in
    let applied = (answers-fault (apply_fault c.self.inside.shard c.message.inside.peek) c.in_ok-apply.field-0 _
    c.in_ok-apply.ensures.answers).1 in
    answers-on _ c.args.self.now _ c.args.message.now
    (record { front = c.in_ok-front.front; shard = c.apply.new.self }) c.self.view_is c.message.view_is none.0
    (has-gone-on g.B.DatabaseName.config _ _ took c.len.result c.len-2.result c.in_ok-front.front c.len.ensures
    c.len-2.ensures c.in_ok-front.ensures c.apply.new.self applied)
