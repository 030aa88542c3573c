use Rattle.std.proofs.Common.{◌≡◌, ◌∙◌, sym, ap, subst}
use Rattle.fdb_log.specs.Logs.{Log, keeps, kept, popped_through, peek_fault, peek_of}
use Rattle.fdb_log.specs.Peeks.{RiseAfter, through_after, IsPeek}
use Rattle.fdb_log.proofs.FaultLemmas.{tag_fault-none, peek_fault-none, given}
use Rattle.fdb_log.proofs.KeptLemmas.{is_peek, peek-is}
use Rattle.fdb_log.proofs.PopLemmas.{popped_through-le}
use Rattle.fdb_log.proofs.log_core.LogCore.peek.Goals as goal

is : (c : goal.After-through_after-through)
    → record {
      tag = c.args.tag;
      after = c.args.after;
      through = c.through_after-through.result;
      messages = c.in_ok-messages.messages;
    }
    ≡ peek_of c.args.self.now c.args.tag c.args.after c.args.limit
is c =
    peek-is c.args.self.now c.args.tag c.args.after c.args.limit c.through_after-through.result
    c.in_ok-messages.messages c.in_ok-messages.ensures
    (c.through_after-through.ensures ∙ ap (through_after c.args.after) c.as_slice.ensures)

pub returns-clause-answers : goal.returns-clause-answers
returns-clause-answers c =
    let speaks = tag_fault-none c.args.self.now c.args.tag c.args.after _ c.in_ok-check_tag.ensures in
    let unpopped = popped_through-le _ c.args.self.now c.args.tag c.args.after c.index.result.now c.self.view_is
    c.self.invariant.is_log speaks c.index.ensures c.if-after-index.false in
    given _ (peek_fault c.args.self.now c.args.tag c.args.after)
    (λ peek. peek ≡ peek_of c.args.self.now c.args.tag c.args.after c.args.limit)
    (peek_fault-none c.args.self.now c.args.tag c.args.after _ c.in_ok-check_tag.ensures unpopped) (is c)

pub returns-clause-chained : goal.returns-clause-chained
returns-clause-chained c =
    let speaks = tag_fault-none c.args.self.now c.args.tag c.args.after _ c.in_ok-check_tag.ensures in
    let rising : RiseAfter (popped_through c.args.self.now c.args.tag) (kept c.args.self.now c.args.tag) =
    subst (λ (core : Log). RiseAfter (popped_through core c.args.tag) (kept core c.args.tag)) c.self.view_is
    (c.self.invariant.is_log.rising (ap (λ (core : Log). core.is_failed) c.self.view_is ∙ speaks.works) c.args.tag
    (ap (λ (core : Log). keeps core c.args.tag) c.self.view_is ∙ speaks.here)) in
    subst IsPeek (sym (is c)) (is_peek c.args.self.now c.args.tag c.args.after c.args.limit _ rising)
