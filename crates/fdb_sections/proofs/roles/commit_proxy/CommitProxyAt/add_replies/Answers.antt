use Rattle.std.proofs.Common.{◌≡◌, ◌+◌, ℕ, [], refl, sym, subst, rules}
use Rattle.std.specs.Iterator.Adapters.{enumerate_source, enumerate_count}
use Rattle.std.specs.Vec.Iter.{into_iter_items}
use Rattle.std.proofs.lemmas.List.{nil_from_length}
use Rattle.fdb_sections.specs.CommitMachines.{IsReplyTo}
use Rattle.fdb_sections.proofs.ReplyLemmas.{outcomes-start, outcome-first, outcomes-rest}
use Rattle.fdb_sections.proofs.ReplyLemmas.{AreToldSo, told-start, told-next, told-all}
use Rattle.fdb_sections.proofs.roles.commit_proxy.CommitProxyAt.add_replies.Goals as goal

pub loop-place-init : goal.loop-place-init
loop-place-init g c = record {
  goes_on = search rules;
  ends = search rules;
  left = outcomes-start g.B.DatabaseName.config c.args.self.now c.args.self.now _ _ _ c.requires.by_rule refl (cc) (cc);
  told = told-start c.args.self.now.front _ _ _ _ (cc) (cc) c.requires.nothing;
}

pub reply_of-reply-requires-clause-by_rule : goal.reply_of-reply-requires-clause-by_rule
reply_of-reply-requires-clause-by_rule g c =
    let step = rw c.in-Some.is at c.next.ensures.steps in
    let config = g.B.DatabaseName.config in
    let at = c.args.self.now in
    rw step.1 (outcome-first config at.front at.conflicts _ _ _ (c.in-Some._id, c.in-Some.outcome) step.0.0
    c.loop-place.invariant.left)

pub loop-place-preserved : goal.loop-place-preserved
loop-place-preserved g c =
    let step = rw c.in-Some.is at c.next.ensures.steps in
    let config = g.B.DatabaseName.config in
    let left =
    outcomes-rest config c.args.self.now.front c.args.self.now.conflicts _ _ _ (c.in-Some._id, c.in-Some.outcome)
    step.0.0 c.loop-place.invariant.left in
    let count = enumerate_count c.loop-place.place-iterator in
    let rest = into_iter_items (enumerate_source c.next.new.self) in
    let its = subst (λ (p : ℕ). IsReplyTo c.args.self.now.front p c.in-Some.outcome c.reply_of-reply.result) step.1
    c.reply_of-reply.ensures in
    record {
      goes_on = search rules;
      ends = search rules;
      left = rw step.2 left;
      told = rw step.2 (subst (λ list. AreToldSo c.args.self.now.front (count + 1) rest c.args.answers list)
          (sym c.in_ok-add_last.ensures.added)
          (told-next c.args.self.now.front _ _ _ c.args.answers (c.in-Some._id, c.in-Some.outcome)
          c.loop-place.replies.items c.reply_of-reply.result step.0.0 its
          c.loop-place.invariant.told));
    }

pub returns-clause-added : goal.returns-clause-added
returns-clause-added g c =
    let rest = into_iter_items (enumerate_source c.loop-place.place-iterator) in
    let none : rest ≡ [] = nil_from_length rest (search (rules, c.in-None.ensures.steps)) in
    told-all c.args.self.now.front (enumerate_count c.loop-place.place-iterator) rest c.args.answers
    c.loop-place.replies.items none c.loop-place.invariant.told
