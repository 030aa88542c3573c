use Rattle.std.proofs.Common.{◌≡◌, List, [], ◌∷◌, subst, rules}
use Rattle.std.specs.Prelude.{All}
use Rattle.std.specs.Vec.Iter.{into_iter_items}
use Rattle.std.proofs.lemmas.List.{nil_from_length}
use Rattle.std.proofs.lemmas.List.Elements.{All-tail}
use Rattle.fdb_resolver.specs.declared.part.Part.{Part}
use Rattle.fdb_proxy.specs.CommitProxies.{parts_fault, parts_in}
use Rattle.fdb_sections.specs.CommitMachines.{sent_parts}
use Rattle.fdb_sections.specs.Messages.{PartAtFront, IsLastPart}
use Rattle.fdb_sections.proofs.ReplyLemmas.{added-next, sent-all, gives-with}
use Rattle.fdb_sections.proofs.roles.commit_proxy.CommitProxyAt.part_messages.Goals as goal

pub loop-part-preserved : goal.loop-part-preserved
loop-part-preserved g c =
    let items = into_iter_items c.loop-part.part-iterator in
    let rest = into_iter_items c.next.new.self in
    let step : items ≡ c.in-Some.part ∷ rest = c.in-Some.ensures.steps.0 in
    let all = sent_parts c.args.self.now.front (parts_in c.args.self.now.state.proxy.stage) in
    let sent : Part → PartAtFront = λ it. record { front = c.args.self.now.front; part = it } in
    let is_own : Part → Type 0 =
    λ it. IsLastPart g.B.DatabaseName.config.resolver_splits (record { front = c.args.self.now.front; part = it }) in
    record {
      goes_on = tt;
      ends = tt;
      left = All-tail is_own c.in-Some.part rest (subst (λ (list : List Part). All is_own list) step
          c.loop-part.invariant.left);
      made = added-next sent items rest c.in-Some.part c.part_message.result c.loop-part.messages.items
          c.add_last.new.items.items all step
          c.in_ok-add_last.ensures.made c.part_message.ensures c.in_ok-add_last.ensures.added
          c.loop-part.invariant.made;
    }

pub returns : goal.returns
returns g c =
    let items = into_iter_items c.loop-part.part-iterator in
    let none : items ≡ [] = nil_from_length items (search (rules, c.in-None.ensures.steps.0)) in
    let all = sent_parts c.args.self.now.front (parts_in c.args.self.now.state.proxy.stage) in
    let sent : Part → PartAtFront = λ it. record { front = c.args.self.now.front; part = it } in
    gives-with (parts_fault c.args.self.now.state.proxy) c.in_ok-parts.parts c.loop-part.messages
    (λ (it : List Part). it ≡ parts_in c.args.self.now.state.proxy.stage)
    (λ it. it.items ≡ sent_parts c.args.self.now.front (parts_in c.args.self.now.state.proxy.stage))
    c.in_ok-parts.ensures.answers
    (sent-all sent c.loop-part.messages.items all items none
    c.loop-part.invariant.made)
