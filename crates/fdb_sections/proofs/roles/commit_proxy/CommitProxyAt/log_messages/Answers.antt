use Rattle.std.proofs.Common.{◌≡◌, List, [], ◌∷◌, subst, rules}
use Rattle.std.specs.Prelude.{All}
use Rattle.std.specs.Vec.Iter.{into_iter_items}
use Rattle.std.proofs.lemmas.List.{nil_from_length}
use Rattle.std.proofs.lemmas.List.Elements.{All-tail}
use Rattle.fdb_log.specs.declared.message.LogMsg.{LogMsg}
use Rattle.fdb_proxy.specs.CommitProxies.{messages_fault, messages_of}
use Rattle.fdb_sections.specs.CommitMachines.{sent_messages}
use Rattle.fdb_sections.specs.Messages.{LogMsgAtFront, IsLastMessage}
use Rattle.fdb_sections.proofs.ReplyLemmas.{added-next, sent-all, gives-with}
use Rattle.fdb_sections.proofs.roles.commit_proxy.CommitProxyAt.log_messages.Goals as goal

pub loop-message-preserved : goal.loop-message-preserved
loop-message-preserved g c =
    let items = into_iter_items c.loop-message.message-iterator in
    let rest = into_iter_items c.next.new.self in
    let step : items ≡ c.in-Some.message ∷ rest = c.in-Some.ensures.steps.0 in
    let all = sent_messages c.args.self.now.front (messages_of c.args.self.now.state.proxy) in
    let sent : LogMsg → LogMsgAtFront = λ it. record { front = c.args.self.now.front; message = it } in
    let is_own : LogMsg → Type 0 =
    λ it. IsLastMessage g.B.DatabaseName.config (record { front = c.args.self.now.front; message = it }) in
    record {
      goes_on = tt;
      ends = tt;
      left = All-tail is_own c.in-Some.message rest (subst (λ (list : List LogMsg). All is_own list) step
          c.loop-message.invariant.left);
      made = added-next sent items rest c.in-Some.message c.log_message.result c.loop-message.messages.items
          c.add_last.new.items.items all step
          c.in_ok-add_last.ensures.made c.log_message.ensures c.in_ok-add_last.ensures.added
          c.loop-message.invariant.made;
    }

pub returns : goal.returns
returns g c =
    let items = into_iter_items c.loop-message.message-iterator in
    let none : items ≡ [] = nil_from_length items (search (rules, c.in-None.ensures.steps.0)) in
    let all = sent_messages c.args.self.now.front (messages_of c.args.self.now.state.proxy) in
    let sent : LogMsg → LogMsgAtFront = λ it. record { front = c.args.self.now.front; message = it } in
    gives-with (messages_fault c.args.self.now.state.proxy) c.in_ok-of_batch.of_batch c.loop-message.messages
    (λ (it : List LogMsg). it ≡ messages_of c.args.self.now.state.proxy)
    (λ it. it.items ≡ sent_messages c.args.self.now.front (messages_of c.args.self.now.state.proxy))
    c.in_ok-of_batch.ensures.answers
    (sent-all sent c.loop-message.messages.items all items none
    c.loop-message.invariant.made)
