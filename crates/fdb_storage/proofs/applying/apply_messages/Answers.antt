use Rattle.std.proofs.Common.{◌≡◌, ◌∙◌, sym, ap, subst, List, ◌<◌, [], ◌∷◌, ◌++◌, ◌+◌, take, arith}
use Rattle.std.proofs.lemmas.List.{take_more}
use Rattle.fdb_txn.specs.declared.tag_msg.TagMsg.{TagMsg}
use Rattle.fdb_txn.specs.rules.Messages.{Body, mutations_in}
use Rattle.fdb_log.specs.Peeks.{through_after}
use Rattle.fdb_storage.specs.Changes.{HaveChangedIn, HaveFollowed, changed_by}
use Rattle.fdb_storage.proofs.ChangesLemmas.{followed-none, followed-more, rising-at}
use Rattle.fdb_storage.proofs.VersionsLemmas.{end_by-more}
use Rattle.fdb_storage.proofs.applying.apply_messages.Goals as goal

pub apply_body-requires-clause-ended : goal.apply_body-requires-clause-ended
apply_body-requires-clause-ended c =
    let message = c.message-item.result in
    let before = through_after c.args.version (take c.loop-message.message-index c.args.messages.now) in
    let later : before < message.version =
    rising-at c.args.version c.args.messages.now c.loop-message.message-index message c.requires.rising (omega arith)
    c.message-item.is in
    end_by-more before message.version c.loop-message.map.keys.entries (omega (arith, later))
    c.loop-message.invariant.followed.end_by

pub loop-message-init : goal.loop-message-init
loop-message-init c = record {
  followed =
      followed-none c.args.range.now c.args.version c.args.map.now.keys.entries c.requires.ended c.requires.legal_keys;
  live = c.requires.live;
}

pub loop-message-preserved : goal.loop-message-preserved
loop-message-preserved c =
    let i = c.loop-message.message-index in
    let messages = c.args.messages.now in
    let message = c.message-item.result in
    let more : take (i + 1) messages ≡ take i messages ++ message ∷ [] =
    take_more messages i message (omega arith)
    ∙ ap (λ (one : TagMsg). take i messages ++ one ∷ []) (sym c.message-item.is) in
    record {
      followed =
          subst (λ (some : List TagMsg). HaveFollowed c.args.range.now c.args.version some c.args.map.now.keys.entries
          c.apply_body.new.map.keys.entries) (sym more)
          (followed-more c.args.range.now c.args.version (take i messages) message c.args.map.now.keys.entries
          c.loop-message.map.keys.entries c.apply_body.new.map.keys.entries c.loop-message.invariant.followed
          (subst (λ (body : Body). HaveChangedIn c.args.range.now message.version (changed_by (mutations_in body))
          c.loop-message.map.keys.entries c.apply_body.new.map.keys.entries) c.as_slice.ensures
          c.in_ok-apply_body.ensures.changed));
      live = c.in_ok-apply_body.ensures.live;
    }
