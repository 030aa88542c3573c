use Rattle.std.proofs.Common.{◌≡◌, ◌∙◌, sym, ap, subst, false, List}
use Rattle.fdb_txn.specs.declared.tag_msg.TagMsg.{TagMsg}
use Rattle.fdb_log.specs.Peeks.{RiseAfter}
use Rattle.fdb_storage.specs.Shards.{Shard, IsShard, apply_fault}
use Rattle.fdb_storage.specs.Changes.{HaveFollowed}
use Rattle.fdb_storage.proofs.AppliedLemmas.{still_shard, has_applied}
use Rattle.fdb_storage.proofs.FaultLemmas.{none-of, given, apply_fault-none}
use Rattle.fdb_storage.proofs.shard.Shard.apply.Goals as goal
use Rattle.fdb_storage.proofs.shard.Shard.apply.Goals.{After-as_slice}

-- the shard works, and the messages begin after its version
free : (c : After-as_slice)
    → (c.args.self.now.is_failed ≡ false) × (c.args.peek.now.after ≡ c.args.self.now.version)
free c = apply_fault-none c.args.self.now c.args.peek.now (none-of _ _ _ c.in_ok-check_peek.ensures)

works : (c : After-as_slice) → c.self.inside.is_failed ≡ false
works c = ap (λ (shard : Shard). shard.is_failed) c.self.view_is ∙ (free c).0

begins : (c : After-as_slice) → c.args.peek.now.after ≡ c.self.inside.version
begins c = (free c).1 ∙ sym (ap (λ (shard : Shard). shard.version) c.self.view_is)

pub apply_messages-requires : goal.apply_messages-requires
apply_messages-requires c = record {
  ended = c.self.invariant.within (works c);
  legal_keys = c.self.invariant.legal_keys (works c);
  live = c.self.invariant.live (works c);
  rising = subst (λ (messages : List TagMsg). RiseAfter c.self.inside.version messages) (sym c.as_slice.ensures)
      (subst (λ (v : _). RiseAfter v c.args.peek.now.messages) (begins c) c.requires.rising);
}

pub invariant_of-self : goal.invariant_of-self
invariant_of-self c =
    let here = (goal.at.invariant_of-self c).After-as_slice in
    let shard : Shard = record {
      tag = c.self.inside.tag;
      range = c.self.inside.range;
      version = c.self.inside.version;
      floor = c.self.inside.floor;
      is_failed = c.self.inside.is_failed;
      keys = c.self.inside.map.keys.entries;
    } in
    still_shard shard c.args.peek.now c.apply_messages.new.map.keys.entries c.self.inside.map.live.keys c.requires
    (begins here) (works here) c.self.invariant
    (subst (λ (messages : List TagMsg). HaveFollowed shard.range shard.version messages shard.keys
    c.apply_messages.new.map.keys.entries) c.as_slice.ensures c.in-Ok.ensures.followed)
    c.apply_messages.new.map.live.keys c.in-Ok.ensures.live

pub returns-in-Ok-clause-answers : goal.returns-in-Ok-clause-answers
returns-in-Ok-clause-answers c =
    let here = (goal.at.returns-in-Ok-clause-answers c).After-as_slice in
    let keys = c.apply_messages.new.map.keys.entries in
    given tt (apply_fault c.args.self.now c.args.peek.now) _ (none-of _ _ _ c.in_ok-check_peek.ensures)
    (has_applied c.args.self.now c.args.peek.now keys c.self.inside.map.live.keys c.requires (free here).1 (free here).0
    (subst (λ (shard : Shard). IsShard shard.version shard.floor shard.is_failed shard.keys
    c.self.inside.map.live.keys) c.self.view_is
    c.self.invariant)
    (subst (λ (shard : Shard). HaveFollowed shard.range shard.version c.args.peek.now.messages shard.keys keys)
    c.self.view_is
    (subst (λ (messages : List TagMsg). HaveFollowed c.self.inside.range c.self.inside.version messages
    c.self.inside.map.keys.entries keys) c.as_slice.ensures c.in-Ok.ensures.followed))
    _ (λ i. record (c.self.view_is i) { version = c.args.peek.now.through; keys = keys }))
