-- What a shard answers once it has applied messages.
use Rattle.std.proofs.Common.{◌≡◌, ◌∙◌, sym, ap, refl, subst, ℕ, ◌<◌, ◌≤◌, le_refl, nat_le, false, List, [], ◌∷◌, fold}
use Rattle.std.proofs.Common.{Option, arith}
use Rattle.std.proofs.lemmas.Bool.{cond-false, leb-true, false_from_ne_true}
use Rattle.fdb_keys.specs.Points.{Point}
use Rattle.fdb_txn.specs.declared.tag_msg.TagMsg.{TagMsg}
use Rattle.fdb_txn.specs.rules.Messages.{mutations_in, value_with}
use Rattle.fdb_mutations.specs.Mutations.{value_after}
use Rattle.fdb_log.specs.declared.peek.Peek.{Peek}
use Rattle.fdb_log.specs.Peeks.{RiseAfter, IsPeek, through_after}
use Rattle.fdb_storage.specs.Shards.{Shard, IsShard, HasApplied}
use Rattle.fdb_storage.specs.Changes.{HaveFollowed}
use Rattle.fdb_storage.specs.VersionMaps.{VersionedKeys, value_of, EndBy, HaveLive}
use Rattle.fdb_storage.proofs.VersionsLemmas.{value-ended}

-- messages that rise after a version go through one that isn't below it
through-reaches : (version : ℕ) (messages : List TagMsg) → RiseAfter version messages
    → version ≤ through_after version messages
through-reaches version [] rising = le_refl version
through-reaches version (message ∷ messages) rising =
    let here : version < message.version = rising.0 in
    let further = through-reaches message.version messages rising.1 in omega (arith, here, further)

-- messages above a version change nothing there
value-above : (v : ℕ) (x : Point) (value : Option (List ℕ)) (after : ℕ) (messages : List TagMsg)
    → RiseAfter after messages → v ≤ after → fold (value_with v x) value messages ≡ value
value-above v x value after [] rising below = refl
value-above v x value after (message ∷ messages) rising below =
    let here : after < message.version = rising.0 in
    ap (λ (now : Option (List ℕ)). fold (value_with v x) now messages)
    (cond-false (nat_le message.version v) (fold (value_after x) value (mutations_in message.body)) value
    (false_from_ne_true _ (λ reached. absurd (omega (arith, leb-true message.version v reached, below, here)))))
    ∙ value-above v x value message.version messages rising.1 (omega (arith, here, below))

-- a shard that works, and followed the messages of a peek from its version on
module _ (shard : Shard) (peek : Peek) (keys : VersionedKeys) (live : List Point) (is_peek : IsPeek peek)
    (after : peek.after ≡ shard.version) (works : shard.is_failed ≡ false)
    (is_shard : IsShard shard.version shard.floor shard.is_failed shard.keys live)
    (followed : HaveFollowed shard.range shard.version peek.messages shard.keys keys) where
  pub rising : RiseAfter shard.version peek.messages
  rising = subst (λ (v : ℕ). RiseAfter v peek.messages) after is_peek.rising

  through : peek.through ≡ through_after shard.version peek.messages
  through = is_peek.through ∙ ap (λ (v : ℕ). through_after v peek.messages) after

  pub still_shard : (noted : List Point) → HaveLive keys noted
      → IsShard peek.through shard.floor shard.is_failed keys noted
  still_shard noted have_live =
      let further = through-reaches shard.version peek.messages rising in
      record {
        serves = omega (arith, further, through, is_shard.serves);
        within = λ still. subst (λ (v : ℕ). EndBy v keys) (sym through) followed.end_by;
        legal_keys = λ still. followed.legal_keys;
        live = λ still. have_live;
      }

  pub has_applied : (new : Shard) → new ≡ record shard { version = peek.through; keys = keys }
      → HasApplied shard peek new
  has_applied new is = rw is (record {
    tag = refl;
    range = refl;
    version = refl;
    floor = refl;
    works = works;
    before = λ v x above served inside.
        followed.values v x inside
        ∙ value-above v x (value_of shard.keys v x) shard.version peek.messages rising served;
    after = λ v x later served inside.
        followed.values v x inside
        ∙ ap (λ (value : Option (List ℕ)). fold (value_with v x) value peek.messages)
        (value-ended v shard.version shard.keys x (is_shard.within works) later);
  })
