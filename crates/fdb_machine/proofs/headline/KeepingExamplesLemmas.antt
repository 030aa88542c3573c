-- What the roles of a small world keep, and what in no such world, computed.
use Rattle.std.proofs.Common.{◌≡◌, ◌∙◌, ◌<◌, ◌≤◌, sym, ap, refl, subst, arith, ℕ, zero, suc, ◌+◌, true, false, List}
use Rattle.std.proofs.Common.{[], ◌∷◌, Option, Some, None, length, length-append, slice_get, if◌then◌else◌}
use Rattle.std.specs.Prelude.{codes, ◌++◌}
use Rattle.std.proofs.lemmas.Bool.{true≢false}
use Rattle.fdb_keys.specs.Points.{point_lt}
use Rattle.fdb_keys.specs.Insertion as insertion
use Rattle.fdb_keys.specs.Ranges.{Range}
use Rattle.fdb_txn.specs.book.Book.{seen_before}
use Rattle.fdb_txn.specs.declared.entry.Entry.{Entry}
use Rattle.fdb_txn.specs.declared.entry.Move.{Move}
use Rattle.fdb_txn.specs.declared.tag_msg.TagMsg.{TagMsg}
use Rattle.fdb_txn.specs.rules.Messages.{messages_for}
use Rattle.fdb_txn.specs.rules.Splits.{piece}
use Rattle.fdb_resolver.specs.declared.part.Part.{Part}
use Rattle.fdb_sequencer.specs.declared.dated.Dated.{Dated}
use Rattle.fdb_sequencer.specs.Sequencer.{unlearnt_by}
use Rattle.fdb_sequencer.proofs.Exports.{passed_is_stale}
use Rattle.fdb_log.specs.declared.message.LogMsg.{LogMsg}
use Rattle.fdb_log.specs.Logs.{keeps, kept, popped_through}
use Rattle.fdb_log.specs.Messages.{above}
use Rattle.fdb_storage.specs.LogMessages.{log_messages}
use Rattle.fdb_storage.specs.Shards.{Shard}
use Rattle.fdb_storage.specs.VersionMaps.{VersionedKeys, value_of}
use Rattle.fdb_proxy.specs.Parting.{AreParts, IsPartOf}
use Rattle.fdb_proxy.specs.Verdicts.{moves_through}
use Rattle.fdb_roles.specs.Entries.{dated_moves}
use Rattle.fdb_roles.specs.Serving.{ShardServes}
use Rattle.fdb_roles.specs.SmallBooks.{empty_message_taken, plain}
use Rattle.fdb_roles.proofs.Exports.{kept-tag}
use Rattle.fdb_machine.specs.headline.Examples.{empty_part}
use Rattle.fdb_machine.specs.headline.KeepingExamples.{taken_by_all, sequencer, resolver, message, shard}
use Rattle.fdb_machine.specs.headline.KeepingExamples.{FailuresAreShown, OtherSequencersAreInNoWorld}
use Rattle.fdb_machine.specs.headline.KeepingExamples.{OtherResolversAreInNoWorld, OtherMessagesAreInNoWorld}
use Rattle.fdb_machine.specs.headline.KeepingExamples.{OtherLogsAreInNoWorld, OtherShardsAreInNoWorld}
use Rattle.fdb_machine.specs.headline.KeepingExamples.{with_failed, with_shard}
use Rattle.fdb_machine.specs.headline.Serving.{HaveFailed, RolesKeep, SequencerKeeps, EachKeeps, ResolverKeeps}
use Rattle.fdb_machine.specs.headline.Serving.{PartsKeep, MessagesKeep, LogKeeps, ShardReaches, AllServe}
use Rattle.fdb_machine.specs.machine.Failures.{Failures, none_failed}
use Rattle.fdb_machine.specs.machine.Machine.{is_set}
use Rattle.fdb_machine.specs.machine.Roles.{ShardProgress}
use Rattle.fdb_machine.proofs.headline.HeadlineExamplesLemmas.{nothing_at, code_of}

-- what holds of each of two items holds of the items of two lists of one item
one-each : {A B : Type 0} (P : ℕ → A → B → Type 0) (far : A) (kept : B) → P 0 far kept
    → EachKeeps P (far ∷ []) (kept ∷ [])
one-each {A} {B} P far kept holds = (refl, there)
  where
    there : (i : ℕ) (a : A) (b : B) → slice_get (far ∷ []) i ≡ Some a → slice_get (kept ∷ []) i ≡ Some b → P i a b
    there zero a b at_a at_b =
        let first : far ≡ a = cc in
        let second : kept ≡ b = cc in
        subst (λ (x : A). P 0 x b) first (subst (λ (y : B). P 0 far y) second holds)
    there (suc i) a b at_a at_b = cc

-- the one entry of the book
abbrev the_entry : Entry
the_entry = record { version = 100; prev = 0; horizon = 0; moves = []; batch = [] }

sequencer-keeps : SequencerKeeps taken_by_all sequencer
sequencer-keeps = (
  refl,
  refl,
  (λ ticket passed. passed_is_stale sequencer ticket passed),
  refl,
  omega arith,
  refl,
  learnt,
  refl,
  refl,
)
  where
    learnt : (proxy : ℕ) → proxy < 1
        → (first : List Dated) × (first ++ unlearnt_by sequencer proxy ≡ dated_moves taken_by_all.book)
    learnt zero within = ([], refl)
    learnt (suc proxy) within = absurd (omega (arith, within))

-- the parts of entry i are such
abbrev ArePartsAt : ℕ → Entry → List Part → Type 0
ArePartsAt i entry of =
    AreParts [] (moves_through (seen_before taken_by_all.book i) entry)
    (record { index = i; version = entry.version; prev = entry.prev; horizon = entry.horizon }) entry.batch of

parts-keep : PartsKeep taken_by_all ((empty_part ∷ []) ∷ [])
parts-keep = (refl, there)
  where
    each : (i : ℕ) (part : Part) → slice_get (empty_part ∷ []) i ≡ Some part
        → IsPartOf [] (moves_through (seen_before taken_by_all.book 0) the_entry)
        (record { index = 0; version = 100; prev = 0; horizon = 0 }) [] i part
    each zero part at = let same : empty_part ≡ part = cc in
        subst (λ (p : Part). IsPartOf [] (moves_through (seen_before taken_by_all.book 0) the_entry)
        (record { index = 0; version = 100; prev = 0; horizon = 0 }) [] 0 p) same
        (record { resolver = refl; index = refl; version = refl; prev = refl; horizon = refl; items = refl })
    each (suc i) part at = cc

    there : (i : ℕ) (entry : Entry) (of : List Part) → slice_get taken_by_all.book i ≡ Some entry
        → slice_get ((empty_part ∷ []) ∷ []) i ≡ Some of → ArePartsAt i entry of
    there zero entry of at_entry at_of =
        let first : the_entry ≡ entry = cc in
        let second : empty_part ∷ [] ≡ of = cc in
        subst (λ (e : Entry). ArePartsAt 0 e of) first
        (subst (λ (parts : List Part). ArePartsAt 0 the_entry parts) second (record { count = refl; each = each }))
    there (suc i) entry of at_entry at_of = cc

messages-keep : MessagesKeep taken_by_all (Some (message ∷ []) ∷ [])
messages-keep = (refl, there)
  where
    there : (i : ℕ) (entry : Entry) → slice_get taken_by_all.book i ≡ Some entry
        → slice_get (Some (message ∷ []) ∷ []) i
        ≡ Some (if is_set taken_by_all.decided i
        then Some (log_messages [] [] 1 i (seen_before taken_by_all.book i) entry)
        else None)
    there zero entry at =
        let first : the_entry ≡ entry = cc in
        subst (λ (e : Entry). Some (Some (message ∷ []))
        ≡ Some (Some (log_messages [] [] 1 0 (seen_before taken_by_all.book 0) e))) first refl
    there (suc i) entry at = cc

log-keeps : LogKeeps taken_by_all 0 1 empty_message_taken
log-keeps works =
    record { number = refl; logs = refl; tags = refl; last = refl; popped = through; kept = messages }
  where
    through : (tag : ℕ) (progress : ShardProgress) → keeps empty_message_taken tag ≡ true
        → slice_get taken_by_all.shards tag ≡ Some progress
        → popped_through empty_message_taken tag ≡ progress.popped
    through zero progress own at =
        let same : Path ShardProgress (record { applied = 1; floor = 40; popped = 0 }) progress = cc in
        ap (λ (p : ShardProgress). p.popped) same
    through (suc tag) progress own at = cc

    messages : (tag : ℕ) → keeps empty_message_taken tag ≡ true
        → kept empty_message_taken tag ≡ above (popped_through empty_message_taken tag)
        (messages_for [] (piece [] tag) taken_by_all.book)
    messages zero own = refl
    messages (suc tag) own =
        let there : suc tag < 1 = (kept-tag empty_message_taken (suc tag) own).0 in absurd (omega (arith, there))

-- a shard that has nothing, or has failed, serves what the entry of nobody leaves
all-serve : (of : Shard) → (of.is_failed ≡ false → of.keys ≡ []) → AllServe plain taken_by_all.book (of ∷ [])
all-serve of none = (refl, there)
  where
    serves : (i : ℕ) → ShardServes plain taken_by_all.book i of
    serves i works v x from until inside =
        ap (λ (keys : VersionedKeys). value_of keys v x) (none works) ∙ sym (nothing_at x)

    there : (i : ℕ) (other : Shard) → slice_get (of ∷ []) i ≡ Some other → ShardServes plain taken_by_all.book i other
    there zero other at =
        let same : of ≡ other = cc in
        subst (λ (s : Shard). ShardServes plain taken_by_all.book 0 s) same (serves 0)
    there (suc i) other at = cc

-- what all but the shard keep
others-keep : (failed : Failures) (of : Shard)
    → HaveFailed (with_failed (with_shard of) failed)
    → ShardReaches taken_by_all 0 (record { applied = 1; floor = 40; popped = 0 }) of
    → (of.is_failed ≡ false → of.keys ≡ [])
    → RolesKeep (with_failed (with_shard of) failed)
others-keep failed of shown reaches none = (
  shown,
  sequencer-keeps,
  one-each (ResolverKeeps taken_by_all) 1 resolver (λ works. (refl, refl, (λ x v from. refl))),
  parts-keep,
  messages-keep,
  one-each (LogKeeps taken_by_all) 1 empty_message_taken log-keeps,
  one-each (ShardReaches taken_by_all) (record { applied = 1; floor = 40; popped = 0 }) of reaches,
  all-serve of none,
)

-- flags that differ
flags-differ : {A : Type 0} → (false ∷ []) ≡ (true ∷ []) → A
flags-differ same = cc

pub failures_are_shown : FailuresAreShown
failures_are_shown = (
  others-keep (none_failed plain) shard (record { resolvers = refl; logs = refl; shards = refl })
      (λ works. record { tag = refl; range = refl; floor = refl; version = refl; popped = omega arith })
      (λ works. refl),
  others-keep (record (none_failed plain) { shards = true ∷ [] })
      (record shard { version = 7; floor = 9; is_failed = true })
      (record { resolvers = refl; logs = refl; shards = refl })
      (λ works. absurd (true≢false works)) (λ works. absurd (true≢false works)),
  (λ keep. flags-differ keep.0.shards),
  (λ keep. flags-differ (sym keep.0.shards)),
  (λ keep. flags-differ keep.0.resolvers),
  (λ keep. flags-differ (sym keep.0.resolvers)),
  (λ keep. flags-differ keep.0.logs),
  (λ keep. flags-differ (sym keep.0.logs)),
)

pub other_sequencers_are_in_no_world : OtherSequencersAreInNoWorld
other_sequencers_are_in_no_world = (
  (λ keep. let wrong : 2 ≡ 1 = keep.1.0 in omega (arith, wrong)),
  (λ keep. let wrong : 101 ≡ 100 = keep.1.1 in omega (arith, wrong)),
  (λ keep. let wrong : 99 ≡ 100 = keep.1.3 in omega (arith, wrong)),
  (λ keep. let wrong : 101 ≤ 100 = keep.1.4 in omega (arith, wrong)),
  (λ keep. let wrong : 1 ≡ 0 = ap (λ (moves : List Move). length moves) keep.1.5 in omega (arith, wrong)),
  (λ keep.
      let first = keep.1.6 0 (omega arith) in
      let wrong : length first.0 + 1 ≡ 0 = sym (length-append first.0 (record { version = 100; moves = _ } ∷ []))
      ∙ ap (λ (moves : List Dated). length moves) first.1 in
      omega (arith, wrong)),
  (λ keep. let wrong : 1 ≡ 5000000 = keep.1.7 in omega (arith, wrong)),
  (λ keep. let wrong : 1 ≡ 0 = keep.1.8 in omega (arith, wrong)),
)

pub other_resolvers_are_in_no_world : OtherResolversAreInNoWorld
unfolding point_lt insertion.inserted
other_resolvers_are_in_no_world = (
  (λ keep. let wrong : 1 ≡ 0 = (keep.2.1 0 1 _ refl refl refl).0 in omega (arith, wrong)),
  (λ keep. let wrong : 0 ≡ 100 = (keep.2.1 0 1 _ refl refl refl).1 in omega (arith, wrong)),
  (λ keep. let wrong : true ≡ false = (keep.2.1 0 1 _ refl refl refl).2 (codes "a") 0 (omega arith) in
      true≢false wrong),
  (λ keep. let wrong : 0 ≡ 1 = keep.2.0 in omega (arith, wrong)),
  (λ keeps. let wrong : false ≡ true = (keeps refl).2 (codes "a") 0 (omega arith) in true≢false (sym wrong)),
)

pub other_messages_are_in_no_world : OtherMessagesAreInNoWorld
other_messages_are_in_no_world = (
  (λ keep. let wrong : 0 ≡ 1 = keep.3.0 in omega (arith, wrong)),
  (λ keep. let wrong : 0 ≡ 1 = (keep.3.1 0 the_entry [] refl refl).count in omega (arith, wrong)),
  (λ keep. let wrong : 1 ≡ 0 = ((keep.3.1 0 the_entry _ refl refl).each 0 _ refl).resolver in omega (arith, wrong)),
  (λ keep. let wrong : 1 ≡ 0 = ((keep.3.1 0 the_entry _ refl refl).each 0 _ refl).index in omega (arith, wrong)),
  (λ keep. let wrong : 101 ≡ 100 = ((keep.3.1 0 the_entry _ refl refl).each 0 _ refl).version in
      omega (arith, wrong)),
  (λ keep. let wrong : 1 ≡ 0 = ((keep.3.1 0 the_entry _ refl refl).each 0 _ refl).prev in omega (arith, wrong)),
  (λ keep. let wrong : 1 ≡ 0 = ((keep.3.1 0 the_entry _ refl refl).each 0 _ refl).horizon in omega (arith, wrong)),
  (λ keep. let wrong : 2 ≡ 1 = keep.4.0 in omega (arith, wrong)),
  (λ keep. let wrong = keep.4.1 0 the_entry refl in cc),
  (λ keep. let wrong : 0 ≡ 1 = ap sent (keep.4.1 0 the_entry refl) in omega (arith, wrong)),
  (λ keep. let wrong = keep.4.1 0 the_entry refl in cc),
)
  where
    sent : Option (Option (List LogMsg)) → ℕ
    sent (Some (Some messages)) = length messages
    sent other = 2

pub other_logs_are_in_no_world : OtherLogsAreInNoWorld
other_logs_are_in_no_world = (
  (λ keep. let wrong : 1 ≡ 0 = (keep.5.1 0 1 _ refl refl refl).number in omega (arith, wrong)),
  (λ keep. let wrong : 2 ≡ 1 = (keep.5.1 0 1 _ refl refl refl).logs in omega (arith, wrong)),
  (λ keep. let wrong : 0 ≡ 1 = (keep.5.1 0 1 _ refl refl refl).tags in omega (arith, wrong)),
  (λ keep. let wrong : 0 ≡ 100 = (keep.5.1 0 1 _ refl refl refl).last in omega (arith, wrong)),
  (λ keep. let wrong : 0 ≡ 1 = ap (λ (messages : List TagMsg). length messages)
      ((keep.5.1 0 1 _ refl refl refl).kept 0 refl) in omega (arith, wrong)),
  (λ keep. let wrong : 100 ≡ 0 = (keep.5.1 0 1 _ refl refl refl).popped 0 _ refl refl in omega (arith, wrong)),
  (λ keep. let wrong : 0 ≡ 1 = keep.5.0 in omega (arith, wrong)),
)

pub other_shards_are_in_no_world : OtherShardsAreInNoWorld
unfolding point_lt
other_shards_are_in_no_world = (
  (λ keep. let wrong : 1 ≡ 0 = (keep.6.1 0 _ _ refl refl refl).tag in omega (arith, wrong)),
  (λ keep. let wrong : 109 ≡ 255 = ap (λ (range : Range). code_of range.end) (keep.6.1 0 _ _ refl refl refl).range in
      omega (arith, wrong)),
  (λ keep. let wrong : 41 ≡ 40 = (keep.6.1 0 _ _ refl refl refl).floor in omega (arith, wrong)),
  (λ keep. let wrong : 99 ≡ 100 = (keep.6.1 0 _ _ refl refl refl).version in omega (arith, wrong)),
  (λ keep.
      let something = keep.7.1 0 _ refl refl 40 (codes "z") (omega arith) (omega arith) refl in
      let wrong : Some (codes "1") ≡ None = something ∙ nothing_at (codes "z") in cc),
  (λ keep. let wrong : 0 ≡ 1 = keep.6.0 in omega (arith, wrong)),
  (λ keep. let wrong : 101 ≤ 100 = (keep.6.1 0 _ _ refl refl refl).popped in omega (arith, wrong)),
)
