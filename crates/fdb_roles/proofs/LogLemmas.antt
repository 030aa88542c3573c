-- Logs and shards at a front of the book: what a log gives of a tag, and what leaves a shard and a log at a front.
use Rattle.std.proofs.Common.{◌≡◌, ◌∙◌, refl, sym, ap, ap₂, subst, ℕ, zero, suc, ◌≤◌, le_refl, le_of_lt, Bool, true}
use Rattle.std.proofs.Common.{false, List, [], ◌∷◌, ◌++◌, length, take, fold, Option, Some, None, arith, ⊎_elim}
use Rattle.std.specs.Prelude.{◌==◌, ◌&&◌, not, nat_lt, if◌then◌else◌}
use Rattle.std.specs.Ordering.{nat_cmp}
use Rattle.std.specs.Cmp.Lexicographic.{slice_cmp}
use Rattle.std.specs.FinMap.{get, get-empty}
use Rattle.std.specs.Option.{option_or}
use Rattle.std.proofs.lemmas.Bool.{cases_Bool, cases_lt, cond-false, eq-eqb, eqb-true, le-ltb, ltb-false}
use Rattle.std.proofs.lemmas.List.Sums.{fold-append}
use Rattle.fdb_keys.specs.Points.{Point}
use Rattle.fdb_keys.specs.Ranges.{Range, in_range}
use Rattle.fdb_keys.specs.declared.refusal.Refusal.{Refusal}
use Rattle.fdb_keys.specs.declared.refusal.Refusal.TheVariants.{Failed, FutureVersion}
use Rattle.fdb_mutations.specs.Maps.{Map}
use Rattle.fdb_txn.specs.declared.entry.Entry.{Entry}
use Rattle.fdb_txn.specs.declared.tag_msg.TagMsg.{TagMsg}
use Rattle.fdb_txn.specs.book.Book.{Seen, add_entry, seen_of, last_version}
use Rattle.fdb_txn.specs.Turn.{turn_fault}
use Rattle.fdb_txn.specs.book.History.{AreEntries}
use Rattle.fdb_txn.specs.laws.SerialMapLaws.{version_after}
use Rattle.fdb_txn.specs.rules.Messages.{message_for, messages_for, messages_after, value_with}
use Rattle.fdb_txn.specs.rules.SerialMap.{serial_map_at}
use Rattle.fdb_txn.specs.rules.Splits.{piece}
use Rattle.fdb_txn.proofs.Exports.{shards_go_on}
use Rattle.fdb_log.specs.declared.peek.Peek.{Peek}
use Rattle.fdb_log.specs.Logs.{Log, keeps, kept, popped_through, given_after, peek_of, IsNewLog, IsSameLog, HasPopped}
use Rattle.fdb_log.specs.Messages.{log_of, above}
use Rattle.fdb_log.specs.Peeks.{through_after}
use Rattle.fdb_log.proofs.Exports.{above-above, above-higher}
use Rattle.fdb_storage.specs.Shards.{Shard, apply_fault, forget_fault, IsNewShard, HasApplied, HasForgotten}
use Rattle.fdb_storage.specs.StampedMessages.{stamped_fault}
use Rattle.fdb_storage.proofs.Exports.{messages_above_a_version}
use Rattle.fdb_proxy.specs.declared.config.Config.{Config}
use Rattle.fdb_roles.specs.AtBook.{IsLogAt, IsShardAt}
use Rattle.fdb_roles.proofs.RunLaws.{entries-linked, front-run, front-version}

-- the first messages of entries are those of the first entries
pub messages-take : (splits : List Point) (range : Range) (seen : Seen) (n : ℕ) (more : List Entry)
    → take n (messages_after splits range seen more) ≡ messages_after splits range seen (take n more)
messages-take splits range seen zero more = refl
messages-take splits range seen (suc n) [] = refl
messages-take splits range seen (suc n) (entry ∷ more) =
    ap (λ (others : List TagMsg). message_for splits range seen entry ∷ others)
    (messages-take splits range (add_entry seen entry) n more)

-- the messages of entries go through the version of the last one
pub through-messages : (splits : List Point) (range : Range) (seen : Seen) (version : ℕ) (more : List Entry)
    → through_after version (messages_after splits range seen more) ≡ version_after version more
through-messages splits range seen version [] = refl
through-messages splits range seen version (entry ∷ more) =
    through-messages splits range (add_entry seen entry) entry.version more

-- there is one for each entry
pub count-messages : (splits : List Point) (range : Range) (seen : Seen) (more : List Entry)
    → length (messages_after splits range seen more) ≡ length more
count-messages splits range seen [] = refl
count-messages splits range seen (entry ∷ more) = ap suc (count-messages splits range (add_entry seen entry) more)

-- What a log that took all these entries gives of a tag after the version of the last of the first ones.
module _ (config : Config) (book more : List Entry)
    (entries : AreEntries (suc (length config.resolver_splits)) 0 (book ++ more)) (tag limit : ℕ) (log : Log)
    (has : kept log tag
    ≡ above (popped_through log tag)
    (messages_for config.resolver_splits (piece config.shard_splits tag) (book ++ more)))
    (unpopped : popped_through log tag ≤ last_version book) where
  abbrev range : Range
  range = piece config.shard_splits tag

  pub gives-messages : given_after log tag (last_version book) limit
      ≡ messages_after config.resolver_splits range (seen_of book) (take limit more)
  gives-messages =
      ap (take limit)
      (ap (above (last_version book)) has
      ∙ above-higher (popped_through log tag) (last_version book)
      (messages_for config.resolver_splits range (book ++ more)) unpopped
      ∙ messages_above_a_version (suc (length config.resolver_splits)) config.resolver_splits range book more entries)
      ∙ messages-take config.resolver_splits range (seen_of book) limit more

  -- they go through the version of the last of as many entries
  pub gives-through : (peek_of log tag (last_version book) limit).through ≡ last_version (book ++ take limit more)
  gives-through =
      ap (through_after (last_version book)) gives-messages
      ∙ through-messages config.resolver_splits range (seen_of book) (last_version book) (take limit more)
      ∙ sym (fold-append (λ (before : ℕ) (entry : Entry). entry.version) 0 book (take limit more))

-- a shard isn't refused a peek of its tag from its version, in which nothing waits for a stamp
pub shard-may-apply : (config : Config) (book : List Entry) (s : ℕ) (old : Shard) (peek : Peek)
    → IsShardAt config book s old → peek.tag ≡ s → peek.after ≡ old.version → stamped_fault peek.messages ≡ None
    → apply_fault old peek ≡ None
shard-may-apply config book s old peek at tag from stamped =
    cond-false _ _ _ (ap not (eq-eqb peek.tag old.tag (tag ∙ sym at.tag)))
    ∙ cond-false _ _ _ at.works
    ∙ ap (λ (fault : Option Refusal). option_or fault (turn_fault old.version peek.after)) stamped
    ∙ cond-false _ _ _ (le-ltb peek.after old.version (omega (arith, from)))
    ∙ cond-false _ _ _ (le-ltb old.version peek.after (omega (arith, from)))

-- a shard applies the messages of further entries
module _ (config : Config) (book more : List Entry)
    (entries : AreEntries (suc (length config.resolver_splits)) 0 (book ++ more)) (s : ℕ) (old new : Shard)
    (peek : Peek) (at : IsShardAt config book s old) (through : peek.through ≡ last_version (book ++ more))
    (messages : peek.messages
    ≡ messages_after config.resolver_splits (piece config.shard_splits s) (seen_of book) more)
    (applied : HasApplied old peek new) where
  pub shard-applied : IsShardAt config (book ++ more) s new
  shard-applied = record {
    tag = applied.tag ∙ at.tag;
    range = applied.range ∙ at.range;
    works = applied.works;
    version = applied.version ∙ through;
    serving =
        let later = front-version book more (entries-linked (suc (length config.resolver_splits)) 0 (book ++ more)
        entries) in
        let low = at.serving in
        omega (arith, low, later, applied.floor, at.version, applied.version, through);
    serves = λ v x from until inside.
        let held : in_range old.range x ≡ true = ap (λ (all : Range). in_range all x) at.range ∙ inside in
        let above_floor : old.floor ≤ v = subst (λ (floor : ℕ). floor ≤ v) applied.floor from in
        ⊎_elim
        (λ earlier. let before : v ≤ old.version = le_of_lt earlier in
        applied.before v x above_floor before held
        ∙ at.serves v x above_floor before inside
        ∙ ap (λ (map : Map). get map x)
        (front-run book more (entries-linked (suc (length config.resolver_splits)) 0 (book ++ more) entries)
        config.resolver_splits v (subst (λ (version : ℕ). v ≤ version) at.version before)))
        (λ from_version.
        applied.after v x from_version until held
        ∙ ap₂ (λ (value : Option (List ℕ)) (those : List TagMsg). fold (value_with v x) value those)
        (at.serves old.version x at.serving (le_refl old.version) inside
        ∙ ap (λ (version : ℕ). get (serial_map_at config.resolver_splits version (seen_of book).places) x) at.version)
        messages
        ∙ shards_go_on (suc (length config.resolver_splits)) config.resolver_splits (piece config.shard_splits s) book
        more entries v x inside (subst (λ (version : ℕ). version ≤ v) at.version from_version))
        (cases_lt v old.version);
  }

-- what a shard has reached it may forget
may-forget : (old : Shard) (version : ℕ) → old.is_failed ≡ false → forget_fault old version ≡ None
    → version ≤ old.version
may-forget old version works none =
    ltb-false old.version version
    (by_test (nat_lt old.version version) (sym (cond-false old.is_failed (Some Failed) _ works) ∙ none))
  where
    by_test : (late : Bool) → (if late then Some FutureVersion else None) ≡ None → late ≡ false
    by_test true is = cc
    by_test false is = refl

-- a shard raises its floor
pub shard-forgot : (config : Config) (book : List Entry) (s version : ℕ) (old new : Shard)
    → IsShardAt config book s old → forget_fault old version ≡ None → HasForgotten old version new
    → IsShardAt config book s new
shard-forgot config book s version old new at none forgotten = record {
  tag = forgotten.tag ∙ at.tag;
  range = forgotten.range ∙ at.range;
  works = forgotten.works ∙ at.works;
  version = forgotten.version ∙ at.version;
  serving =
      let low = at.serving in
      let reached = may-forget old version at.works none in
      omega (arith, forgotten.floor, forgotten.version, low, reached);
  serves = λ v x from until inside.
      let below : v ≤ old.version = subst (λ (top : ℕ). v ≤ top) forgotten.version until in
      let old_floor : old.floor ≤ v = omega (arith, forgotten.floor, from) in
      forgotten.values v x from below (ap (λ (all : Range). in_range all x) at.range ∙ inside)
      ∙ at.serves v x old_floor below inside;
}

-- a log keeps the same tags as one that is the same log
pub same-keeps : (old new : Log) (tag : ℕ) → IsSameLog old new → keeps new tag ≡ keeps old tag
same-keeps old new tag same =
    ap (λ (tags : ℕ). nat_lt tag tags && (log_of new.logs tag == new.log)) same.tags
    ∙ ap (λ (logs : ℕ). nat_lt tag old.tags && (log_of logs tag == new.log)) same.logs
    ∙ ap (λ (log : ℕ). nat_lt tag old.tags && (log_of old.logs tag == log)) same.log

-- a log that popped a tag keeps of each tag the messages above what was popped
pub kept-popped : (messages : ℕ → List TagMsg) (tag through : ℕ) (old new : Log)
    → ((other : ℕ) → keeps old other ≡ true → kept old other ≡ above (popped_through old other) (messages other))
    → HasPopped old tag through new
    → (other : ℕ) → keeps new other ≡ true → kept new other ≡ above (popped_through new other) (messages other)
kept-popped messages tag through old new has popped other keeps_it =
    let kept_before : keeps old other ≡ true = sym (same-keeps old new other popped.same) ∙ keeps_it in
    ⊎_elim
    (λ is. subst (λ (it : ℕ). kept new it ≡ above (popped_through new it) (messages it))
    (sym (eqb-true other tag is))
    (popped.dropped
    ∙ ap (above through)
    (has tag (subst (λ (it : ℕ). keeps old it ≡ true) (eqb-true other tag is) kept_before))
    ∙ above-above (popped_through old tag) through (messages tag)
    ∙ ap (λ (low : ℕ). above low (messages tag)) (sym popped.popped)))
    (λ differs. popped.others_kept other differs
    ∙ has other kept_before
    ∙ ap (λ (low : ℕ). above low (messages other)) (sym (popped.others_popped other differs)))
    (cases_Bool (other == tag))

-- a new log took no entries
pub new-log : (config : Config) (l : ℕ) (new : Log) → IsNewLog l config.logs (suc (length config.shard_splits)) new
    → IsLogAt config [] l new
new-log config l new is = record {
  number = is.log;
  logs = is.logs;
  tags = is.tags;
  works = is.works;
  last = is.last;
  popped = λ tag. omega (arith, is.popped tag);
  kept = λ tag keeps_it. is.kept tag;
}

-- and a new shard applied none
pub new-shard : (config : Config) (s : ℕ) (new : Shard) → IsNewShard s (piece config.shard_splits s) new
    → IsShardAt config [] s new
new-shard config s new is = record {
  tag = is.tag;
  range = is.range;
  works = is.works;
  version = is.version;
  serving = omega (arith, is.version, is.floor);
  serves = λ v x from until inside. is.empty v x ∙ sym (get-empty {X = List ℕ} (slice_cmp nat_cmp) x);
}

-- a log stays where it was when it pops a tag up to a version that it has reached
pub log-pops : (config : Config) (book : List Entry) (l tag through : ℕ) (old new : Log) → IsLogAt config book l old
    → through ≤ old.last → HasPopped old tag through new → IsLogAt config book l new
log-pops config book l tag through old new at reached popped = record {
  number = popped.same.log ∙ at.number;
  logs = popped.same.logs ∙ at.logs;
  tags = popped.same.tags ∙ at.tags;
  works = popped.works;
  last = popped.last ∙ at.last;
  popped = λ other. ⊎_elim
      (λ is. subst (λ (it : ℕ). popped_through new it ≤ new.last) (sym (eqb-true other tag is))
      (let low = at.popped tag in omega (arith, popped.popped, popped.last, low, reached)))
      (λ differs. let low = at.popped other in
      omega (arith, popped.others_popped other differs, popped.last, low))
      (cases_Bool (other == tag));
  kept = kept-popped (λ (it : ℕ). messages_for config.resolver_splits (piece config.shard_splits it) book) tag through
      old new at.kept popped;
}
