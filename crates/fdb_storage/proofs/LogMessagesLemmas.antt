-- What logs are sent, beside the messages of the shards.
use Rattle.std.proofs.Common.{◌≡◌, ◌∙◌, sym, ap, ap₂, refl, ℕ, suc, ◌<◌, ◌≤◌, le_refl, le_trans, le_of_lt, Bool, true}
use Rattle.std.proofs.Common.{false, List, [], ◌∷◌, ◌++◌, map, filter, length, ⊎_elim, arith}
use Rattle.std.specs.List.{list_any}
use Rattle.std.specs.Prelude.{◌==◌, nat_lt}
use Rattle.std.proofs.lemmas.List.Elements.{filter-append}
use Rattle.std.proofs.lemmas.Bool.{cases_Bool, cond-true, cond-false, eqb-true, eq-eqb, or_left, or_right, or_cases}
use Rattle.fdb_keys.specs.Points.{Point}
use Rattle.fdb_mutations.specs.declared.mutation.Mutation.{Mutation}
use Rattle.fdb_txn.specs.declared.entry.Entry.{Entry}
use Rattle.fdb_txn.specs.declared.tag_msg.TagMsg.{TagMsg}
use Rattle.fdb_txn.specs.book.Book.{Seen, nothing, add_entry, seen_of, last_version}
use Rattle.fdb_txn.specs.book.History.{AreEntries}
use Rattle.fdb_txn.specs.laws.SerialMapLaws.{version_after}
use Rattle.fdb_txn.specs.rules.Messages.{Body, committed_in, meets_range, message_for, messages_for, messages_after}
use Rattle.fdb_txn.proofs.Exports.{entries-split, messages_go_on}
use Rattle.fdb_keys.specs.Ranges.{Range}
use Rattle.fdb_txn.specs.rules.Splits.{piece}
use Rattle.fdb_log.specs.declared.message.Tagged.{Tagged}
use Rattle.fdb_log.specs.Messages.{log_of, has_tag, sent_to, above}
use Rattle.fdb_log.proofs.Exports.{above-keeps, above-drops}
use Rattle.fdb_storage.specs.LogMessages.{tagged, is_for_log, LogsAreSentTheMessages, MessagesAboveAVersion}
use Rattle.fdb_storage.proofs.TagLemmas.{has-tag}

-- who has a tag is sent to the log that keeps it
sent-where_tagged : (logs tag : ℕ) (tags : List ℕ) → list_any (λ (other : ℕ). other == tag) tags ≡ true
    → list_any (λ (other : ℕ). log_of logs other == log_of logs tag) tags ≡ true
sent-where_tagged logs tag [] has = has
sent-where_tagged logs tag (other ∷ tags) has = ⊎_elim
    (λ is. or_left (log_of logs other == log_of logs tag) _
    (eq-eqb (log_of logs other) (log_of logs tag) (ap (log_of logs) (eqb-true other tag is))))
    (λ further. or_right (log_of logs other == log_of logs tag) _ (sent-where_tagged logs tag tags further))
    (or_cases _ _ has)

-- of what the log is sent the tag gets all that meets the range of its shard
sent-of_tag : (shard_splits : List Point) (logs tag : ℕ) → tag < suc (length shard_splits) → (body : Body)
    → sent_to tag (filter (is_for_log logs (log_of logs tag)) (map (tagged shard_splits) body))
    ≡ filter (λ (sent : ℕ × Mutation). meets_range (piece shard_splits tag) sent.1) body
sent-of_tag shard_splits logs tag within [] = refl
sent-of_tag shard_splits logs tag within (sent ∷ body) = ⊎_elim
    (λ meets.
    let has : has_tag tag this ≡ true = has-tag shard_splits sent.1 tag within ∙ meets in
    ap (sent_to tag) (cond-true (keeps this) (this ∷ others) others (sent-where_tagged logs tag this.tags has))
    ∙ ap (map pair) (cond-true (has_tag tag this) (this ∷ filter (has_tag tag) others) (filter (has_tag tag) others)
    has)
    ∙ ap (λ (rest : Body). sent ∷ rest) (sent-of_tag shard_splits logs tag within body)
    ∙ sym (cond-true (meets_shard sent) (sent ∷ filter meets_shard body) (filter meets_shard body) meets))
    (λ apart.
    let lacks : has_tag tag this ≡ false = has-tag shard_splits sent.1 tag within ∙ apart in
    ⊎_elim
    (λ kept. ap (sent_to tag) (cond-true (keeps this) (this ∷ others) others kept)
    ∙ ap (map pair) (cond-false (has_tag tag this) (this ∷ filter (has_tag tag) others) (filter (has_tag tag) others)
    lacks))
    (λ left. ap (sent_to tag) (cond-false (keeps this) (this ∷ others) others left))
    (cases_Bool (keeps this))
    ∙ sent-of_tag shard_splits logs tag within body
    ∙ sym (cond-false (meets_shard sent) (sent ∷ filter meets_shard body) (filter meets_shard body) apart))
    (cases_Bool (meets_shard sent))
  where
    this : Tagged
    this = tagged shard_splits sent

    keeps : Tagged → Bool
    keeps = is_for_log logs (log_of logs tag)

    others : List Tagged
    others = filter keeps (map (tagged shard_splits) body)

    pair : Tagged → ℕ × Mutation
    pair it = (it.place, it.mutation)

    meets_shard : ℕ × Mutation → Bool
    meets_shard it = meets_range (piece shard_splits tag) it.1

pub logs_are_sent_the_messages : LogsAreSentTheMessages
logs_are_sent_the_messages splits shard_splits logs tag i before entry within =
    ap (λ (body : Body). record { version = entry.version; prev = entry.prev; body = body })
    (sent-of_tag shard_splits logs tag within (committed_in splits before entry))

-- entries after a version go through one that isn't below it
version-through : (resolvers last : ℕ) (book : List Entry) → AreEntries resolvers last book
    → last ≤ version_after last book
version-through resolvers last [] entries = le_refl last
version-through resolvers last (entry ∷ book) entries =
    le_trans (le_of_lt entries.0) (version-through resolvers entry.version book entries.4)

-- no message of entries is above the last one's version
none-above : (resolvers last : ℕ) (splits : List Point) (range : Range) (seen : Seen) (book : List Entry) (low : ℕ)
    → AreEntries resolvers last book → version_after last book ≤ low
    → above low (messages_after splits range seen book) ≡ []
none-above resolvers last splits range seen [] low entries reached = refl
none-above resolvers last splits range seen (entry ∷ book) low entries reached =
    above-drops low (message_for splits range seen entry) (messages_after splits range (add_entry seen entry) book)
    (le_trans (version-through resolvers entry.version book entries.4) reached)
    ∙ none-above resolvers entry.version splits range (add_entry seen entry) book low entries.4 reached

-- all messages of entries after a version are above it
all-above : (resolvers last : ℕ) (splits : List Point) (range : Range) (seen : Seen) (book : List Entry) (low : ℕ)
    → AreEntries resolvers last book → low ≤ last
    → above low (messages_after splits range seen book) ≡ messages_after splits range seen book
all-above resolvers last splits range seen [] low entries below = refl
all-above resolvers last splits range seen (entry ∷ book) low entries below =
    let here : last < entry.version = entries.0 in
    above-keeps low (message_for splits range seen entry) (messages_after splits range (add_entry seen entry) book)
    (omega (arith, here, below))
    ∙ ap (λ (others : List TagMsg). message_for splits range seen entry ∷ others)
    (all-above resolvers entry.version splits range (add_entry seen entry) book low entries.4
    (omega (arith, here, below)))

pub messages_above_a_version : MessagesAboveAVersion
messages_above_a_version resolvers splits range before more entries =
    let parts = entries-split resolvers 0 before more entries in
    ap (above (last_version before)) (messages_go_on splits range before more)
    ∙ filter-append (λ (message : TagMsg). nat_lt (last_version before) message.version)
    (messages_for splits range before) (messages_after splits range (seen_of before) more)
    ∙ ap₂ (λ (first others : List TagMsg). first ++ others)
    (none-above resolvers 0 splits range nothing before (last_version before) parts.0 (le_refl (last_version before)))
    (all-above resolvers (last_version before) splits range (seen_of before) more (last_version before) parts.1
    (le_refl (last_version before)))
