-- What a log keeps of the entries that it took, and of one more.
use Rattle.std.proofs.Common.{◌≡◌, ◌∙◌, ap, ℕ, min, le_of_lt, List, take, arith, ⊎_elim, sym, suc, ◌+◌, ◌<◌, [], ◌∷◌}
use Rattle.std.proofs.Common.{◌++◌, Some, true, ap₂, subst, length, map}
use Rattle.std.proofs.lemmas.Bool.{cases_lt, and_parts, eqb-true, ltb-true}
use Rattle.std.proofs.lemmas.List.{length-take, take_all}
use Rattle.std.specs.Prelude.{nat_lt, ◌==◌}
use Rattle.std.specs.List.{slice_get, range_with_len}
use Rattle.std.proofs.lemmas.List.Elements.{filter-append}
use Rattle.std.proofs.lemmas.List.Sums.{fold-append}
use Rattle.std.proofs.lemmas.Option.{slice_get_within, get_or_from_slice_get}
use Rattle.std.proofs.lemmas.List.FromFn.{get_or-map-range_with_len, length-map-range_with_len}
use Rattle.fdb_keys.specs.Points.{Point}
use Rattle.fdb_keys.specs.Ranges.{Range}
use Rattle.fdb_txn.specs.declared.entry.Entry.{Entry}
use Rattle.fdb_txn.specs.declared.tag_msg.TagMsg.{TagMsg}
use Rattle.fdb_txn.specs.book.Book.{seen_before, last_version}
use Rattle.fdb_txn.specs.rules.Messages.{message_for, messages_for}
use Rattle.fdb_txn.specs.rules.Splits.{piece}
use Rattle.fdb_txn.proofs.Exports.{messages_go_on}
use Rattle.fdb_log.specs.Messages.{above, log_of, tag_message}
use Rattle.fdb_log.specs.Logs.{Log, keeps, kept, popped_through, HasTaken}
use Rattle.fdb_log.specs.declared.message.LogMsg.{LogMsg}
use Rattle.fdb_log.proofs.Exports.{above-keeps}
use Rattle.fdb_storage.specs.LogMessages.{log_message}
use Rattle.fdb_storage.proofs.Exports.{logs_are_sent_the_messages}
use Rattle.fdb_proxy.specs.declared.config.Config.{Config}
use Rattle.fdb_roles.specs.AtBook.{IsLogAfter}
use Rattle.fdb_roles.proofs.BookLemmas.{take-take, take-next}
use Rattle.fdb_roles.proofs.LogLemmas.{same-keeps}

-- a front of a front, whichever is shorter
pub take-both : {A : Type 0} (n m : ℕ) (xs : List A) → take n (take m xs) ≡ take (min n m) xs
take-both n m xs = ⊎_elim
    (λ shorter. take-take xs n m (le_of_lt shorter) ∙ ap (λ (k : ℕ). take k xs)
    (let is : n ≡ min n m = omega (arith, shorter) in is))
    (λ longer. take_all n (take m xs) (let count = length-take m xs in omega (arith, count, longer))
    ∙ ap (λ (k : ℕ). take k xs) (let is : m ≡ min n m = omega (arith, longer) in is))
    (cases_lt n m)

-- with one more entry there is one more message above a version that the entries before reach
kept-next : (splits : List Point) (range : Range) (book : List Entry) (i : ℕ) (entry : Entry) (low : ℕ)
    → slice_get book i ≡ Some entry → low < entry.version
    → above low (messages_for splits range (take i book))
    ++ message_for splits range (seen_before book i) entry ∷ []
    ≡ above low (messages_for splits range (take (i + 1) book))
kept-next splits range book i entry low there later =
    ap (λ (last : List TagMsg). above low (messages_for splits range (take i book)) ++ last)
    (sym (above-keeps low message [] later))
    ∙ sym (filter-append (λ (it : TagMsg). nat_lt low it.version) (messages_for splits range (take i book))
    (message ∷ []))
    ∙ ap (above low)
    (sym (messages_go_on splits range (take i book) (entry ∷ []))
    ∙ ap (messages_for splits range) (sym (take-next book i entry there)
    ∙ ap (λ (n : ℕ). take n book) count))
  where
    message : TagMsg
    message = message_for splits range (seen_before book i) entry

    count : suc i ≡ i + 1
    count = omega arith

-- what a log keeps is of a tag that there is, and that is its own
pub kept-tag : (log : Log) (tag : ℕ) → keeps log tag ≡ true → (tag < log.tags) × (log_of log.logs tag ≡ log.log)
kept-tag log tag is =
    let parts = and_parts (nat_lt tag log.tags) (log_of log.logs tag == log.log) is in
    (ltb-true tag log.tags parts.0, eqb-true (log_of log.logs tag) log.log parts.1)

module _ (config : Config) (book : List Entry) where
  -- a log takes the message of its next entry
  pub log-next : (l : ℕ) (old : Log) (n : ℕ) (entry : Entry) (message : LogMsg) (new : Log)
      → IsLogAfter config book l old n → slice_get book n ≡ Some entry
      → ((tag : ℕ) → keeps old tag ≡ true → popped_through old tag < entry.version)
      → message ≡ log_message config.resolver_splits config.shard_splits config.logs l n
      (seen_before book n) entry
      → HasTaken old message new
      → IsLogAfter config book l new (n + 1)
  log-next l old n entry message new before there unpopped is taken = record {
    number = taken.same.log ∙ before.number;
    logs = taken.same.logs ∙ before.logs;
    tags = taken.same.tags ∙ before.tags;
    works = taken.works;
    within = let inside = slice_get_within book n entry there in omega (arith, inside);
    last = taken.last ∙ ap (λ (it : LogMsg). it.version) is ∙ sym last;
    kept = λ tag keeps_it.
        let kept_before : keeps old tag ≡ true = sym (same-keeps old new tag taken.same) ∙ keeps_it in
        let own = kept-tag old tag kept_before in
        let number : log_of config.logs tag ≡ l = ap (λ (m : ℕ). log_of m tag) (sym before.logs) ∙ own.1
        ∙ before.number in
        let there_is : tag < suc (length config.shard_splits) = subst (λ (m : ℕ). tag < m) before.tags own.0 in
        taken.kept tag kept_before
        ∙ ap₂ (λ (had : List TagMsg) (one : TagMsg). had ++ one ∷ []) (before.kept tag kept_before)
        (ap (tag_message tag)
        (is ∙ ap (λ (log : ℕ). log_message config.resolver_splits config.shard_splits config.logs log n
        (seen_before book n) entry) (sym number))
        ∙ logs_are_sent_the_messages config.resolver_splits config.shard_splits config.logs tag n
        (seen_before book n) entry there_is)
        ∙ kept-next config.resolver_splits (piece config.shard_splits tag) book n entry
        (popped_through old tag) there (unpopped tag kept_before)
        ∙ ap (λ (low : ℕ). above low (messages_for config.resolver_splits (piece config.shard_splits tag)
        (take (n + 1) book))) (sym (taken.popped tag));
  }
    where
      last : last_version (take (n + 1) book) ≡ entry.version
      last =
          let count : n + 1 ≡ suc n = omega arith in
          ap (λ (m : ℕ). last_version (take m book)) count ∙ ap last_version (take-next book n entry there)
          ∙ fold-append (λ (before : ℕ) (e : Entry). e.version) 0 (take n book) (entry ∷ [])

-- one of as many numbers has its place in what is made of them
pub made-at : {A : Type 0} (f : ℕ → A) (n i : ℕ) (x : A)
    → slice_get (map f (range_with_len 0 n)) i ≡ Some x → x ≡ f i
made-at {A} f n i x there =
    let within : i < n = subst (λ (count : ℕ). i < count) (length-map-range_with_len f 0 n)
    (slice_get_within (map f (range_with_len 0 n)) i x there) in
    sym (get_or_from_slice_get (map f (range_with_len 0 n)) i x (f i) there)
    ∙ get_or-map-range_with_len f 0 n i i (f i) within (omega arith)
