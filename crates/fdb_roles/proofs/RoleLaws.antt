-- Each role's state at a book with one more entry.
use Rattle.std.proofs.Common.{◌≡◌, ◌∙◌, refl, sym, ap, ap₂, subst, ℕ, suc, ◌+◌, ◌<◌, ◌≤◌, min, le_refl, Bool, true}
use Rattle.std.proofs.Common.{false, not, List, [], ◌∷◌, ◌++◌, length, take, unwrap_or, Option, Some, None, arith}
use Rattle.std.proofs.Common.{⊎_elim}
use Rattle.std.specs.Prelude.{◌==◌, ◌||◌, nat_lt, if◌then◌else◌}
use Rattle.std.specs.List.{AllByRecursion}
use Rattle.std.proofs.lemmas.Bool.{cases_Bool, cases_lt, both_ways, cond-false, eq-eqb, eqb-true, le-ltb, ltb-false}
use Rattle.std.proofs.lemmas.Bool.{or_parts}
use Rattle.std.proofs.lemmas.List.{append-nil, append_assoc, length-append, length-take, take_all, take-append-le}
use Rattle.std.proofs.lemmas.Option.{slice_get_past}
use Rattle.std.proofs.Math.Seq.{take-append-add}
use Rattle.fdb_keys.specs.declared.refusal.Refusal.TheVariants.{Failed, BadConfig, TransactionTooOld}
use Rattle.fdb_txn.specs.declared.entry.Entry.{Entry}
use Rattle.fdb_txn.specs.declared.entry.Move.{Move}
use Rattle.fdb_txn.specs.declared.tag_msg.TagMsg.{TagMsg}
use Rattle.fdb_txn.specs.book.Book.{Seen, seen_of, last_version, last_horizon}
use Rattle.fdb_txn.specs.book.History.{AreEntries}
use Rattle.fdb_txn.specs.book.Transactions.{Transaction}
use Rattle.fdb_txn.specs.rules.Messages.{message_for, messages_for, messages_after}
use Rattle.fdb_txn.specs.rules.Splits.{piece}
use Rattle.fdb_txn.proofs.Exports.{entries_go_on, seen_of-push}
use Rattle.fdb_owners.specs.OwnersLaws.{AgreesWith}
use Rattle.fdb_owners.proofs.Exports.{learning_goes_on}
use Rattle.fdb_resolver.specs.declared.verdict.Verdict.{Verdict}
use Rattle.fdb_sequencer.specs.declared.ticket.Ticket.{Ticket}
use Rattle.fdb_sequencer.specs.declared.dated.Dated.{Dated}
use Rattle.fdb_sequencer.specs.Moves.{dated}
use Rattle.fdb_sequencer.specs.Sequencer.{Sequencer, accepting, unlearnt_by}
use Rattle.fdb_sequencer.proofs.Exports.{accepted_is_now}
use Rattle.fdb_log.specs.declared.message.LogMsg.{LogMsg}
use Rattle.fdb_log.specs.declared.peek.Peek.{Peek}
use Rattle.fdb_log.specs.Logs.{Log, keeps, popped_through, push_fault, peek_fault, peek_of, HasTaken}
use Rattle.fdb_log.specs.Messages.{above}
use Rattle.fdb_storage.specs.LogMessages.{log_message}
use Rattle.fdb_storage.specs.Shards.{Shard, apply_fault, HasApplied}
use Rattle.fdb_storage.specs.StampedMessages.{stamped_fault}
use Rattle.fdb_storage.proofs.Exports.{no_stamped_is_sent}
use Rattle.fdb_proxy.specs.declared.config.Config.{Config}
use Rattle.fdb_roles.specs.RoleLaws.{ResolverGoesOn, OwnersGoOn, SequencerGoesOn, EntriesGoOnByTickets, LogGoesOn}
use Rattle.fdb_roles.specs.RoleLaws.{ShardGoesOn, ShardGoesOnByMessages, LogGivesMessages, ShardGoesOnByItsLog}
use Rattle.fdb_roles.specs.AtBook.{AreLastOf, IsSequencerAt, IsLogAt, IsShardAt, IsLogAfter}
use Rattle.fdb_roles.specs.Entries.{dated_moves, entry_of}
use Rattle.fdb_roles.proofs.ListLemmas.{last-at}
use Rattle.fdb_roles.proofs.BookLemmas.{last-push, last_horizon-push, last-risen, entries-take}
use Rattle.fdb_roles.proofs.BookLemmas.{horizon-within}
use Rattle.fdb_roles.proofs.LogLemmas.{count-messages, gives-messages, gives-through, shard-may-apply, shard-applied}
use Rattle.fdb_roles.proofs.TakenLemmas.{log-next}
use Rattle.fdb_roles.proofs.MoveLemmas.{dated_moves-push, handed-count, handed-own, handed-other}
use Rattle.fdb_roles.proofs.ResolverLemmas.{follows, may-take, takes}

pub resolver_goes_on : ResolverGoesOn
resolver_goes_on splits book entry i old part entries rise at of = (
  may-take splits book entry entries (length book) i old part at of,
  λ verdicts new answer taken.
      let took = takes splits book entry entries (length book) i old part at of
      (last-risen book entry rise) new (Some verdicts.answers)
      (record { verdicts = verdicts; said_them = refl; answer = answer; taken = taken }) in
      (same-some verdicts.answers _ took.0, took.1, took.2),
)
  where
    same-some : (a b : List (ℕ × Verdict)) → Some a ≡ Some b → a ≡ b
    same-some a b is = cc

pub owners_go_on : OwnersGoOn
owners_go_on book entry old new agrees learnt =
    subst (AgreesWith new) (ap (λ (seen : Seen). seen.moves) (sym (seen_of-push book entry)))
    (learning_goes_on old new (seen_of book).moves entry.version entry.moves agrees learnt)

-- what a proxy hasn't had once the ticket is accepted
module _ (book : List Entry) (batch : List Transaction) (old : Sequencer) (ticket : Ticket)
    (at : IsSequencerAt book old) (pending : ticket.pending ≡ old.pending) where
  own-unlearnt : ticket.proxy < length old.unlearnt
      → AreLastOf (unlearnt_by (accepting old ticket) ticket.proxy) (dated_moves (book ++ entry_of ticket batch ∷ []))
  own-unlearnt within = (
    dated_moves (book ++ entry_of ticket batch ∷ []),
    ap (λ (moves : List Dated). dated_moves (book ++ entry_of ticket batch ∷ []) ++ moves)
        (handed-own old ticket within)
        ∙ append-nil (dated_moves (book ++ entry_of ticket batch ∷ [])),
  )

  other-unlearnt : (proxy : ℕ) → (proxy ≡ ticket.proxy → ⊥) → proxy < length old.unlearnt
      → AreLastOf (unlearnt_by (accepting old ticket) proxy) (dated_moves (book ++ entry_of ticket batch ∷ []))
  other-unlearnt proxy differs within =
      let was = at.unlearnt proxy in (
        was.0,
        ap (λ (moves : List Dated). was.0 ++ moves) (handed-other old ticket proxy differs within)
            ∙ sym (append_assoc was.0 (unlearnt_by old proxy) (dated ticket.version old.pending))
            ∙ ap₂ (λ (moves : List Dated) (more : List Move). moves ++ dated ticket.version more) was.1 (sym pending)
            ∙ sym (dated_moves-push book (entry_of ticket batch)),
      )

  no-unlearnt : (proxy : ℕ) → length old.unlearnt ≤ proxy
      → AreLastOf (unlearnt_by (accepting old ticket) proxy) (dated_moves (book ++ entry_of ticket batch ∷ []))
  no-unlearnt proxy past = (
    dated_moves (book ++ entry_of ticket batch ∷ []),
    ap (λ (moves : Option (List Dated)). dated_moves (book ++ entry_of ticket batch ∷ []) ++ unwrap_or moves [])
        (slice_get_past (accepting old ticket).unlearnt proxy
        (let count = handed-count old ticket in omega (arith, count, past)))
        ∙ append-nil (dated_moves (book ++ entry_of ticket batch ∷ [])),
  )

  all-unlearnt : (proxy : ℕ)
      → AreLastOf (unlearnt_by (accepting old ticket) proxy) (dated_moves (book ++ entry_of ticket batch ∷ []))
  all-unlearnt proxy = ⊎_elim
      (λ within. ⊎_elim
      (λ is. let same : proxy ≡ ticket.proxy = eqb-true proxy ticket.proxy is in
      subst (λ (n : ℕ). AreLastOf (unlearnt_by (accepting old ticket) n)
      (dated_moves (book ++ entry_of ticket batch ∷ []))) (sym same)
      (own-unlearnt (subst (λ (n : ℕ). n < length old.unlearnt) same within)))
      (λ isn't. other-unlearnt proxy
      (λ same. both_ways (proxy == ticket.proxy) isn't (eq-eqb proxy ticket.proxy same)) within)
      (cases_Bool (proxy == ticket.proxy)))
      (λ past. no-unlearnt proxy past)
      (cases_lt proxy (length old.unlearnt))

pub sequencer_goes_on : SequencerGoesOn
sequencer_goes_on book batch old ticket at accepted =
    let now = accepted_is_now old ticket accepted in
    let last : last_version (book ++ entry_of ticket batch ∷ []) ≡ ticket.version =
    last-push book (entry_of ticket batch) in
    record {
      accepted = let was = at.accepted in omega (arith, was, length-append book (entry_of ticket batch ∷ []));
      last = sym last;
      committed = let low = at.committed in omega (arith, low, at.last, now.above, last);
      targets = tt;
      unlearnt = all-unlearnt book batch old ticket at now.pending;
      horizon = sym (last_horizon-push book (entry_of ticket batch));
      window = at.window;
    }

pub entries_go_on_by_tickets : EntriesGoOnByTickets
entries_go_on_by_tickets book batch old ticket entries at accepted reads =
    let now = accepted_is_now old ticket accepted in (
      entries_go_on old.resolvers 0 book (entry_of ticket batch) entries (
        subst (λ (version : ℕ). version < ticket.version) at.last now.above,
        (
          now.prev ∙ at.last,
          (let window = at.window in
              let horizon = at.horizon in
              let last = at.last in
              let within : last_horizon book ≤ last_version book =
              horizon-within old.resolvers 0 0 book (le_refl 0) entries in
              omega (arith, now.horizon, now.above, window, horizon, last, within)),
        ),
        subst (AllByRecursion (λ (move : Move). move.to < old.resolvers)) (sym now.pending) at.targets,
        reads,
        tt,
      ),
      let horizon = at.horizon in omega (arith, horizon, now.horizon),
    )

-- the book before its last entry
front : (book : List Entry) (entry : Entry) → take (length book) (book ++ entry ∷ []) ≡ book
front book entry =
    take-append-le (length book) book (entry ∷ []) (le_refl (length book))
    ∙ take_all (length book) book (le_refl (length book))

-- A log takes the message of the next entry.
module _ (config : Config) (book : List Entry) (entry : Entry) (l : ℕ) (old : Log) (message : LogMsg)
    (entries : AreEntries (suc (length config.resolver_splits)) 0 (book ++ entry ∷ []))
    (at : IsLogAt config book l old)
    (is : message
    ≡ log_message config.resolver_splits config.shard_splits config.logs l (length book) (seen_of book) entry) where
  log-may-take : push_fault old message ≡ None
  log-may-take =
      let same : message.prev ≡ old.last =
      ap (λ (m : LogMsg). m.prev) is ∙ (follows config.resolver_splits book entry entries).1.0 ∙ sym at.last in
      cond-false _ _ _ (ap not (eq-eqb message.log old.log (ap (λ (m : LogMsg). m.log) is ∙ sym at.number)))
      ∙ cond-false _ _ _ at.works
      ∙ cond-false _ _ _ (le-ltb message.prev old.last (omega (arith, same)))
      ∙ cond-false _ _ _ (le-ltb old.last message.prev (omega (arith, same)))

  -- it took the first entries of the longer book
  is-after : IsLogAfter config (book ++ entry ∷ []) l old (length book)
  is-after = record {
    number = at.number;
    logs = at.logs;
    tags = at.tags;
    works = at.works;
    within = omega (arith, length-append book (entry ∷ []));
    last = at.last ∙ ap last_version (sym (front book entry));
    kept = λ tag keeps_it. at.kept tag keeps_it
        ∙ ap (λ (all : List Entry). above (popped_through old tag)
        (messages_for config.resolver_splits (piece config.shard_splits tag) all)) (sym (front book entry));
  }

  -- it popped no tag up to the entry
  unpopped : (tag : ℕ) → popped_through old tag < entry.version
  unpopped tag =
      let later = (follows config.resolver_splits book entry entries).0 in
      omega (arith, at.popped tag, at.last, later)

  log-taken : (new : Log) → HasTaken old message new → IsLogAt config (book ++ entry ∷ []) l new
  log-taken new taken =
      let next = log-next config (book ++ entry ∷ []) l old (length book) entry message new
      is-after (last-at book entry) (λ tag keeps_it. unpopped tag)
      (is ∙ ap (λ (all : List Entry). log_message config.resolver_splits config.shard_splits config.logs l
      (length book) (seen_of all) entry) (sym (front book entry))) taken in
      record {
        number = next.number;
        logs = next.logs;
        tags = next.tags;
        works = next.works;
        last = next.last ∙ ap last_version whole;
        popped = λ tag.
            let version : new.last ≡ entry.version = taken.last ∙ ap (λ (m : LogMsg). m.version) is in
            omega (arith, taken.popped tag, unpopped tag, version);
        kept = λ tag keeps_it. next.kept tag keeps_it
            ∙ ap (λ (all : List Entry). above (popped_through new tag)
            (messages_for config.resolver_splits (piece config.shard_splits tag) all)) whole;
      }
    where
      whole : take (length book + 1) (book ++ entry ∷ []) ≡ book ++ entry ∷ []
      whole = take_all (length book + 1) (book ++ entry ∷ []) (omega (arith, length-append book (entry ∷ [])))

pub log_goes_on : LogGoesOn
log_goes_on config book entry l old message entries at is = (
  log-may-take config book entry l old message entries at is,
  λ new taken. log-taken config book entry l old message entries at is new taken,
)

pub shard_goes_on_by_messages : ShardGoesOnByMessages
shard_goes_on_by_messages config book more s old peek entries at is = (
  shard-may-apply config book s old peek at (ap (λ (p : Peek). p.tag) is) (ap (λ (p : Peek). p.after) is)
      (ap (λ (p : Peek). stamped_fault p.messages) is
      ∙ no_stamped_is_sent config.resolver_splits (piece config.shard_splits s) (seen_of book) more),
  λ new applied. shard-applied config book more entries s old new peek at (ap (λ (p : Peek). p.through) is)
      (ap (λ (p : Peek). p.messages) is) applied,
)

pub shard_goes_on : ShardGoesOn
shard_goes_on config book entry s old peek entries at is =
    shard_goes_on_by_messages config book (entry ∷ []) s old peek entries at (is
    ∙ ap (λ (version : ℕ). record {
      tag = s;
      after = old.version;
      through = version;
      messages = message_for config.resolver_splits (piece config.shard_splits s) (seen_of book) entry ∷ [];
    }) (sym (last-push book entry)))

-- a log that answers a peek keeps the tag, and popped it through no more than the peek's version
answered : (log : Log) (tag after : ℕ) → log.is_failed ≡ false → peek_fault log tag after ≡ None
    → (keeps log tag ≡ true) × (popped_through log tag ≤ after)
answered log tag after works none =
    by_tests (not (keeps log tag) || nat_lt log.last after) (nat_lt after (popped_through log tag)) refl refl
    (sym (cond-false log.is_failed (Some Failed) _ works) ∙ none)
  where
    true_from_not_false : (test : Bool) → not test ≡ false → test ≡ true
    true_from_not_false true is = refl
    true_from_not_false false is = cc

    by_tests : (unknown dropped : Bool) → (not (keeps log tag) || nat_lt log.last after) ≡ unknown
        → nat_lt after (popped_through log tag) ≡ dropped
        → (if unknown then Some BadConfig else (if dropped then Some TransactionTooOld else None)) ≡ None
        → (keeps log tag ≡ true) × (popped_through log tag ≤ after)
    by_tests true dropped is also none = cc
    by_tests false true is also none = cc
    by_tests false false is also none = (
      true_from_not_false (keeps log tag) (or_parts (not (keeps log tag)) (nat_lt log.last after) is).0,
      ltb-false after (popped_through log tag) also,
    )

-- A log that took these entries gives a tag's messages of the entries after the first ones.
module _ (config : Config) (book more : List Entry) (l tag limit : ℕ) (log : Log)
    (entries : AreEntries (suc (length config.resolver_splits)) 0 (book ++ more))
    (at : IsLogAt config (book ++ more) l log) (may : peek_fault log tag (last_version book) ≡ None) where
  gives : peek_of log tag (last_version book) limit ≡ record {
    tag = tag;
    after = last_version book;
    through = last_version (book ++ take limit more);
    messages = messages_after config.resolver_splits (piece config.shard_splits tag) (seen_of book) (take limit more);
  }
  gives =
      let fine = answered log tag (last_version book) at.works may in
      ap₂ (λ (through : ℕ) (messages : List TagMsg).
      record { tag = tag; after = last_version book; through = through; messages = messages })
      (gives-through config book more entries tag limit log (at.kept tag fine.0) fine.1)
      (gives-messages config book more entries tag limit log (at.kept tag fine.0) fine.1)

  -- which are as many as there are entries up to the limit
  gives-count : length (peek_of log tag (last_version book) limit).messages ≡ length (take limit more)
  gives-count = ap (λ (peek : Peek). length peek.messages) gives
      ∙ count-messages config.resolver_splits (piece config.shard_splits tag) (seen_of book) (take limit more)

pub log_gives_messages : LogGivesMessages
log_gives_messages = gives

-- the first entries, cut as long as some of them and the first of the others
cut-is : (book more : List Entry) (limit : ℕ)
    → take (length book + length (take limit more)) (book ++ more) ≡ book ++ take limit more
cut-is book more limit =
    take-append-add book more (length (take limit more))
    ∙ ap (λ (those : List Entry). book ++ those)
    (ap (λ (n : ℕ). take n more) (length-take limit more)
    ∙ ⊎_elim
    (λ fewer. ap (λ (n : ℕ). take n more) (let is : min limit (length more) ≡ limit = omega (arith, fewer) in is))
    (λ all. take_all (min limit (length more)) more (omega (arith, all)) ∙ sym (take_all limit more all))
    (cases_lt limit (length more)))

-- A shard applies what a log gives.
module _ (config : Config) (book : List Entry) (s l limit : ℕ) (old : Shard) (log : Log) where
  abbrev given : Peek
  given = peek_of log s old.version limit

  abbrev reached : ℕ
  reached = length book + length given.messages

  -- it has then applied the first entries of the longer book
  abbrev Applies : List Entry → Type 0
  Applies long =
      (apply_fault old given ≡ None) × (length (take reached long) ≡ reached)
      × (given.through ≡ last_version (take reached long))
      × ((new : Shard) → HasApplied old given new → IsShardAt config (take reached long) s new)

  module _ (more : List Entry) (entries : AreEntries (suc (length config.resolver_splits)) 0 (book ++ more))
      (at : IsShardAt config book s old) (has : IsLogAt config (book ++ more) l log)
      (may : peek_fault log s old.version ≡ None) where
    may-give : peek_fault log s (last_version book) ≡ None
    may-give = subst (λ (v : ℕ). peek_fault log s v ≡ None) at.version may

    count : length given.messages ≡ length (take limit more)
    count =
        ap (λ (v : ℕ). length (peek_of log s v limit).messages) at.version
        ∙ gives-count config book more l s limit log entries has may-give

    cut : take reached (book ++ more) ≡ book ++ take limit more
    cut = ap (λ (n : ℕ). take (length book + n) (book ++ more)) count ∙ cut-is book more limit

    given-is : given ≡ record {
      tag = s;
      after = old.version;
      through = last_version (book ++ take limit more);
      messages = messages_after config.resolver_splits (piece config.shard_splits s) (seen_of book) (take limit more);
    }
    given-is =
        ap (λ (v : ℕ). record (peek_of log s v limit) { after = old.version }) at.version
        ∙ ap (λ (p : Peek). record p { after = old.version })
        (gives config book more l s limit log entries has may-give)

    applies : Applies (book ++ more)
    applies =
        let some : AreEntries (suc (length config.resolver_splits)) 0 (book ++ take limit more) =
        subst (AreEntries (suc (length config.resolver_splits)) 0) cut
        (entries-take (suc (length config.resolver_splits)) 0 reached (book ++ more) entries) in
        let next = shard_goes_on_by_messages config book (take limit more) s old given some at given-is in (
          next.0,
          ap length cut ∙ length-append book (take limit more) ∙ ap (λ (n : ℕ). length book + n) (sym count),
          ap (λ (p : Peek). p.through) given-is ∙ ap last_version (sym cut),
          λ new applied. subst (λ (all : List Entry). IsShardAt config all s new) (sym cut) (next.1 new applied),
        )

pub shard_goes_on_by_its_log : ShardGoesOnByItsLog
shard_goes_on_by_its_log config short long s l limit old log begins entries at has may =
    subst (Applies config short s l limit old log) (sym begins.1)
    (applies config short s l limit old log begins.0
    (subst (AreEntries (suc (length config.resolver_splits)) 0) begins.1 entries) at
    (subst (λ (all : List Entry). IsLogAt config all l log) begins.1 has) may)
