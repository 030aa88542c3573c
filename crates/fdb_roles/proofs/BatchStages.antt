-- The batch of an entry of a book, while its commit proxy learns the ticket, hears verdicts, decides and hears logs.
use Rattle.std.proofs.Common.{◌≡◌, ◌∙◌, refl, sym, ap, ap₂, subst, inl, inr, ⊎_elim, ℕ, zero, suc, ◌<◌, Bool, true}
use Rattle.std.proofs.Common.{false, ◌&&◌, List, [], ◌∷◌, ◌++◌, length, take, replicate, Option, Some, None}
use Rattle.std.proofs.Common.{slice_get, slice_set, if◌then◌else◌, ◌≤◌, arith}
use Rattle.std.specs.Prelude.{nat_le}
use Rattle.std.specs.List.{AllByRecursion, list_any}
use Rattle.std.proofs.lemmas.Bool.{cases_eq, lt-leb}
use Rattle.std.proofs.lemmas.List.{length-append, length-set, length-replicate}
use Rattle.std.proofs.lemmas.Option.{same_Some, slice_get_within}
use Rattle.fdb_keys.specs.Points.{Point}
use Rattle.fdb_txn.specs.declared.entry.Entry.{Entry}
use Rattle.fdb_txn.specs.book.Book.{Seen, head_of, add_entry, seen_of, seen_before}
use Rattle.fdb_txn.specs.book.Places.{place_of}
use Rattle.fdb_txn.specs.book.History.{AreEntries, IsHistory}
use Rattle.fdb_txn.specs.book.Transactions.{Transaction}
use Rattle.fdb_txn.proofs.Exports.{places_are_history, seen_of-push}
use Rattle.fdb_owners.specs.OwnersLaws.{AgreesWith}
use Rattle.fdb_resolver.specs.declared.part.Part.{Part}
use Rattle.fdb_resolver.specs.declared.verdict.Verdicts.{Verdicts}
use Rattle.fdb_resolver.specs.Rule.{Found, finds}
use Rattle.fdb_sequencer.specs.declared.ticket.Ticket.{Ticket}
use Rattle.fdb_sequencer.specs.TicketLaws.{GoToResolvers, MayBeLearnt}
use Rattle.fdb_sequencer.specs.declared.dated.Dated.{Dated}
use Rattle.fdb_log.specs.declared.message.LogAck.{LogAck}
use Rattle.fdb_storage.specs.LogMessages.{log_messages}
use Rattle.fdb_proxy.specs.declared.config.Config.{Config}
use Rattle.fdb_proxy.specs.declared.logging.Logging.{Logging as Decided}
use Rattle.fdb_proxy.specs.declared.outcome.Outcome.{Outcome}
use Rattle.fdb_proxy.specs.declared.position.Position.{Position}
use Rattle.fdb_proxy.specs.declared.resolving.Resolving.{Resolving as Unheard}
use Rattle.fdb_proxy.specs.declared.stage.Stage.TheVariants as core
use Rattle.fdb_proxy.specs.CommitProxies.{CommitProxy as Core, IsTicketFor, HasLearntTicket, learn_fault, is_sealed}
use Rattle.fdb_proxy.specs.CommitProxies.{moves_with, position_of}
use Rattle.fdb_proxy.specs.Conflicts.{conflicts_by}
use Rattle.fdb_proxy.specs.Deciding.{Said, outcomes_by}
use Rattle.fdb_proxy.specs.Logging.{answers_by, messages_by, with_acknowledgement}
use Rattle.fdb_proxy.specs.Parting.{AreParts}
use Rattle.fdb_proxy.specs.Resolving.{with_verdicts, has_not_come, asks, first_missing}
use Rattle.fdb_proxy.specs.Verdicts.{moves_through, verdicts_on, is_needed, outcomes_on, found_at}
use Rattle.fdb_proxy.specs.VerdictLaws.{AreByTheRule, AreFoundByTheRule}
use Rattle.fdb_proxy.proofs.Exports.{conflicts_are_joined_by_the_rule, messages_hold_the_committed}
use Rattle.fdb_proxy.proofs.Exports.{entries_are_decided_by_the_rule, items_where_asked, unasked_find_nothing}
use Rattle.fdb_roles.specs.ProxyStages.{IsStageAt, IsCommitProxyAt, IsBatchOf, IsResolving, IsLogging, IsSaid}
use Rattle.fdb_roles.specs.ProxyStages.{AreFindsOn, AreConflictsOn, position_in}
use Rattle.fdb_roles.specs.Entries.{dated_moves, entry_of}
use Rattle.fdb_roles.proofs.AllLemmas.{within-item}
use Rattle.fdb_roles.proofs.ListLemmas.{last-at, set-here, set-other}
use Rattle.fdb_roles.proofs.BookLemmas.{entries-take, last-push, last_horizon-push, seen-before-last}
use Rattle.fdb_roles.proofs.BookLemmas.{seen_before-next}
use Rattle.fdb_roles.proofs.MoveLemmas.{moves-append, moves-of-book}

-- moves that are all above a version
fresh-moves : (last : ℕ) (moves : List Dated) → AllByRecursion (λ (of : Dated). last < of.version) moves
    → list_any (λ (of : Dated). nat_le of.version last) moves ≡ false
fresh-moves last [] above = refl
fresh-moves last (of ∷ moves) above = rw (lt-leb of.version last above.0) (fresh-moves last moves above.1)

-- A ticket that may be learnt by who had one of a version.
module _ (splits : List Point) (p : Core) (ticket : Ticket) (same : p.owners.splits ≡ splits)
    (may : MayBeLearnt (suc (length splits)) p.last p.owners.floor ticket) where
  -- is for a proxy that had it, where it is above what the batch read at
  pub ticket-fits : AllByRecursion (λ (t : Transaction). t.read < ticket.version) p.batch → IsTicketFor p ticket
  ticket-fits later = record {
    targets = subst (λ (ss : List Point). GoToResolvers (suc (length ss)) ticket.moves) (sym same) may.targets;
    rising = may.rising;
    later = later;
    horizon = may.horizon;
    below = may.below;
  }

  -- and isn't refused where the batch is sealed
  pub ticket-learns : p.is_failed ≡ false → is_sealed p.stage ≡ true → learn_fault p ticket ≡ None
  ticket-learns works sealed =
      rw (works, sealed, lt-leb ticket.version p.last may.later, fresh-moves p.last ticket.moves may.above) refl

-- nothing came yet
none-came : (n r : ℕ) (said : Said) → slice_get (replicate n None) r ≡ Some (Some said) → ⊥
none-came zero r said there = cc
none-came (suc n) zero said there = cc
none-came (suc n) (suc r) said there = none-came n r said there

-- and nothing was found by anyone
nothing-found : (n r : ℕ) (of : Found) → slice_get (replicate n []) r ≡ Some of
    → (slice_get (replicate {A = Option Said} n None) r ≡ Some None) × (of ≡ [])
nothing-found zero r of there = cc
nothing-found (suc n) zero of there = (refl, sym (same_Some [] of there))
nothing-found (suc n) (suc r) of there = nothing-found n r of there

-- What stands once a proxy learnt the ticket of the entry that comes after these: it has the entry too, its batch waits
-- for verdicts, and it has the entry's parts.
pub record IsLearnt (config : Config) (before : List Entry) (old new : Core) (ticket : Ticket)
    (resolving : Unheard) : Type 0 where
  pub at : IsCommitProxyAt config (before ++ entry_of ticket old.batch ∷ []) new
  pub stage : new.stage ≡ core.Resolving resolving
  pub parts : AreParts config.resolver_splits (moves_through (seen_of before) (entry_of ticket old.batch))
      (position_of ticket) old.batch resolving.parts

-- A proxy that has some of these entries learnt a ticket with the moves of the others.
module _ (config : Config) (front before : List Entry) (old new : Core) (ticket : Ticket)
    (had : IsCommitProxyAt config front old) (learnt : HasLearntTicket old ticket new)
    (number : ticket.index ≡ length before) (low : old.owners.floor ≤ ticket.horizon)
    (all : dated_moves front ++ ticket.moves ≡ dated_moves (before ++ entry_of ticket old.batch ∷ [])) where
  abbrev splits : List Point
  splits = config.resolver_splits

  abbrev entry : Entry
  entry = entry_of ticket old.batch

  abbrev grown : List Entry
  grown = before ++ entry ∷ []

  splits-learnt : new.owners.splits ≡ splits
  splits-learnt = learnt.learnt.splits ∙ had.splits

  owners-grown : AgreesWith new.owners (seen_of grown).moves
  owners-grown = subst (AgreesWith new.owners)
      (ap (moves_with ticket.moves) (sym (moves-of-book front))
      ∙ sym (moves-append (dated_moves front) ticket.moves [])
      ∙ ap (λ (moves : List Dated). moves_with moves []) all ∙ moves-of-book grown)
      (learnt.learnt.moves (seen_of front).moves had.owners)

  owners-through : AgreesWith new.owners (moves_through (seen_of before) entry)
  owners-through = subst (AgreesWith new.owners) (ap (λ (s : Seen). s.moves) (seen_of-push before entry)) owners-grown

  parts-learnt : AreParts splits (moves_through (seen_of before) entry) (position_of ticket) old.batch
      learnt.resolving.parts
  parts-learnt = subst (λ (ss : List Point). AreParts ss (moves_through (seen_of before) entry) (position_of ticket)
      old.batch learnt.resolving.parts) splits-learnt
      (learnt.without_verdicts.parts (moves_through (seen_of before) entry) owners-through)

  at : learnt.resolving.position ≡ position_of ticket
  at = ap (λ (r : Unheard). r.position) learnt.without_verdicts.rest

  waits-learnt : IsResolving splits grown (length before) entry learnt.resolving
  waits-learnt = record {
    parts = subst (λ (n : ℕ). AreParts splits (moves_through (seen_before grown (length before)) entry)
        (position_in n entry) old.batch learnt.resolving.parts) number
        (subst (λ (s : Seen). AreParts splits (moves_through s entry) (position_of ticket) old.batch
        learnt.resolving.parts) (sym (seen-before-last before entry)) parts-learnt);
    count = ap (λ (r : Unheard). length r.verdicts) learnt.without_verdicts.rest
        ∙ length-replicate (length learnt.resolving.parts) None ∙ parts-learnt.count;
    came = λ r said there. absurd (none-came (length learnt.resolving.parts) r said
        (sym (ap (λ (of : Unheard). slice_get of.verdicts r) learnt.without_verdicts.rest) ∙ there));
    found_count = ap (λ (r : Unheard). length r.conflicts) learnt.without_verdicts.rest
        ∙ length-replicate (length learnt.resolving.parts) [] ∙ parts-learnt.count;
    found = λ r of there.
        let none = nothing-found (length learnt.resolving.parts) r of
        (sym (ap (λ (it : Unheard). slice_get it.conflicts r) learnt.without_verdicts.rest) ∙ there) in
        inl (ap (λ (it : Unheard). slice_get it.verdicts r) learnt.without_verdicts.rest ∙ none.0, none.1);
  }

  stage-learnt : new.stage ≡ core.Resolving learnt.resolving
  stage-learnt = ap (λ (p : Core). p.stage) learnt.rest

  at-grown : IsCommitProxyAt config grown new
  at-grown = record {
    works = ap (λ (p : Core). p.is_failed) learnt.rest ∙ had.works;
    logs = ap (λ (p : Core). p.logs) learnt.rest ∙ had.logs;
    shard_splits = ap (λ (p : Core). p.shard_splits) learnt.rest ∙ had.shard_splits;
    splits = splits-learnt;
    owners = owners-grown;
    last = ap (λ (p : Core). p.last) learnt.rest ∙ sym (last-push before entry);
    stage = subst (IsStageAt config grown new.batch) (sym stage-learnt) (
      length before,
      entry,
      (let count = length-append before (entry ∷ []) in omega (arith, count)),
      record {
        there = last-at before entry;
        index = ap (λ (p : Position). p.index) at ∙ number;
        version = ap (λ (p : Position). p.version) at;
        prev = ap (λ (p : Position). p.prev) at;
        places = ap (λ (p : Core). p.batch) learnt.rest;
        horizon = ap (λ (p : Position). p.horizon) at;
      },
      waits-learnt,
    );
    floor =
        let floor = learnt.learnt.floor in
        let horizon = last_horizon-push before entry in
        omega (arith, floor, low, horizon);
  }

  pub is-learnt : IsLearnt config before old new ticket learnt.resolving
  is-learnt = record { at = at-grown; stage = stage-learnt; parts = parts-learnt }

-- where none is missing, who was asked has said something
none-missing : (n : ℕ) (parts : List Part) (verdicts : List (Option Said)) (i : ℕ) (part : Part)
    → first_missing n parts verdicts ≡ None → slice_get verdicts i ≡ Some None
    → slice_get parts i ≡ Some part → asks part ≡ false
none-missing n [] verdicts i part none silent there = cc
none-missing n (first ∷ parts) [] i part none silent there = cc
none-missing n (first ∷ parts) (of ∷ verdicts) zero part none silent there =
    let same : first ≡ part = cc in
    let quiet : of ≡ None = cc in
    by_test (asks part) (rw (same, quiet) at none)
  where
    by_test : (b : Bool) → (if b && true then Some n else
        first_missing (suc n) parts verdicts) ≡ None → b ≡ false
    by_test true is = cc
    by_test false is = refl
none-missing n (first ∷ parts) (of ∷ verdicts) (suc i) part none silent there =
    by_test (asks first && has_not_come (Some of)) none
    (λ later. none-missing (suc n) parts verdicts i part later silent there)
  where
    by_test : (b : Bool) → (if b then Some n else first_missing (suc n) parts verdicts) ≡ None
        → (first_missing (suc n) parts verdicts ≡ None → asks part ≡ false) → asks part ≡ false
    by_test true is others = cc
    by_test false is others = others is

-- the batch of an entry that waits for verdicts
module _ (splits : List Point) (book : List Entry) (i : ℕ) (entry : Entry) (there : slice_get book i ≡ Some entry)
    (batch : Unheard) (is : IsResolving splits book i entry batch) where
  abbrev before : Seen
  before = seen_before book i

  -- one more resolver's came
  pub resolving-heard : (verdicts : Verdicts) (other : Entry) → IsSaid splits book verdicts other → i ≡ verdicts.index
      → IsResolving splits book i entry (with_verdicts batch verdicts)
  resolving-heard verdicts other said same =
      let exists = said.exists in
      let count = is.count in
      record {
        parts = is.parts;
        count = length-set batch.verdicts verdicts.resolver (Some verdicts.answers) ∙ is.count;
        came = λ r one came. ⊎_elim
            (λ equal.
            let here : Some verdicts.answers ≡ Some one = same_Some (Some verdicts.answers) (Some one)
            (sym (ap (slice_get (slice_set batch.verdicts verdicts.resolver (Some verdicts.answers))) equal
            ∙ set-here batch.verdicts verdicts.resolver (Some verdicts.answers) (omega (arith, exists, count)))
            ∙ came) in
            sym (same_Some verdicts.answers one here) ∙ said.answers
            ∙ (λ k. verdicts_on splits (sym equal k) (seen_before book (sym same k)) (entry_is k)))
            (λ differs. is.came r one
            (sym (set-other batch.verdicts verdicts.resolver r (Some verdicts.answers) differs) ∙ came))
            (cases_eq r verdicts.resolver);
        found_count = length-set batch.conflicts verdicts.resolver verdicts.conflicts ∙ is.found_count;
        found = λ r of there. ⊎_elim
            (λ equal. inr (found-here r of equal there))
            (λ differs. ⊎_elim
            (λ silent. inl
            (set-other batch.verdicts verdicts.resolver r (Some verdicts.answers) differs ∙ silent.0, silent.1))
            (λ found. inr found)
            (is.found r of (sym (set-other batch.conflicts verdicts.resolver r verdicts.conflicts differs) ∙ there)))
            (cases_eq r verdicts.resolver);
      }
    where
      entry_is : other ≡ entry
      entry_is = same_Some other entry (sym said.there ∙ ap (slice_get book) (sym same) ∙ there)

      found-here : (r : ℕ) (of : Found) → r ≡ verdicts.resolver
          → slice_get (slice_set batch.conflicts verdicts.resolver verdicts.conflicts) r ≡ Some of
          → AreFindsOn splits r before entry of
      found-here r of equal at =
          let exists = said.exists in
          let count = is.found_count in
          let here : verdicts.conflicts ≡ of = same_Some verdicts.conflicts of
          (sym (ap (slice_get (slice_set batch.conflicts verdicts.resolver verdicts.conflicts)) equal
          ∙ set-here batch.conflicts verdicts.resolver verdicts.conflicts (omega (arith, exists, count))) ∙ at) in
          λ p x. sym (ap (λ (found : Found). finds p found x) here) ∙ said.found p x
          ∙ (λ k. found_at splits (sym equal k)
          (place_of (seen_before book (sym same k)) p (Some (entry_is k))) x)

  -- a part asks where its resolver is asked about some place
  pub asked : (r : ℕ) (part : Part) → slice_get batch.parts r ≡ Some part → asks part ≡ is_needed splits r before entry
  asked r part at = items_where_asked splits (head_of before entry) r 0 entry.batch part.items
      (is.parts.each r part at).items

  history : AreEntries (suc (length splits)) 0 book → IsHistory (suc (length splits)) (add_entry before entry).places
  history entries = subst (λ (seen : Seen). IsHistory (suc (length splits)) seen.places)
      (seen_before-next book i entry there)
      (places_are_history (suc (length splits)) (take (suc i) book)
      (entries-take (suc (length splits)) 0 (suc i) book entries))

  by-the-rule : first_missing 0 batch.parts batch.verdicts ≡ None
      → AreByTheRule splits (head_of before entry) entry.batch before.places batch.verdicts
  by-the-rule none = record {
    count = is.count;
    came = is.came;
    silent = λ r silent.
        let within = slice_get_within batch.verdicts r None silent in
        let count = is.count in
        let parts_count = is.parts.count in
        let part = within-item batch.parts r (omega (arith, within, count, parts_count)) in
        sym (asked r part.0 part.1) ∙ none-missing 0 batch.parts batch.verdicts r part.0 none silent part.1;
  }

  -- once those of each that is asked came, they decide the entry by the rule
  module _ (transactions : List Transaction) (its : IsBatchOf book i transactions batch.position entry)
      (entries : AreEntries (suc (length splits)) 0 book)
      (none : first_missing 0 batch.parts batch.verdicts ≡ None) where
    abbrev outcomes : List Outcome
    outcomes = outcomes_by batch.position.version batch.verdicts (length transactions)

    pub outcomes-decided : outcomes ≡ outcomes_on splits before entry
    outcomes-decided = rw (its.version, its.places)
        (entries_are_decided_by_the_rule splits before entry batch.verdicts (history entries) (by-the-rule none))

    -- what each resolver found is by the rule, also of those who aren't asked
    finds-by-the-rule : AreFoundByTheRule splits (head_of before entry) entry.batch before.places batch.conflicts
    finds-by-the-rule = record {
      count = is.found_count;
      each = λ r of there. ⊎_elim
          (λ silent. subst (λ (found : Found). AreFindsOn splits r before entry found) (sym silent.1)
          (unasked_find_nothing splits (head_of before entry) r entry.batch before.places (history entries)
          ((by-the-rule none).silent r silent.0)))
          (λ found. found)
          (is.found r of there);
    }

    pub conflicts-decided : AreConflictsOn splits before entry (conflicts_by batch.conflicts (length transactions))
    conflicts-decided = rw its.places
        (conflicts_are_joined_by_the_rule splits before entry batch.conflicts (history entries) finds-by-the-rule)

    pub answers-decided : answers_by transactions outcomes ≡ answers_by entry.batch (outcomes_on splits before entry)
    answers-decided = ap₂ answers_by its.places outcomes-decided

-- the batch of an entry that is decided
module _ (config : Config) (book : List Entry) (i : ℕ) (entry : Entry) (decided : Decided)
    (is : IsLogging config book i entry decided) where
  -- one more log's acknowledgement came
  pub logging-heard : (ack : LogAck) → IsLogging config book i entry (with_acknowledgement decided ack)
  logging-heard ack = record {
    answers = is.answers;
    count = length-set decided.acknowledged ack.log true ∙ is.count;
  }

  -- its messages are the entry's
  pub messages-decided : (shard_splits : List Point) (logs : ℕ) (batch : List Transaction)
      → shard_splits ≡ config.shard_splits → logs ≡ config.logs → IsBatchOf book i batch decided.position entry
      → messages_by shard_splits logs batch decided
      ≡ log_messages config.resolver_splits config.shard_splits config.logs i (seen_before book i) entry
  messages-decided shard_splits logs batch splits_are logs_are its =
      (λ k. messages_by (splits_are k) (logs_are k) (its.places k) (record {
        position = record {
          index = its.index k;
          version = its.version k;
          prev = its.prev k;
          horizon = its.horizon k;
        };
        answers = is.answers k;
        acknowledged = decided.acknowledged;
      }))
      ∙ messages_hold_the_committed config.resolver_splits config.shard_splits config.logs i (seen_before book i) entry
      decided.acknowledged
