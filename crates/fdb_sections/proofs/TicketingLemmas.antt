-- A ticket that came with a front is compared with the front's last entry, and learnt.
use Rattle.std.proofs.Common.{◌≡◌, ◌∙◌, refl, sym, ap, ap₂, subst, ℕ, zero, suc, ◌+◌, ◌≤◌, Bool, true, false, List}
use Rattle.std.proofs.Common.{[], ◌∷◌, ◌++◌, take, drop, length, slice_get, Option, Some, None, arith, Err}
use Rattle.std.proofs.Common.{IsSome, IsNone}
use Rattle.std.specs.Prelude.{if◌then◌else◌, ◌&&◌}
use Rattle.std.specs.Bool.{Decides}
use Rattle.std.specs.Cmp.Lexicographic.{pointwise}
use Rattle.std.proofs.Math.Seq.{take-append_seam}
use Rattle.std.proofs.lemmas.Bool.{true≢false}
use Rattle.std.proofs.lemmas.Bool.Decides.{Decides-and, Decides-eqb}
use Rattle.std.proofs.lemmas.List.{take-append-drop, drop-append-le}
use Rattle.std.proofs.lemmas.Option.{same_Some}
use Rattle.fdb_keys.proofs.Exports.{items_eq_decides}
use Rattle.fdb_keys.specs.Answers.{Answers}
use Rattle.fdb_keys.specs.Ranges.{Range}
use Rattle.fdb_keys.specs.declared.refusal.Refusal.{Refusal}
use Rattle.fdb_keys.specs.declared.refusal.Refusal.TheVariants.{NoMemory, WrongState}
use Rattle.fdb_txn.specs.Equality.{sealed_eq}
use Rattle.fdb_txn.proofs.Exports.{sealed_eq_decides}
use Rattle.fdb_txn.specs.declared.entry.Entry.{Entry}
use Rattle.fdb_txn.specs.book.History.{AreEntries, HorizonsRise}
use Rattle.fdb_txn.specs.book.Transactions.{Transaction}
use Rattle.fdb_book.specs.Fronts.{IsPrefix}
use Rattle.fdb_sequencer.specs.declared.ticket.Ticket.{Ticket}
use Rattle.fdb_sequencer.specs.Equality.{dated_eq}
use Rattle.fdb_sequencer.proofs.Exports.{dated_eq_decides}
use Rattle.fdb_sequencer.specs.declared.dated.Dated.{Dated}
use Rattle.fdb_sequencer.specs.Moves.{dated}
use Rattle.fdb_proxy.specs.declared.config.Config.{Config}
use Rattle.fdb_proxy.specs.CommitProxies.{CommitProxy, IsTicketFor, is_sealed, learn_fault}
use Rattle.fdb_proxy.specs.CommitProxies.{HasLearntTicket, HasFailed}
use Rattle.fdb_roles.specs.ProxyStages.{IsCommitProxyAt}
use Rattle.fdb_roles.specs.Entries.{dated_moves, entry_of}
use Rattle.fdb_roles.proofs.Exports.{proxies_learn_their_tickets, take-take}
use Rattle.fdb_sections.specs.CommitProxiesAtFronts.{AreSetsOf}
use Rattle.fdb_sections.specs.Ticketing.{is_of_entry, IsTicketOf, are_left, AnswersTicket}
use Rattle.fdb_sections.proofs.CommitProxyLemmas.{Holds, front-is, before-count}

-- the ticket of a front's last entry, which comes to a proxy with fewer entries
module _ (config : Config) (own front : List Entry) (proxy : CommitProxy) (ticket : Ticket)
    (is : IsTicketOf own front proxy.batch ticket) (agree : length own ≤ length front → IsPrefix own front)
    (entries : AreEntries (suc (length config.resolver_splits)) 0 front) (rise : HorizonsRise 0 front)
    (at : IsCommitProxyAt config own proxy) where
  abbrev before : List Entry
  before = take ticket.index front

  abbrev between : List Entry
  between = drop (length own) before

  -- who learns a ticket doesn't look at the moves that were pending
  abbrev its : Ticket
  its = record ticket { pending = is.entry.moves }

  prefix : IsPrefix own front
  prefix = agree (let count = is.last.count in let low = is.behind in omega (arith, count, low))

  own-first : take (length own) before ≡ own
  own-first = take-take front (length own) ticket.index is.behind ∙ ap (take (length own)) prefix.1
      ∙ take-append_seam own prefix.0

  parted : own ++ between ≡ before
  parted = ap (λ (first : List Entry). first ++ between) (sym own-first) ∙ take-append-drop (length own) before

  same-entry : is.entry ≡ entry_of its proxy.batch
  same-entry = λ i. record {
    version = (sym is.its.version) i;
    prev = (sym is.its.prev) i;
    horizon = (sym is.its.horizon) i;
    moves = is.entry.moves;
    batch = is.its.places i;
  }

  whole : front ≡ (own ++ between) ++ entry_of its proxy.batch ∷ []
  whole = front-is front ticket.index is.entry is.last
      ∙ ap₂ (λ (first : List Entry) (entry : Entry). first ++ entry ∷ []) (sym parted) same-entry

  count : length before ≡ ticket.index
  count = before-count front ticket.index is.entry is.last

  number : ticket.index ≡ length (own ++ between)
  number = sym (ap length parted ∙ count)

  behind : drop (length own) front ≡ between ++ entry_of its proxy.batch ∷ []
  behind = ap (drop (length own)) (front-is front ticket.index is.entry is.last)
      ∙ drop-append-le (length own) before (is.entry ∷ []) (let low = is.behind in omega (arith, low, count))
      ∙ ap (λ (entry : Entry). between ++ entry ∷ []) same-entry

  entries-there : AreEntries (suc (length config.resolver_splits)) 0
      ((own ++ between) ++ entry_of its proxy.batch ∷ [])
  entries-there = subst (AreEntries (suc (length config.resolver_splits)) 0) whole entries

  rise-there : HorizonsRise 0 ((own ++ between) ++ entry_of its proxy.batch ∷ [])
  rise-there = subst (HorizonsRise 0) whole rise

  moves-there : ticket.moves ≡ dated_moves (between ++ entry_of its proxy.batch ∷ [])
  moves-there = is.moves ∙ ap dated_moves behind

  pub may-learn : IsTicketFor proxy ticket
  may-learn =
      let law = proxies_learn_their_tickets config own between proxy its at entries-there rise-there number moves-there
      in
      record {
        targets = law.0.targets;
        rising = law.0.rising;
        later = law.0.later;
        horizon = law.0.horizon;
        below = law.0.below;
      }

  learns : learn_fault proxy ticket ≡ (if is_sealed proxy.stage then None else Some WrongState)
  learns = (proxies_learn_their_tickets config own between proxy its at entries-there rise-there number moves-there).1

  -- the state refuses it only as it does where no batch is sealed, or for memory
  pub refused-as : (T : Type 0) (why : Refusal) (P : T → Type 0)
      → Answers {T = T} (Err why) (learn_fault proxy ticket) P
      → AnswersTicket {T = T} (Err why) own front proxy ticket
  refused-as T why P answers = by_stage (is_sealed proxy.stage) refl
    where
      fault-at : (sealed : Bool) → is_sealed proxy.stage ≡ sealed
          → Answers {T = T} (Err why) (if sealed then None else Some WrongState) P
      fault-at sealed stage = subst (λ (f : Option Refusal). Answers {T = T} (Err why) f P)
          (learns ∙ ap (λ (test : Bool). if test then None else Some WrongState) stage) answers

      by_stage : (sealed : Bool) → is_sealed proxy.stage ≡ sealed
          → AnswersTicket {T = T} (Err why) own front proxy ticket
      by_stage true stage =
          let lacks : why ≡ NoMemory = fault-at true stage in
          let none : learn_fault proxy ticket ≡ None =
          learns ∙ ap (λ (test : Bool). if test then None else Some WrongState) stage in
          rw lacks (none, is)
      by_stage false stage =
          let wrong : why ≡ WrongState = fault-at false stage in rw wrong (at.works, is, stage)

  its-learnt : (new : CommitProxy) → HasLearntTicket proxy ticket new → HasLearntTicket proxy its new
  its-learnt new learnt = record {
    resolving = learnt.resolving;
    rest = learnt.rest;
    learnt = record {
      splits = learnt.learnt.splits;
      floor = learnt.learnt.floor;
      moves = learnt.learnt.moves;
    };
    without_verdicts = record {
      rest = learnt.without_verdicts.rest;
      parts = learnt.without_verdicts.parts;
    };
  }

  pub is-there : (conflicts : List (List Range)) (new : CommitProxy) → HasLearntTicket proxy ticket new
      → Holds config front conflicts new
  is-there conflicts new learnt = (
    λ _. subst (λ (shown : List Entry). IsCommitProxyAt config shown new) (sym whole)
        ((proxies_learn_their_tickets config own between proxy its at entries-there rise-there number moves-there).2 new
        (its-learnt new learnt)).0,
    subst (λ (it : CommitProxy). AreSetsOf config front it.stage conflicts) (sym learnt.rest) tt,
  )

-- one whose ticket the state refused stays there, or has failed
pub refused-there : (config : Config) (own : List Entry) (conflicts : List (List Range)) (old new : CommitProxy)
    (ticket : Ticket)
    → Holds config own conflicts old → (IsSome (learn_fault old ticket) → new ≡ old)
    → (IsNone (learn_fault old ticket) → HasFailed old ticket new) → Holds config own conflicts new
refused-there config own conflicts old new ticket holds same fails = by_fault (learn_fault old ticket) same fails
  where
    by_fault : (fault : Option Refusal) → (IsSome fault → new ≡ old) → (IsNone fault → HasFailed old ticket new)
        → Holds config own conflicts new
    by_fault (Some why) stays failed = subst (Holds config own conflicts) (sym (stays refl)) holds
    by_fault None stays failed = (
      λ works. absurd (true≢false (sym (ap (λ (p : CommitProxy). p.is_failed) (failed refl).rest) ∙ works)),
      subst (λ (it : CommitProxy). AreSetsOf config own it.stage conflicts) (sym (failed refl).rest) tt,
    )

-- the entries from one on are that one and those behind it
drop-next : (front : List Entry) (i : ℕ) (entry : Entry) → slice_get front i ≡ Some entry
    → drop i front ≡ entry ∷ drop (suc i) front
drop-next [] i entry there = cc
drop-next (first ∷ front) zero entry there = let same : first ≡ entry = cc in ap (λ (e : Entry). e ∷ front) same
drop-next (first ∷ front) (suc i) entry there = drop-next front i entry there

-- What is left behind the moves of an entry agrees with the entries behind it as what was left before does with those
-- from the entry on.
pub goes-on : (front : List Entry) (i : ℕ) (entry : Entry) → slice_get front i ≡ Some entry
    → (rest : List Dated) (left : Option (List Dated))
    → ((more : List Dated) → pointwise dated_eq rest (dated entry.version entry.moves ++ more) ≡ are_left left more)
    → pointwise dated_eq rest (dated_moves (drop i front)) ≡ are_left left (dated_moves (drop (i + 1) front))
goes-on front i entry there rest left after =
    let next : suc i ≡ i + 1 = omega arith in
    ap (λ (entries : List Entry). pointwise dated_eq rest (dated_moves entries)) (drop-next front i entry there)
    ∙ after (dated_moves (drop (suc i) front))
    ∙ ap (λ (n : ℕ). are_left left (dated_moves (drop n front))) next

-- a front that doesn't go on behind the own one has no ticket
pub not-longer : (own front : List Entry) (batch : List Transaction) (ticket : Ticket) → length front ≤ length own
    → IsTicketOf own front batch ticket → ⊥
not-longer own front batch ticket short is =
    let count = is.last.count in let low = is.behind in omega (arith, short, count, low)

-- the last entry and the moves decide
module _ (own front : List Entry) (batch : List Transaction) (ticket : Ticket) (n : ℕ) (entry : Entry)
    (count : length front ≡ suc n) (there : slice_get front n ≡ Some entry) (behind : length own ≤ n) where
  abbrev tests : Bool
  tests = is_of_entry n entry batch ticket
      && pointwise dated_eq ticket.moves (dated_moves (drop (length own) front))

  each-test : Decides tests
      ((((((ticket.index ≡ n) × (ticket.version ≡ entry.version)) × (ticket.prev ≡ entry.prev))
      × (ticket.horizon ≡ entry.horizon)) × (entry.batch ≡ batch))
      × (ticket.moves ≡ dated_moves (drop (length own) front)))
  each-test =
      Decides-and _ _
      (Decides-and _ _
      (Decides-and _ _
      (Decides-and _ _
      (Decides-and _ _ (Decides-eqb ticket.index n) (Decides-eqb ticket.version entry.version))
      (Decides-eqb ticket.prev entry.prev))
      (Decides-eqb ticket.horizon entry.horizon))
      (items_eq_decides sealed_eq sealed_eq_decides entry.batch batch))
      (items_eq_decides dated_eq dated_eq_decides ticket.moves (dated_moves (drop (length own) front)))

  decided : Decides tests (IsTicketOf own front batch ticket)
  decided = (
    λ all.
        let parts = each-test.0 all in
        let index = parts.0.0.0.0.0 in record {
          entry = entry;
          last = record {
            count = count ∙ ap suc (sym index);
            there = ap (slice_get front) index ∙ there;
          };
          behind = subst (λ (i : ℕ). length own ≤ i) (sym index) behind;
          its = record {
            index = refl;
            version = parts.0.0.0.0.1;
            prev = parts.0.0.0.1;
            places = parts.0.1;
            horizon = parts.0.0.1;
          };
          moves = parts.1;
        },
    λ is.
        let its-count = is.last.count in
        let index : ticket.index ≡ n = omega (arith, its-count, count) in
        let same : is.entry ≡ entry = same_Some is.entry entry
        (sym is.last.there ∙ ap (slice_get front) index ∙ there) in
        each-test.1 (
          (
            (
              (
                (index, is.its.version ∙ ap (λ (e : Entry). e.version) same),
                is.its.prev ∙ ap (λ (e : Entry). e.prev) same,
              ),
              is.its.horizon ∙ ap (λ (e : Entry). e.horizon) same,
            ),
            sym (ap (λ (e : Entry). e.batch) same) ∙ is.its.places,
          ),
          is.moves,
        ),
  )

  -- where it is the entry's, the moves decide
  pub by-moves : (result : Bool) → is_of_entry n entry batch ticket ≡ true
      → result ≡ pointwise dated_eq ticket.moves (dated_moves (drop (length own) front))
      → Decides result (IsTicketOf own front batch ticket)
  by-moves result of_entry is =
      subst (λ (test : Bool). Decides test (IsTicketOf own front batch ticket))
      (ap (λ (test : Bool). test && pointwise dated_eq ticket.moves (dated_moves (drop (length own) front))) of_entry
      ∙ sym is) decided

  -- and else it isn't that of the front
  pub by-entry : (result : Bool) → result ≡ is_of_entry n entry batch ticket → result ≡ false
      → Decides result (IsTicketOf own front batch ticket)
  by-entry result is isn't =
      subst (λ (test : Bool). Decides test (IsTicketOf own front batch ticket))
      (ap (λ (test : Bool). test && pointwise dated_eq ticket.moves (dated_moves (drop (length own) front)))
      (sym is ∙ isn't) ∙ sym isn't) decided
