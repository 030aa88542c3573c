-- A sequencer that appends to the book itself.
use Rattle.std.proofs.Common.{◌≡◌, ◌∙◌, ◌<◌, refl, sym, ap, subst, ℕ, suc, List, [], ◌∷◌, ◌++◌, Option, Some, None}
use Rattle.std.proofs.Common.{Bool, true, false, inl, inr, Result, Ok, Err, OnErr, ⊎_elim}
use Rattle.std.specs.Prelude.{◌&&◌, ◌==◌, nat_lt, nat_le, length, if◌then◌else◌}
use Rattle.std.specs.List.{AllByRecursion, list_all}
use Rattle.std.proofs.lemmas.Bool.{and_parts, eqb-true, ltb-true}
use Rattle.std.proofs.lemmas.List.{append_assoc}
use Rattle.fdb_keys.specs.Answers.{Answers, AnswersExactly}
use Rattle.fdb_keys.specs.declared.refusal.Refusal.{Refusal}
use Rattle.fdb_keys.specs.declared.refusal.Refusal.TheVariants.{Chain}
use Rattle.fdb_keys.specs.declared.refusal.Refused.{Refused}
use Rattle.fdb_txn.specs.declared.entry.Entry.{Entry}
use Rattle.fdb_txn.specs.declared.entry.Move.{Move}
use Rattle.fdb_txn.specs.book.Book.{last_version, last_horizon}
use Rattle.fdb_txn.specs.book.History.{AreEntries, IsSealed}
use Rattle.fdb_txn.specs.book.Transactions.{Transaction, NamesWrites}
use Rattle.fdb_txn.proofs.Exports.{entries_go_on}
use Rattle.fdb_book.specs.Appending.{goes_on, has_next_horizon, ids_fault, append_fault, Appends, Found}
use Rattle.fdb_book.specs.Ids.{repeated_place}
use Rattle.fdb_sequencer.specs.declared.ticket.Ticket.{Ticket}
use Rattle.fdb_sequencer.specs.declared.dated.Dated.{Dated}
use Rattle.fdb_sequencer.specs.Moves.{dated}
use Rattle.fdb_sequencer.specs.Sequencer.{Sequencer, planned, plan_fault, accept_fault, accepting, unlearnt_by}
use Rattle.fdb_sequencer.specs.Sequencer.{fresh, next_version, report_fault, reporting, move_fault, moving}
use Rattle.fdb_sequencer.specs.Sequencer.{set_window_fault, windowing}
use Rattle.fdb_sequencer.proofs.Exports.{planned_are_accepted}
use Rattle.fdb_proxy.specs.declared.config.Config.{Config}
use Rattle.fdb_roles.specs.AtBook.{AreLastOf, IsSequencerAt}
use Rattle.fdb_roles.specs.Entries.{dated_moves, entry_of}
use Rattle.fdb_roles.proofs.Exports.{answers-fault, given-fault, sequencer_goes_on, sequencer_starts, sequencer_reports}
use Rattle.fdb_roles.proofs.Exports.{sequencer_moves, sequencer_windows, last-push, dated_moves-push}
use Rattle.fdb_sections.specs.Issuing.{IsAppendRefused}

abbrev pub ReadBelow : ℕ → List Transaction → Type 0
ReadBelow version batch = AllByRecursion (λ (t : Transaction). t.read < version) batch

-- an entry that may be appended goes on from the book
pub may-append : (capacity : ℕ) (book : List Entry) (entry : Entry) → append_fault capacity book entry ≡ None
    → goes_on (last_version book) (last_horizon book) entry ≡ true
may-append capacity book entry none = by_test (goes_on (last_version book) (last_horizon book) entry) refl none
  where
    by_test : (test : Bool) → goes_on (last_version book) (last_horizon book) entry ≡ test
        → (if test then ids_fault (repeated_place book entry.batch) (length book == capacity) else Some Chain) ≡ None
        → goes_on (last_version book) (last_horizon book) entry ≡ true
    by_test true is same = is
    by_test false is same = cc

read-below : (version : ℕ) (batch : List Transaction)
    → list_all (λ (t : Transaction). nat_lt t.read version) batch ≡ true → ReadBelow version batch
read-below version [] all = tt
read-below version (t ∷ batch) all =
    let parts = and_parts (nat_lt t.read version) (list_all (λ (t : Transaction). nat_lt t.read version) batch) all in
    (ltb-true t.read version parts.0, read-below version batch parts.1)

-- what goes on from a version and a horizon
pub going-on : (last horizon : ℕ) (entry : Entry) → goes_on last horizon entry ≡ true
    → (last < entry.version) × (entry.prev ≡ last) × ReadBelow entry.version entry.batch
    × (entry.horizon < entry.version)
going-on last horizon entry on =
    let reads = list_all (λ (t : Transaction). nat_lt t.read entry.version) entry.batch in
    let is_next = has_next_horizon horizon entry in
    let chain = and_parts (entry.prev == last) (nat_lt last entry.version && (is_next && reads)) on in
    let above = and_parts (nat_lt last entry.version) (is_next && reads) chain.1 in
    let next = and_parts is_next reads above.1 in
    let horizons = and_parts (nat_le horizon entry.horizon) (nat_lt entry.horizon entry.version) next.0 in (
      ltb-true last entry.version above.0,
      eqb-true entry.prev last chain.0,
      read-below entry.version entry.batch next.1,
      ltb-true entry.horizon entry.version horizons.1,
    )

both : (version : ℕ) (batch : List Transaction) → ReadBelow version batch → AllByRecursion NamesWrites batch
    → AllByRecursion (λ (t : Transaction). (t.read < version) × NamesWrites t) batch
both version [] reads names = tt
both version (t ∷ batch) reads names = ((reads.0, names.0), both version batch reads.1 names.1)

-- the book with a sealed entry that may be appended, whose moves go to resolvers that exist
pub one-entry-more : (resolvers capacity : ℕ) (book : List Entry) (entry : Entry) → AreEntries resolvers 0 book
    → append_fault capacity book entry ≡ None → IsSealed entry
    → AllByRecursion (λ (move : Move). move.to < resolvers) entry.moves
    → AreEntries resolvers 0 (book ++ entry ∷ [])
one-entry-more resolvers capacity book entry entries none names targets =
    let on = going-on (last_version book) (last_horizon book) entry (may-append capacity book entry none) in
    entries_go_on resolvers 0 book entry entries
    (on.0, (on.1, on.3), targets, both entry.version entry.batch on.2 names, tt)

-- an append that is refused
pub append-refused : (capacity : ℕ) (book : List Entry) (entry : Entry) (refused : Refused (Option Found))
    → Appends capacity book entry (Err refused)
    → IsAppendRefused (append_fault capacity book entry) refused.why
append-refused capacity book entry refused answers = by_fault (append_fault capacity book entry) refl answers
  where
    by_fault : (fault : Option Refusal) → append_fault capacity book entry ≡ fault
        → Appends capacity book entry (Err refused)
        → IsAppendRefused (append_fault capacity book entry) refused.why
    by_fault (Some fault) is = rw is (λ because. because.0)
    by_fault None is = rw is (⊎_elim (λ lacks. inl lacks.0) (λ taken. inr taken.0))

-- a ticket's moves are the last ones of the book with its entry
pub moves-are-last : (book : List Entry) (batch : List Transaction) (s : Sequencer) (proxy advance : ℕ)
    → IsSequencerAt book s
    → AreLastOf (planned s proxy advance).moves (dated_moves (book ++ entry_of (planned s proxy advance) batch ∷ []))
moves-are-last book batch s proxy advance at =
    let was = at.unlearnt proxy in
    let version = next_version s.last advance in (
      was.0,
      sym (append_assoc was.0 (unlearnt_by s proxy) (dated version s.pending))
          ∙ ap (λ (moves : List Dated). moves ++ dated version s.pending) was.1
          ∙ sym (dated_moves-push book (entry_of (planned s proxy advance) batch)),
    )

-- what is known of a sequencer at a front
abbrev pub IsThere : Config → List Entry → Sequencer → Type 0
IsThere config front state =
    IsSequencerAt front state × (state.proxies ≡ config.proxies)
    × (state.resolvers ≡ suc (length config.resolver_splits))

-- one that took a report, or was refused, stays there
pub reported : {T : Type 0} (config : Config) (front : List Entry) (version : ℕ) (old new : Sequencer)
    (result : Result T Refusal)
    → AnswersExactly result (report_fault old version) (λ _. new ≡ reporting old version) → OnErr result (new ≡ old)
    → IsThere config front old → IsThere config front new
reported config front version old new (Err why) answers same there = subst (IsThere config front) (sym same) there
reported config front version old new (Ok given) answers same there =
    let taken = given-fault (report_fault old version) given (λ _. new ≡ reporting old version) answers in
    subst (IsThere config front) (sym taken.1)
    (sequencer_reports front old version there.0 taken.0, there.1, there.2)

-- and so does one that made a move
pub moved : {T : Type 0} (config : Config) (front : List Entry) (move : Move) (old new : Sequencer)
    (result : Result T Refusal)
    → Answers result (move_fault old move) (λ _. new ≡ moving old move) → OnErr result (new ≡ old)
    → IsThere config front old → IsThere config front new
moved config front move old new (Err why) answers same there = subst (IsThere config front) (sym same) there
moved config front move old new (Ok given) answers same there =
    let made = answers-fault (move_fault old move) given (λ _. new ≡ moving old move) answers in
    subst (IsThere config front) (sym made.1) (sequencer_moves front old move there.0 made.0, there.1, there.2)

-- and one of which the window was set
pub windowed : {T : Type 0} (config : Config) (front : List Entry) (window : ℕ) (old new : Sequencer)
    (result : Result T Refusal)
    → AnswersExactly result (set_window_fault window) (λ _. new ≡ windowing old window) → OnErr result (new ≡ old)
    → IsThere config front old → IsThere config front new
windowed config front window old new (Err why) answers same there = subst (IsThere config front) (sym same) there
windowed config front window old new (Ok given) answers same there =
    let set = given-fault (set_window_fault window) given (λ _. new ≡ windowing old window) answers in
    subst (IsThere config front) (sym set.1) (sequencer_windows front old window there.0 set.0, there.1, there.2)

-- a new one is at the front of no entries
pub starts : (config : Config) (front : List Entry) (state : Sequencer) (proxies resolvers : ℕ) → front ≡ []
    → state ≡ fresh proxies resolvers 0 → proxies ≡ config.proxies → resolvers ≡ suc (length config.resolver_splits)
    → IsThere config front state
starts config front state proxies resolvers none is of_proxies of_resolvers =
    subst (λ (entries : List Entry). IsThere config entries state) (sym none)
    (subst (IsThere config []) (sym is) (sequencer_starts proxies resolvers, of_proxies, of_resolvers))

-- The entry of a ticket is appended to the front.
module _ (front : List Entry) (batch : List Transaction) (state : Sequencer) (ticket : Ticket) (entry : Entry)
    (longer : List Entry) (entry_is : entry ≡ entry_of ticket batch) (longer_is : longer ≡ front ++ entry ∷ []) where
  whole : longer ≡ front ++ entry_of ticket batch ∷ []
  whole = longer_is ∙ ap (λ (e : Entry). front ++ e ∷ []) entry_is

  -- who accepts the ticket is at the longer front
  pub accepted-there : (config : Config) (new : Sequencer) → IsThere config front state
      → accept_fault state ticket ≡ None → new ≡ accepting state ticket → IsThere config longer new
  accepted-there config new there none new_is =
      subst (IsThere config longer) (sym new_is)
      (subst (λ (entries : List Entry). IsThere config entries (accepting state ticket)) (sym whole)
      (sequencer_goes_on front batch state ticket there.0 none, there.1, there.2))

  -- the longer front ends at the ticket's version, and each transaction read below that
  pub read-below-it : (capacity : ℕ) → append_fault capacity front entry ≡ None
      → (last_version longer ≡ ticket.version) × ReadBelow ticket.version batch
  read-below-it capacity none = (
    ap last_version longer_is ∙ last-push front entry ∙ ap (λ (e : Entry). e.version) entry_is,
    subst (λ (e : Entry). ReadBelow e.version e.batch) entry_is
        (going-on (last_version front) (last_horizon front) entry (may-append capacity front entry none)).2,
  )

  -- the moves of a planned ticket are the last ones there
  pub its-moves : (proxy advance : ℕ) → IsSequencerAt front state → ticket ≡ planned state proxy advance
      → AreLastOf ticket.moves (dated_moves longer)
  its-moves proxy advance at is =
      subst (λ (entries : List Entry). AreLastOf ticket.moves (dated_moves entries)) (sym whole)
      (subst (λ (t : Ticket). AreLastOf t.moves (dated_moves (front ++ entry_of t batch ∷ []))) (sym is)
      (moves-are-last front batch state proxy advance at))

-- what is planned is accepted
pub planned-accepted : (state : Sequencer) (ticket : Ticket) (proxy advance : ℕ) → plan_fault state proxy advance ≡ None
    → ticket ≡ planned state proxy advance → accept_fault state ticket ≡ None
planned-accepted state ticket proxy advance none is =
    subst (λ (t : Ticket). accept_fault state t ≡ None) (sym is) (planned_are_accepted state proxy advance none)
