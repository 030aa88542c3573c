-- What a session that is told of its transaction knows of it on its own front.
use Rattle.std.proofs.Common.{◌≡◌, ◌∙◌, refl, sym, ap, subst, ◌<◌, ℕ, zero, suc, Bool, true, false, ⊎_elim}
use Rattle.std.proofs.Common.{if◌then◌else◌, List, [], ◌∷◌, ◌++◌, take, length, Option, Some, None, slice_get, arith}
use Rattle.std.specs.Prelude.{◌-◌}
use Rattle.std.proofs.lemmas.Bool.{cases_Bool}
use Rattle.std.proofs.lemmas.List.{take-append-le}
use Rattle.fdb_keys.specs.Points.{Point}
use Rattle.fdb_keys.specs.declared.refusal.Refusal.{Refusal}
use Rattle.fdb_keys.specs.declared.refusal.Refusal.TheVariants.{NotCommitted, TransactionTooOld}
use Rattle.fdb_txn.specs.declared.entry.Entry.{Entry}
use Rattle.fdb_txn.specs.book.Book.{Head, Place, Seen, head_of, placed, seen_of, last_version}
use Rattle.fdb_txn.specs.book.History.{AreEntries, HorizonsRise, ReadsBelow}
use Rattle.fdb_txn.specs.book.Once.{NoIdTwice}
use Rattle.fdb_txn.specs.book.Places.{place_in, place_of, place_at}
use Rattle.fdb_txn.specs.book.Transactions.{Transaction}
use Rattle.fdb_txn.specs.rules.Admission.{is_fresh, committed}
use Rattle.fdb_txn.proofs.Exports.{books_are_entries, places_are_found_in_the_book}
use Rattle.fdb_book.proofs.Exports.{last-version}
use Rattle.fdb_book.specs.Fronts.{IsPrefix}
use Rattle.fdb_proxy.specs.declared.outcome.Outcome.{Outcome}
use Rattle.fdb_proxy.specs.declared.outcome.Outcome.TheVariants as outcome
use Rattle.fdb_client.specs.declared.program.Transcript.{Transcript}
use Rattle.fdb_client.specs.Programs.{commit_request_of}
use Rattle.fdb_roles.specs.Outcomes.{IsByRule}
use Rattle.fdb_roles.proofs.Exports.{all-at, front-at, reads_of_the_committed_stand, entries-below}
use Rattle.fdb_sections.specs.Receipts.{OutcomeAtFront, IsOutcome, IsReceipt, IsToldOf, IsTurnedDown}
use Rattle.fdb_sections.specs.Receipts.{transaction_in, spot_told, settle_fault}
use Rattle.fdb_sections.specs.Sessions.{IsOpenAt}
use Rattle.fdb_sections.proofs.SessionLemmas.{reaches}

-- a place has the version of its entry
place-version : (head : Head) (n : ℕ) (batch : List Transaction) (earlier : List Place) (p : ℕ)
    (found : Place × List Place) → place_in head n batch earlier p ≡ Some found → found.0.version ≡ head.version
place-version head n [] earlier p found is = absurd (let wrong : None ≡ Some found = is in cc)
place-version head n (t ∷ ts) earlier zero found is =
    let same : (placed head n t, earlier) ≡ found = cc in
    subst (λ (it : Place × List Place). it.0.version ≡ head.version) same refl
place-version head n (t ∷ ts) earlier (suc p) found is =
    place-version head (suc n) ts (placed head n t ∷ earlier) p found is

-- a place is in an entry, whose version it has
entry-of : (before : Seen) (p : ℕ) (next : Option Entry) (there : Place × List Place)
    → place_of before p next ≡ Some there
    → (entry : Entry) × (next ≡ Some entry) × (there.0.version ≡ entry.version)
entry-of before p None there is = absurd (let wrong : None ≡ Some there = is in cc)
entry-of before p (Some entry) there is =
    (entry, refl, place-version (head_of before entry) 0 entry.batch before.places p there is)

-- a place of a book stays where entries follow
place-stays : (short long : List Entry) (n p : ℕ) → IsPrefix short long → n < length short
    → place_at long n p ≡ place_at short n p
place-stays short long n p begins within =
    ap (λ (book : List Entry). place_of (seen_of (take n book)) p (slice_get book n)) begins.1
    ∙ ap (λ (before : List Entry). place_of (seen_of before) p (slice_get (short ++ begins.0) n))
    (take-append-le n short begins.0 (omega (arith, within)))
    ∙ ap (place_of (seen_of (take n short)) p) (front-at short begins.0 n within)

-- by the rule, what becomes of a place says whether it is committed there
became-committed : (splits : List Point) (there : Place × List Place) (p version place : ℕ) (became : Outcome)
    → IsByRule splits there p became → became ≡ outcome.Commit version place → committed splits there.1 there.0 ≡ true
became-committed splits there p version place became rule is = ⊎_elim
    (λ yes. yes)
    (λ no. ⊎_elim
    (λ fresh. absurd (let wrong : outcome.Conflict ≡ outcome.Commit version place =
    sym (rule.conflicts.1 (fresh, no)) ∙ is in cc))
    (λ old. absurd (let wrong : outcome.Old ≡ outcome.Commit version place = sym (rule.is_old.1 old) ∙ is in cc))
    (cases_Bool (is_fresh there.0)))
    (cases_Bool (committed splits there.1 there.0))

-- What a session that is told of its transaction knows of it where its front begins with the message's.
module _ (splits : List Point) (long : List Entry) (told : OutcomeAtFront) (transcript : Transcript)
    (entries : AreEntries (suc (length splits)) 0 long) (begins : IsPrefix told.front long)
    (is : IsOutcome splits told) (of : IsToldOf told transcript) where
  within : is.last < length told.front
  within = omega (arith, is.count)

  last-is : is.last ≡ length told.front - 1
  last-is = omega (arith, is.count)

  entry : (entry : Entry) × (slice_get told.front is.last ≡ Some entry) × (is.there.0.version ≡ entry.version)
  entry = entry-of (seen_of (take is.last told.front)) told.place (slice_get told.front is.last) is.there is.there_is

  in-batch : slice_get (entry.0).batch told.place ≡ Some is.there.0.transaction
  in-batch = (places_are_found_in_the_book told.front is.last told.place entry.0 is.there.0 is.there.1 entry.1
      is.there_is).0

  asked : is.there.0.transaction ≡ commit_request_of transcript
  asked =
      let found : Some is.there.0.transaction ≡ Some (commit_request_of transcript) =
      sym in-batch ∙ sym (ap (λ (it : Option Entry). transaction_in it told.place) entry.1)
      ∙ ap (λ (n : ℕ). transaction_in (slice_get told.front n) told.place) last-is ∙ of.0 in
      cc

  there-is : place_at long is.last told.place ≡ Some is.there
  there-is = place-stays told.front long is.last told.place begins within ∙ is.there_is

  version-is : is.there.0.version ≡ last_version told.front
  version-is = (entry.2) ∙ sym (last-version 0 told.front is.last entry.0 is.count entry.1)

  fault-commits : (became : Outcome) → settle_fault became ≡ None
      → (version place : ℕ) × (became ≡ outcome.Commit version place)
  fault-commits (outcome.Commit version place) none = (version, place, refl)
  fault-commits outcome.Conflict none = cc
  fault-commits outcome.Old none = cc

  below : transcript.read_version < last_version told.front
  below =
      let resolvers = suc (length splits) in
      let found : slice_get long is.last ≡ Some entry.0 =
      ap (λ (book : List Entry). slice_get book is.last) begins.1 ∙ front-at told.front begins.0 is.last within
      ∙ entry.1 in
      let all : ReadsBelow entry.0 =
      all-at ReadsBelow long is.last entry.0 (entries-below resolvers 0 long entries) found in
      let one : is.there.0.transaction.read < (entry.0).version =
      all-at (λ (t : Transaction). t.read < (entry.0).version) (entry.0).batch told.place is.there.0.transaction all
      in-batch in
      subst (λ (version : ℕ). transcript.read_version < version) (sym entry.2 ∙ version-is)
      (subst (λ (t : Transaction). t.read < (entry.0).version) asked one)

  -- where it is committed it has its receipt there
  pub receipt-told : NoIdTwice long → HorizonsRise 0 long → (number next : ℕ)
      → IsOpenAt splits number next long transcript → settle_fault told.outcome ≡ None
      → IsReceipt splits (record { front = long; spot = spot_told told; transcript = transcript })
  receipt-told ids rise number next opened none =
      let resolvers = suc (length splits) in
      let book = (books_are_entries resolvers long).1 (entries, ids, rise) in
      let became = fault-commits told.outcome none in
      let commits =
      became-committed splits is.there told.place became.0 became.1 told.outcome is.by_rule became.2 in
      record {
        serialized = (
          is.there,
          subst (λ (n : ℕ). place_at long n told.place ≡ Some is.there) last-is there-is,
          version-is,
          asked,
          commits,
          reads_of_the_committed_stand splits long is.last told.place is.there transcript
              (record { book_is = book.0; each_sealed = book.1; there_is = there-is }) asked commits opened.answered,
        );
        reached = reaches resolvers told.front long entries begins;
        after = below;
      }

  -- else it is turned down there
  pub turned-down : (why : Refusal) → settle_fault told.outcome ≡ Some why
      → IsTurnedDown splits long transcript why told.conflict
  turned-down why fault = record {
    entry = is.last;
    place = told.place;
    there = is.there;
    there_is = there-is;
    asked = asked;
    uncommitted = no;
    why_is = by_rule (is_fresh is.there.0) refl;
    conflicts = is.conflict;
  }
    where
      no : committed splits is.there.1 is.there.0 ≡ false
      no = ⊎_elim
          (λ yes. absurd (let wrong : None ≡ Some why =
          sym (ap settle_fault (is.by_rule.commits.1 yes)) ∙ fault in cc))
          (λ no. no)
          (cases_Bool (committed splits is.there.1 is.there.0))

      by_rule : (fresh : Bool) → is_fresh is.there.0 ≡ fresh
          → why ≡ (if fresh then NotCommitted else TransactionTooOld)
      by_rule true fresh =
          let same : Some NotCommitted ≡ Some why =
          sym (ap settle_fault (is.by_rule.conflicts.1 (fresh, no))) ∙ fault in
          cc
      by_rule false old =
          let same : Some TransactionTooOld ≡ Some why = sym (ap settle_fault (is.by_rule.is_old.1 old)) ∙ fault in
          cc
