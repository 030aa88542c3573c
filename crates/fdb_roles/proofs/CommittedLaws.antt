-- What holds of a committed place of a book.
use Rattle.std.proofs.Common.{◌≡◌, ◌∙◌, sym, ap, subst, refl, ◌↔◌, ℕ, suc, ◌<◌, ◌≤◌, Bool, true, false, ◌&&◌}
use Rattle.std.proofs.Common.{if◌then◌else◌, List, [], ◌∷◌, ◌++◌, take, length, Option, Some, None, slice_get}
use Rattle.std.specs.List.{AllByRecursion}
use Rattle.fdb_keys.specs.Points.{Point}
use Rattle.fdb_keys.specs.Ranges.{Range, in_set}
use Rattle.fdb_mutations.specs.Maps.{Map}
use Rattle.fdb_txn.specs.declared.entry.Entry.{Entry}
use Rattle.fdb_txn.specs.book.Transactions.{Transaction}
use Rattle.fdb_txn.specs.book.Book.{Place, Seen, seen_of}
use Rattle.fdb_txn.specs.book.History.{Follows, IsBook, IsHistory, IsSealed}
use Rattle.fdb_txn.specs.book.Places.{place_of}
use Rattle.fdb_txn.specs.rules.Admission.{is_fresh, no_conflict, committed}
use Rattle.fdb_txn.specs.rules.SerialMap.{serial_map, serial_map_at}
use Rattle.fdb_txn.proofs.Exports.{books_are_entries, places_are_history, places_are_found_in_the_book}
use Rattle.fdb_txn.proofs.Exports.{committed_by_the_asked, reads_stand}
use Rattle.fdb_resolver.specs.declared.verdict.Verdict.TheVariants as verdict
use Rattle.fdb_client.specs.declared.program.Op.{Op}
use Rattle.fdb_client.specs.declared.program.Op.TheVariants.{Get, Write, AddRead, AddWrite}
use Rattle.fdb_client.specs.declared.program.Op.TheVariants as operation
use Rattle.fdb_client.specs.declared.program.Reply.{Reply}
use Rattle.fdb_client.specs.declared.program.Reply.TheVariants.{Value, Pairs, Done}
use Rattle.fdb_client.specs.declared.program.Transcript.{Transcript}
use Rattle.fdb_client.specs.ProgramLaws.{is_ordinary, AgreeWhereOrdinary}
use Rattle.fdb_client.specs.Programs.{program, replies_of, exec, add_reads, read_ranges, read_set, commit_request_of}
use Rattle.fdb_client.proofs.Exports.{programs_agree, in_read_ranges}
use Rattle.fdb_roles.specs.Committed.{IsPlaceOf, ReadsOfTheCommittedStand, CommittedWhereTheAskedSayYes}
use Rattle.fdb_roles.specs.Spots.{AnsweredOn}
use Rattle.fdb_roles.proofs.ExtendsLemmas.{map-extends, history-earlier}

-- a snapshot read adds nothing to the read set, whatever it was answered
snapshot-adds : (earlier : List Op) (range : Range) (limit : ℕ) (is_reverse : Bool) (reply : Reply)
    (ranges : List Range)
    → add_reads earlier (operation.Range range limit is_reverse true) reply ranges ≡ ranges
snapshot-adds earlier range limit is_reverse (Value value) ranges = refl
snapshot-adds earlier range limit is_reverse (Pairs pairs) ranges = refl
snapshot-adds earlier range limit is_reverse Done ranges = refl

-- so the replies of ordinary operations alone count
same-adds : (earlier : List Op) (op : Op) (reply other : Reply) (ranges : List Range)
    → (is_ordinary op ≡ true → reply ≡ other)
    → add_reads earlier op reply ranges ≡ add_reads earlier op other ranges
same-adds earlier (Get key snapshot) reply other ranges same = refl
same-adds earlier (operation.Range range limit is_reverse true) reply other ranges same =
    snapshot-adds earlier range limit is_reverse reply ranges
    ∙ sym (snapshot-adds earlier range limit is_reverse other ranges)
same-adds earlier (operation.Range range limit is_reverse false) reply other ranges same =
    ap (λ (r : Reply). add_reads earlier (operation.Range range limit is_reverse false) r ranges) (same refl)
same-adds earlier (Write mutation) reply other ranges same = refl
same-adds earlier (AddRead range) reply other ranges same = refl
same-adds earlier (AddWrite range) reply other ranges same = refl

same-reads : (ops : List Op) (replies others : List Reply) → AgreeWhereOrdinary ops replies others
    → read_ranges ops replies ≡ read_ranges ops others
same-reads [] replies others agree = refl
same-reads (op ∷ earlier) [] others agree = absurd agree
same-reads (op ∷ earlier) (reply ∷ replies) [] agree = absurd agree
same-reads (op ∷ earlier) (reply ∷ replies) (other ∷ others) agree =
    same-adds earlier op reply other (read_ranges earlier replies) agree.0
    ∙ ap (add_reads earlier op other) (same-reads earlier replies others agree.1)

agree-further : (ops : List Op) (one two three : List Reply) → AgreeWhereOrdinary ops one two
    → AgreeWhereOrdinary ops two three → AgreeWhereOrdinary ops one three
agree-further [] [] [] [] first second = tt
agree-further [] [] [] (c ∷ three) first second = absurd second
agree-further [] [] (b ∷ two) three first second = absurd first
agree-further [] (a ∷ one) two three first second = absurd first
agree-further (op ∷ earlier) [] two three first second = absurd first
agree-further (op ∷ earlier) (a ∷ one) [] three first second = absurd first
agree-further (op ∷ earlier) (a ∷ one) (b ∷ two) [] first second = absurd second
agree-further (op ∷ earlier) (a ∷ one) (b ∷ two) (c ∷ three) first second = (
  λ ordinary. first.0 ordinary ∙ second.0 ordinary,
  agree-further earlier one two three first.1 second.1,
)

-- what is answered as on the map at the read version is answered as on the map before the place
answered-before : (splits : List Point) (place : Place) (earlier : List Place) (transcript : Transcript)
    → IsHistory (suc (length splits)) (place ∷ earlier) → place.transaction ≡ commit_request_of transcript
    → committed splits earlier place ≡ true
    → AnsweredOn (serial_map_at splits place.transaction.read (place ∷ earlier)) transcript
    → AnsweredOn (serial_map splits earlier) transcript
answered-before splits place earlier transcript history same commits answered =
    agree-further ops (replies_of transcript.ops) (exec read ops) (exec (serial_map splits earlier) ops) answered
    (programs_agree read (serial_map splits earlier) ops
    (λ x is_read. reads_stand splits earlier place history commits x (reads x ∙ is_read))).0
  where
    ops : List Op
    ops = program transcript.ops

    read : Map
    read = serial_map_at splits place.transaction.read (place ∷ earlier)

    reads : (x : Point) → in_set place.transaction.reads x ≡ read_set read ops x
    reads x =
        ap (λ (t : Transaction). in_set t.reads x) same
        ∙ ap (λ (set : List Range). in_set set x) (same-reads ops (replies_of transcript.ops) (exec read ops) answered)
        ∙ in_read_ranges read ops x

-- later places of a history have at least the version
pub in-newer : (P : Place → Type 0) (newer : List Place) (place : Place) (earlier : List Place)
    → AllByRecursion P (newer ++ place ∷ earlier) → P place
in-newer P [] place earlier all = all.0
in-newer P (first ∷ newer) place earlier all = in-newer P newer place earlier all.1

newer-later : (resolvers : ℕ) (newer : List Place) (place : Place) (earlier : List Place)
    → IsHistory resolvers (newer ++ place ∷ earlier)
    → AllByRecursion (λ (other : Place). place.version ≤ other.version) newer
newer-later resolvers [] place earlier history = tt
newer-later resolvers (first ∷ newer) place earlier history = (
  (in-newer (Follows first) newer place earlier history.1).0,
  newer-later resolvers newer place earlier history.2,
)

-- What is answered as on the map at the read version, of all places of a history, is answered as on the map before its
-- place, where that is committed.
pub answered-at : (splits : List Point) (all newer : List Place) (place : Place) (earlier : List Place)
    (transcript : Transcript)
    → IsHistory (suc (length splits)) all → all ≡ newer ++ place ∷ earlier
    → place.transaction ≡ commit_request_of transcript → committed splits earlier place ≡ true
    → AnsweredOn (serial_map_at splits transcript.read_version all) transcript
    → AnsweredOn (serial_map splits earlier) transcript
answered-at splits all newer place earlier transcript history is same commits answered =
    answered-before splits place earlier transcript here same commits
    (subst (λ (m : Map). AnsweredOn m transcript)
    (map-extends splits transcript.read_version place.version all (place ∷ earlier)
    (subst (λ (v : ℕ). v < place.version) reads_at here.0.0)
    (newer, is, newer-later (suc (length splits)) newer place earlier whole)
    ∙ ap (λ (v : ℕ). serial_map_at splits v (place ∷ earlier)) (sym reads_at)) answered)
  where
    whole : IsHistory (suc (length splits)) (newer ++ place ∷ earlier)
    whole = subst (IsHistory (suc (length splits))) is history

    here : IsHistory (suc (length splits)) (place ∷ earlier)
    here = history-earlier (suc (length splits)) newer (place ∷ earlier) whole

    reads_at : place.transaction.read ≡ transcript.read_version
    reads_at = ap (λ (t : Transaction). t.read) same

entry-of : (before : Seen) (p : ℕ) (next : Option Entry) (there : Place × List Place)
    → place_of before p next ≡ Some there
    → (entry : Entry) × (next ≡ Some entry)
entry-of before p None there is = cc
entry-of before p (Some entry) there is = (entry, refl)

-- the places of a book of sealed transactions are a history
pub history-of : (splits : List Point) (book : List Entry) → IsBook (suc (length splits)) book
    → AllByRecursion IsSealed book → IsHistory (suc (length splits)) (seen_of book).places
history-of splits book book_is each_sealed = places_are_history (suc (length splits)) book
    ((books_are_entries (suc (length splits)) book).0 (book_is, each_sealed)).0

module _ (splits : List Point) (book : List Entry) (n p : ℕ) (there : Place × List Place)
    (place : IsPlaceOf splits book n p there) where
  history : IsHistory (suc (length splits)) (seen_of book).places
  history = history-of splits book place.book_is place.each_sealed

  found : (newer : List Place) × ((seen_of book).places ≡ newer ++ there.0 ∷ there.1)
  found =
      let entry = entry-of (seen_of (take n book)) p (slice_get book n) there place.there_is in
      (places_are_found_in_the_book book n p entry.0 there.0 there.1 entry.1 place.there_is).2

  history-there : IsHistory (suc (length splits)) (there.0 ∷ there.1)
  history-there = history-earlier (suc (length splits)) found.0 (there.0 ∷ there.1)
      (subst (IsHistory (suc (length splits))) found.1 history)

pub reads_of_the_committed_stand : ReadsOfTheCommittedStand
reads_of_the_committed_stand splits book n p there transcript place same commits answered =
    answered-at splits (seen_of book).places at.0 there.0 there.1 transcript
    (history splits book n p there place) at.1 same commits answered
  where
    at : (newer : List Place) × ((seen_of book).places ≡ newer ++ there.0 ∷ there.1)
    at = found splits book n p there place

-- a resolver that says yes of a place admits it
yes-admits : (fresh free : Bool)
    → ((fresh && free) ≡ true)
    ↔ ((if fresh then (if fresh && free then verdict.Yes else verdict.Conflict) else verdict.Old) ≡ verdict.Yes)
yes-admits true true = (λ admits. refl, λ says. refl)
yes-admits true false = (λ admits. cc, λ says. cc)
yes-admits false free = (λ admits. cc, λ says. cc)

pub committed_where_the_asked_say_yes : CommittedWhereTheAskedSayYes
committed_where_the_asked_say_yes splits book n p there place =
    let decides = committed_by_the_asked splits there.1 there.0 (history-there splits book n p there place) in (
      λ commits i asked. (yes-admits (is_fresh there.0) (no_conflict splits i there.1 there.0)).0
          (decides.0 commits i asked),
      λ all. decides.1 (λ i asked. (yes-admits (is_fresh there.0) (no_conflict splits i there.1 there.0)).1
          (all i asked)),
    )
