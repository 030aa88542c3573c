-- What holds of a committed place of a book, whoever has the book.
use Rattle.std.specs.Prelude.{◌≡◌, ◌↔◌, ℕ, suc, true, List, length, Some}
use Rattle.std.specs.List.{AllByRecursion}
use Rattle.fdb_keys.specs.Points.{Point}
use Rattle.fdb_txn.specs.declared.entry.Entry.{Entry}
use Rattle.fdb_txn.specs.book.Book.{Place, seen_of}
use Rattle.fdb_txn.specs.book.History.{IsBook, IsSealed}
use Rattle.fdb_txn.specs.book.Places.{place_at}
use Rattle.fdb_txn.specs.laws.AdmissionLaws.{IsAmongAsked}
use Rattle.fdb_txn.specs.rules.Admission.{committed}
use Rattle.fdb_txn.specs.rules.SerialMap.{serial_map, serial_map_at}
use Rattle.fdb_resolver.specs.declared.verdict.Verdict.TheVariants.{Yes}
use Rattle.fdb_proxy.specs.Verdicts.{verdict_at}
use Rattle.fdb_client.specs.declared.program.Transcript.{Transcript}
use Rattle.fdb_client.specs.Programs.{commit_request_of}
use Rattle.fdb_roles.specs.Spots.{AnsweredOn}

-- the place is that of a book of sealed transactions, with the places before it
pub record IsPlaceOf (splits : List Point) (book : List Entry) (n p : ℕ) (there : Place × List Place) : Type 0 where
  pub book_is : IsBook (suc (length splits)) book
  pub each_sealed : AllByRecursion IsSealed book
  pub there_is : place_at book n p ≡ Some there

-- A transcript whose transaction is committed at a place, and that was answered as on the serial map at its read
-- version, was answered as on the map right before the place.
abbrev pub ReadsOfTheCommittedStand : Type 0
ReadsOfTheCommittedStand =
    (splits : List Point) (book : List Entry) (n p : ℕ) (there : Place × List Place) (transcript : Transcript)
    → IsPlaceOf splits book n p there → there.0.transaction ≡ commit_request_of transcript
    → committed splits there.1 there.0 ≡ true
    → AnsweredOn (serial_map_at splits transcript.read_version (seen_of book).places) transcript
    → AnsweredOn (serial_map splits there.1) transcript

-- a place is committed exactly where each resolver that is asked about it says yes
abbrev pub CommittedWhereTheAskedSayYes : Type 0
CommittedWhereTheAskedSayYes =
    (splits : List Point) (book : List Entry) (n p : ℕ) (there : Place × List Place) → IsPlaceOf splits book n p there
    → (committed splits there.1 there.0 ≡ true) ↔
    ((i : ℕ) → IsAmongAsked splits there.0 i → verdict_at splits i there.1 there.0 ≡ Yes)
