-- When one of the acknowledged is serialized at its spot, by the run that has come there.
use Rattle.std.proofs.Common.{◌≡◌, ◌∙◌, sym, ap, subst, refl, ◌↔◌, ℕ, zero, suc, ◌+◌, ◌-◌, arith, Bool, true, false}
use Rattle.std.proofs.Common.{List, [], ◌∷◌, length, Some, None, slice_get}
use Rattle.std.specs.Prelude.{Result, Ok, Err, IfOk, IfErr}
use Rattle.std.proofs.lemmas.Bool.{both_ways}
use Rattle.std.proofs.lemmas.Option.{same_Some}
use Rattle.fdb_keys.specs.Points.{Point}
use Rattle.fdb_keys.specs.Answers.{Answers}
use Rattle.fdb_keys.specs.declared.refusal.Refusal.{Refusal}
use Rattle.fdb_mutations.specs.Maps.{Map}
use Rattle.fdb_txn.specs.declared.entry.Entry.{Entry}
use Rattle.fdb_txn.specs.book.Transactions.{Transaction}
use Rattle.fdb_txn.specs.book.Book.{Head, Place, Seen, head_of, placed, seen_before, seen_of}
use Rattle.fdb_txn.specs.book.Places.{place_in, place_of, place_at}
use Rattle.fdb_txn.specs.rules.Admission.{committed}
use Rattle.fdb_txn.specs.rules.SerialMap.{serial_map, serial_map_at}
use Rattle.fdb_txn.specs.declared.spot.Spot.{Spot}
use Rattle.fdb_txn.specs.declared.spot.Spot.TheVariants as spot
use Rattle.fdb_txn.specs.book.History.{AreEntries}
use Rattle.fdb_proxy.specs.declared.outcome.Outcome.{Outcome}
use Rattle.fdb_proxy.specs.Logging.{is_commit}
use Rattle.fdb_proxy.specs.Verdicts.{outcomes_on, outcome_at}
use Rattle.fdb_client.specs.declared.program.Transcript.{Transcript}
use Rattle.fdb_client.specs.Programs.{commit_request_of}
use Rattle.fdb_proxy.proofs.Exports.{commit-at}
use Rattle.fdb_roles.specs.Spots.{AnsweredOn, WroteNothing, IsSerializedAt, IsReadOnlyAt, IsSerializedAtSpot}
use Rattle.fdb_roles.specs.Spots.{IsSerialized}
use Rattle.fdb_roles.specs.declared.placed.Placed.{Placed}
use Rattle.fdb_roles.proofs.Exports.{entries-rising, map-between, place-found}
use Rattle.fdb_check.specs.Running.{map_after, IsNotPast, HasComeTo, moment}
use Rattle.fdb_check.specs.Spots.{entries_through, moment_of}
use Rattle.fdb_check.proofs.RunningLemmas.{map-first}
use Rattle.fdb_check.proofs.SpotLemmas.{IsThrough, through}
use Rattle.fdb_check.proofs.ReplayLemmas.{place-map}
use Rattle.fdb_check.specs.declared.run.Run.{Run}
use Rattle.fdb_check.specs.declared.visits.Visit.{Visit}
use Rattle.fdb_check.specs.declared.fault.CheckFault.{CheckFault}
use Rattle.fdb_check.specs.declared.fault.CheckFault.TheVariants as fault

-- no place without an entry, and none without a transaction
none-there : (before : Seen) (p : ℕ) (there : Place × List Place) → place_of before p None ≡ Some there → ⊥
none-there before p there is = cc

none-in : (head : Head) (n : ℕ) (batch : List Transaction) (earlier : List Place) (p : ℕ)
    (there : Place × List Place)
    → slice_get batch p ≡ None → place_in head n batch earlier p ≡ Some there → ⊥
none-in head n [] earlier p there none is = cc
none-in head n (t ∷ batch) earlier zero there none is = cc
none-in head n (t ∷ batch) earlier (suc p) there none is =
    none-in head (suc n) batch (placed head n t ∷ earlier) p there none is

-- what isn't so is answered by false
pub answers-not : {P : Type 0} → (P → ⊥) → (false ≡ true) ↔ P
answers-not never = (λ yes. absurd (both_ways _ refl yes), λ holds. absurd (never holds))

module _ (splits : List Point) (book : List Entry) (n p version : ℕ) (transcript : Transcript) where
  pub no-entry : slice_get book n ≡ None → IsSerializedAt splits book transcript n p version → ⊥
  no-entry none stands = none-there (seen_before book n) p stands.0
      (ap (place_of (seen_before book n) p) (sym none) ∙ stands.1)

  module _ (entry : Entry) (there : slice_get book n ≡ Some entry) where
    abbrev before : Seen
    before = seen_before book n

    abbrev head : Head
    head = head_of before entry

    pub no-place : slice_get entry.batch p ≡ None → IsSerializedAt splits book transcript n p version → ⊥
    no-place none stands = none-in head 0 entry.batch before.places p stands.0 none
        (ap (place_of before p) (sym there) ∙ stands.1)

    module _ (t : Transaction) (at : slice_get entry.batch p ≡ Some t) where
      pub found : (earlier : List Place)
          × (place_in head 0 entry.batch before.places p ≡ Some (placed head (0 + p) t, earlier))
          × (slice_get (outcomes_on splits before entry) p
          ≡ Some (outcome_at splits earlier (placed head (0 + p) t) (0 + p)))
      found = place-found splits head entry.batch before.places 0 p t at

      abbrev here : Place × List Place
      here = (placed head (0 + p) t, found.0)

      here-is : place_at book n p ≡ Some here
      here-is = ap (place_of before p) there ∙ found.1

      same-place : (stands : IsSerializedAt splits book transcript n p version) → stands.0 ≡ here
      same-place stands = same_Some stands.0 here (sym stands.1 ∙ here-is)

      -- its version is the entry's
      pub version-is : IsSerializedAt splits book transcript n p version → entry.version ≡ version
      version-is stands = sym (ap (λ (one : Place × List Place). one.0.version) (same-place stands)) ∙ stands.2

      -- it commits just where its outcome says so
      pub commits-is : (outcome : Outcome) → slice_get (outcomes_on splits before entry) p ≡ Some outcome
          → is_commit outcome ≡ committed splits here.1 here.0
      commits-is outcome its =
          ap is_commit (same_Some outcome (outcome_at splits found.0 here.0 (0 + p)) (sym its ∙ found.2))
          ∙ commit-at splits found.0 here.0 (0 + p)

      pub commits-there : (outcome : Outcome) → slice_get (outcomes_on splits before entry) p ≡ Some outcome
          → IsSerializedAt splits book transcript n p version → is_commit outcome ≡ true
      commits-there outcome its stands =
          commits-is outcome its
          ∙ sym (ap (λ (one : Place × List Place). committed splits one.1 one.0) (same-place stands)) ∙ stands.4

      -- there is an outcome
      pub outcome-there : (outcome : Outcome) × (slice_get (outcomes_on splits before entry) p ≡ Some outcome)
      outcome-there = (outcome_at splits found.0 here.0 (0 + p), found.2)

      -- and the rest is what the transcript asks for, answered on the map before
      pub stands-there : (outcome : Outcome) (map : Map) (same : Bool)
          → slice_get (outcomes_on splits before entry) p ≡ Some outcome
          → is_commit outcome ≡ true → entry.version ≡ version
          → map ≡ map_after (serial_map splits before.places) entry.batch (outcomes_on splits before entry) p
          → (same ≡ true) ↔ ((t ≡ commit_request_of transcript) × AnsweredOn map transcript)
          → (same ≡ true) ↔ IsSerializedAt splits book transcript n p version
      stands-there outcome map same its commits right map_is answers = (
        λ yes.
            let both = answers.0 yes in (
              here,
              here-is,
              right,
              both.0,
              sym (commits-is outcome its) ∙ commits,
              subst (λ (m : Map). AnsweredOn m transcript) (map_is ∙ sym run_is) both.1,
            ),
        λ stands.
            let is = same-place stands in
            answers.1 (
              sym (ap (λ (one : Place × List Place). one.0.transaction) is) ∙ stands.3,
              subst (λ (m : Map). AnsweredOn m transcript)
                  (ap (λ (one : Place × List Place). serial_map splits one.1) is ∙ run_is ∙ sym map_is) stands.5,
            ),
      )
        where
          run_is : serial_map splits here.1
              ≡ map_after (serial_map splits before.places) entry.batch (outcomes_on splits before entry) p
          run_is = place-map splits head entry.batch before.places 0 p here found.1

-- and of one that wrote nothing, by the run that has come to its version
pub reads-there : (splits : List Point) (book : List Entry)
    (v n : ℕ) (transcript : Transcript) (run : Run) (same : Bool)
    → AreEntries (suc (length splits)) 0 book → n ≡ entries_through book v → HasComeTo splits book n 0 run
    → v ≡ transcript.read_version
    → (same ≡ true) ↔ (WroteNothing transcript × AnsweredOn run.map transcript)
    → (same ≡ true) ↔ IsReadOnlyAt splits book transcript v
reads-there splits book v n transcript run same entries are come right answers = (
  λ yes.
      let both = answers.0 yes in
      (right, both.0, subst (λ (m : Map). AnsweredOn m transcript) map_is both.1),
  λ stands. answers.1 (stands.1, subst (λ (m : Map). AnsweredOn m transcript) (sym map_is) stands.2),
)
  where
    known : IsThrough 0 v book n
    known = subst (IsThrough 0 v book) (sym are) (through (suc (length splits)) 0 v book entries (omega arith))

    map_is : run.map ≡ serial_map_at splits v (seen_of book).places
    map_is = map-first splits book n run come
        ∙ sym (map-between splits book (entries-rising (suc (length splits)) book entries) n v known.0 known.1)

-- what a call that may lack memory answers
pub found-means : (answer : Result Bool Refusal) (result : Result Bool CheckFault) (P Q : Bool → Type 0)
    → IfOk answer (λ same. result ≡ Ok same) → IfErr answer (λ _. result ≡ Err fault.NoMemory)
    → Answers answer None P → ((same : Bool) → P same → Q same) → IfOk result Q
found-means (Ok same) result P Q is lacks answers follows =
    subst (λ (r : Result Bool CheckFault). IfOk r Q) (sym is) (follows same answers)
found-means (Err why) result P Q is lacks answers follows =
    subst (λ (r : Result Bool CheckFault). IfOk r Q) (sym lacks) tt

-- what is found at a spot in an entry, by the moment of the visit
pub entry-spot : (splits : List Point) (book : List Entry) (visit : Visit) (one : Placed) (index place version : ℕ)
    (old new : Run) (result : Result Bool CheckFault)
    → one.spot ≡ spot.Entry index place version → moment visit ≡ moment_of book one.spot
    → IsNotPast old visit.entries (visit.places - 1)
    → (IsNotPast old index place → IfOk result (λ stands.
    ((stands ≡ true) ↔ IsSerializedAt splits book one.transcript index place version)
    × ((stands ≡ true) → HasComeTo splits book index place new)))
    → IfOk result (λ stands. ((stands ≡ true) ↔ IsSerialized splits book one)
    × ((stands ≡ true) → HasComeTo splits book visit.entries (visit.places - 1) new))
entry-spot splits book visit one index place version old new result is at not_past finds =
    subst (λ (now : Spot). IfOk result (λ stands. ((stands ≡ true) ↔ IsSerializedAtSpot splits book one.transcript now)
    × ((stands ≡ true) → HasComeTo splits book visit.entries (visit.places - 1) new))) (sym is)
    (subst (λ (n : ℕ). IfOk result (λ stands.
    ((stands ≡ true) ↔ IsSerializedAt splits book one.transcript index place version)
    × ((stands ≡ true) → HasComeTo splits book n (visit.places - 1) new))) (sym entries_are)
    (subst (λ (p : ℕ). IfOk result (λ stands.
    ((stands ≡ true) ↔ IsSerializedAt splits book one.transcript index place version)
    × ((stands ≡ true) → HasComeTo splits book index p new))) (sym place_is)
    (finds (subst (IsNotPast old index) place_is
    (subst (λ (n : ℕ). IsNotPast old n (visit.places - 1)) entries_are not_past)))))
  where
    moments : moment visit ≡ (index, suc place)
    moments = at ∙ ap (moment_of book) is

    entries_are : visit.entries ≡ index
    entries_are = ap (λ (m : ℕ × ℕ). m.0) moments

    place_is : visit.places - 1 ≡ place
    place_is = let places_are : visit.places ≡ suc place = ap (λ (m : ℕ × ℕ). m.1) moments in omega (arith, places_are)
