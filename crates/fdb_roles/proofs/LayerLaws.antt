-- What each transaction keeps, the run keeps.
use Rattle.std.proofs.Common.{◌≡◌, ◌∙◌, sym, ap, subst, refl, ℕ, suc, ◌≤◌, ◌⊎◌, ⊎_elim, true, false, nat_le}
use Rattle.std.proofs.Common.{List, [], ◌∷◌, ◌++◌, length, arith}
use Rattle.std.specs.FinMap.{empty}
use Rattle.std.specs.List.{AllByRecursion}
use Rattle.std.proofs.lemmas.Bool.{cases_Bool, cond-true, cond-false, leb-true}
use Rattle.std.proofs.lemmas.List.{append_assoc}
use Rattle.fdb_keys.specs.Points.{Point}
use Rattle.fdb_mutations.specs.Maps.{Map}
use Rattle.fdb_mutations.specs.Mutations.{effects}
use Rattle.fdb_txn.specs.book.Book.{Place, seen_of}
use Rattle.fdb_txn.specs.book.History.{Follows, IsHistory}
use Rattle.fdb_txn.specs.book.Transactions.{Transaction}
use Rattle.fdb_txn.specs.rules.Admission.{committed}
use Rattle.fdb_txn.specs.rules.SerialMap.{serial_map, up_to}
use Rattle.fdb_txn.specs.rules.Stamped.{stamped_at, stamped_by}
use Rattle.fdb_txn.proofs.Exports.{AtMost, up_to-all}
use Rattle.fdb_client.specs.declared.program.Transcript.{Transcript}
use Rattle.fdb_roles.specs.Layers.{Keeps, IsAskedBy, BookKeeps}
use Rattle.fdb_roles.proofs.CommittedLaws.{answered-at, history-of, in-newer}

-- the places are the earlier ones after newer ones
abbrev EndsWith : List Place → List Place → Type 0
EndsWith all earlier = (newer : List Place) × (all ≡ newer ++ earlier)

module _ (allows : Transcript → Type 0) (holds : Map → Type 0) (starts : holds empty) (keeps : Keeps allows holds)
    (splits : List Point) (all : List Place) (history : IsHistory (suc (length splits)) all)
    (asked : AllByRecursion (IsAskedBy allows splits all) all) where
  -- a place leaves the property as it is, committed or not
  held-at : (newer : List Place) (place : Place) (earlier : List Place) → all ≡ newer ++ place ∷ earlier
      → holds (serial_map splits earlier) → holds (serial_map splits (place ∷ earlier))
  held-at newer place earlier is before = ⊎_elim
      (λ commits. subst holds (sym (cond-true (committed splits earlier place) after same commits)) (kept commits))
      (λ fails. subst holds (sym (cond-false (committed splits earlier place) after same fails)) before)
      (cases_Bool (committed splits earlier place))
    where
      same : Map
      same = serial_map splits earlier

      after : Map
      after = effects same (stamped_at place)

      by : IsAskedBy allows splits all place
      by = in-newer (IsAskedBy allows splits all) newer place earlier
          (subst (AllByRecursion (IsAskedBy allows splits all)) is asked)

      kept : committed splits earlier place ≡ true → holds after
      kept commits = subst holds
          (ap (λ (t : Transaction). effects same (stamped_by place.version place.number t.mutations)) (sym by.asked))
          (keeps same by.transcript place.version place.number by.allowed
          (answered-at splits all newer place earlier by.transcript history is by.asked commits by.answered) before)

  held : (earlier : List Place) → EndsWith all earlier → holds (serial_map splits earlier)
  held [] ends = starts
  held (place ∷ earlier) ends = held-at ends.0 place earlier ends.1
      (held earlier (ends.0 ++ place ∷ [], ends.1 ∙ sym (append_assoc ends.0 (place ∷ []) earlier)))

-- the places before one of version at most v are of versions at most v
earlier-at-most : (v : ℕ) (place : Place) (earlier : List Place) → place.version ≤ v
    → AllByRecursion (Follows place) earlier → AtMost v earlier
earlier-at-most v place [] most follows = tt
earlier-at-most v place (other ∷ earlier) most follows = (
  (let below = follows.0.0 in omega (arith, below, most)),
  earlier-at-most v place earlier most follows.1,
)

-- the places up to a version end with those that end so before the last one, or are all where that is of such a version
ends-with : (v : ℕ) (place : Place) (earlier : List Place) → AllByRecursion (Follows place) earlier
    → EndsWith earlier (up_to v earlier) → EndsWith (place ∷ earlier) (up_to v (place ∷ earlier))
ends-with v place earlier follows rest = ⊎_elim within above (cases_Bool (nat_le place.version v))
  where
    both : List Place
    both = place ∷ up_to v earlier

    within : nat_le place.version v ≡ true → EndsWith (place ∷ earlier) (up_to v (place ∷ earlier))
    within is = (
      [],
      sym (cond-true (nat_le place.version v) both (up_to v earlier) is
          ∙ ap (λ (rest : List Place). place ∷ rest)
          (up_to-all v earlier (earlier-at-most v place earlier (leb-true place.version v is) follows))),
    )

    above : nat_le place.version v ≡ false → EndsWith (place ∷ earlier) (up_to v (place ∷ earlier))
    above is = (
      place ∷ rest.0,
      ap (λ (places : List Place). place ∷ places) rest.1
          ∙ ap (λ (places : List Place). (place ∷ rest.0) ++ places)
          (sym (cond-false (nat_le place.version v) both (up_to v earlier) is)),
    )

-- so the places up to a version are the last ones of a history
ends-up_to : (resolvers v : ℕ) (places : List Place) → IsHistory resolvers places → EndsWith places (up_to v places)
ends-up_to resolvers v [] history = ([], refl)
ends-up_to resolvers v (place ∷ earlier) history =
    ends-with v place earlier history.1 (ends-up_to resolvers v earlier history.2)

pub book_keeps : (allows : Transcript → Type 0) (holds : Map → Type 0) → holds empty → Keeps allows holds
    → BookKeeps allows holds
book_keeps allows holds starts keeps splits book of v =
    held allows holds starts keeps splits (seen_of book).places history of.each_asked
    (up_to v (seen_of book).places) (ends-up_to (suc (length splits)) v (seen_of book).places history)
  where
    history : IsHistory (suc (length splits)) (seen_of book).places
    history = history-of splits book of.book_is of.each_sealed
