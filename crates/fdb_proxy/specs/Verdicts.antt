-- What resolvers and proxies say of the places of an entry.
use Rattle.std.specs.Prelude.{ℕ, suc, Bool, false, ◌||◌, ◌&&◌, List, [], ◌∷◌, Option, Some, None, if◌then◌else◌}
use Rattle.fdb_keys.specs.Points.{Point}
use Rattle.fdb_txn.specs.declared.entry.Entry.{Entry}
use Rattle.fdb_txn.specs.book.Transactions.{Transaction}
use Rattle.fdb_txn.specs.book.Book.{DatedMove, Head, Place, Seen, add_moves, head_of, placed}
use Rattle.fdb_txn.specs.rules.Owners.{is_asked}
use Rattle.fdb_txn.specs.rules.Admission.{is_fresh, admits, committed}
use Rattle.fdb_txn.specs.rules.Conflicts.{in_conflict, in_conflict_of}
use Rattle.fdb_resolver.specs.declared.verdict.Verdict.{Verdict}
use Rattle.fdb_resolver.specs.declared.verdict.Verdict.TheVariants as verdict
use Rattle.fdb_proxy.specs.declared.outcome.Outcome.{Outcome}
use Rattle.fdb_proxy.specs.declared.outcome.Outcome.TheVariants as outcome

-- what resolver i says of a place after the earlier ones
abbrev pub verdict_at : List Point → ℕ → List Place → Place → Verdict
verdict_at splits i earlier place =
    if is_fresh place then (if admits splits i earlier place then verdict.Yes else verdict.Conflict) else verdict.Old

-- what becomes of place p after the earlier ones
abbrev pub outcome_at : List Point → List Place → Place → ℕ → Outcome
outcome_at splits earlier place p =
    if is_fresh place then (if committed splits earlier place then outcome.Commit place.version p else outcome.Conflict)
    else outcome.Old

-- whether resolver i finds the point at a place, if there is one: it isn't old, and i finds the point of its conflict
-- set
abbrev pub found_at : List Point → ℕ → Option (Place × List Place) → Point → Bool
found_at splits i None x = false
found_at splits i (Some there) x = is_fresh there.0 && in_conflict_of splits i there.1 there.0 x

-- whether a place, if there is one, is refused at the point: it isn't old, and the point is in its conflict set
abbrev pub conflict_at : List Point → Option (Place × List Place) → Point → Bool
conflict_at splits None x = false
conflict_at splits (Some there) x = is_fresh there.0 && in_conflict splits there.1 there.0 x

-- one after another, the places of a batch from number p on, after the earlier ones
module _ (splits : List Point) (head : Head) where
  -- what resolver i says of those that it is asked about
  abbrev pub verdicts_from : ℕ → List Transaction → List Place → ℕ → List (ℕ × Verdict)
  verdicts_from i [] earlier p = []
  verdicts_from i (t ∷ ts) earlier p =
      let place = placed head p t in
      if is_asked splits i place then (p, verdict_at splits i earlier place) ∷ verdicts_from i ts (place ∷ earlier)
      (suc p)
      else verdicts_from i ts (place ∷ earlier) (suc p)

  -- whether resolver i is asked about any
  abbrev pub asks_about : ℕ → ℕ → List Transaction → Bool
  asks_about i p [] = false
  asks_about i p (t ∷ ts) = is_asked splits i (placed head p t) || asks_about i (suc p) ts

  -- what becomes of each
  abbrev pub outcomes_from : List Transaction → List Place → ℕ → List Outcome
  outcomes_from [] earlier p = []
  outcomes_from (t ∷ ts) earlier p =
      let place = placed head p t in
      outcome_at splits earlier place p ∷ outcomes_from ts (place ∷ earlier) (suc p)

-- the moves through an entry, after what was seen before it
abbrev pub moves_through : Seen → Entry → List DatedMove
moves_through before entry = add_moves entry.version entry.moves before.moves

-- resolver i's verdicts on an entry, by place
abbrev pub verdicts_on : List Point → ℕ → Seen → Entry → List (ℕ × Verdict)
verdicts_on splits i before entry = verdicts_from splits (head_of before entry) i entry.batch before.places 0

-- resolver i is asked about some place of the entry
abbrev pub is_needed : List Point → ℕ → Seen → Entry → Bool
is_needed splits i before entry = asks_about splits (head_of before entry) i 0 entry.batch

-- what becomes of the places of an entry
abbrev pub outcomes_on : List Point → Seen → Entry → List Outcome
outcomes_on splits before entry = outcomes_from splits (head_of before entry) entry.batch before.places 0
