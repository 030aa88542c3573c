-- What the rule over the book says of resolvers' verdicts on a batch, and of what they decide.
use Rattle.std.specs.Prelude.{◌≡◌, ◌≤◌, ℕ, suc, false, not, ◌==◌, List, [], length, slice_get, Option, Some, None}
use Rattle.fdb_keys.specs.Points.{Point}
use Rattle.fdb_keys.specs.Ranges.{in_set}
use Rattle.fdb_txn.specs.declared.entry.Entry.{Entry}
use Rattle.fdb_txn.specs.book.Transactions.{Transaction}
use Rattle.fdb_txn.specs.book.Book.{Head, Place, Seen, head_of, add_places, add_entry}
use Rattle.fdb_txn.specs.book.History.{IsHistory}
use Rattle.fdb_txn.specs.book.Places.{place_in, place_of}
use Rattle.fdb_txn.specs.rules.Resolvers.{IsStateOf}
use Rattle.fdb_resolver.specs.declared.part.Item.{Item}
use Rattle.fdb_resolver.specs.declared.verdict.Verdict.{Verdict}
use Rattle.fdb_resolver.specs.Rule.{Found, AreVerdicts, AreConflicts, finds, versions_after}
use Rattle.fdb_proxy.specs.Conflicts.{conflicts_by, set_at}
use Rattle.fdb_proxy.specs.Deciding.{Said, outcomes_by}
use Rattle.fdb_proxy.specs.Parting.{AreItems}
use Rattle.fdb_proxy.specs.Verdicts.{verdicts_from, asks_about, outcomes_from, verdicts_on, outcomes_on}
use Rattle.fdb_proxy.specs.Verdicts.{found_at, conflict_at}

-- What a resolver says of its items of a batch, by a state that answers from a floor on that isn't above the horizon,
-- is what the rule over the book says; and the versions after the items are again such a state, of the batch's places
-- after the earlier ones.
abbrev pub BatchesAreJudgedByTheRule : Type 0
BatchesAreJudgedByTheRule =
    (splits : List Point) (head : Head) (i : ℕ) (batch : List Transaction) (earlier : List Place)
    (p : ℕ) (items : List Item) (answers : List (ℕ × Verdict)) (floor : ℕ) (f : Point → ℕ)
    → IsHistory (suc (length splits)) (add_places head p batch earlier)
    → IsStateOf splits i earlier floor f → floor ≤ head.horizon
    → AreItems splits head i p batch items → AreVerdicts head.version head.horizon f items answers
    → (answers ≡ verdicts_from splits head i batch earlier p)
    × IsStateOf splits i (add_places head p batch earlier) floor (versions_after head.version f items answers)

-- The same of an entry, after what was seen before it.
abbrev pub EntriesAreJudgedByTheRule : Type 0
EntriesAreJudgedByTheRule =
    (splits : List Point) (i : ℕ) (before : Seen) (entry : Entry) (items : List Item) (answers : List (ℕ × Verdict))
    (floor : ℕ) (f : Point → ℕ)
    → IsHistory (suc (length splits)) (add_entry before entry).places
    → IsStateOf splits i before.places floor f → floor ≤ entry.horizon
    → AreItems splits (head_of before entry) i 0 entry.batch items
    → AreVerdicts entry.version entry.horizon f items answers
    → (answers ≡ verdicts_on splits i before entry)
    × IsStateOf splits i (add_entry before entry).places floor (versions_after entry.version f items answers)

-- A resolver has items of a batch exactly where it is asked about some place.
abbrev pub ItemsWhereAsked : Type 0
ItemsWhereAsked =
    (splits : List Point) (head : Head) (i p : ℕ) (batch : List Transaction) (items : List Item)
    → AreItems splits head i p batch items → not (length items == 0) ≡ asks_about splits head i p batch

-- Of each resolver, the rule's verdicts on a batch came, or none did, and then it is asked about no place.
pub record AreByTheRule (splits : List Point) (head : Head) (batch : List Transaction) (earlier : List Place)
    (verdicts : List (Option Said)) : Type 0 where
  pub count : length verdicts ≡ suc (length splits)
  pub came : (i : ℕ) (said : Said) → slice_get verdicts i ≡ Some (Some said)
      → said ≡ verdicts_from splits head i batch earlier 0
  pub silent : (i : ℕ) → slice_get verdicts i ≡ Some None → asks_about splits head i 0 batch ≡ false

-- Such verdicts decide each place of the batch as the rule over all resolvers does.
abbrev pub BatchesAreDecidedByTheRule : Type 0
BatchesAreDecidedByTheRule =
    (splits : List Point) (head : Head) (batch : List Transaction) (earlier : List Place)
    (verdicts : List (Option Said))
    → IsHistory (suc (length splits)) (add_places head 0 batch earlier)
    → AreByTheRule splits head batch earlier verdicts
    → outcomes_by head.version verdicts (length batch) ≡ outcomes_from splits head batch earlier 0

-- The same of an entry, after what was seen before it.
abbrev pub EntriesAreDecidedByTheRule : Type 0
EntriesAreDecidedByTheRule =
    (splits : List Point) (before : Seen) (entry : Entry) (verdicts : List (Option Said))
    → IsHistory (suc (length splits)) (add_entry before entry).places
    → AreByTheRule splits (head_of before entry) entry.batch before.places verdicts
    → outcomes_by entry.version verdicts (length entry.batch) ≡ outcomes_on splits before entry

-- Of each place of a batch just the points were found that resolver i finds there by the rule over the book.
abbrev pub AreFoundOn : List Point → ℕ → Head → List Transaction → List Place → Found → Type 0
AreFoundOn splits i head batch earlier found =
    (p : ℕ) (x : Point) → finds p found x ≡ found_at splits i (place_in head 0 batch earlier p) x

-- What a resolver finds of its items of a batch, by a state that answers from a floor on that isn't above the horizon,
-- is what the rule says.
abbrev pub BatchesAreFoundByTheRule : Type 0
BatchesAreFoundByTheRule =
    (splits : List Point) (head : Head) (i : ℕ) (batch : List Transaction) (earlier : List Place)
    (items : List Item) (answers : List (ℕ × Verdict)) (found : Found) (floor : ℕ) (f : Point → ℕ)
    → IsHistory (suc (length splits)) (add_places head 0 batch earlier)
    → IsStateOf splits i earlier floor f → floor ≤ head.horizon
    → AreItems splits head i 0 batch items → AreVerdicts head.version head.horizon f items answers
    → AreConflicts head.version f items answers found
    → AreFoundOn splits i head batch earlier found

-- Who is asked about no place of a batch finds nothing there by the rule.
abbrev pub UnaskedFindNothing : Type 0
UnaskedFindNothing =
    (splits : List Point) (head : Head) (i : ℕ) (batch : List Transaction) (earlier : List Place)
    → IsHistory (suc (length splits)) (add_places head 0 batch earlier) → asks_about splits head i 0 batch ≡ false
    → AreFoundOn splits i head batch earlier []

-- what each resolver found of a batch is by the rule
pub record AreFoundByTheRule (splits : List Point) (head : Head) (batch : List Transaction) (earlier : List Place)
    (all : List Found) : Type 0 where
  pub count : length all ≡ suc (length splits)
  pub each : (i : ℕ) (found : Found) → slice_get all i ≡ Some found → AreFoundOn splits i head batch earlier found

-- Joined place by place it has of each place of an entry that isn't old just the points of its conflict set, and of an
-- old one none.
abbrev pub ConflictsAreJoinedByTheRule : Type 0
ConflictsAreJoinedByTheRule =
    (splits : List Point) (before : Seen) (entry : Entry) (all : List Found)
    → IsHistory (suc (length splits)) (add_entry before entry).places
    → AreFoundByTheRule splits (head_of before entry) entry.batch before.places all
    → (p : ℕ) (x : Point)
    → in_set (set_at p (conflicts_by all (length entry.batch))) x
    ≡ conflict_at splits (place_of before p (Some entry)) x
