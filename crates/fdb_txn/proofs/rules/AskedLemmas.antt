-- The resolvers that are asked about a place tell whether it is committed.
use Rattle.std.proofs.Common.{◌≡◌, ◌<◌, ◌≤◌, ◌∙◌, ap, subst, refl, arith, ⊎_elim, ℕ, suc, max, Bool, true}
use Rattle.std.proofs.Common.{◌&&◌, ◌==◌, nat_lt, nat_le, List, [], ◌∷◌, ◌++◌, length, Decides}
use Rattle.std.specs.List.{AllByRecursion}
use Rattle.std.proofs.lemmas.Bool.{cases_Bool, both_ways, or_left, or_right, or_cases, and_left, and_parts, and_cases}
use Rattle.std.proofs.lemmas.Bool.{and_from, not-true, not-false, ltb-false, lt-leb, eqb-true, cond-false, cond_both}
use Rattle.std.proofs.lemmas.Bool.Decides.{Decides-below_and, Decides-like}
use Rattle.fdb_keys.specs.Points.{Point, point_lt}
use Rattle.fdb_keys.specs.Ranges.{Range, in_range, in_set}
use Rattle.fdb_keys.proofs.Exports.{all-parts, in_range_from, in_range_parts, le_lt_chain, lt-itself}
use Rattle.fdb_txn.specs.book.Book.{DatedMove, Place}
use Rattle.fdb_txn.specs.rules.Owners.{first_owner, owner, span_begin, is_asked}
use Rattle.fdb_txn.specs.rules.Admission.{has_points, is_fresh, admits, all_below, committed}
use Rattle.fdb_txn.specs.laws.AdmissionLaws.{Conflict, IsAmongAsked, CommittedByTheAsked, OldIsAsked}
use Rattle.fdb_txn.specs.book.History.{Follows, IsHistory}
use Rattle.fdb_txn.proofs.rules.CornersLemmas.{asked_at_some_point, owned_at_some_version}
use Rattle.fdb_txn.proofs.rules.AdmissionLemmas.{admits_without_conflict}

-- a set that holds a point has points
pub points_from-in_set : (ranges : List Range) (x : Point) → in_set ranges x ≡ true → has_points ranges ≡ true
points_from-in_set [] x inside = inside
points_from-in_set (range ∷ ranges) x inside = ⊎_elim
    (λ (here : in_range range x ≡ true).
    let parts = in_range_parts range x here in
    or_left _ _ (le_lt_chain range.begin x range.end parts.0 parts.1))
    (λ there. or_right (point_lt range.begin range.end) _ (points_from-in_set ranges x there))
    (or_cases (in_range range x) (in_set ranges x) inside)

-- a set that has points holds one, the begin of a range
pub point_of-set : (ranges : List Range) → has_points ranges ≡ true → (x : Point) × (in_set ranges x ≡ true)
point_of-set [] some = cc
point_of-set (range ∷ ranges) some = ⊎_elim
    (λ (here : point_lt range.begin range.end ≡ true).
    (range.begin, or_left _ _ (in_range_from range range.begin (lt-itself range.begin) here)))
    (λ there. let point = point_of-set ranges there in (point.0, or_right (in_range range point.0) _ point.1))
    (or_cases (point_lt range.begin range.end) (has_points ranges) some)

-- there is one more resolver than there are splits, so the first owner exists
first_owner-exists : (splits : List Point) (x : Point) → first_owner splits x < suc (length splits)
first_owner-exists [] x = omega arith
first_owner-exists (split ∷ splits) x =
    let others = first_owner-exists splits x in
    cond_both (point_lt x split) 0 (suc (first_owner splits x)) (λ i. i < suc (suc (length splits)))
    (λ before. omega arith) (λ after. omega (arith, others))

-- the owner of a point exists, where each move goes to a resolver that does
pub owner-exists : (splits : List Point) (version : ℕ) (moves : List DatedMove) (x : Point) (v : ℕ)
    → AllByRecursion (λ (move : DatedMove). (move.version ≤ version) × (move.target < suc (length splits))) moves
    → owner splits moves x v < suc (length splits)
owner-exists splits version [] x v all = first_owner-exists splits x
owner-exists splits version (move ∷ older) x v all =
    cond_both (nat_le move.version v && in_range move.range x) move.target (owner splits older x v)
    (λ i. i < suc (length splits))
    (λ here. all.0.1)
    (λ there. owner-exists splits version older x v all.1)

-- moves of greater versions don't change an owner
pub owner-older : (splits : List Point) (newer older : List DatedMove) (x : Point) (v : ℕ)
    → AllByRecursion (λ (move : DatedMove). v < move.version) newer
    → owner splits (newer ++ older) x v ≡ owner splits older x v
owner-older splits [] older x v all = refl
owner-older splits (move ∷ newer) older x v all =
    cond-false (nat_le move.version v && in_range move.range x) move.target (owner splits (newer ++ older) x v)
    (and_left _ _ (lt-leb move.version v all.0))
    ∙ owner-older splits newer older x v all.1

-- two places of one book have the same owners at the earlier one's version
pub one_owner_where_follows : (splits : List Point) (later earlier : Place) (x : Point) → Follows later earlier
    → owner splits later.moves x earlier.version ≡ owner splits earlier.moves x earlier.version
one_owner_where_follows splits later earlier x follows =
    ap (λ (moves : List DatedMove). owner splits moves x earlier.version) follows.1.1
    ∙ owner-older splits follows.1.0 earlier.moves x earlier.version follows.1.2

-- the span of asking begins below each version above a read version that isn't below the horizon
span_begins-below : (read horizon v : ℕ) → horizon ≤ read → read < v → max read horizon < v
span_begins-below read horizon v within above = omega arith

-- the span of asking holds the place's own version
span_ends-above : (read horizon version : ℕ) → horizon < version → read < version → max read horizon < version
span_ends-above read horizon version below above = omega arith

-- a place that reads a point and isn't old reads no version below the horizon
pub fresh-within : (place : Place) (x : Point) → is_fresh place ≡ true → in_set place.transaction.reads x ≡ true
    → place.horizon ≤ place.transaction.read
fresh-within place x fresh reads = ⊎_elim
    (λ none. absurd (both_ways _ none (points_from-in_set place.transaction.reads x reads)))
    (λ within. ltb-false place.transaction.read place.horizon within)
    (and_cases (has_points place.transaction.reads) (nat_lt place.transaction.read place.horizon) (not-true _ fresh))

-- who owned at some version of the span a point that the place reads is asked about it
pub asked_about_read : (splits : List Point) (i : ℕ) (place : Place) (x : Point) (v : ℕ)
    → in_set place.transaction.reads x ≡ true
    → span_begin place < v → v ≤ place.version → owner splits place.moves x v ≡ i → is_asked splits i place ≡ true
asked_about_read splits i place x v reads from until owns =
    (asked_at_some_point splits i place).1 (
      x,
      or_right _ _ (and_from _ _ reads
          ((owned_at_some_version splits i place.moves x (span_begin place) place.version).1 (v, from, until, owns))),
    )

-- what holds of each item holds of one between others
all-middle : {A : Type 0} (P : A → Type 0) (xs before after : List A) (x : A) → xs ≡ before ++ x ∷ after
    → AllByRecursion P xs → P x
all-middle P xs before after x is all =
    (all-parts P before (x ∷ after) (subst (λ items. AllByRecursion P items) is all)).1.0

-- a resolver at which a place that isn't old has a conflict is asked about it
pub conflict-asked : (splits : List Point) (i : ℕ) (earlier : List Place) (place : Place)
    → AllByRecursion (Follows place) earlier
    → is_fresh place ≡ true → Conflict splits i earlier place → is_asked splits i place ≡ true
conflict-asked splits i earlier place follow fresh conflict =
    let x = conflict.point in
    let other = conflict.other in
    let parts : (in_set other.transaction.writes x && in_set place.transaction.reads x ≡ true)
    × ((owner splits other.moves x other.version == i) ≡ true)
    = and_parts _ _ conflict.overlap in
    let reads : in_set place.transaction.reads x ≡ true = (and_parts _ _ parts.0).1 in
    let follows : Follows place other = all-middle (Follows place) earlier conflict.newer conflict.older other
    conflict.is_earlier follow in
    asked_about_read splits i place x other.version reads
    (span_begins-below place.transaction.read place.horizon other.version (fresh-within place x fresh reads)
    conflict.is_unseen)
    follows.0
    (one_owner_where_follows splits place other x follows ∙ eqb-true _ i parts.1)

-- some resolver is asked about an old place
pub old_is_asked : OldIsAsked
old_is_asked splits earlier place history old =
    let parts : (has_points place.transaction.reads ≡ true)
    × (nat_lt place.transaction.read place.horizon ≡ true)
    = and_parts _ _ (not-false _ old) in
    let point = point_of-set place.transaction.reads parts.0 in (
      owner splits place.moves point.0 place.version,
      (
        owner-exists splits place.version place.moves point.0 place.version history.0.2,
        asked_about_read splits _ place point.0 place.version point.1
            (span_ends-above place.transaction.read place.horizon place.version history.0.3 history.0.0)
            (omega arith)
            refl,
      ),
    )

-- where each resolver that is asked admits the place, the place is not old, and the others admit it too
module _ (splits : List Point) (earlier : List Place) (place : Place)
    (history : IsHistory (suc (length splits)) (place ∷ earlier))
    (admitted : (i : ℕ) → IsAmongAsked splits place i → admits splits i earlier place ≡ true) where
  fresh_where_admitted : is_fresh place ≡ true
  fresh_where_admitted = ⊎_elim
      (λ fresh. fresh)
      (λ old. let asked = old_is_asked splits earlier place history old in (and_parts _ _ (admitted asked.0 asked.1)).0)
      (cases_Bool (is_fresh place))

  pub admitted_by_others : (i : ℕ) → i < suc (length splits) → admits splits i earlier place ≡ true
  admitted_by_others i exists = ⊎_elim
      (λ asked. admitted i (exists, asked))
      (λ unasked. (admits_without_conflict splits i earlier place).1 (
        fresh_where_admitted,
        λ conflict. both_ways _ unasked (conflict-asked splits i earlier place history.1 fresh_where_admitted conflict),
      ))
      (cases_Bool (is_asked splits i place))

-- `all_below` holds exactly where the test holds of each number below n
pub all_below-decides : (test : ℕ → Bool) (n : ℕ) → Decides (all_below n test) ((i : ℕ) → i < n → test i ≡ true)
all_below-decides test n =
    Decides-below_and test (λ i. test i ≡ true) (λ m. all_below m test) (λ i. (λ holds. holds, λ holds. holds)) refl
    (λ m. refl) n

-- a place of a history is committed exactly where each resolver that is asked about it admits it
pub committed_by_the_asked : CommittedByTheAsked
committed_by_the_asked splits earlier place history =
    Decides-like (committed splits earlier place)
    (λ all i asked. all i asked.0)
    (admitted_by_others splits earlier place history)
    (all_below-decides (λ i. admits splits i earlier place) (suc (length splits)))
