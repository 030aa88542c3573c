-- Changes of a history, the latest first, as a search finds them.
use Rattle.std.proofs.Common.{◌≡◌, ◌∙◌, sym, ap, refl, subst, ℕ, suc, ◌<◌, ◌≤◌, Bool, true, false, ◌&&◌, ◌||◌}
use Rattle.std.proofs.Common.{◌==◌, nat_lt, nat_le, List, [], ◌∷◌, ◌++◌, length, ⊎_elim, arith}
use Rattle.std.specs.List.{AllByRecursion, filter, list_any, prefix_len}
use Rattle.std.specs.List.Sorted.{IsPartitionPoint}
use Rattle.std.proofs.lemmas.Bool.{cases_Bool, cond-true, cond-false, lt-ltb, le-ltb, le-leb, lt-leb}
use Rattle.std.proofs.lemmas.List.Sums.{prefix_len_is}
use Rattle.std.proofs.lemmas.List.{append-nil}
use Rattle.std.proofs.lemmas.List.Elements.{filter-append}
use Rattle.fdb_keys.proofs.Exports.{all-weaken}
use Rattle.fdb_owners.specs.declared.history.Change.{Change}
use Rattle.fdb_owners.specs.Histories.{AreAbove, AreUpTo, owner_by}
use Rattle.fdb_owners.specs.Parts.{changes_within}

-- ---- any list
filter-all : {X : Type 0} (p : X → Bool) (xs : List X) → AllByRecursion (λ (x : X). p x ≡ true) xs → filter p xs ≡ xs
filter-all p [] all = refl
filter-all {X} p (x ∷ xs) all =
    cond-true (p x) (x ∷ filter p xs) (filter p xs) all.0 ∙ ap (λ (l : List X). x ∷ l) (filter-all p xs all.1)

filter-none : {X : Type 0} (p : X → Bool) (xs : List X) → AllByRecursion (λ (x : X). p x ≡ false) xs
    → filter p xs ≡ []
filter-none p [] none = refl
filter-none p (x ∷ xs) none =
    cond-false (p x) (x ∷ filter p xs) (filter p xs) none.0 ∙ filter-none p xs none.1

-- the partition point is how many pass from the front on
pub count_from : {X : Type 0} (some : X) (p : X → Bool) (xs : List X) (n : ℕ) → n ≤ length xs
    → IsPartitionPoint (λ (x : X). p x ≡ true) (λ (x : X). p x ≡ false) xs n → n ≡ prefix_len p xs
count_from some p xs n within point =
    sym (prefix_len_is p xs n some within (λ k low. point.0 k some (omega (arith, within, low)) low)
    (λ low. point.1 n some (omega arith) low))

pub counts-first : {X : Type 0} (p : X → Bool) (x : X) (xs : List X) → p x ≡ true
    → prefix_len p (x ∷ xs) ≡ suc (prefix_len p xs)
counts-first p x xs passes = cond-true _ _ _ passes ∙ omega arith

pub counts-none : {X : Type 0} (p : X → Bool) (x : X) (xs : List X) → p x ≡ false → prefix_len p (x ∷ xs) ≡ 0
counts-none p x xs fails = cond-false _ _ _ fails

-- what is picked passes a test where it passes both
any-filtered : {X : Type 0} (q p : X → Bool) (xs : List X)
    → list_any q (filter p xs) ≡ list_any (λ (x : X). p x && q x) xs
any-filtered q p [] = refl
any-filtered {X} q p (x ∷ xs) = ⊎_elim
    (λ passes.
    ap (list_any q) (cond-true (p x) (x ∷ filter p xs) (filter p xs) passes)
    ∙ (λ k. (sym passes k && q x) || any-filtered q p xs k))
    (λ fails.
    ap (list_any q) (cond-false (p x) (x ∷ filter p xs) (filter p xs) fails)
    ∙ (λ k. (sym fails k && q x) || any-filtered q p xs k))
    (cases_Bool (p x))

any-alike : {X : Type 0} (p q : X → Bool) → ((x : X) → p x ≡ q x) → (xs : List X) → list_any p xs ≡ list_any q xs
any-alike p q alike [] = refl
any-alike p q alike (x ∷ xs) = λ k. alike x k || any-alike p q alike xs k

-- ---- changes
abbrev pub newer : ℕ → Change → Bool
newer v change = nat_lt v change.version

above-newer : (v : ℕ) (changes : List Change) → AreAbove v changes
    → AllByRecursion (λ (change : Change). newer v change ≡ true) changes
above-newer v changes above =
    all-weaken _ (λ (change : Change). newer v change ≡ true) (λ (change : Change) is. lt-ltb v change.version is)
    changes above

up_to-not_newer : (v : ℕ) (changes : List Change) → AreUpTo v changes
    → AllByRecursion (λ (change : Change). newer v change ≡ false) changes
up_to-not_newer v changes through =
    all-weaken _ (λ (change : Change). newer v change ≡ false) (λ (change : Change) is. le-ltb v change.version is)
    changes
    through

-- two searches find the changes of a span
pub within-parted : (since through : ℕ) (above within before : List Change) → AreAbove through above
    → AreUpTo through (within ++ before) → AreAbove since within → AreUpTo since before
    → within ≡ changes_within since through (above ++ (within ++ before))
within-parted since through above within before later known inside past = sym (
    ap (filter (newer since)) (filter-append up_to above (within ++ before)
    ∙ ap (λ (l : List Change). l ++ filter up_to (within ++ before)) (filter-none up_to above (
    all-weaken _ (λ (change : Change). up_to change ≡ false)
    (λ (change : Change) is. lt-leb change.version through is) above later))
    ∙ filter-all up_to (within ++ before) (
    all-weaken _ (λ (change : Change). up_to change ≡ true)
    (λ (change : Change) is. le-leb change.version through is) (within ++ before) known))
    ∙ filter-append (newer since) within before
    ∙ ap (λ (l : List Change). l ++ filter (newer since) before) (filter-all (newer since) within
    (above-newer since within inside))
    ∙ ap (λ (l : List Change). within ++ l) (filter-none (newer since) before (up_to-not_newer since before past))
    ∙ append-nil within
    )
  where
    up_to : Change → Bool
    up_to change = nat_le change.version through

pub owner-below : (n first v : ℕ) (changes : List Change) → first < n
    → AllByRecursion (λ (change : Change). change.owner < n) changes → owner_by first changes v < n
owner-below n first v [] low all = low
owner-below n first v (change ∷ older) low all = ⊎_elim
    (λ (by : nat_le change.version v ≡ true).
    subst (λ (owner : ℕ). owner < n) (sym (cond-true _ change.owner (owner_by first older v) by)) all.0)
    (λ (above : nat_le change.version v ≡ false).
    subst (λ (owner : ℕ). owner < n) (sym (cond-false _ change.owner (owner_by first older v) above))
    (owner-below n first v older low all.1))
    (cases_Bool (nat_le change.version v))

regrouped : (a b c : Bool) → (b && (a && c)) ≡ (a && b && c)
regrouped true true c = refl
regrouped true false c = refl
regrouped false true c = refl
regrouped false false c = refl

-- whom some change of a span made the owner
pub any-within : (j since through : ℕ) (changes : List Change)
    → list_any (λ (change : Change). change.owner == j) (changes_within since through changes)
    ≡ list_any (λ (change : Change).
    nat_lt since change.version && nat_le change.version through && (change.owner == j)) changes
any-within j since through changes =
    any-filtered (λ (change : Change). change.owner == j) (newer since)
    (filter (λ (change : Change). nat_le change.version through) changes)
    ∙ any-filtered (λ (change : Change). nat_lt since change.version && (change.owner == j))
    (λ (change : Change). nat_le change.version through) changes
    ∙ any-alike _ _ (λ (change : Change).
    regrouped (nat_lt since change.version) (nat_le change.version through) (change.owner == j)) changes
