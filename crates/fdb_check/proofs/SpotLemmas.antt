-- How many entries of a book have a version that is at most another.
use Rattle.std.proofs.Common.{◌≡◌, sym, ap, subst, refl, ℕ, zero, suc, ◌+◌, ◌<◌, ◌≤◌, le_refl, arith, Bool, true, false}
use Rattle.std.proofs.Common.{cond, nat_le, List, [], ◌∷◌, take, fold, length, Some, slice_get, get_or, ⊎_elim}
use Rattle.std.specs.List.{count_by}
use Rattle.std.specs.List.Sorted.{IsNonDecreasingBy}
use Rattle.std.proofs.lemmas.Bool.{cases_Bool, leb-true, leb-false}
use Rattle.std.proofs.lemmas.List.Sums.{sum_by-cons}
use Rattle.fdb_txn.specs.declared.entry.Entry.{Entry}
use Rattle.fdb_txn.specs.book.History.{AreEntries}
use Rattle.fdb_check.specs.Spots.{entries_through}

above : (resolvers least : ℕ) (book : List Entry) (j : ℕ) (d : Entry) → AreEntries resolvers least book
    → j < length book → least < (get_or book j d).version
above resolvers least [] j d entries within = absurd (omega (arith, within))
above resolvers least (entry ∷ book) zero d entries within = entries.0
above resolvers least (entry ∷ book) (suc j) d entries within =
    let later = above resolvers entry.version book j d entries.4 (omega (arith, within)) in
    omega (arith, later, entries.0)

-- versions rise along the entries
pub versions-rise : (resolvers least : ℕ) (book : List Entry) → AreEntries resolvers least book
    → IsNonDecreasingBy (λ (entry : Entry). entry.version) book
versions-rise resolvers least [] entries i j d ordered within = absurd (omega (arith, within))
versions-rise resolvers least (entry ∷ book) entries zero zero d ordered within = le_refl entry.version
versions-rise resolvers least (entry ∷ book) entries zero (suc j) d ordered within =
    let later = above resolvers entry.version book j d entries.4 (omega (arith, within)) in omega (arith, later)
versions-rise resolvers least (entry ∷ book) entries (suc i) zero d ordered within = absurd (omega (arith, ordered))
versions-rise resolvers least (entry ∷ book) entries (suc i) (suc j) d ordered within =
    versions-rise resolvers entry.version book entries.4 i j d (omega (arith, ordered)) (omega (arith, within))

-- where those that pass come first, they are as many as come first
pub counted : {A : Type 0} (p : A → Bool) (xs : List A) (i : ℕ) → i ≤ length xs
    → ((k : ℕ) (d : A) → k < i → p (get_or xs k d) ≡ true)
    → ((k : ℕ) (d : A) → i ≤ k → k < length xs → p (get_or xs k d) ≡ false)
    → i ≡ count_by p xs
counted p [] i within first later = let none : i ≡ 0 = omega (arith, within) in none
counted p (x ∷ xs) zero within first later =
    let others = counted p xs 0 (omega arith) (λ k d never. absurd (omega (arith, never)))
    (λ k d from inside. later (suc k) d (omega arith) (omega (arith, inside))) in
    let here : ◌≡◌ {A = ℕ} (cond (p x) 1 0) 0 = ap (λ (b : Bool). cond b 1 0) (later 0 x (omega arith) (omega arith)) in
    let sum = sum_by-cons (λ y. cond (p y) 1 0) x xs in
    omega (arith, others, here, sum)
counted p (x ∷ xs) (suc i) within first later =
    let others = counted p xs i (omega (arith, within)) (λ k d before. first (suc k) d (omega (arith, before)))
    (λ k d from inside. later (suc k) d (omega (arith, from)) (omega (arith, inside))) in
    let here : ◌≡◌ {A = ℕ} (cond (p x) 1 0) 1 = ap (λ (b : Bool). cond b 1 0) (first 0 x (omega arith)) in
    let sum = sum_by-cons (λ y. cond (p y) 1 0) x xs in
    omega (arith, others, here, sum)

none-through : (resolvers least v : ℕ) (book : List Entry) → AreEntries resolvers least book → v ≤ least
    → entries_through book v ≡ 0
none-through resolvers least v [] entries below = refl
none-through resolvers least v (entry ∷ book) entries below =
    let others = none-through resolvers entry.version v book entries.4 (omega (arith, below, entries.0)) in
    let here : ◌≡◌ {A = ℕ} (cond (nat_le entry.version v) 1 0) 0 = ⊎_elim
    (λ (reached : nat_le entry.version v ≡ true).
    let at = leb-true entry.version v reached in absurd (omega (arith, at, below, entries.0)))
    (λ (not : nat_le entry.version v ≡ false). ap (λ (b : Bool). cond b 1 0) not)
    (cases_Bool (nat_le entry.version v)) in
    let sum = sum_by-cons (λ (one : Entry). cond (nat_le one.version v) 1 0) entry book in
    omega (arith, others, here, sum)

-- the version of the last one, or else the least
abbrev last_of : ℕ → List Entry → ℕ
last_of least book = fold (λ (last : ℕ) (entry : Entry). entry.version) least book

-- after so many entries the last version is at most v, and the next one above it
abbrev pub IsThrough : ℕ → ℕ → List Entry → ℕ → Type 0
IsThrough least v book n = (last_of least (take n book) ≤ v)
    × ((entry : Entry) → slice_get book n ≡ Some entry → v < entry.version)

-- those of version at most v are so many
pub through : (resolvers least v : ℕ) (book : List Entry) → AreEntries resolvers least book → least ≤ v
    → IsThrough least v book (entries_through book v)
through resolvers least v [] entries reached = (reached, λ entry there. cc)
through resolvers least v (first ∷ book) entries reached = ⊎_elim
    (λ (at : nat_le first.version v ≡ true).
    let here : ◌≡◌ {A = ℕ} (cond (nat_le first.version v) 1 0) 1 = ap (λ (b : Bool). cond b 1 0) at in
    let count : entries_through (first ∷ book) v ≡ suc (entries_through book v) = omega (arith, here, sum) in
    let others = through resolvers first.version v book entries.4 (leb-true first.version v at) in
    subst (IsThrough least v (first ∷ book)) (sym count) others)
    (λ (not : nat_le first.version v ≡ false).
    let past = leb-false first.version v not in
    let here : ◌≡◌ {A = ℕ} (cond (nat_le first.version v) 1 0) 0 = ap (λ (b : Bool). cond b 1 0) not in
    let others = none-through resolvers first.version v book entries.4 (omega (arith, past)) in
    let count : entries_through (first ∷ book) v ≡ 0 = omega (arith, here, others, sum) in
    subst (IsThrough least v (first ∷ book)) (sym count) (
      reached,
      λ entry there.
          let same : first ≡ entry = cc in subst (λ (e : Entry). v < e.version) same past,
    ))
    (cases_Bool (nat_le first.version v))
  where
    sum : entries_through (first ∷ book) v ≡ cond (nat_le first.version v) 1 0 + entries_through book v
    sum = sum_by-cons (λ (one : Entry). cond (nat_le one.version v) 1 0) first book
