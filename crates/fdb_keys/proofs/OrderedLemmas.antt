-- What holds of each item of a list, and lists in an order.
use Rattle.std.proofs.Common.{◌≡◌, ℕ, zero, suc, ◌<◌, ◌≤◌, Bool, true, false, List, [], ◌∷◌, ◌++◌}
use Rattle.std.proofs.Common.{take, drop, filter, length, get_or, arith}
use Rattle.std.specs.List.{AllByRecursion}
use Rattle.std.specs.List.Sorted.{IsPartitionedBy, IsPartitionPoint}
use Rattle.std.proofs.lemmas.Bool.{cond_both}
use Rattle.std.proofs.lemmas.List.Elements.{All-from_recursion}
use Rattle.fdb_keys.specs.Ordered.{AreOrdered}

-- ---- what holds of each item
-- what holds of each item of two lists holds of each of both together
pub all-append : {A : Type 0} (P : A → Type 0) (xs ys : List A) → AllByRecursion P xs → AllByRecursion P ys
    → AllByRecursion P (xs ++ ys)
all-append P [] ys all others = others
all-append P (x ∷ xs) ys all others = (all.0, all-append P xs ys all.1 others)

-- and the other way round
pub all-parts : {A : Type 0} (P : A → Type 0) (xs ys : List A) → AllByRecursion P (xs ++ ys) → AllByRecursion P xs
    × AllByRecursion P ys
all-parts P [] ys all = (tt, all)
all-parts P (x ∷ xs) ys all = let parts = all-parts P xs ys all.1 in ((all.0, parts.0), parts.1)

-- what follows of each item holds of each
pub all-weaken : {A : Type 0} (P Q : A → Type 0) → ((x : A) → P x → Q x) → (xs : List A) → AllByRecursion P xs
    → AllByRecursion Q xs
all-weaken P Q weaker [] all = tt
all-weaken P Q weaker (x ∷ xs) all = (weaker x all.0, all-weaken P Q weaker xs all.1)

-- what holds of each item holds of each that is picked
pub all-filter : {A : Type 0} (P : A → Type 0) (test : A → Bool) (xs : List A) → AllByRecursion P xs
    → AllByRecursion P (filter test xs)
all-filter P test [] all = tt
all-filter P test (x ∷ xs) all =
    let rest = all-filter P test xs all.1 in
    cond_both (test x) (x ∷ filter test xs) (filter test xs) (AllByRecursion P) (λ kept. (all.0, rest)) (λ left. rest)

-- what holds of the items below an index holds of the first ones
all-first : {A : Type 0} (P : A → Type 0) (xs : List A) (n : ℕ) → n ≤ length xs
    → ((k : ℕ) (d : A) → k < n → P (get_or xs k d)) → AllByRecursion P (take n xs)
all-first P [] zero few holds = tt
all-first P [] (suc n) few holds = tt
all-first P (x ∷ xs) zero few holds = tt
all-first P (x ∷ xs) (suc n) few holds =
    (holds zero x (omega arith), all-first P xs n (omega arith) (λ k d below. holds (suc k) d (omega arith)))

-- and of those from the index on, of the last ones
all-last : {A : Type 0} (P : A → Type 0) (xs : List A) (n : ℕ)
    → ((k : ℕ) (d : A) → n ≤ k → k < length xs → P (get_or xs k d)) → AllByRecursion P (drop n xs)
all-last P [] zero holds = tt
all-last P [] (suc n) holds = tt
all-last P (x ∷ xs) zero holds = (
  holds zero x (omega arith) (omega arith),
  all-last P xs zero (λ k d from below. holds (suc k) d (omega arith) (omega arith)),
)
all-last P (x ∷ xs) (suc n) holds =
    all-last P xs n (λ k d from below. holds (suc k) d (omega arith) (omega arith))

-- what a search by a test finds: the test says this of those that pass it, and that of those that fail it
pub searched-parts : {A : Type 0} (test : A → Bool) (P Q : A → Type 0) → ((x : A) → test x ≡ true → P x)
    → ((x : A) → test x ≡ false → Q x) → (xs : List A) (n : ℕ) → n ≤ length xs
    → IsPartitionPoint (λ (x : A). test x ≡ true) (λ (x : A). test x ≡ false) xs n
    → AllByRecursion P (take n xs) × AllByRecursion Q (drop n xs)
searched-parts test P Q passes fails xs n few point = (
  all-first P xs n few (λ k d below. passes (get_or xs k d) (point.0 k d (omega arith) below)),
  all-last Q xs n (λ k d from below. fails (get_or xs k d) (point.1 k d from below)),
)

-- ---- lists in an order
module _ {A : Type 0} (R : A → A → Type 0) where
  -- its front and its back are in it
  pub ordered-front : (front back : List A) → AreOrdered R (front ++ back) → AreOrdered R front
  ordered-front [] back ordered = tt
  ordered-front (x ∷ front) back ordered =
      ((all-parts (R x) front back ordered.0).0, ordered-front front back ordered.1)

  pub ordered-back : (front back : List A) → AreOrdered R (front ++ back) → AreOrdered R back
  ordered-back [] back ordered = ordered
  ordered-back (x ∷ front) back ordered = ordered-back front back ordered.1

  -- so it is with one item more, which comes after all others
  pub ordered-push : (xs : List A) (last : A) → AreOrdered R xs → AllByRecursion (λ (x : A). R x last) xs
      → AreOrdered R (xs ++ last ∷ [])
  ordered-push [] last ordered all = (tt, tt)
  ordered-push (x ∷ xs) last ordered all =
      (all-append (R x) xs (last ∷ []) ordered.0 (all.0, tt), ordered-push xs last ordered.1 all.1)

  -- each item before one comes before it
  pub ordered-before : (front : List A) (x : A) (back : List A) → AreOrdered R (front ++ x ∷ back)
      → AllByRecursion (λ (sooner : A). R sooner x) front
  ordered-before [] x back ordered = tt
  ordered-before (sooner ∷ front) x back ordered =
      ((all-parts (R sooner) front (x ∷ back) ordered.0).1.0, ordered-before front x back ordered.1)

  -- a test that all before an item pass where it passes is passed by the first ones, and by none after them
  pub ordered-parted : (test : A → Bool) → ((x y : A) → R x y → test y ≡ true → test x ≡ true) → (xs : List A)
      → AreOrdered R xs → IsPartitionedBy test xs
  ordered-parted test sooner [] ordered i j d order within passes = absurd (omega arith)
  ordered-parted test sooner (x ∷ xs) ordered zero zero d order within passes = passes
  ordered-parted test sooner (x ∷ xs) ordered zero (suc j) d order within passes =
      sooner x (get_or xs j d) (All-from_recursion (R x) xs ordered.0 j d (omega arith)) passes
  ordered-parted test sooner (x ∷ xs) ordered (suc i) zero d order within passes = absurd (omega arith)
  ordered-parted test sooner (x ∷ xs) ordered (suc i) (suc j) d order within passes =
      ordered-parted test sooner xs ordered.1 i j d (omega arith) (omega arith) passes
