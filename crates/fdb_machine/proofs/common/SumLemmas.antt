-- Sums and counts over lists that change.
use Rattle.std.proofs.Common.{◌≡◌, ◌<◌, ◌≤◌, refl, ap, arith, ⊎_elim, inl, inr, ◌⊎◌, ℕ, zero, suc, ◌+◌, Bool, true}
use Rattle.std.proofs.Common.{false, cond, List, [], ◌∷◌, map, Some, sum_by}
use Rattle.std.specs.Prelude.{◌||◌}
use Rattle.std.specs.List.{slice_get, slice_set, list_any, count_by}
use Rattle.std.proofs.lemmas.List.Sums.{sum_by-cons}
use Rattle.std.proofs.lemmas.Bool.{or_parts, or_cases, cases_Bool}

module _ {X : Type 0} (f : X → ℕ) where
  -- one item in the place of another
  pub sum-set : (xs : List X) (i : ℕ) (x y : X) → slice_get xs i ≡ Some x
      → sum_by f (slice_set xs i y) + f x ≡ sum_by f xs + f y
  sum-set [] i x y there = cc
  sum-set (z ∷ zs) zero x y there =
      let same : z ≡ x = cc in
      omega (arith, sum_by-cons f y zs, sum_by-cons f z zs, ap f same)
  sum-set (z ∷ zs) (suc i) x y there =
      omega (arith, sum_by-cons f z (slice_set zs i y), sum_by-cons f z zs, sum-set zs i x y there)

  -- a sum is no less than what one item gives
  pub sum-at : (xs : List X) (i : ℕ) (x : X) → slice_get xs i ≡ Some x → f x ≤ sum_by f xs
  sum-at [] i x there = cc
  sum-at (z ∷ zs) zero x there =
      let same : z ≡ x = cc in
      omega (arith, sum_by-cons f z zs, ap f same)
  sum-at (z ∷ zs) (suc i) x there = omega (arith, sum_by-cons f z zs, sum-at zs i x there)

-- a sum over what items are made to
pub sum-made : {X Y : Type 0} (f : Y → ℕ) (g : X → Y) (xs : List X)
    → sum_by f (map g xs) ≡ sum_by (λ (x : X). f (g x)) xs
sum-made f g [] = refl
sum-made {X} f g (x ∷ xs) = omega
    (arith, sum_by-cons f (g x) (map g xs), sum_by-cons (λ (x : X). f (g x)) x xs, sum-made f g xs)

-- What counts 0 exactly where the test fails.
abbrev pub Counts : {X : Type 0} → (X → ℕ) → (X → Bool) → Type 0
Counts {X} f p = (x : X) → (p x ≡ true → 0 < f x) × (p x ≡ false → f x ≡ 0)

-- 1 where a test passes, else 0, does
pub counts-test : {X : Type 0} (p : X → Bool) → Counts (λ (x : X). cond (p x) 1 0) p
counts-test p x = (λ passes. rw passes (omega arith), λ fails. rw fails refl)

-- so does a sum where any item passes
pub counts-any : {X : Type 0} (f : X → ℕ) (p : X → Bool) → Counts f p → Counts (sum_by f) (list_any p)
counts-any f p counts [] = (λ some. cc, λ none. refl)
counts-any f p counts (x ∷ xs) =
    let rest = counts-any f p counts xs in
    let sum = sum_by-cons f x xs in (
      λ some. ⊎_elim (λ passes. omega (arith, sum, (counts x).0 passes)) (λ later. omega (arith, sum, rest.0 later))
          (or_cases (p x) (list_any p xs) some),
      λ none. let parts = or_parts (p x) (list_any p xs) none in
          omega (arith, sum, (counts x).1 parts.0, rest.1 parts.1),
    )

-- and a sum of two where one of two tests passes
pub counts-or : {X : Type 0} (f g : X → ℕ) (p q : X → Bool) → Counts f p → Counts g q
    → Counts (λ (x : X). f x + g x) (λ (x : X). p x || q x)
counts-or f g p q first second x = (
  λ some. ⊎_elim (λ passes. omega (arith, (first x).0 passes)) (λ passes. omega (arith, (second x).0 passes))
      (or_cases (p x) (q x) some),
  λ none. let parts = or_parts (p x) (q x) none in omega (arith, (first x).1 parts.0, (second x).1 parts.1),
)

-- what counts something passes
pub passes-counted : {X : Type 0} (f : X → ℕ) (p : X → Bool) → Counts f p → (x : X) → 0 < f x → p x ≡ true
passes-counted f p counts x some = ⊎_elim (λ passes. passes) (λ fails. absurd (omega (arith, some, (counts x).1 fails)))
    (cases_Bool (p x))

-- one more is counted or not
pub counted : {A : Type 0} (test : A → Bool) (x : A) (xs : List A)
    → (test x ≡ true → count_by test (x ∷ xs) ≡ 1 + count_by test xs)
    × (test x ≡ false → count_by test (x ∷ xs) ≡ count_by test xs)
counted {A} test x xs =
    let more = sum_by-cons (λ (y : A). cond (test y) 1 0) x xs in (
      λ is. let one : cond {A = ℕ} (test x) 1 0 ≡ 1 = rw is refl in omega (arith, more, one),
      λ is. let none : cond {A = ℕ} (test x) 1 0 ≡ 0 = rw is refl in omega (arith, more, none),
    )

pub none_or_some : (n : ℕ) → (n ≡ 0) ⊎ (0 < n)
none_or_some zero = inl refl
none_or_some (suc n) = inr (omega arith)
