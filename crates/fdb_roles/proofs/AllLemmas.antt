-- What holds of each item of a list, when the list changes.
use Rattle.std.proofs.Common.{◌≡◌, ◌<◌, refl, sym, arith, ℕ, zero, suc, List, [], ◌∷◌, ◌++◌, take, drop, map, replicate}
use Rattle.std.proofs.Common.{length, Some, subst}
use Rattle.std.specs.List.{AllByRecursion, Contains, slice_get, slice_set}
use Rattle.std.proofs.lemmas.Option.{slice_get_read, slice_get_within, get_or_from_slice_get}

module _ {A : Type 0} (P : A → Type 0) where
  pub all-push : (xs : List A) (x : A) → AllByRecursion P xs → P x → AllByRecursion P (xs ++ x ∷ [])
  all-push [] x all here = (here, tt)
  all-push (y ∷ ys) x all here = (all.0, all-push ys x all.1 here)

  pub all-set : (xs : List A) (i : ℕ) (x : A) → AllByRecursion P xs → P x → AllByRecursion P (slice_set xs i x)
  all-set [] zero x all here = tt
  all-set [] (suc i) x all here = tt
  all-set (y ∷ ys) zero x all here = (here, all.1)
  all-set (y ∷ ys) (suc i) x all here = (all.0, all-set ys i x all.1 here)

  pub all-at : (xs : List A) (i : ℕ) (x : A) → AllByRecursion P xs → slice_get xs i ≡ Some x → P x
  all-at [] i x all there = cc
  all-at (y ∷ ys) zero x all there = let same : y ≡ x = cc in subst P same all.0
  all-at (y ∷ ys) (suc i) x all there = all-at ys i x all.1 there

  pub all-drop : (n : ℕ) (xs : List A) → AllByRecursion P xs → AllByRecursion P (drop n xs)
  all-drop zero [] all = tt
  all-drop (suc n) [] all = tt
  all-drop zero (y ∷ ys) all = all
  all-drop (suc n) (y ∷ ys) all = all-drop n ys all.1

  pub all-take : (n : ℕ) (xs : List A) → AllByRecursion P xs → AllByRecursion P (take n xs)
  all-take zero [] all = tt
  all-take (suc n) [] all = tt
  all-take zero (y ∷ ys) all = tt
  all-take (suc n) (y ∷ ys) all = (all.0, all-take n ys all.1)

  -- one more item of the front
  pub all-next : (n : ℕ) (xs : List A) (x : A) → AllByRecursion P (take n xs) → slice_get xs n ≡ Some x → P x
      → AllByRecursion P (take (suc n) xs)
  all-next zero [] x all there here = tt
  all-next (suc n) [] x all there here = tt
  all-next zero (y ∷ ys) x all there here = let same : y ≡ x = cc in (subst P (sym same) here, tt)
  all-next (suc n) (y ∷ ys) x all there here = (all.0, all-next n ys x all.1 there here)

-- what holds of each item holds of each that is made of one
pub all-map : {A B : Type 0} (P : A → Type 0) (Q : B → Type 0) (f : A → B) → ((x : A) → P x → Q (f x)) → (xs : List A)
    → AllByRecursion P xs → AllByRecursion Q (map f xs)
all-map P Q f made [] all = tt
all-map P Q f made (x ∷ xs) all = (made x all.0, all-map P Q f made xs all.1)

-- what holds of an item holds of as many of it
pub all-replicate : {A : Type 0} (P : A → Type 0) (x : A) (n : ℕ) → P x → AllByRecursion P (replicate n x)
all-replicate P x zero here = tt
all-replicate P x (suc n) here = (here, all-replicate P x n here)

pub all-both : {A : Type 0} (P Q R : A → Type 0) → ((x : A) → P x → Q x → R x) → (xs : List A) → AllByRecursion P xs
    → AllByRecursion Q xs → AllByRecursion R xs
all-both P Q R both [] all others = tt
all-both P Q R both (x ∷ xs) all others = (both x all.0 others.0, all-both P Q R both xs all.1 others.1)

-- there is an item at each place within a list
pub within-item : {A : Type 0} (xs : List A) (i : ℕ) → i < length xs → (x : A) × (slice_get xs i ≡ Some x)
within-item [] i within = absurd (omega (arith, within))
within-item (x ∷ xs) zero within = (x, refl)
within-item (x ∷ xs) (suc i) within = within-item xs i (omega (arith, within))

-- an item by its number is in the list, and one that is in it has a number
pub contains-item : {A : Type 0} (xs : List A) (k : ℕ) (x : A) → slice_get xs k ≡ Some x → Contains xs x
contains-item xs k x there = (k, slice_get_within xs k x there, get_or_from_slice_get xs k x x there)

pub item-contained : {A : Type 0} (xs : List A) (x : A) → Contains xs x → (k : ℕ) × (slice_get xs k ≡ Some x)
item-contained xs x has = (has.0, slice_get_read xs (length xs) has.0 x refl has.1 (sym has.2))
