-- Items of lists, found by their numbers.
use Rattle.std.proofs.Common.{◌≡◌, ◌∙◌, sym, ap, ap₂, refl, subst, ℕ, zero, suc, ◌+◌, ◌<◌, List, [], ◌∷◌, ◌++◌, length}
use Rattle.std.proofs.Common.{map, get_or, Some, arith}
use Rattle.std.specs.List.{AllZip, slice_get, slice_set}
use Rattle.std.proofs.lemmas.List.{length-append, length-set}
use Rattle.std.proofs.lemmas.Option.{same_Some, slice_get_read}
use Rattle.fdb_roles.specs.Lists.{Each}

-- a list's item that was set, and any other one
pub set-here : {A : Type 0} (xs : List A) (i : ℕ) (x : A) → i < length xs → slice_get (slice_set xs i x) i ≡ Some x
set-here [] i x within = absurd (omega (arith, within))
set-here (y ∷ ys) zero x within = refl
set-here (y ∷ ys) (suc i) x within = set-here ys i x (omega (arith, within))

pub set-other : {A : Type 0} (xs : List A) (i j : ℕ) (x : A) → (j ≡ i → ⊥) → slice_get (slice_set xs i x) j
    ≡ slice_get xs j
set-other [] zero j x other = refl
set-other [] (suc i) j x other = refl
set-other (y ∷ ys) zero zero x other = absurd (other refl)
set-other (y ∷ ys) zero (suc j) x other = refl
set-other (y ∷ ys) (suc i) zero x other = refl
set-other (y ∷ ys) (suc i) (suc j) x other = set-other ys i j x (λ same. other (ap suc same))

-- what an index reads is there
pub read-there : {A : Type 0} (xs : List A) (i : ℕ) (read : A) → i < length xs → read ≡ get_or xs i read
    → slice_get xs i ≡ Some read
read-there xs i read within is = slice_get_read xs (length xs) i read refl within is

-- what an index reads is the item there
pub one-item : {A : Type 0} (xs : List A) (i : ℕ) (read x : A) → i < length xs → read ≡ get_or xs i read
    → slice_get xs i ≡ Some x → read ≡ x
one-item xs i read x within is there = same_Some read x
    (sym (slice_get_read xs (length xs) i read refl within is) ∙ there)

-- a copy of a list, item by item
pub same-items : {A : Type 0} (xs ys : List A) → AllZip (λ x y. y ≡ x) xs ys → ys ≡ xs
same-items [] [] all = refl
same-items [] (y ∷ ys) all = absurd all
same-items (x ∷ xs) [] all = absurd all
same-items (x ∷ xs) (y ∷ ys) all = ap₂ (λ z zs. z ∷ zs) all.0 (same-items xs ys all.1)

-- what comes at the end of a list leaves what stands before it
pub front-at : {A : Type 0} (xs ys : List A) (i : ℕ) → i < length xs → slice_get (xs ++ ys) i ≡ slice_get xs i
front-at [] ys i within = absurd (omega (arith, within))
front-at (x ∷ xs) ys zero within = refl
front-at (x ∷ xs) ys (suc i) within = front-at xs ys i (omega (arith, within))

-- what was put at a place last stands there
pub set-twice : {A : Type 0} (xs : List A) (i : ℕ) (x y : A) → slice_set (slice_set xs i x) i y ≡ slice_set xs i y
set-twice [] zero x y = refl
set-twice [] (suc i) x y = refl
set-twice (z ∷ zs) zero x y = refl
set-twice (z ∷ zs) (suc i) x y = ap (λ rest. z ∷ rest) (set-twice zs i x y)

-- the one at the end is found under the old length
pub last-at : {A : Type 0} (xs : List A) (x : A) → slice_get (xs ++ x ∷ []) (length xs) ≡ Some x
last-at [] x = refl
last-at (y ∷ ys) x = last-at ys x

-- one more item that has what each has
pub each-push : {A : Type 0} (P : ℕ → A → Type 0) (xs : List A) (x : A) → Each P xs → P (length xs) x
    → Each P (xs ++ x ∷ [])
each-push P [] x all is zero y there = let same : x ≡ y = cc in subst (P 0) same is
each-push P [] x all is (suc i) y there = cc
each-push P (z ∷ zs) x all is zero y there = all 0 y there
each-push {A} P (z ∷ zs) x all is (suc i) y there =
    each-push (λ (n : ℕ) (item : A). P (suc n) item) zs x (λ n item at. all (suc n) item at) is i y there

-- what is made of each of a list's items
pub map-at : {A B : Type 0} (f : A → B) (xs : List A) (i : ℕ) (x : A) → slice_get xs i ≡ Some x
    → slice_get (map f xs) i ≡ Some (f x)
map-at f [] i x there = cc
map-at f (y ∷ ys) zero x there = let same : y ≡ x = cc in ap (λ z. Some (f z)) same
map-at f (y ∷ ys) (suc i) x there = map-at f ys i x there

-- and of a list with another item
pub map-set : {A B : Type 0} (f : A → B) (xs : List A) (i : ℕ) (x : A)
    → map f (slice_set xs i x) ≡ slice_set (map f xs) i (f x)
map-set f [] zero x = refl
map-set f [] (suc i) x = refl
map-set f (y ∷ ys) zero x = refl
map-set f (y ∷ ys) (suc i) x = ap (λ rest. f y ∷ rest) (map-set f ys i x)

-- each item has what it had, and the one that is put there has it, too
pub each-set : {A : Type 0} (P : ℕ → A → Type 0) (xs : List A) (i : ℕ) (x : A) → Each P xs
    → (i < length xs → P i x) → Each P (slice_set xs i x)
each-set P [] zero x all is j y there = cc
each-set P [] (suc i) x all is j y there = cc
each-set P (z ∷ zs) zero x all is zero y there = let same : x ≡ y = cc in subst (P 0) same (is (omega arith))
each-set P (z ∷ zs) zero x all is (suc j) y there = all (suc j) y there
each-set P (z ∷ zs) (suc i) x all is zero y there = all 0 y there
each-set {A} P (z ∷ zs) (suc i) x all is (suc j) y there =
    each-set (λ (n : ℕ) (item : A). P (suc n) item) zs i x (λ n item at. all (suc n) item at)
    (λ within. is (omega (arith, within))) j y there

-- so many made one after another, with one more
pub made-push : {A : Type 0} (P : ℕ → A → Type 0) (n : ℕ) (xs ys : List A) (x : A) → ys ≡ xs ++ x ∷ []
    → length xs ≡ n → Each P xs → P n x → (length ys ≡ n + 1) × Each P ys
made-push {A} P n xs ys x is count all here =
    let more : length ys ≡ n + 1 = ap (λ (zs : List A). length zs) is
    ∙ omega (arith, length-append xs (x ∷ []), count) in (
      more,
      subst (Each P) (sym is) (each-push P xs x all (subst (λ (m : ℕ). P m x) (sym count) here)),
    )

-- what an index reads where an item was put is that item
pub read-back : {A : Type 0} (xs : List A) (i : ℕ) (read x : A) → i < length xs
    → read ≡ get_or (slice_set xs i x) i read → read ≡ x
read-back xs i read x within is =
    let count = length-set xs i x in
    one-item (slice_set xs i x) i read x (omega (arith, within, count)) is (set-here xs i x within)
