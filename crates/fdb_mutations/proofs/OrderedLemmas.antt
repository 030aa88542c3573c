-- Lists in an order, and what filters keep of them.
use Rattle.std.proofs.Common.{◌≡◌, ◌∙◌, sym, ap, ap₂, refl, subst, ℕ, zero, suc, ◌-◌, Bool, true, false, not, ◌&&◌}
use Rattle.std.proofs.Common.{cond, List, [], ◌∷◌, ◌++◌, length, reverse, filter, Some, arith}
use Rattle.std.specs.List.{AllByRecursion, slice_get}
use Rattle.std.proofs.lemmas.Bool.{cond_both, cond-true, cond-false, not_from_false}
use Rattle.std.proofs.lemmas.List.{append-nil, append_assoc, reverse-append}
use Rattle.std.proofs.lemmas.List.Elements.{filter-append}
use Rattle.std.proofs.lemmas.Option.{none-some, same_Some}
use Rattle.fdb_keys.specs.Ordered.{AreOrdered}
use Rattle.fdb_keys.proofs.Exports.{all-append, all-filter, all-parts, all-weaken, ordered-push}

-- each item stands before all that follow it, by a test
abbrev pub AreOrderedBy : {A : Type 0} → (A → A → Bool) → List A → Type 0
AreOrderedBy before xs = AreOrdered (λ x y. before x y ≡ true) xs

-- ---- what holds of each item
pub all-reverse : {A : Type 0} (P : A → Type 0) (xs : List A) → AllByRecursion P xs → AllByRecursion P (reverse xs)
all-reverse P [] all = tt
all-reverse P (x ∷ xs) all =
    subst (AllByRecursion P) (sym (reverse-append (x ∷ []) xs))
    (all-append P (reverse xs) (x ∷ []) (all-reverse P xs all.1) (all.0, tt))

pub all-passes : {A : Type 0} (test : A → Bool) (xs : List A) → AllByRecursion (λ x. test x ≡ true) (filter test xs)
all-passes test [] = tt
all-passes test (x ∷ xs) =
    let rest = all-passes test xs in
    cond_both (test x) (x ∷ filter test xs) (filter test xs) (AllByRecursion (λ y. test y ≡ true))
    (λ passes. (passes, rest)) (λ fails. rest)

-- of two lists, one after the other, at a place in the first
pub all_at : {A : Type 0} (P : A → Type 0) (xs ys : List A) (i : ℕ) (x : A) → slice_get xs i ≡ Some x
    → AllByRecursion P (xs ++ ys) → P x
all_at P [] ys i x is all = absurd (none-some x is)
all_at P (y ∷ xs) ys zero x is all = subst P (same_Some y x is) all.0
all_at P (y ∷ xs) ys (suc i) x is all = all_at P xs ys i x is all.1

-- ---- lists in an order
pub ordered-filter : {A : Type 0} (before : A → A → Bool) (test : A → Bool) (xs : List A) → AreOrderedBy before xs
    → AreOrderedBy before (filter test xs)
ordered-filter before test [] ordered = tt
ordered-filter before test (x ∷ xs) ordered =
    let rest = ordered-filter before test xs ordered.1 in
    cond_both (test x) (x ∷ filter test xs) (filter test xs) (AreOrderedBy before)
    (λ kept. (all-filter (λ y. before x y ≡ true) test xs ordered.0, rest)) (λ left. rest)

pub ordered-reverse : {A : Type 0} (before : A → A → Bool) (xs : List A) → AreOrderedBy before xs
    → AreOrderedBy (λ x y. before y x) (reverse xs)
ordered-reverse before [] ordered = tt
ordered-reverse before (x ∷ xs) ordered =
    subst (AreOrderedBy (λ a b. before b a)) (sym (reverse-append (x ∷ []) xs))
    (ordered-push (λ a b. before b a ≡ true) (reverse xs) x (ordered-reverse before xs ordered.1)
    (all-reverse (λ y. before x y ≡ true) xs ordered.0))

-- ---- what filters keep
pub filter_none : {A : Type 0} (test : A → Bool) (xs : List A) → AllByRecursion (λ x. test x ≡ false) xs
    → filter test xs ≡ []
filter_none test [] all = refl
filter_none test (x ∷ xs) all = cond-false _ _ _ all.0 ∙ filter_none test xs all.1

pub filter_all : {A : Type 0} (test : A → Bool) (xs : List A) → AllByRecursion (λ x. test x ≡ true) xs
    → filter test xs ≡ xs
filter_all test [] all = refl
filter_all test (x ∷ xs) all = cond-true _ _ _ all.0 ∙ ap (λ ys. x ∷ ys) (filter_all test xs all.1)

pub filter-reverse : {A : Type 0} (test : A → Bool) (xs : List A)
    → filter test (reverse xs) ≡ reverse (filter test xs)
filter-reverse test [] = refl
filter-reverse test (x ∷ xs) =
    ap (filter test) (reverse-append (x ∷ []) xs)
    ∙ filter-append test (reverse xs) (x ∷ [])
    ∙ ap (λ ys. ys ++ filter test (x ∷ [])) (filter-reverse test xs)
    ∙ elim (test x) as (λ b. reverse (filter test xs) ++ cond b (x ∷ []) []
    ≡ reverse (cond b (x ∷ filter test xs) (filter test xs))) [
      | true ↦ sym (reverse-append (x ∷ []) (filter test xs))
      | false ↦ append-nil (reverse (filter test xs))
    ]

-- a test that is two tests is one after the other
pub filter_both : {A : Type 0} (p q r : A → Bool) → ((x : A) → r x ≡ (p x && q x)) → (xs : List A)
    → filter r xs ≡ filter q (filter p xs)
filter_both p q r both [] = refl
filter_both p q r both (x ∷ xs) =
    let rest = filter_both p q r both xs in
    ap (λ b. cond b (x ∷ filter r xs) (filter r xs)) (both x)
    ∙ elim (p x) as (λ b. cond (b && q x) (x ∷ filter r xs) (filter r xs)
    ≡ filter q (cond b (x ∷ filter p xs) (filter p xs))) [
      | true ↦ ap (λ ys. cond (q x) (x ∷ ys) ys) rest
      | false ↦ rest
    ]

-- What passes a test that no item passes behind one that fails stands before all that fails.
pub parted : {A : Type 0} (before : A → A → Bool) (test : A → Bool)
    → ((x y : A) → before x y ≡ true → test x ≡ false → test y ≡ false) → (xs : List A) → AreOrderedBy before xs
    → xs ≡ filter test xs ++ filter (λ x. not (test x)) xs
parted before test falls [] ordered = refl
parted before test falls (x ∷ xs) ordered =
    let others = filter (λ y. not (test y)) xs in
    elim (test x) as (λ b. test x ≡ b
    → x ∷ xs ≡ cond b (x ∷ filter test xs) (filter test xs) ++ cond (not b) (x ∷ others) others) [
      | true ↦ λ passes. ap (λ ys. x ∷ ys) (parted before test falls xs ordered.1)
      | false ↦ λ fails.
          let fail = all-weaken _ _ (λ y later. falls x y later fails) xs ordered.0 in
          sym (ap₂ (λ ys zs. ys ++ x ∷ zs) (filter_none test xs fail)
          (filter_all (λ y. not (test y)) xs (all-weaken _ _ (λ y failed. not_from_false (test y) failed) xs fail)))
    ] refl

-- ---- the first items of a list, up to a last one
pub last_of : {A : Type 0} (x : A) (xs : List A) → (last : A) × (slice_get (x ∷ xs) (length xs) ≡ Some last)
last_of x [] = (x, refl)
last_of x (y ∷ ys) = last_of y ys

split_last : {A : Type 0} (x : A) (xs : List A) (last : A) → slice_get (x ∷ xs) (length xs) ≡ Some last
    → (front : List A) × (x ∷ xs ≡ front ++ last ∷ [])
split_last x [] last is = ([], ap (λ y. y ∷ []) (same_Some x last is))
split_last x (y ∷ ys) last is =
    let more = split_last y ys last is in (x ∷ more.0, ap (λ zs. x ∷ zs) more.1)

through_last : {A : Type 0} (before : A → A → Bool) → ((x : A) → before x x ≡ false)
    → ((x y : A) → before x y ≡ true → before y x ≡ false) → (front : List A) (last : A) (rest : List A)
    → AreOrderedBy before (front ++ last ∷ rest)
    → filter (λ x. not (before last x)) (front ++ last ∷ rest) ≡ front ++ last ∷ []
through_last before itself one_way [] last rest ordered =
    cond-true _ _ _ (not_from_false _ (itself last))
    ∙ ap (λ ys. last ∷ ys)
    (filter_none (λ x. not (before last x)) rest (all-weaken _ _ (λ x later. ap not later) rest ordered.0))
through_last before itself one_way (x ∷ front) last rest ordered =
    let later = (all-parts (λ y. before x y ≡ true) front (last ∷ rest) ordered.0).1 in
    cond-true _ _ _ (not_from_false _ (one_way x last later.0))
    ∙ ap (λ ys. x ∷ ys) (through_last before itself one_way front last rest ordered.1)

-- What doesn't stand behind the last of the first items are these.
pub kept_through_last : {A : Type 0} (before : A → A → Bool) → ((x : A) → before x x ≡ false)
    → ((x y : A) → before x y ≡ true → before y x ≡ false) → (items first rest : List A) → first ++ rest ≡ items
    → AreOrderedBy before items → (last : A) → slice_get first (length first - 1) ≡ Some last
    → filter (λ x. not (before last x)) items ≡ first
kept_through_last before itself one_way items [] rest are ordered last is = absurd (none-some last is)
kept_through_last before itself one_way items (x ∷ xs) rest are ordered last is =
    let at_end : length (x ∷ xs) - 1 ≡ length xs = omega arith in
    let split = split_last x xs last (sym (ap (slice_get (x ∷ xs)) at_end) ∙ is) in
    let parts : items ≡ split.0 ++ last ∷ rest =
    sym are ∙ ap (λ ys. ys ++ rest) split.1 ∙ append_assoc split.0 (last ∷ []) rest in
    ap (filter (λ y. not (before last y))) parts
    ∙ through_last before itself one_way split.0 last rest (subst (AreOrderedBy before) parts ordered)
    ∙ sym split.1
