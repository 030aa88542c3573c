-- The first pairs of a list, and those of the lists that follow.
use Rattle.std.proofs.Common.{◌≡◌, refl, ℕ, zero, suc, [], ◌∙◌, sym, ap, List, ◌∷◌, ◌++◌, take, ⊎_elim, ◌<◌, ◌+◌, ◌-◌}
use Rattle.std.proofs.Common.{false, length, Some, None, arith, ◌≤◌, true, Bool}
use Rattle.std.specs.Prelude.{nat_eq, nat_lt, if◌then◌else◌}
use Rattle.std.proofs.lemmas.Bool.{cases_Bool, cond-true, cond-false, ltb-true, eqb-true, ltb-false, both_ways}
use Rattle.std.proofs.lemmas.Bool.{eqb-false}
use Rattle.std.proofs.Math.Seq.{take-append-add, take-length}
use Rattle.std.proofs.lemmas.List.{take-append-le, take_min, length-take}
use Rattle.fdb_keys.specs.Ranges.{Range}
use Rattle.fdb_keys.specs.Points.{Point}
use Rattle.fdb_mutations.specs.Pairs.{first_of, pairs_in}
use Rattle.fdb_mutations.specs.Maps.{Map}
use Rattle.fdb_owners.proofs.Exports.{either_same}
use Rattle.fdb_client.specs.Pages.{IsPage}
use Rattle.fdb_mutations.specs.declared.page.Page.{Page}
use Rattle.fdb_roles.specs.Wanted.{left_of, AreFew}

-- ---- the first of some items
pub first-none : {A : Type 0} (limit : ℕ) → first_of {T = A} limit [] ≡ []
first-none zero = refl
first-none (suc limit) = either_same (nat_eq (suc limit) 0) []

-- what is cut after more is put behind is as if nothing had been cut before
pub first-again : {A : Type 0} (wanted : ℕ) (xs ys : List A)
    → first_of wanted (first_of wanted xs ++ ys) ≡ first_of wanted (xs ++ ys)
first-again {A} wanted xs ys = ⊎_elim
    (λ all. ap (λ (items : List A). first_of wanted (items ++ ys)) (cond-true (nat_eq wanted 0) _ _ all))
    (λ some. cond-false (nat_eq wanted 0) _ _ some
    ∙ ap (λ (items : List A). take wanted (items ++ ys)) (cond-false (nat_eq wanted 0) xs (take wanted xs) some)
    ∙ taken wanted xs
    ∙ sym (cond-false (nat_eq wanted 0) (xs ++ ys) (take wanted (xs ++ ys)) some))
    (cases_Bool (nat_eq wanted 0))
  where
    taken : (n : ℕ) (zs : List A) → take n (take n zs ++ ys) ≡ take n (zs ++ ys)
    taken zero zs = refl
    taken (suc n) [] = refl
    taken (suc n) (z ∷ zs) = ap (λ (items : List A). z ∷ items) (taken n zs)

module _ {A : Type 0} (wanted : ℕ) (xs ys : List A) where
  -- where some are wanted still, as many of the others follow
  pub first-left : (limit : ℕ) → left_of wanted (length xs) ≡ Some limit
      → xs ++ first_of limit ys ≡ first_of wanted (xs ++ ys)
  first-left limit left = ⊎_elim
      (λ all.
      let none : Some 0 ≡ Some limit = sym (cond-true (nat_eq wanted 0) _ _ all) ∙ left in
      let is : 0 ≡ limit = cc in
      ap (λ (n : ℕ). xs ++ first_of n ys) (sym is)
      ∙ sym (cond-true (nat_eq wanted 0) (xs ++ ys) (take wanted (xs ++ ys)) all))
      (λ some. by_room some (sym (cond-false (nat_eq wanted 0) _ _ some) ∙ left))
      (cases_Bool (nat_eq wanted 0))
    where
      by_room : nat_eq wanted 0 ≡ false
          → (if nat_lt (length xs) wanted then Some (wanted - length xs) else None) ≡ Some limit
          → xs ++ first_of limit ys ≡ first_of wanted (xs ++ ys)
      by_room some is = ⊎_elim
          (λ room.
          let cut : Some (wanted - length xs) ≡ Some limit = sym (cond-true (nat_lt (length xs) wanted) _ _ room)
          ∙ is in
          let rest : wanted - length xs ≡ limit = cc in
          let less = ltb-true (length xs) wanted room in
          let sum : wanted ≡ length xs + limit = omega (arith, less, rest) in
          let above : nat_eq limit 0 ≡ false = sym (ap (λ (n : ℕ). nat_eq n 0) rest) ∙ some_left less in
          ap (λ (items : List A). xs ++ items) (cond-false (nat_eq limit 0) ys (take limit ys) above)
          ∙ sym (take-append-add xs ys limit)
          ∙ ap (λ (n : ℕ). take n (xs ++ ys)) (sym sum)
          ∙ sym (cond-false (nat_eq wanted 0) (xs ++ ys) (take wanted (xs ++ ys)) some))
          (λ full.
          let nothing : None ≡ Some limit = sym (cond-false (nat_lt (length xs) wanted) _ _ full) ∙ is in
          cc)
          (cases_Bool (nat_lt (length xs) wanted))
        where
          some_left : length xs < wanted → nat_eq (wanted - length xs) 0 ≡ false
          some_left less = ⊎_elim
              (λ zero_is. let none = eqb-true (wanted - length xs) 0 zero_is in absurd (omega (arith, less, none)))
              (λ no. no)
              (cases_Bool (nat_eq (wanted - length xs) 0))

  -- where none is wanted any more, nothing is added
  pub first-full : (nat_eq wanted 0 ≡ false → length xs ≤ wanted) → left_of wanted (length xs) ≡ None
      → xs ≡ first_of wanted (xs ++ ys)
  first-full few left = ⊎_elim
      (λ all.
      let some : Some 0 ≡ None = sym (cond-true (nat_eq wanted 0) _ _ all) ∙ left in
      cc)
      (λ some. by_room some (sym (cond-false (nat_eq wanted 0) _ _ some) ∙ left))
      (cases_Bool (nat_eq wanted 0))
    where
      by_room : nat_eq wanted 0 ≡ false
          → (if nat_lt (length xs) wanted then Some (wanted - length xs) else None) ≡ None
          → xs ≡ first_of wanted (xs ++ ys)
      by_room some is = ⊎_elim
          (λ room.
          let there : Some (wanted - length xs) ≡ None = sym (cond-true (nat_lt (length xs) wanted) _ _ room) ∙ is in
          cc)
          (λ full.
          let past = ltb-false (length xs) wanted full in
          let count : wanted ≡ length xs = omega (arith, past, few some) in
          sym (cond-false (nat_eq wanted 0) (xs ++ ys) (take wanted (xs ++ ys)) some
          ∙ ap (λ (n : ℕ). take n (xs ++ ys)) count
          ∙ take-append-le (length xs) xs ys (omega arith)
          ∙ take-length xs))
          (cases_Bool (nat_lt (length xs) wanted))

-- the first items, as many as the limit says
first-are : {A : Type 0} (limit : ℕ) (given all : List A) → given ≡ first_of limit all
    → (given ≡ take (length given) all) × (nat_eq limit 0 ≡ false → length given ≤ limit)
    × (nat_lt (length given) (length all) ≡ true → 0 < length given)
first-are {A} limit given all is = ⊎_elim whole cut (cases_Bool (nat_eq limit 0))
  where
    AreFirst : Type 0
    AreFirst =
        (given ≡ take (length given) all) × (nat_eq limit 0 ≡ false → length given ≤ limit)
        × (nat_lt (length given) (length all) ≡ true → 0 < length given)

    whole : nat_eq limit 0 ≡ true → AreFirst
    whole none =
        let same : given ≡ all = is ∙ cond-true (nat_eq limit 0) all (take limit all) none in
        let long = ap (λ (xs : List A). length xs) same in (
          same ∙ sym (ap (λ (n : ℕ). take n all) long ∙ take-length all),
          λ some. absurd (both_ways _ some none),
          λ more. absurd (omega (arith, long, ltb-true (length given) (length all) more)),
        )

    cut : nat_eq limit 0 ≡ false → AreFirst
    cut some =
        let same : given ≡ take limit all = is ∙ cond-false (nat_eq limit 0) all (take limit all) some in
        let long = ap (λ (xs : List A). length xs) same ∙ length-take limit all in (
          same ∙ sym (ap (λ (n : ℕ). take n all) long ∙ take_min limit all),
          λ _. omega (arith, long),
          λ more. omega (arith, long, ltb-true (length given) (length all) more, eqb-false limit 0 some),
        )

-- a page of the first pairs is one of the map
pub page-first : (map : Map) (range : Range) (limit : ℕ) (is_reverse : Bool) (page : Page)
    → page.pairs ≡ first_of limit (pairs_in map range is_reverse)
    → page.more ≡ nat_lt (length page.pairs) (length (pairs_in map range is_reverse))
    → IsPage map range limit is_reverse page
page-first map range limit is_reverse page pairs more =
    let first = first-are limit page.pairs (pairs_in map range is_reverse) pairs in
    record {
      first = first.0;
      within = first.1;
      more = more;
      goes_on = λ further. first.2 (sym more ∙ further);
    }

-- no more than are wanted are among the first
pub first-few : (wanted : ℕ) (pairs : List (Point × List ℕ)) → AreFew wanted (first_of wanted pairs)
first-few wanted pairs some =
    let cut = ap (λ (items : List (Point × List ℕ)). length items)
    (cond-false (nat_eq wanted 0) pairs (take wanted pairs) some) in
    let long = length-take wanted pairs in
    omega (arith, cut, long)
