-- The range of a key holds that key alone, so its end comes right after the key.
use Rattle.std.proofs.Common.{◌≡◌, ◌∙◌, sym, ap, refl, ℕ, zero, suc, ◌<◌, true, false, not, ◌&&◌, nat_eq, List, [], ◌∷◌}
use Rattle.std.proofs.Common.{◌++◌, Less, Greater, ⊎_elim, subst, arith}
use Rattle.std.specs.Ordering.{nat_cmp, is_lt, ordering_then}
use Rattle.std.specs.Cmp.Lexicographic.{slice_cmp, pointwise, bytes_decides}
use Rattle.std.specs.Cmp.{nat_cmp_is, both_ways as same_tests}
use Rattle.std.proofs.lemmas.Cmp.{nat_cmp_total, tied_itself}
use Rattle.std.proofs.lemmas.Bool.{cases_Bool, cases_order, both_ways, eq-eqb, ne_eqb, and_right, not-true}
use Rattle.std.proofs.lemmas.Bool.{not_from_false}
use Rattle.fdb_keys.specs.Points.{Point, point_lt, point_eq}
use Rattle.fdb_keys.specs.Ranges.{single_range, in_range}
use Rattle.fdb_keys.proofs.PointOrder.{lt-itself, lt_one_way, le_lt_chain}
use Rattle.fdb_keys.proofs.RangesLemmas.{in_range_parts, in_range_from}

-- what two texts with first bytes compared by `first` and rests compared by `rest` answer
pub first_less : (x y : ℕ) (xs ys : List ℕ) → x < y → point_lt (x ∷ xs) (y ∷ ys) ≡ true
unfolding point_lt
first_less x y xs ys less = ap (λ first. is_lt (ordering_then first (slice_cmp nat_cmp xs ys)))
    (sym (nat_cmp_is x y Less less))

pub first_equal : (x : ℕ) (xs ys : List ℕ) → point_lt (x ∷ xs) (x ∷ ys) ≡ point_lt xs ys
unfolding point_lt
first_equal x xs ys = ap (λ first. is_lt (ordering_then first (slice_cmp nat_cmp xs ys))) (tied_itself nat_cmp_total x)

pub first_greater : (x y : ℕ) (xs ys : List ℕ) → y < x → point_lt (x ∷ xs) (y ∷ ys) ≡ false
unfolding point_lt
first_greater x y xs ys greater = ap (λ first. is_lt (ordering_then first (slice_cmp nat_cmp xs ys)))
    (sym (nat_cmp_is x y Greater greater))

pub empty_less : (y : ℕ) (ys : List ℕ) → point_lt [] (y ∷ ys) ≡ true
unfolding point_lt
empty_less y ys = refl

pub empty_not_less : (xs : List ℕ) → point_lt xs [] ≡ false
unfolding point_lt
empty_not_less [] = refl
empty_not_less (x ∷ xs) = refl

longer_not_less : (x : ℕ) (xs : List ℕ) → point_lt (x ∷ xs) (0 ∷ []) ≡ false
longer_not_less zero xs = first_equal 0 xs [] ∙ empty_not_less xs
longer_not_less (suc x) xs = first_greater (suc x) 0 xs [] (omega arith)

pub in_range-single : (key x : Point) → in_range (single_range key) x ≡ point_eq x key
in_range-single [] [] = ap (λ before. not before && point_lt [] (0 ∷ [])) (empty_not_less []) ∙ empty_less 0 []
in_range-single [] (x ∷ xs) = ap (λ before. not before && point_lt (x ∷ xs) (0 ∷ [])) (empty_not_less (x ∷ xs))
    ∙ longer_not_less x xs
in_range-single (k ∷ ks) [] = ap (λ before. not before && point_lt [] ((k ∷ ks) ++ 0 ∷ [])) (empty_less k ks)
in_range-single (k ∷ ks) (x ∷ xs) =
    ⊎_elim
    (λ (same : x ≡ k). subst (λ (y : ℕ). in_range (single_range (k ∷ ks)) (y ∷ xs) ≡ point_eq (y ∷ xs) (k ∷ ks))
    (sym same)
    (ap (λ before. not before && point_lt (k ∷ xs) ((k ∷ ks) ++ 0 ∷ [])) (first_equal k xs ks)
    ∙ ap (λ until. not (point_lt xs ks) && until) (first_equal k xs (ks ++ 0 ∷ []))
    ∙ in_range-single ks xs
    ∙ sym (ap (λ equal. equal && pointwise nat_eq xs ks) (eq-eqb k k refl))))
    (⊎_elim
    (λ (less : x < k).
    ap (λ before. not before && point_lt (x ∷ xs) ((k ∷ ks) ++ 0 ∷ [])) (first_less x k xs ks less)
    ∙ sym (ap (λ equal. equal && pointwise nat_eq xs ks) (ne_eqb x k (λ same. omega arith))))
    (λ (greater : k < x).
    and_right _ _ (first_greater x k xs (ks ++ 0 ∷ []) greater)
    ∙ sym (ap (λ equal. equal && pointwise nat_eq xs ks) (ne_eqb x k (λ same. omega arith)))))
    (cases_order x k)

-- a key comes before the end of its own range, and whatever comes before that end doesn't come after the key
pub next_after : (key : Point) → point_lt key (single_range key).end ≡ true
next_after key = (in_range_parts (single_range key) key (in_range-single key key ∙ (bytes_decides key key).1 refl)).1

none_between : (key x : Point) → point_lt x (single_range key).end ≡ true → point_lt key x ≡ true → x ≡ key
none_between key x until after =
    (bytes_decides x key).0
    (sym (in_range-single key x) ∙ in_range_from (single_range key) x (lt_one_way key x after) until)

pub below_next : (key x : Point) → point_lt x (single_range key).end ≡ not (point_lt key x)
below_next key x = same_tests _ _
    (λ until. ⊎_elim
    (λ after. absurd (both_ways _ (lt-itself key)
    (subst (λ y. point_lt key y ≡ true) (none_between key x until after) after)))
    (λ by. not_from_false _ by)
    (cases_Bool (point_lt key x)))
    (λ by. le_lt_chain x key (single_range key).end (not-true _ by) (next_after key))
