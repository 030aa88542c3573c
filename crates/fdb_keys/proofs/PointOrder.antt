-- Points are in a strict total order.
use Rattle.std.proofs.Common.{◌≡◌, ◌∙◌, ap, refl, true, false, Less, Equal, Greater, ⊎_elim}
use Rattle.std.specs.Cmp.{IsStrictWeakOrder}
use Rattle.std.specs.Cmp.Lexicographic.{slice_cmp}
use Rattle.std.specs.FinMap.{nat_cmp-IsAntisymmetric, slice_cmp-IsAntisymmetric}
use Rattle.std.specs.Ordering.{nat_cmp, is_lt, ordering_reverse}
use Rattle.std.specs.declared.cmp.Ordering.{Ordering}
use Rattle.std.proofs.lemmas.Cmp.{nat_list_cmp_total}
use Rattle.std.proofs.lemmas.List.MinMax.{ranks_by}
use Rattle.std.proofs.lemmas.Bool.{cases_Bool, both_ways, true_from_ne_false}
use Rattle.fdb_keys.specs.Points.{Point, point_lt}

pub point_order : IsStrictWeakOrder point_lt
unfolding point_lt
point_order = ranks_by nat_list_cmp_total (λ (x : Point). x)

-- no point comes before itself
pub lt-itself : (x : Point) → point_lt x x ≡ false
lt-itself x = ⊎_elim (λ before. point_order.one_way x x before) (λ after. after) (cases_Bool (point_lt x x))

-- of two points at most one comes before the other
pub lt_one_way : (x y : Point) → point_lt x y ≡ true → point_lt y x ≡ false
lt_one_way x y before = point_order.one_way x y before

-- x ≤ y and y ≤ z give x ≤ z, where `x ≤ y` is that y doesn't come before x
pub le_chain : (x y z : Point) → point_lt y x ≡ false → point_lt z y ≡ false → point_lt z x ≡ false
le_chain x y z below_y below_z = point_order.chain z y x below_z below_y

-- x < y and y ≤ z give x < z
pub lt_le_chain : (x y z : Point) → point_lt x y ≡ true → point_lt z y ≡ false → point_lt x z ≡ true
lt_le_chain x y z before after =
    true_from_ne_false _ (λ not_before. both_ways _ (point_order.chain x z y not_before after) before)

-- x ≤ y and y < z give x < z
pub le_lt_chain : (x y z : Point) → point_lt y x ≡ false → point_lt y z ≡ true → point_lt x z ≡ true
le_lt_chain x y z after before =
    true_from_ne_false _ (λ not_before. both_ways _ (point_order.chain y x z after not_before) before)

-- x < y and y < z give x < z
pub lt_chain : (x y z : Point) → point_lt x y ≡ true → point_lt y z ≡ true → point_lt x z ≡ true
lt_chain x y z first second = lt_le_chain x y z first (lt_one_way y z second)

-- how `cmp` orders two points, by which comes before the other
less_from_test : (r : Ordering) → is_lt r ≡ true → r ≡ Less
less_from_test Less less = refl
less_from_test Equal less = cc
less_from_test Greater less = cc

equal_from_tests : (r s : Ordering) → s ≡ ordering_reverse r → is_lt r ≡ false → is_lt s ≡ false → r ≡ Equal
equal_from_tests Less s back not_less not_greater = cc
equal_from_tests Equal s back not_less not_greater = refl
equal_from_tests Greater s back not_less not_greater = absurd (both_ways _ not_greater (ap is_lt back))

pub cmp_less : (x y : Point) → point_lt x y ≡ true → slice_cmp nat_cmp x y ≡ Less
unfolding point_lt
cmp_less x y before = less_from_test (slice_cmp nat_cmp x y) before

pub cmp_greater : (x y : Point) → point_lt y x ≡ true → slice_cmp nat_cmp x y ≡ Greater
cmp_greater x y after = nat_list_cmp_total.antisymm x y ∙ ap ordering_reverse (cmp_less y x after)

-- two points of which neither comes before the other are the same
pub same_point : (x y : Point) → point_lt x y ≡ false → point_lt y x ≡ false → x ≡ y
unfolding point_lt
same_point x y not_before not_after =
    slice_cmp-IsAntisymmetric nat_cmp-IsAntisymmetric x y
    (equal_from_tests (slice_cmp nat_cmp x y) (slice_cmp nat_cmp y x) (nat_list_cmp_total.antisymm y x) not_before
    not_after)
