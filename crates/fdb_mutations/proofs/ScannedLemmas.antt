-- What a read of a range scanned: the pairs that it was given, and no other.
use Rattle.std.proofs.Common.{◌≡◌, ◌∙◌, sym, ap, refl, subst, ℕ, ◌-◌, ◌<◌, Bool, true, false, not, ◌&&◌, List, [], ◌∷◌}
use Rattle.std.proofs.Common.{◌++◌, length, take, drop, filter, Some, nat_eq, ⊎_elim, arith}
use Rattle.std.specs.Cmp.{both_ways as same_tests}
use Rattle.std.specs.List.{AllByRecursion, slice_get}
use Rattle.std.proofs.lemmas.Bool.{cases_Bool, cases_order, both_ways, and_parts, and_from, not-true, cond-true}
use Rattle.std.proofs.lemmas.Bool.{cond-false, eqb-true, eq-eqb}
use Rattle.std.proofs.lemmas.List.{take_all, take-append-drop, take_at, length-take-le, append-nil}
use Rattle.fdb_keys.specs.Points.{Point, point_lt}
use Rattle.fdb_keys.specs.Ranges.{Range, in_range, single_range}
use Rattle.fdb_keys.proofs.Exports.{lt-itself, lt_one_way, lt_chain, le_lt_chain, in_range_parts, in_range_from}
use Rattle.fdb_keys.proofs.Exports.{below_next}
use Rattle.fdb_mutations.specs.Maps.{Map}
use Rattle.fdb_mutations.specs.Pairs.{pairs_in, first_of, is_limit_reached, part_to_last}
use Rattle.fdb_mutations.specs.PairLaws.{given_of, scanned_of, ScannedLiesInTheRange, ScannedHasWhatWasGiven}
use Rattle.fdb_mutations.specs.PairLaws.{ScannedDecidesWhatIsGiven}
use Rattle.fdb_mutations.proofs.OrderedLemmas.{all_at, parted, kept_through_last, last_of}
use Rattle.fdb_mutations.proofs.PairsLemmas.{comes_before, ordered-pairs_in, all_in-pairs_in, pairs_in-part, in_after}
use Rattle.fdb_mutations.proofs.PairsLemmas.{same_values}

-- ---- the part of a range up to a key
-- The part of a range up to one of its points has the points that don't come behind it.
in_part_to : (range : Range) (is_reverse : Bool) (last : Point × List ℕ) → in_range range last.0 ≡ true → (x : Point)
    → in_range (part_to_last range is_reverse (Some last)) x
    ≡ (in_range range x && not (comes_before is_reverse last.0 x))
in_part_to range true last inside x = in_after range last.0 x (in_range_parts range last.0 inside).0
in_part_to range false last inside x =
    let part : Range = record { begin = range.begin; end = (single_range last.0).end } in
    same_tests _ _
    (λ here. let parts = in_range_parts part x here in
    let by : not (point_lt last.0 x) ≡ true = sym (below_next last.0 x) ∙ parts.1 in
    and_from _ _
    (in_range_from range x parts.0
    (le_lt_chain x last.0 range.end (not-true _ by) (in_range_parts range last.0 inside).1))
    by)
    (λ both. let parts = and_parts _ _ both in
    in_range_from part x (in_range_parts range x parts.0).0 (below_next last.0 x ∙ parts.1))

-- ---- the order in which pairs are read
before-itself : (is_reverse : Bool) (x : Point) → comes_before is_reverse x x ≡ false
before-itself true x = lt-itself x
before-itself false x = lt-itself x

before_one_way : (is_reverse : Bool) (x y : Point) → comes_before is_reverse x y ≡ true
    → comes_before is_reverse y x ≡ false
before_one_way true x y before = lt_one_way y x before
before_one_way false x y before = lt_one_way x y before

before_chain : (is_reverse : Bool) (x y z : Point) → comes_before is_reverse x y ≡ true
    → comes_before is_reverse y z ≡ true → comes_before is_reverse x z ≡ true
before_chain true x y z first second = lt_chain z y x second first
before_chain false x y z first second = lt_chain x y z first second

-- ---- a part that was read
-- The part has the points of the range that pass a test, which none passes behind one that fails. The pairs at such
-- points are those that were given, and are enough for the limit, if others follow.
record IsRead (range : Range) (is_reverse : Bool) (limit : ℕ)
    (pairs given : List (Point × List ℕ)) (part : Range) : Type 0 where
  test : Point → Bool
  inside : (x : Point) → in_range part x ≡ (in_range range x && test x)
  falls : (x y : Point) → comes_before is_reverse x y ≡ true → test x ≡ false → test y ≡ false
  kept : filter (λ pair. test pair.0) pairs ≡ given
  enough : (others : List (Point × List ℕ))
      → first_of limit (given ++ filter (λ pair. not (test pair.0)) others) ≡ given

filter_true : {A : Type 0} (xs : List A) → filter (λ x. true) xs ≡ xs
filter_true [] = refl
filter_true (x ∷ xs) = ap (λ ys. x ∷ ys) (filter_true xs)

filter_false : {A : Type 0} (xs : List A) → filter (λ x. false) xs ≡ []
filter_false [] = refl
filter_false (x ∷ xs) = filter_false xs

and_true : (b : Bool) → b ≡ (b && true)
and_true true = refl
and_true false = refl

-- the whole range, where all of its pairs were given
whole_is_read : (range : Range) (is_reverse : Bool) (limit : ℕ) (pairs : List (Point × List ℕ))
    → first_of limit pairs ≡ pairs → IsRead range is_reverse limit pairs (first_of limit pairs) range
whole_is_read range is_reverse limit pairs all = record {
  test = λ x. true;
  inside = λ x. and_true (in_range range x);
  falls = λ x y later fails. absurd (both_ways true fails refl);
  kept = filter_true pairs ∙ sym all;
  enough = λ others.
      ap (λ more. first_of limit (first_of limit pairs ++ more)) (filter_false others)
      ∙ ap (first_of limit) (append-nil (first_of limit pairs) ∙ all);
}

-- the part up to the last pair that was given, where the limit was reached
part_is_read : (map : Map) (range : Range) (is_reverse : Bool) (limit : ℕ) (given : List (Point × List ℕ))
    → given ≡ take limit (pairs_in map range is_reverse) → length given ≡ limit → nat_eq limit 0 ≡ false
    → (last : Point × List ℕ) → slice_get given (length given - 1) ≡ Some last
    → IsRead range is_reverse limit (pairs_in map range is_reverse) given (part_to_last range is_reverse (Some last))
part_is_read map range is_reverse limit given are reached some last is =
    let pairs = pairs_in map range is_reverse in
    let followed : given ++ drop limit pairs ≡ pairs =
    ap (λ xs. xs ++ drop limit pairs) are ∙ take-append-drop limit pairs in
    let last_inside : in_range range last.0 ≡ true =
    all_at (λ pair. in_range range pair.0 ≡ true) given (drop limit pairs) (length given - 1) last is
    (subst (AllByRecursion (λ pair. in_range range pair.0 ≡ true)) (sym followed)
    (all_in-pairs_in map range is_reverse)) in
    record {
      test = λ x. not (comes_before is_reverse last.0 x);
      inside = in_part_to range is_reverse last last_inside;
      falls = λ x y later fails.
          ap not (before_chain is_reverse last.0 x y (true_from_not (comes_before is_reverse last.0 x) fails) later);
      kept = kept_through_last (λ a b. comes_before is_reverse a.0 b.0) (λ a. before-itself is_reverse a.0)
          (λ a b. before_one_way is_reverse a.0 b.0) pairs given (drop limit pairs) followed
          (ordered-pairs_in map range is_reverse) last is;
      enough = λ others. cond-false (nat_eq limit 0) _ _ some ∙ take_at given _ limit reached;
    }
  where
    true_from_not : (b : Bool) → not b ≡ false → b ≡ true
    true_from_not true fails = refl
    true_from_not false fails = absurd (both_ways true fails refl)

-- ---- what was scanned was read
has_last : (given : List (Point × List ℕ)) (limit : ℕ) → length given ≡ limit → nat_eq limit 0 ≡ false
    → (last : Point × List ℕ) × (slice_get given (length given - 1) ≡ Some last)
has_last [] limit reached some = absurd (both_ways _ some (eq-eqb limit 0 (sym reached)))
has_last (x ∷ xs) limit reached some =
    let at_end : length (x ∷ xs) - 1 ≡ length xs = omega arith in
    let last = last_of x xs in (last.0, ap (slice_get (x ∷ xs)) at_end ∙ last.1)

all_given : {A : Type 0} (limit : ℕ) (items : List A) → nat_eq limit 0 ≡ false
    → nat_eq (length (take limit items)) limit ≡ false → take limit items ≡ items
all_given limit items some more = ⊎_elim
    (λ (same : limit ≡ length items). take_all limit items (omega (arith, same)))
    (⊎_elim
    (λ (less : limit < length items).
    absurd (both_ways _ more (eq-eqb _ limit (length-take-le limit items (omega (arith, less))))))
    (λ (greater : length items < limit). take_all limit items (omega (arith, greater))))
    (cases_order limit (length items))

whole_given : (limit : ℕ) (items : List (Point × List ℕ)) → is_limit_reached limit (first_of limit items) ≡ false
    → first_of limit items ≡ items
whole_given limit items unreached = ⊎_elim
    (λ none. cond-true (nat_eq limit 0) items (take limit items) none)
    (λ some. let first : first_of limit items ≡ take limit items = cond-false (nat_eq limit 0) _ _ some in
    first ∙ all_given limit items some
    (ap (λ (xs : List (Point × List ℕ)). nat_eq (length xs) limit) (sym first)
    ∙ sym (ap (λ zero. not zero && nat_eq (length (first_of limit items)) limit) some)
    ∙ unreached))
    (cases_Bool (nat_eq limit 0))

scanned_is_read : (map : Map) (range : Range) (limit : ℕ) (is_reverse : Bool)
    → IsRead range is_reverse limit (pairs_in map range is_reverse) (given_of map range limit is_reverse)
    (scanned_of map range limit is_reverse)
scanned_is_read map range limit is_reverse =
    let pairs = pairs_in map range is_reverse in
    let given = first_of limit pairs in
    ⊎_elim
    (λ reached.
    let parts : (not (nat_eq limit 0) ≡ true) × (nat_eq (length given) limit ≡ true) = and_parts _ _ reached in
    let some = not-true _ parts.0 in
    let count = eqb-true (length given) limit parts.1 in
    let last = has_last given limit count some in
    subst (IsRead range is_reverse limit pairs given)
    (sym (cond-true (is_limit_reached limit given) _ range reached ∙ ap (part_to_last range is_reverse) last.1))
    (part_is_read map range is_reverse limit given (cond-false (nat_eq limit 0) _ _ some) count some last.0 last.1))
    (λ unreached.
    subst (IsRead range is_reverse limit pairs given)
    (sym (cond-false (is_limit_reached limit given) _ range unreached))
    (whole_is_read range is_reverse limit pairs (whole_given limit pairs unreached)))
    (cases_Bool (is_limit_reached limit given))

-- ---- the laws of what was scanned
pub lies_in_the_range : ScannedLiesInTheRange
lies_in_the_range map range limit is_reverse x here =
    let read = scanned_is_read map range limit is_reverse in
    let parts = and_parts _ _ (sym (read.inside x) ∙ here) in parts.0

pub has_what_was_given : ScannedHasWhatWasGiven
has_what_was_given map range limit is_reverse =
    let read = scanned_is_read map range limit is_reverse in
    pairs_in-part map range (scanned_of map range limit is_reverse) read.test read.inside is_reverse ∙ read.kept

pub decides_what_is_given : ScannedDecidesWhatIsGiven
decides_what_is_given map other range limit is_reverse agree =
    let read = scanned_is_read map range limit is_reverse in
    let part = scanned_of map range limit is_reverse in
    let pairs = pairs_in other range is_reverse in
    let same : filter (λ pair. read.test pair.0) pairs ≡ given_of map range limit is_reverse =
    sym (pairs_in-part other range part read.test read.inside is_reverse)
    ∙ sym (same_values map other part is_reverse agree)
    ∙ has_what_was_given map range limit is_reverse in
    ap (first_of limit)
    (parted (λ a b. comes_before is_reverse a.0 b.0) (λ pair. read.test pair.0) (λ a b. read.falls a.0 b.0) pairs
    (ordered-pairs_in other range is_reverse)
    ∙ ap (λ xs. xs ++ filter (λ pair. not (read.test pair.0)) pairs) same)
    ∙ read.enough pairs
