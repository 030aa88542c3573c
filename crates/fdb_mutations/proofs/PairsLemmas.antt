-- The pairs of a map in a range.
use Rattle.std.proofs.Common.{◌≡◌, ◌∙◌, sym, ap, ap₂, refl, ℕ, Bool, true, false, not, ◌&&◌, cond, List, [], ◌∷◌, ◌++◌}
use Rattle.std.proofs.Common.{reverse, filter, Option, Some, None, T, Equal, if◌then◌else◌}
use Rattle.std.specs.Ordering.{nat_cmp}
use Rattle.std.specs.Cmp.{both_ways}
use Rattle.std.specs.Cmp.Lexicographic.{slice_cmp, bytes_decides}
use Rattle.std.specs.List.{AllByRecursion}
use Rattle.std.specs.FinMap.{get, entries, find, is_sorted, entries_sorted, get-entries, slice_cmp-IsAntisymmetric}
use Rattle.std.specs.FinMap.{nat_cmp-IsAntisymmetric}
use Rattle.std.specs.FinMap.Entries.{below_all, same_entries, is_sorted-where_key, find-where_key}
use Rattle.std.proofs.lemmas.Bool.{and_parts, and_from, not-true, not_from_true, not_from_false}
use Rattle.std.proofs.lemmas.Cmp.{nat_list_cmp_total}
use Rattle.std.proofs.lemmas.List.{reverse-append}
use Rattle.std.proofs.lemmas.Map.Text.{is_eq-slice_cmp}
use Rattle.fdb_keys.specs.Cutting.{range_behind}
use Rattle.fdb_keys.specs.Points.{Point, point_lt, point_eq}
use Rattle.fdb_keys.specs.Ranges.{Range, in_range, single_range}
use Rattle.fdb_keys.proofs.Exports.{lt_one_way, le_chain, lt_le_chain, in_range_parts, in_range_from, in_range-single}
use Rattle.fdb_keys.proofs.Exports.{next_after, below_next}
use Rattle.fdb_mutations.specs.Maps.{Map}
use Rattle.fdb_mutations.specs.Pairs.{pairs_within, pairs_in}
use Rattle.fdb_mutations.specs.PairLaws.{RangeHasThePairsOfItsParts, PairsFromAKeyOn, KeyHasItsPair}
use Rattle.fdb_mutations.specs.PairLaws.{SameValuesSamePairs, NoValuesNoPairs, pair_of}
use Rattle.fdb_mutations.proofs.OrderedLemmas.{AreOrderedBy, all-passes, all-reverse, ordered-filter, ordered-reverse}
use Rattle.fdb_mutations.proofs.OrderedLemmas.{filter-reverse, filter_both, parted}

-- ---- the pairs are in the order of their keys
true_from_T : (b : Bool) → T b → b ≡ true
true_from_T true holds = refl
true_from_T false holds = absurd holds

all_after : (key : Point) (pairs : List (Point × List ℕ)) → below_all (slice_cmp nat_cmp) key pairs ≡ true
    → AllByRecursion (λ pair. point_lt key pair.0 ≡ true) pairs
unfolding point_lt
all_after key [] below = tt
all_after key (pair ∷ pairs) below = let parts = and_parts _ _ below in (parts.0, all_after key pairs parts.1)

ordered-sorted : (pairs : List (Point × List ℕ)) → is_sorted (slice_cmp nat_cmp) pairs ≡ true
    → AreOrderedBy (λ a b. point_lt a.0 b.0) pairs
ordered-sorted [] sorted = tt
ordered-sorted (pair ∷ pairs) sorted =
    let parts = and_parts _ _ sorted in (all_after pair.0 pairs parts.0, ordered-sorted pairs parts.1)

ordered-within : (map : Map) (range : Range)
    → AreOrderedBy (λ a b. point_lt a.0 b.0) (pairs_within range (entries map))
ordered-within map range = ordered-filter (λ a b. point_lt a.0 b.0) (λ pair. in_range range pair.0) (entries map)
    (ordered-sorted (entries map) (true_from_T _ (entries_sorted map)))

-- x comes before y, in the order of keys or from the end
abbrev pub comes_before : Bool → Point → Point → Bool
comes_before false x y = point_lt x y
comes_before true x y = point_lt y x

pub ordered-pairs_in : (map : Map) (range : Range) (is_reverse : Bool)
    → AreOrderedBy (λ a b. comes_before is_reverse a.0 b.0) (pairs_in map range is_reverse)
ordered-pairs_in map range false = ordered-within map range
ordered-pairs_in map range true = ordered-reverse (λ a b. point_lt a.0 b.0) _ (ordered-within map range)

-- and their keys lie in the range
pub all_in-pairs_in : (map : Map) (range : Range) (is_reverse : Bool)
    → AllByRecursion (λ pair. in_range range pair.0 ≡ true) (pairs_in map range is_reverse)
all_in-pairs_in map range false = all-passes (λ pair. in_range range pair.0) (entries map)
all_in-pairs_in map range true =
    all-reverse (λ pair. in_range range pair.0 ≡ true) (pairs_within range (entries map))
    (all-passes (λ pair. in_range range pair.0) (entries map))

-- ---- a part of a range
within-part : (map : Map) (range part : Range) (test : Point → Bool)
    → ((x : Point) → in_range part x ≡ (in_range range x && test x))
    → pairs_within part (entries map) ≡ filter (λ pair. test pair.0) (pairs_within range (entries map))
within-part map range part test both =
    filter_both (λ pair. in_range range pair.0) (λ pair. test pair.0) (λ pair. in_range part pair.0)
    (λ pair. both pair.0) (entries map)

pub pairs_in-part : (map : Map) (range part : Range) (test : Point → Bool)
    → ((x : Point) → in_range part x ≡ (in_range range x && test x)) → (is_reverse : Bool)
    → pairs_in map part is_reverse ≡ filter (λ pair. test pair.0) (pairs_in map range is_reverse)
pairs_in-part map range part test both false = within-part map range part test both
pairs_in-part map range part test both true =
    ap reverse (within-part map range part test both)
    ∙ sym (filter-reverse (λ pair. test pair.0) (pairs_within range (entries map)))

in_before : (range : Range) (point x : Point) → point_lt range.end point ≡ false
    → in_range (record { begin = range.begin; end = point }) x ≡ (in_range range x && point_lt x point)
in_before range point x until = both_ways _ _
    (λ inside. let parts = in_range_parts (record { begin = range.begin; end = point }) x inside in
    and_from _ _ (in_range_from range x parts.0 (lt_le_chain x point range.end parts.1 until)) parts.1)
    (λ both. let parts = and_parts _ _ both in
    in_range_from (record { begin = range.begin; end = point }) x (in_range_parts range x parts.0).0 parts.1)

pub in_after : (range : Range) (point x : Point) → point_lt point range.begin ≡ false
    → in_range (record { begin = point; end = range.end }) x ≡ (in_range range x && not (point_lt x point))
in_after range point x from = both_ways _ _
    (λ inside. let parts = in_range_parts (record { begin = point; end = range.end }) x inside in
    and_from _ _ (in_range_from range x (le_chain range.begin point x from parts.0) parts.1)
    (not_from_false _ parts.0))
    (λ both. let parts = and_parts _ _ both in
    in_range_from (record { begin = point; end = range.end }) x (not-true _ parts.1)
    (in_range_parts range x parts.0).1)

pub pairs_of_parts : RangeHasThePairsOfItsParts
pairs_of_parts map range point from until =
    let before : Range = record { begin = range.begin; end = point } in
    let after : Range = record { begin = point; end = range.end } in
    let forward : pairs_in map range false ≡ pairs_in map before false ++ pairs_in map after false =
    parted (λ a b. point_lt a.0 b.0) (λ pair. point_lt pair.0 point)
    (λ a b later fails. le_chain point a.0 b.0 fails (lt_one_way a.0 b.0 later))
    (pairs_in map range false) (ordered-within map range)
    ∙ sym (ap₂ (λ xs ys. xs ++ ys)
    (pairs_in-part map range before (λ x. point_lt x point) (λ x. in_before range point x until) false)
    (pairs_in-part map range after (λ x. not (point_lt x point)) (λ x. in_after range point x from) false)) in
    (forward, ap reverse forward ∙ reverse-append (pairs_in map before false) (pairs_in map after false))

-- ---- the pairs are determined by the values
pub find-within : (map : Map) (range : Range) (x : Point)
    → find (slice_cmp nat_cmp) x (pairs_within range (entries map)) ≡ cond (in_range range x) (get map x) None
find-within map range x =
    find-where_key (slice_cmp nat_cmp) (in_range range) x tied (entries map)
    ∙ ap (λ (value : Option (List ℕ)). cond (in_range range x) value None) (sym (get-entries map x))
  where
    tied : (y : Point) → slice_cmp nat_cmp x y ≡ Equal → in_range range y ≡ in_range range x
    tied y same = ap (in_range range) (sym (slice_cmp-IsAntisymmetric nat_cmp-IsAntisymmetric x y same))

within-is : (map : Map) (range : Range) (pairs : List (Point × List ℕ)) → T (is_sorted (slice_cmp nat_cmp) pairs)
    → ((x : Point) → find (slice_cmp nat_cmp) x pairs ≡ cond (in_range range x) (get map x) None)
    → pairs_within range (entries map) ≡ pairs
within-is map range pairs sorted found =
    same_entries (slice_cmp nat_cmp) nat_list_cmp_total (slice_cmp-IsAntisymmetric nat_cmp-IsAntisymmetric)
    (pairs_within range (entries map)) pairs
    (is_sorted-where_key (slice_cmp nat_cmp) (in_range range) (entries map) (entries_sorted map)) sorted
    (λ x. find-within map range x ∙ sym (found x))

-- what stands in one branch alone
in_branch : (b : Bool) (x y z : Option (List ℕ)) → (b ≡ true → x ≡ y) → cond b x z ≡ cond b y z
in_branch true x y z same = same refl
in_branch false x y z same = refl

-- the same pairs in the order of keys are the same from the end
either_way : (pairs others : List (Point × List ℕ)) (is_reverse : Bool) → pairs ≡ others
    → (if is_reverse then reverse pairs else pairs) ≡ (if is_reverse then reverse others else others)
either_way pairs others is_reverse same = ap (λ given. if is_reverse then reverse given else given) same

pub same_values : SameValuesSamePairs
same_values map other range is_reverse agree =
    either_way (pairs_within range (entries map)) (pairs_within range (entries other)) is_reverse
    (within-is map range (pairs_within range (entries other))
    (is_sorted-where_key (slice_cmp nat_cmp) (in_range range) (entries other) (entries_sorted other))
    (λ x. find-within other range x
    ∙ sym (in_branch (in_range range x) (get map x) (get other x) None (agree x))))

same_branches : (b : Bool) (x : Option (List ℕ)) → x ≡ cond b x x
same_branches true x = refl
same_branches false x = refl

within-none : (map : Map) (range : Range) → ((x : Point) → in_range range x ≡ true → get map x ≡ None)
    → pairs_within range (entries map) ≡ []
within-none map range none = within-is map range [] tt
    (λ x. same_branches (in_range range x) None
    ∙ sym (in_branch (in_range range x) (get map x) None None (none x)))

pub no_values : NoValuesNoPairs
no_values map range false none = within-none map range none
no_values map range true none = ap reverse (within-none map range none)

-- ---- the pair of one key
find-pair_of : (key : Point) (value : Option (List ℕ)) (x : Point)
    → find (slice_cmp nat_cmp) x (pair_of key value) ≡ cond (point_eq x key) value None
find-pair_of key None x = same_branches (point_eq x key) None
find-pair_of key (Some value) x = ap (λ same. cond same (Some value) None) (is_eq-slice_cmp x key)

sorted-pair_of : (key : Point) (value : Option (List ℕ)) → T (is_sorted (slice_cmp nat_cmp) (pair_of key value))
sorted-pair_of key None = tt
sorted-pair_of key (Some value) = tt

reverse-pair_of : (key : Point) (value : Option (List ℕ)) → reverse (pair_of key value) ≡ pair_of key value
reverse-pair_of key None = refl
reverse-pair_of key (Some value) = refl

within-single : (map : Map) (key : Point)
    → pairs_within (single_range key) (entries map) ≡ pair_of key (get map key)
within-single map key =
    within-is map (single_range key) (pair_of key (get map key)) (sorted-pair_of key (get map key))
    (λ x. find-pair_of key (get map key) x
    ∙ in_branch (point_eq x key) (get map key) (get map x) None
    (λ here. ap (get map) (sym ((bytes_decides x key).0 here)))
    ∙ ap (λ here. cond here (get map x) None) (sym (in_range-single key x)))

pub key_has_its_pair : KeyHasItsPair
key_has_its_pair map key false = within-single map key
key_has_its_pair map key true = ap reverse (within-single map key) ∙ reverse-pair_of key (get map key)

-- ---- from a key of the range on
-- what lies from the key on has the pair of the key and those behind it
pairs_from : (map : Map) (range : Range) (key : Point) → point_lt key range.end ≡ true
    → let from : Range = record { begin = key; end = range.end } in
    let behind : Range = record { begin = (single_range key).end; end = range.end } in
    (pairs_in map from false ≡ pair_of key (get map key) ++ pairs_in map behind false)
    × (pairs_in map from true ≡ pairs_in map behind true ++ pair_of key (get map key))
pairs_from map range key until =
    let next = (single_range key).end in
    let behind : Range = record { begin = next; end = range.end } in
    let cut = pairs_of_parts map (record { begin = key; end = range.end }) next
    (lt_one_way key next (next_after key)) (below_next key range.end ∙ not_from_true _ until) in (
      cut.0 ∙ ap (λ pairs. pairs ++ pairs_in map behind false) (key_has_its_pair map key false),
      cut.1 ∙ ap (λ pairs. pairs_in map behind true ++ pairs) (key_has_its_pair map key true),
    )

pub pairs_from_a_key_on : PairsFromAKeyOn
pairs_from_a_key_on map range is_reverse key inside =
    let parts = in_range_parts range key inside in
    let cut = pairs_of_parts map range key parts.0 (lt_one_way key range.end parts.1) in
    let from = pairs_from map range key parts.1 in
    let pair = pair_of key (get map key) in
    let before : Range = record { begin = range.begin; end = key } in
    elim is_reverse as (λ way. pairs_in map (range_behind range (not way) key) way ≡ []
    → pairs_in map range way ≡ pair ++ pairs_in map (range_behind range way key) way) [
      | false ↦ λ none. cut.0 ∙ ap (λ pairs. pairs ++ pairs_in map
          (record { begin = key; end = range.end }) false) none ∙ from.0
      | true ↦ λ none. cut.1
          ∙ ap (λ pairs. pairs ++ pairs_in map before true) (from.1 ∙ ap (λ pairs. pairs ++ pair) none)
    ]
