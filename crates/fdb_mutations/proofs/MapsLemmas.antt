-- Sorted pairs as a finite map.
use Rattle.std.proofs.Common.{◌≡◌, ◌∙◌, sym, ap, ap₂, refl, subst, ℕ, ◌-◌, ◌<◌, ◌^◌, Bool, true, false, not, ◌&&◌, cond}
use Rattle.std.proofs.Common.{List, [], ◌∷◌, ◌++◌, zero, suc, length, take, reverse, filter, Option, Some, None}
use Rattle.std.proofs.Common.{Ordering, Less, Equal, Greater, if◌then◌else◌, nat_eq, T, ⊎_elim, arith}
use Rattle.std.specs.Ordering.{nat_cmp, is_lt, is_le, is_gt, ordering_reverse, match_ordering}
use Rattle.std.specs.Cmp.{eq_by_cmp_equiv}
use Rattle.std.specs.Cmp.Lexicographic.{slice_cmp, pointwise, pointwise_decides, bytes_decides}
use Rattle.std.specs.Bool.{Decides}
use Rattle.std.proofs.lemmas.Bool.Decides.{Decides-and}
use Rattle.std.specs.List.{AllByRecursion}
use Rattle.std.specs.List.Sorted.{IsStrictlySortedBy}
use Rattle.std.specs.FinMap.{get, insert, remove, retain_keys, entries, empty, len-empty, len-entries, entries-insert}
use Rattle.std.specs.FinMap.{from_entries, find, is_sorted, same_map, entries_sorted, get-insert, get-remove}
use Rattle.std.specs.FinMap.{get-retain_keys, get-from_entries, get-entries, slice_cmp-IsAntisymmetric}
use Rattle.std.specs.FinMap.{nat_cmp-IsAntisymmetric}
use Rattle.std.specs.FinMap.Entries.{where_key, put, by_order, below_all, find-where_key, same_entries}
use Rattle.std.specs.BTreeMap.{is_at, insert_entry}
use Rattle.std.specs.BTreeMap.Range.{range_contains, entries_between}
use Rattle.std.specs.declared.ops.Bound.TheVariants.{Included, Excluded}
use Rattle.std.specs.Map.{lookup, keys_of, remove_entry}
use Rattle.std.proofs.lemmas.Bool.{cases_Bool, and_parts, and_from, cond-true, cond-false, cond_both}
use Rattle.std.proofs.lemmas.Cmp.{nat_list_cmp_total}
use Rattle.std.proofs.lemmas.List.{take_all, reverse-append, length-reverse}
use Rattle.fdb_keys.specs.Points.{Point, point_lt}
use Rattle.fdb_keys.specs.Ranges.{Range, in_range}
use Rattle.fdb_keys.specs.Texts.{is_key}
use Rattle.fdb_mutations.specs.Maps.{Map, has_legal_keys}
use Rattle.fdb_mutations.specs.Pairs.{pairs_within, pairs_in, first_of}

-- what the pairs have at a point
abbrev pub value_at : List (List ℕ × List ℕ) → Point → Option (List ℕ)
value_at pairs x = lookup (is_at (slice_cmp nat_cmp x)) pairs

find_value : (pairs : List (List ℕ × List ℕ)) (x : Point) → find (slice_cmp nat_cmp) x pairs ≡ value_at pairs x
find_value [] x = refl
find_value (pair ∷ pairs) x = ap (cond (is_at (slice_cmp nat_cmp x) pair.0) (Some pair.1)) (find_value pairs x)

-- what the map that the pairs make has at a point
pub get-pairs : (pairs : List (List ℕ × List ℕ)) (x : Point)
    → get (from_entries {R = slice_cmp nat_cmp} pairs) x ≡ value_at pairs x
get-pairs pairs x = get-from_entries nat_list_cmp_total pairs x ∙ find_value pairs x

-- maps with equal values at every point are one
pub same_points : (m n : Map) → ((x : Point) → get m x ≡ get n x) → m ≡ n
same_points = same_map nat_list_cmp_total (slice_cmp-IsAntisymmetric nat_cmp-IsAntisymmetric)

-- pairs that differ at one point make maps that differ there
pub one_set : (pairs after : List (List ℕ × List ℕ)) (key value : List ℕ)
    → ((x : Point) → value_at after x ≡ cond (is_at (slice_cmp nat_cmp key) x) (Some value) (value_at pairs x))
    → from_entries {R = slice_cmp nat_cmp} after ≡ insert (from_entries pairs) key value
one_set pairs after key value there = same_points _ _ (λ x.
    get-pairs after x ∙ there x
    ∙ ap (λ b. cond b (Some value) (value_at pairs x)) ((eq_by_cmp_equiv nat_list_cmp_total).symm key x)
    ∙ sym (get-insert nat_list_cmp_total (from_entries pairs) key value x
    ∙ ap (cond (is_at (slice_cmp nat_cmp x) key) (Some value)) (get-pairs pairs x)))

pub one_cleared : (pairs after : List (List ℕ × List ℕ)) (key : List ℕ)
    → ((x : Point) → value_at after x ≡ cond (is_at (slice_cmp nat_cmp key) x) None (value_at pairs x))
    → from_entries {R = slice_cmp nat_cmp} after ≡ remove (from_entries pairs) key
one_cleared pairs after key there = same_points _ _ (λ x.
    get-pairs after x ∙ there x
    ∙ ap (λ b. cond b None (value_at pairs x)) ((eq_by_cmp_equiv nat_list_cmp_total).symm key x)
    ∙ sym (get-remove nat_list_cmp_total (from_entries pairs) key x
    ∙ ap (cond (is_at (slice_cmp nat_cmp x) key) None) (get-pairs pairs x)))

-- pairs of which those with a key that passes a test are left
pub some_kept : (pairs : List (List ℕ × List ℕ)) (test : Point → Bool)
    → from_entries {R = slice_cmp nat_cmp} (where_key (slice_cmp nat_cmp) test pairs)
    ≡ retain_keys (from_entries pairs) test
some_kept pairs test = same_points _ _ (λ x.
    get-from_entries nat_list_cmp_total (where_key (slice_cmp nat_cmp) test pairs) x
    ∙ find-where_key (slice_cmp nat_cmp) test x (tied x) pairs
    ∙ ap (λ (value : Option (List ℕ)). cond (test x) value None) (sym (get-from_entries nat_list_cmp_total pairs x))
    ∙ sym (get-retain_keys (from_entries pairs) test x (tied x)))
  where
    tied : (x y : Point) → slice_cmp nat_cmp x y ≡ Equal → test y ≡ test x
    tied x y same = ap test (sym (slice_cmp-IsAntisymmetric nat_cmp-IsAntisymmetric x y same))

-- ---- sorted pairs are the entries of their map
below_all-sorted : (key : Point) (pairs : List (List ℕ × List ℕ))
    → AllByRecursion (λ y. slice_cmp nat_cmp key y ≡ Less) (keys_of pairs)
    → below_all (slice_cmp nat_cmp) key pairs ≡ true
below_all-sorted key [] below = refl
below_all-sorted key (pair ∷ pairs) below =
    and_from (is_lt (slice_cmp nat_cmp key pair.0)) (below_all (slice_cmp nat_cmp) key pairs) (ap is_lt below.0)
    (below_all-sorted key pairs below.1)

is_sorted-sorted : (pairs : List (List ℕ × List ℕ)) → IsStrictlySortedBy (slice_cmp nat_cmp) (keys_of pairs)
    → is_sorted (slice_cmp nat_cmp) pairs ≡ true
unfolding IsStrictlySortedBy
is_sorted-sorted [] sorted = refl
is_sorted-sorted (pair ∷ pairs) sorted =
    and_from (below_all (slice_cmp nat_cmp) pair.0 pairs) (is_sorted (slice_cmp nat_cmp) pairs)
    (below_all-sorted pair.0 pairs sorted.0) (is_sorted-sorted pairs sorted.1)

pub entries-sorted : (pairs : List (List ℕ × List ℕ)) → IsStrictlySortedBy (slice_cmp nat_cmp) (keys_of pairs)
    → entries (from_entries {R = slice_cmp nat_cmp} pairs) ≡ pairs
entries-sorted pairs sorted =
    same_entries (slice_cmp nat_cmp) nat_list_cmp_total (slice_cmp-IsAntisymmetric nat_cmp-IsAntisymmetric)
    (entries (from_entries pairs)) pairs (entries_sorted (from_entries pairs))
    (T-from (is_sorted-sorted pairs sorted))
    (λ x. sym (get-entries (from_entries pairs) x) ∙ get-from_entries nat_list_cmp_total pairs x)
  where
    T-from : {b : Bool} → b ≡ true → T b
    T-from same = subst T (sym same) tt

-- ---- pairs between two bounds
turned-order : (x y : Point) → slice_cmp nat_cmp y x ≡ ordering_reverse (slice_cmp nat_cmp x y)
turned-order x y = nat_list_cmp_total.antisymm y x

pub forward-bounds : (begin end : Point) → point_lt end begin ≡ false → is_gt (slice_cmp nat_cmp begin end) ≡ false
unfolding point_lt
forward-bounds begin end ordered = ap is_gt (turned-order end begin) ∙ either (slice_cmp nat_cmp end begin) ordered
  where
    either : (o : Ordering) → is_lt o ≡ false → is_gt (ordering_reverse o) ≡ false
    either Less before = before
    either Equal before = refl
    either Greater before = refl

within-bounds : (range : Range) (x : Point)
    → range_contains (slice_cmp nat_cmp) (Included range.begin) (Excluded range.end) x ≡ in_range range x
unfolding point_lt
within-bounds range x = ap₂ (λ (from past : Bool). from && not past)
    (ap is_le (turned-order x range.begin) ∙ at_or_after (slice_cmp nat_cmp x range.begin))
    (ap is_le (turned-order x range.end) ∙ at_or_after (slice_cmp nat_cmp x range.end))
    ∙ ap (λ (b : Bool). not (is_lt (slice_cmp nat_cmp x range.begin)) && b)
    (twice (is_lt (slice_cmp nat_cmp x range.end)))
  where
    at_or_after : (o : Ordering) → is_le (ordering_reverse o) ≡ not (is_lt o)
    at_or_after Less = refl
    at_or_after Equal = refl
    at_or_after Greater = refl

    twice : (b : Bool) → not (not b) ≡ b
    twice true = refl
    twice false = refl

pub between-within : {V : Type 0} (range : Range) (pairs : List (Point × V))
    → entries_between (slice_cmp nat_cmp) (Included range.begin) (Excluded range.end) pairs
    ≡ filter (λ (pair : Point × V). in_range range pair.0) pairs
between-within range [] = refl
between-within {V} range (pair ∷ pairs) = ap₂
    (λ (inside : Bool) (rest : List (Point × V)). cond inside (pair ∷ rest) rest)
    (within-bounds range pair.0) (between-within range pairs)

-- a count that is the limit, or more than there are items where the limit is 0
pub take-first_of : {T : Type 0} (items : List T) (limit count : ℕ) → length items < 2 ^ 63
    → count ≡ (if nat_eq limit 0 then 2 ^ 64 - 1 else limit) → take count items ≡ first_of limit items
take-first_of items limit count few is = ⊎_elim
    (λ all. take_all count items (omega (arith, is, cond-true (nat_eq limit 0) (2 ^ 64 - 1) limit all))
    ∙ sym (cond-true (nat_eq limit 0) items (take limit items) all))
    (λ some. ap (λ (n : ℕ). take n items) (is ∙ cond-false (nat_eq limit 0) (2 ^ 64 - 1) limit some)
    ∙ sym (cond-false (nat_eq limit 0) items (take limit items) some))
    (cases_Bool (nat_eq limit 0))

-- ---- pairs with legal keys
pub legal-insert : (pairs : List (List ℕ × List ℕ)) (key value : List ℕ) → is_key key ≡ true
    → has_legal_keys pairs ≡ true
    → has_legal_keys (insert_entry (slice_cmp nat_cmp) pairs key value) ≡ true
legal-insert [] key value legal others = and_from (is_key key) true legal refl
legal-insert (pair ∷ pairs) key value legal others =
    let parts : (is_key pair.0 ≡ true) × (has_legal_keys pairs ≡ true) = and_parts _ _ others in
    elim (slice_cmp nat_cmp key pair.0) as (λ o. has_legal_keys (match_ordering o ((key, value) ∷ pair ∷ pairs)
    ((pair.0, value) ∷ pairs) (pair ∷ insert_entry (slice_cmp nat_cmp) pairs key value)) ≡ true) [
      | Less ↦ and_from (is_key key) (has_legal_keys (pair ∷ pairs)) legal others
      | Equal ↦ others
      | Greater ↦ and_from (is_key pair.0) (has_legal_keys (insert_entry (slice_cmp nat_cmp) pairs key value)) parts.0
          (legal-insert pairs key value legal parts.1)
    ]

pub legal-remove : (pairs : List (List ℕ × List ℕ)) (test : Point → Bool) → has_legal_keys pairs ≡ true
    → has_legal_keys (remove_entry test pairs) ≡ true
legal-remove [] test legal = refl
legal-remove (pair ∷ pairs) test legal =
    let parts : (is_key pair.0 ≡ true) × (has_legal_keys pairs ≡ true) = and_parts _ _ legal in
    cond_both (test pair.0) pairs (pair ∷ remove_entry test pairs)
    (λ left. has_legal_keys left ≡ true) (λ here. parts.1)
    (λ elsewhere. and_from (is_key pair.0) (has_legal_keys (remove_entry test pairs)) parts.0
    (legal-remove pairs test parts.1))

pub legal-filter : (pairs : List (List ℕ × List ℕ)) (test : List ℕ × List ℕ → Bool) → has_legal_keys pairs ≡ true
    → has_legal_keys (filter test pairs) ≡ true
legal-filter [] test legal = refl
legal-filter (pair ∷ pairs) test legal =
    let parts : (is_key pair.0 ≡ true) × (has_legal_keys pairs ≡ true) = and_parts _ _ legal in
    let rest = legal-filter pairs test parts.1 in
    cond_both (test pair) (pair ∷ filter test pairs) (filter test pairs) (λ left. has_legal_keys left ≡ true)
    (λ stays. and_from (is_key pair.0) (has_legal_keys (filter test pairs)) parts.0 rest) (λ goes. rest)

-- ---- what is read of a range
found-entries : (pairs : List (List ℕ × List ℕ)) (range : Range) (begin end : Point) (found : List (List ℕ × List ℕ))
    → begin ≡ range.begin → end ≡ range.end
    → found ≡ entries_between (slice_cmp nat_cmp) (Included begin) (Excluded end) pairs
    → IsStrictlySortedBy (slice_cmp nat_cmp) (keys_of pairs)
    → found ≡ pairs_within range (entries (from_entries {R = slice_cmp nat_cmp} pairs))
found-entries pairs range begin end found begins ends between sorted =
    between
    ∙ ap₂ (λ (b e : Point). entries_between (slice_cmp nat_cmp) (Included b) (Excluded e) pairs) begins ends
    ∙ between-within range pairs
    ∙ ap (pairs_within range) (sym (entries-sorted pairs sorted))

pub found-forward : (pairs : List (List ℕ × List ℕ)) (range : Range) (begin end : Point) (limit count : ℕ)
    (found : List (List ℕ × List ℕ)) → begin ≡ range.begin → end ≡ range.end
    → found ≡ entries_between (slice_cmp nat_cmp) (Included begin) (Excluded end) pairs
    → IsStrictlySortedBy (slice_cmp nat_cmp) (keys_of pairs) → length found < 2 ^ 63
    → count ≡ (if nat_eq limit 0 then 2 ^ 64 - 1 else limit)
    → take count found ≡ first_of limit (pairs_in (from_entries pairs) range false)
found-forward pairs range begin end limit count found begins ends between sorted few counts =
    take-first_of found limit count few counts
    ∙ ap (first_of limit) (found-entries pairs range begin end found begins ends between sorted)

pub found-backward : (pairs : List (List ℕ × List ℕ)) (range : Range) (begin end : Point) (limit count : ℕ)
    (found : List (List ℕ × List ℕ)) → begin ≡ range.begin → end ≡ range.end
    → found ≡ entries_between (slice_cmp nat_cmp) (Included begin) (Excluded end) pairs
    → IsStrictlySortedBy (slice_cmp nat_cmp) (keys_of pairs) → length found < 2 ^ 63
    → count ≡ (if nat_eq limit 0 then 2 ^ 64 - 1 else limit)
    → take count (reverse found) ≡ first_of limit (pairs_in (from_entries pairs) range true)
found-backward pairs range begin end limit count found begins ends between sorted few counts =
    take-first_of (reverse found) limit count (omega (arith, length-reverse found, few)) counts
    ∙ ap (λ (items : List (List ℕ × List ℕ)). first_of limit (reverse items))
    (found-entries pairs range begin end found begins ends between sorted)

-- the pairs that are read have legal keys
legal-append : (pairs others : List (List ℕ × List ℕ)) → has_legal_keys pairs ≡ true → has_legal_keys others ≡ true
    → has_legal_keys (pairs ++ others) ≡ true
legal-append [] others legal more = more
legal-append (pair ∷ pairs) others legal more =
    let parts : (is_key pair.0 ≡ true) × (has_legal_keys pairs ≡ true) = and_parts _ _ legal in
    and_from (is_key pair.0) (has_legal_keys (pairs ++ others)) parts.0 (legal-append pairs others parts.1 more)

legal-reverse : (pairs : List (List ℕ × List ℕ)) → has_legal_keys pairs ≡ true → has_legal_keys (reverse pairs) ≡ true
legal-reverse [] legal = refl
legal-reverse (pair ∷ pairs) legal =
    let parts : (is_key pair.0 ≡ true) × (has_legal_keys pairs ≡ true) = and_parts _ _ legal in
    ap has_legal_keys (reverse-append (pair ∷ []) pairs)
    ∙ legal-append (reverse pairs) (pair ∷ []) (legal-reverse pairs parts.1)
    (and_from (is_key pair.0) true parts.0 refl)

legal-take : (count : ℕ) (pairs : List (List ℕ × List ℕ)) → has_legal_keys pairs ≡ true
    → has_legal_keys (take count pairs) ≡ true
legal-take zero pairs legal = refl
legal-take (suc count) [] legal = refl
legal-take (suc count) (pair ∷ pairs) legal =
    let parts : (is_key pair.0 ≡ true) × (has_legal_keys pairs ≡ true) = and_parts _ _ legal in
    and_from (is_key pair.0) (has_legal_keys (take count pairs)) parts.0 (legal-take count pairs parts.1)

legal-first_of : (limit : ℕ) (pairs : List (List ℕ × List ℕ)) → has_legal_keys pairs ≡ true
    → has_legal_keys (first_of limit pairs) ≡ true
legal-first_of limit pairs legal = cond_both (nat_eq limit 0) pairs (take limit pairs)
    (λ left. has_legal_keys left ≡ true)
    (λ all. legal) (λ some. legal-take limit pairs legal)

legal-put : (key value : List ℕ) (pairs : List (List ℕ × List ℕ)) → is_key key ≡ true → has_legal_keys pairs ≡ true
    → has_legal_keys (put (slice_cmp nat_cmp) key value pairs) ≡ true
legal-put key value [] legal others = and_from (is_key key) true legal refl
legal-put key value (pair ∷ pairs) legal others =
    let parts : (is_key pair.0 ≡ true) × (has_legal_keys pairs ≡ true) = and_parts _ _ others in
    elim (slice_cmp nat_cmp key pair.0) as (λ o. has_legal_keys (by_order o ((key, value) ∷ pair ∷ pairs)
    ((pair.0, value) ∷ pairs) (pair ∷ put (slice_cmp nat_cmp) key value pairs)) ≡ true) [
      | Less ↦ and_from (is_key key) (has_legal_keys (pair ∷ pairs)) legal others
      | Equal ↦ others
      | Greater ↦ and_from (is_key pair.0) (has_legal_keys (put (slice_cmp nat_cmp) key value pairs)) parts.0
          (legal-put key value pairs legal parts.1)
    ]

legal-entries : (pairs : List (List ℕ × List ℕ)) → has_legal_keys pairs ≡ true
    → has_legal_keys (entries (from_entries {R = slice_cmp nat_cmp} pairs)) ≡ true
legal-entries [] legal = none (entries (empty {R = slice_cmp nat_cmp}))
    (sym (len-entries (empty {X = List ℕ} {R = slice_cmp nat_cmp})) ∙ len-empty (slice_cmp nat_cmp) (List ℕ))
  where
    none : (pairs : List (List ℕ × List ℕ)) → length pairs ≡ 0 → has_legal_keys pairs ≡ true
    none [] short = refl
    none (pair ∷ pairs) short = absurd (omega arith)
legal-entries (pair ∷ pairs) legal =
    let parts : (is_key pair.0 ≡ true) × (has_legal_keys pairs ≡ true) = and_parts _ _ legal in
    ap has_legal_keys (entries-insert nat_list_cmp_total (from_entries pairs) pair.0 pair.1)
    ∙ legal-put pair.0 pair.1 (entries (from_entries pairs)) parts.0 (legal-entries pairs parts.1)

pub legal-pairs_in : (pairs : List (List ℕ × List ℕ)) (range : Range) (is_reverse : Bool) (limit : ℕ)
    → has_legal_keys pairs ≡ true
    → has_legal_keys (first_of limit (pairs_in (from_entries {R = slice_cmp nat_cmp} pairs) range is_reverse)) ≡ true
legal-pairs_in pairs range false limit legal = legal-first_of limit _
    (legal-filter (entries (from_entries pairs)) (λ pair. in_range range pair.0) (legal-entries pairs legal))
legal-pairs_in pairs range true limit legal = legal-first_of limit _
    (legal-reverse (pairs_within range (entries (from_entries pairs)))
    (legal-filter (entries (from_entries pairs)) (λ pair. in_range range pair.0) (legal-entries pairs legal)))

-- ---- when two maps are one
abbrev pub pair_eq : List ℕ × List ℕ → List ℕ × List ℕ → Bool
pair_eq a b = pointwise nat_eq a.0 b.0 && pointwise nat_eq a.1 b.1

pair_eq-decides : (a b : List ℕ × List ℕ) → Decides (pair_eq a b) (a ≡ b)
pair_eq-decides a b =
    let parts = Decides-and (pointwise nat_eq a.0 b.0) (pointwise nat_eq a.1 b.1) (bytes_decides a.0 b.0)
    (bytes_decides a.1 b.1) in (
      λ equal. let same = parts.0 equal in λ i. (same.0 i, same.1 i),
      λ same. parts.1 (ap (λ (pair : List ℕ × List ℕ). pair.0) same, ap (λ (pair : List ℕ × List ℕ). pair.1) same),
    )

-- a comparison of two lists of pairs, item by item, tells whether they are one
pub pairs-decide : (a b : List (List ℕ × List ℕ)) → Decides (pointwise pair_eq a b) (a ≡ b)
pairs-decide = pointwise_decides pair_eq-decides

-- sorted pairs are those of their map
pub same-pairs : (a b : List (List ℕ × List ℕ)) → IsStrictlySortedBy (slice_cmp nat_cmp) (keys_of a)
    → IsStrictlySortedBy (slice_cmp nat_cmp) (keys_of b) → from_entries {R = slice_cmp nat_cmp} a ≡ from_entries b
    → a ≡ b
same-pairs a b sorted_a sorted_b same = sym (entries-sorted a sorted_a) ∙ ap entries same ∙ entries-sorted b sorted_b

-- so they are equal exactly where their maps are
pub equal-maps : (a b : List (List ℕ × List ℕ)) → IsStrictlySortedBy (slice_cmp nat_cmp) (keys_of a)
    → IsStrictlySortedBy (slice_cmp nat_cmp) (keys_of b)
    → Decides (pointwise pair_eq a b) (from_entries {R = slice_cmp nat_cmp} a ≡ from_entries b)
equal-maps a b sorted_a sorted_b = (
  λ equal. ap (from_entries {R = slice_cmp nat_cmp}) ((pairs-decide a b).0 equal),
  λ same. (pairs-decide a b).1 (same-pairs a b sorted_a sorted_b same),
)
