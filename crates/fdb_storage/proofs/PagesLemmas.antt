-- What is found of the keys for a page, and cut at its limit.
use Rattle.std.proofs.Common.{◌≡◌, ◌∙◌, sym, ap, ap₂, refl, subst, subst₂, add-one, min, ℕ, zero, suc, ◌+◌, ◌-◌, ◌^◌}
use Rattle.std.proofs.Common.{◌≤◌, ◌<◌, Bool, true, false, cond, not}
use Rattle.std.proofs.Common.{List, [], ◌∷◌, filter, take, reverse, length, Option, Some, is_some}
use Rattle.std.proofs.Common.{if◌then◌else◌, nat_eq, nat_lt, arith, ⊎_elim}
use Rattle.std.specs.Prelude.{◌&&◌}
use Rattle.std.specs.BTreeMap.{is_at}
use Rattle.std.specs.BTreeMap.Range.{entries_between}
use Rattle.std.specs.Cmp.Lexicographic.{slice_cmp, bytes_decides}
use Rattle.std.specs.List.{AllByRecursion}
use Rattle.std.specs.Ordering.{nat_cmp}
use Rattle.std.specs.declared.ops.Bound.TheVariants.{Included, Excluded}
use Rattle.std.proofs.lemmas.Bool.{cases_Bool, cond-true, cond-false, cond_both, ltb-true, ltb-false, lt-ltb, le-ltb}
use Rattle.std.proofs.lemmas.List.{take_all, length-reverse, length-take}
use Rattle.std.proofs.lemmas.Map.Text.{is_eq-slice_cmp}
use Rattle.fdb_keys.specs.Points.{Point}
use Rattle.fdb_keys.specs.Ranges.{Range, in_range}
use Rattle.fdb_keys.specs.Texts.{is_key}
use Rattle.fdb_mutations.specs.Pairs.{first_of}
use Rattle.fdb_mutations.proofs.Exports.{all-reverse, between-within}
use Rattle.fdb_storage.specs.declared.version_list.VersionedValue.{VersionedValue}
use Rattle.fdb_storage.specs.VersionMaps.{VersionedKeys, found, HaveLegalKeys}
use Rattle.fdb_storage.specs.KeyPages.{pairs_at, pairs_of, is_live, keys_between, first_more}
use Rattle.fdb_storage.proofs.PairsLemmas.{AreLive, all-live, length-live, pairs-live, pairs-reverse, pairs-within}
use Rattle.fdb_storage.proofs.PairsLemmas.{take-live}

-- ---- what is found of them
length-filtered : (test : Point × List VersionedValue → Bool) (keys : VersionedKeys)
    → length (filter test keys) ≤ length keys
length-filtered test [] = omega arith
length-filtered test (held ∷ keys) =
    let rest = length-filtered test keys in
    cond_both (test held) (held ∷ filter test keys) (filter test keys) (λ some. length some ≤ suc (length keys))
    (λ passes. omega (arith, rest)) (λ fails. omega (arith, rest))

take-first_more : (keys : VersionedKeys) (limit count : ℕ) → length keys < 2 ^ 63
    → count ≡ (if nat_eq limit 0 then 2 ^ 64 - 1 else limit + 1) → take count keys ≡ first_more limit keys
take-first_more keys limit count few is = ⊎_elim
    (λ all. take_all count keys (omega (arith, is, few, cond-true (nat_eq limit 0) (2 ^ 64 - 1) (limit + 1) all))
    ∙ sym (cond-true (nat_eq limit 0) keys (take (limit + 1) keys) all))
    (λ some. ap (λ (n : ℕ). take n keys) (is ∙ cond-false (nat_eq limit 0) (2 ^ 64 - 1) (limit + 1) some)
    ∙ sym (cond-false (nat_eq limit 0) keys (take (limit + 1) keys) some))
    (cases_Bool (nat_eq limit 0))

between-bounds : (range : Range) (begin end : Point) (keys between : VersionedKeys)
    → begin ≡ range.begin → end ≡ range.end
    → between ≡ entries_between (slice_cmp nat_cmp) (Included begin) (Excluded end) keys
    → between ≡ keys_between range keys
between-bounds range begin end keys between begins ends is =
    is ∙ ap₂ (λ (b e : Point). entries_between (slice_cmp nat_cmp) (Included b) (Excluded e) keys) begins ends

pub found-forward : (v : ℕ) (range : Range) (limit count : ℕ) (begin end : Point) (keys between : VersionedKeys)
    → begin ≡ range.begin → end ≡ range.end
    → between ≡ entries_between (slice_cmp nat_cmp) (Included begin) (Excluded end) keys → length between < 2 ^ 63
    → count ≡ (if nat_eq limit 0 then 2 ^ 64 - 1 else limit + 1)
    → take count (filter (is_live v) between) ≡ first_more limit (filter (is_live v) (keys_between range keys))
found-forward v range limit count begin end keys between begins ends is few counts =
    take-first_more (filter (is_live v) between) limit count
    (omega (arith, length-filtered (is_live v) between, few)) counts
    ∙ ap (λ (some : VersionedKeys). first_more limit (filter (is_live v) some))
    (between-bounds range begin end keys between begins ends is)

pub found-backward : (v : ℕ) (range : Range) (limit count : ℕ) (begin end : Point) (keys between : VersionedKeys)
    → begin ≡ range.begin → end ≡ range.end
    → between ≡ entries_between (slice_cmp nat_cmp) (Included begin) (Excluded end) keys → length between < 2 ^ 63
    → count ≡ (if nat_eq limit 0 then 2 ^ 64 - 1 else limit + 1)
    → take count (filter (is_live v) (reverse between))
    ≡ first_more limit (filter (is_live v) (reverse (keys_between range keys)))
found-backward v range limit count begin end keys between begins ends is few counts =
    take-first_more (filter (is_live v) (reverse between)) limit count
    (omega (arith, length-filtered (is_live v) (reverse between), length-reverse between, few)) counts
    ∙ ap (λ (some : VersionedKeys). first_more limit (filter (is_live v) (reverse some)))
    (between-bounds range begin end keys between begins ends is)

-- ---- pages
take-twice : (n : ℕ) (keys : VersionedKeys) → take n (take (n + 1) keys) ≡ take n keys
take-twice n keys = rw (add-one) (by_count n keys)
  where
    by_count : (m : ℕ) (all : VersionedKeys) → take m (take (suc m) all) ≡ take m all
    by_count zero all = refl
    by_count (suc m) [] = refl
    by_count (suc m) (held ∷ all) = ap (λ (rest : VersionedKeys). held ∷ rest) (by_count m all)

-- the pairs, and whether there are more
abbrev IsCut : ℕ → List (Point × List ℕ) → List (Point × List ℕ) → Bool → Type 0
IsCut limit all pairs more = (pairs ≡ first_of limit all) × (more ≡ nat_lt (length pairs) (length all))

cut-whole : (v limit : ℕ) (keys : VersionedKeys) → first_of limit (pairs_at v keys) ≡ pairs_at v keys
    → IsCut limit (pairs_at v keys) (pairs_at v keys) false
cut-whole v limit keys all = (sym all, sym (le-ltb (length (pairs_at v keys)) (length (pairs_at v keys)) (omega arith)))

abbrev pub cut_by : ℕ → VersionedKeys → Bool → VersionedKeys
cut_by limit keys more = if more then take limit keys else keys

abbrev pub has_more : ℕ → VersionedKeys → Bool
has_more limit keys = not (nat_eq limit 0) && nat_lt limit (length keys)

-- keys at all of which something stands, of which one more than the limit were found
page-cut : (v limit : ℕ) (keys : VersionedKeys) → AreLive v keys
    → IsCut limit (pairs_at v keys)
    (pairs_at v (cut_by limit (first_more limit keys) (has_more limit (first_more limit keys))))
    (has_more limit (first_more limit keys))
page-cut v limit keys live = ⊎_elim
    (λ (none : nat_eq limit 0 ≡ true).
    let found : first_more limit keys ≡ keys = cond-true (nat_eq limit 0) keys (take (limit + 1) keys) none in
    let more : has_more limit (first_more limit keys) ≡ false =
    ap (λ (b : Bool). not b && nat_lt limit (length (first_more limit keys))) none in
    whole found more (cond-true (nat_eq limit 0) (pairs_at v keys) (take limit (pairs_at v keys)) none))
    (λ (some : nat_eq limit 0 ≡ false).
    let found : first_more limit keys ≡ take (limit + 1) keys =
    cond-false (nat_eq limit 0) keys (take (limit + 1) keys) some in
    let asked : has_more limit (first_more limit keys) ≡ nat_lt limit (length (take (limit + 1) keys)) =
    ap₂ (λ (b : Bool) (some : VersionedKeys). not b && nat_lt limit (length some)) some found in
    let long : length (take (limit + 1) keys) ≡ min (limit + 1) (length keys) = length-take (limit + 1) keys in
    let first : first_of limit (pairs_at v keys) ≡ take limit (pairs_at v keys) =
    cond-false (nat_eq limit 0) (pairs_at v keys) (take limit (pairs_at v keys)) some in
    let count : length (pairs_at v keys) ≡ length keys = length-live v keys live in
    ⊎_elim
    (λ (reached : nat_lt limit (length keys) ≡ true).
    let less : limit < length keys = ltb-true limit (length keys) reached in
    let more : has_more limit (first_more limit keys) ≡ true =
    asked ∙ lt-ltb limit (length (take (limit + 1) keys)) (omega (arith, long, less)) in
    let kept : cut_by limit (first_more limit keys) (has_more limit (first_more limit keys)) ≡ take limit keys =
    cond-true _ (take limit (first_more limit keys)) (first_more limit keys) more
    ∙ ap (take limit) found ∙ take-twice limit keys in
    let pairs : pairs_at v (cut_by limit (first_more limit keys) (has_more limit (first_more limit keys)))
    ≡ take limit (pairs_at v keys) = ap (pairs_at v) kept ∙ take-live v limit keys live in
    let short : length (take limit (pairs_at v keys)) ≡ min limit (length (pairs_at v keys)) =
    length-take limit (pairs_at v keys) in (
      pairs ∙ sym first,
      more
          ∙ sym (ap (λ (some : List (Point × List ℕ)). nat_lt (length some) (length (pairs_at v keys))) pairs
          ∙ lt-ltb (length (take limit (pairs_at v keys))) (length (pairs_at v keys))
          (omega (arith, short, count, less))),
    ))
    (λ (past : nat_lt limit (length keys) ≡ false).
    let least : length keys ≤ limit = ltb-false limit (length keys) past in
    let all : take (limit + 1) keys ≡ keys = take_all (limit + 1) keys (omega (arith, least)) in
    let more : has_more limit (first_more limit keys) ≡ false =
    asked ∙ ap (λ (some : VersionedKeys). nat_lt limit (length some)) all ∙ past in
    whole (found ∙ all) more (first ∙ take_all limit (pairs_at v keys) (omega (arith, count, least))))
    (cases_Bool (nat_lt limit (length keys))))
    (cases_Bool (nat_eq limit 0))
  where
    whole : first_more limit keys ≡ keys → has_more limit (first_more limit keys) ≡ false
        → first_of limit (pairs_at v keys) ≡ pairs_at v keys
        → IsCut limit (pairs_at v keys)
        (pairs_at v (cut_by limit (first_more limit keys) (has_more limit (first_more limit keys))))
        (has_more limit (first_more limit keys))
    whole found more all =
        subst₂ (λ (some : VersionedKeys) (b : Bool). IsCut limit (pairs_at v keys) (pairs_at v some) b)
        (sym (cond-false _ (take limit (first_more limit keys)) (first_more limit keys) more ∙ found)) (sym more)
        (cut-whole v limit keys all)

-- the pairs of the keys that are looked for in the range
abbrev pub looked_for : ℕ → Range → Bool → VersionedKeys → VersionedKeys
looked_for v range is_reverse keys =
    filter (is_live v) (if is_reverse then reverse (keys_between range keys) else keys_between range keys)

pairs-looked_for : (v : ℕ) (range : Range) (is_reverse : Bool) (keys : VersionedKeys)
    → pairs_at v (looked_for v range is_reverse keys) ≡ pairs_of keys v range is_reverse
pairs-looked_for v range false keys =
    pairs-live v (keys_between range keys)
    ∙ ap (pairs_at v) (between-within range keys)
    ∙ pairs-within v range keys
pairs-looked_for v range true keys =
    pairs-live v (reverse (keys_between range keys))
    ∙ pairs-reverse v (keys_between range keys)
    ∙ ap (λ (some : VersionedKeys). reverse (pairs_at v some)) (between-within range keys)
    ∙ ap (λ (some : List (Point × List ℕ)). reverse some) (pairs-within v range keys)

-- what was found, cut, and copied is the page
pub page-is : (v limit : ℕ) (range : Range) (is_reverse : Bool) (keys found left : VersionedKeys) (more : Bool)
    (pairs : List (Point × List ℕ))
    → found ≡ first_more limit (looked_for v range is_reverse keys) → left ≡ cut_by limit found more
    → more ≡ has_more limit found → pairs ≡ pairs_at v left
    → IsCut limit (pairs_of keys v range is_reverse) pairs more
page-is v limit range is_reverse keys found left more pairs is cut asked copied =
    let looked = looked_for v range is_reverse keys in
    let same_more : more ≡ has_more limit (first_more limit looked) =
    asked ∙ ap (has_more limit) is in
    let same_left : left ≡ cut_by limit (first_more limit looked) (has_more limit (first_more limit looked)) =
    cut ∙ ap₂ (λ (some : VersionedKeys) (b : Bool). cut_by limit some b) is same_more in
    subst (λ (all : List (Point × List ℕ)). IsCut limit all pairs more) (pairs-looked_for v range is_reverse keys)
    (subst₂ (λ (some : List (Point × List ℕ)) (b : Bool). IsCut limit (pairs_at v looked) some b)
    (sym (copied ∙ ap (pairs_at v) same_left)) (sym same_more)
    (page-cut v limit looked
    (all-live v (if is_reverse then reverse (keys_between range keys) else keys_between range keys))))

-- ---- legal keys
abbrev pub AreLegal : VersionedKeys → Type 0
AreLegal keys = AllByRecursion (λ (held : Point × List VersionedValue). is_key held.0 ≡ true) keys

all-legal : (keys : VersionedKeys) → HaveLegalKeys keys → AreLegal keys
all-legal [] legal = tt
all-legal (held ∷ keys) legal = (
  legal held.0 (ap is_some (cond-true (is_at (slice_cmp nat_cmp held.0) held.0) (Some held.1) (found keys held.0)
      (is_eq-slice_cmp held.0 held.0 ∙ (bytes_decides held.0 held.0).1 refl))),
  all-legal keys (λ x some. legal x (still (is_at (slice_cmp nat_cmp x) held.0) (found keys x) some)),
)
  where
    still : (here : Bool) (o : Option (List VersionedValue)) → is_some o ≡ true
        → is_some (cond here (Some held.1) o) ≡ true
    still true o some = refl
    still false o some = some

legal-filter : (test : Point × List VersionedValue → Bool) (keys : VersionedKeys) → AreLegal keys
    → AreLegal (filter test keys)
legal-filter test [] legal = tt
legal-filter test (held ∷ keys) legal =
    let rest = legal-filter test keys legal.1 in
    cond_both (test held) (held ∷ filter test keys) (filter test keys) AreLegal (λ passes. (legal.0, rest))
    (λ fails. rest)

legal-take : (n : ℕ) (keys : VersionedKeys) → AreLegal keys → AreLegal (take n keys)
legal-take zero keys legal = tt
legal-take (suc n) [] legal = tt
legal-take (suc n) (held ∷ keys) legal = (legal.0, legal-take n keys legal.1)

pub legal-found : (v limit : ℕ) (range : Range) (is_reverse more : Bool) (keys found left : VersionedKeys)
    → HaveLegalKeys keys → found ≡ first_more limit (looked_for v range is_reverse keys)
    → left ≡ cut_by limit found more → AreLegal left
legal-found v limit range is_reverse more keys found left legal is cut =
    subst AreLegal (sym (cut ∙ ap (λ (some : VersionedKeys). cut_by limit some more) is))
    (by_more more)
  where
    looked : AreLegal (looked_for v range is_reverse keys)
    looked = legal-filter (is_live v) _ (by_order is_reverse)
      where
        between : AreLegal (keys_between range keys)
        between = subst AreLegal (sym (between-within range keys))
            (legal-filter (λ (held : Point × List VersionedValue). in_range range held.0) keys (all-legal keys legal))

        by_order : (b : Bool) → AreLegal (if b then reverse (keys_between range keys) else keys_between range keys)
        by_order true = all-reverse (λ (held : Point × List VersionedValue). is_key held.0 ≡ true)
            (keys_between range keys) between
        by_order false = between

    first : AreLegal (first_more limit (looked_for v range is_reverse keys))
    first = cond_both (nat_eq limit 0) (looked_for v range is_reverse keys)
        (take (limit + 1) (looked_for v range is_reverse keys)) AreLegal (λ all. looked)
        (λ some. legal-take (limit + 1) (looked_for v range is_reverse keys) looked)

    by_more : (b : Bool) → AreLegal (cut_by limit (first_more limit (looked_for v range is_reverse keys)) b)
    by_more true = legal-take limit _ first
    by_more false = first
