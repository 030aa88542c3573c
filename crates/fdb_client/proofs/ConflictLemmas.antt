-- The view of a set that was added to key by key and range by range.
use Rattle.std.proofs.Common.{◌≡◌, ◌∙◌, sym, ap, ap₂, refl, Bool, true, false, not, ◌||◌, List, [], ◌∷◌, ◌++◌, map}
use Rattle.std.proofs.Common.{length, take, if◌then◌else◌, ⊎_elim, arith}
use Rattle.std.specs.Prelude.{◌==◌}
use Rattle.std.specs.Cmp.Lexicographic.{bytes_decides}
use Rattle.std.specs.List.{list_any}
use Rattle.std.proofs.lemmas.Bool.{both_ways, cases_Bool, cond-true, cond-false, not-false, or_left}
use Rattle.std.proofs.Math.Dec.{eqb-suc-zero}
use Rattle.std.proofs.lemmas.List.{append-nil, append_assoc, map-append, take-append-le}
use Rattle.std.proofs.Math.Seq.{take-length}
use Rattle.std.proofs.lemmas.List.Sums.{fold-append}
use Rattle.fdb_keys.specs.Insertion.{with_range, with_ranges, inserted}
use Rattle.fdb_keys.specs.Points.{Point, point_eq}
use Rattle.fdb_keys.specs.Ranges.{Range, single_range, in_set, is_apart, is_empty_range}
use Rattle.fdb_keys.proofs.Exports.{all-append, apart_parts, same_list, apart-with_ranges, in_with_ranges}
use Rattle.fdb_keys.proofs.Exports.{in_range_from, in_range-single, lt-itself}
use Rattle.fdb_client.specs.Conflicts.{with_keys, joined, with_listed, HavePoints}

-- the ranges of the keys hold just these
in_singles : (keys : List Point) (x : Point) → in_set (map single_range keys) x ≡ list_any (point_eq x) keys
in_singles [] x = refl
in_singles (key ∷ keys) x = ap₂ (λ (here there : Bool). here || there) (in_range-single key x) (in_singles keys x)

pub in_with_keys : (keys : List Point) (ranges : List Range) (x : Point)
    → in_set (with_keys keys ranges) x ≡ (list_any (point_eq x) keys || in_set ranges x)
in_with_keys keys ranges x =
    in_with_ranges (map single_range keys) ranges x
    ∙ ap (λ (here : Bool). here || in_set ranges x) (in_singles keys x)

pub apart-keys : (keys : List Point) (ranges : List Range) → is_apart ranges ≡ true
    → is_apart (with_keys keys ranges) ≡ true
apart-keys keys ranges apart = apart-with_ranges (map single_range keys) ranges apart

-- one key more
pub keys-push : (keys : List Point) (ranges : List Range) (key : Point)
    → with_keys (keys ++ key ∷ []) ranges ≡ with_range (single_range key) (with_keys keys ranges)
keys-push keys ranges key =
    ap (λ (added : List Range). with_ranges added ranges) (map-append single_range keys (key ∷ []))
    ∙ fold-append (λ (set : List Range) (range : Range). with_range range set) ranges (map single_range keys)
    (single_range key ∷ [])

either : (a b c : Bool) → (a || (b || c)) ≡ (b || (a || c))
either true true c = refl
either true false c = refl
either false true c = refl
either false false c = refl

-- more ranges, before the keys or after them
pub keys-add_all : (keys : List Point) (ranges added : List Range) → is_apart ranges ≡ true
    → with_keys keys (with_ranges added ranges) ≡ with_ranges added (with_keys keys ranges)
keys-add_all keys ranges added apart =
    let held = with_keys keys ranges in
    same_list (with_keys keys (with_ranges added ranges)) (with_ranges added held)
    (apart-keys keys (with_ranges added ranges) (apart-with_ranges added ranges apart))
    (apart-with_ranges added held (apart-keys keys ranges apart))
    (λ x.
    in_with_keys keys (with_ranges added ranges) x
    ∙ ap (λ (there : Bool). list_any (point_eq x) keys || there) (in_with_ranges added ranges x)
    ∙ either (list_any (point_eq x) keys) (in_set added x) (in_set ranges x)
    ∙ ap (λ (there : Bool). in_set added x || there) (sym (in_with_keys keys ranges x))
    ∙ sym (in_with_ranges added held x))

pub keys-add : (keys : List Point) (ranges : List Range) (range : Range) → is_apart ranges ≡ true
    → with_keys keys (with_range range ranges) ≡ with_range range (with_keys keys ranges)
keys-add keys ranges range apart = keys-add_all keys ranges (range ∷ []) apart

-- a set that has a point isn't empty
has_some : (key : Point) (set : List Range) → in_set set key ≡ true → (length set == 0) ≡ false
has_some key [] is = absurd (both_ways _ refl is)
has_some key (range ∷ set) is = eqb-suc-zero (length set)

-- with a key the set isn't empty
pub some-keys : (keys : List Point) (ranges : List Range)
    → (length (with_keys keys ranges) == 0) ≡ (if length keys == 0 then length ranges == 0 else false)
some-keys [] ranges = refl
some-keys (key ∷ keys) ranges = has_some key (with_keys (key ∷ keys) ranges)
    (in_with_keys (key ∷ keys) ranges key ∙ here)
    ∙ sym (ap (λ (none : Bool). if none then length ranges == 0 else false) (eqb-suc-zero (length keys)))
  where
    here : (list_any (point_eq key) (key ∷ keys) || in_set ranges key) ≡ true
    here = or_left _ _ (or_left _ _ (itself key))
      where
        itself : (key : Point) → point_eq key key ≡ true
        itself key = (bytes_decides key key).1 refl

-- ---- keys and ranges in the order in which they were added
pub apart-joined : (keys : List Point) (ranges : List Range) → is_apart (joined keys ranges) ≡ true
apart-joined keys ranges = apart-keys keys (with_ranges ranges []) (apart-with_ranges ranges [] refl)

pub in_joined : (keys : List Point) (ranges : List Range) (x : Point)
    → in_set (joined keys ranges) x ≡ (list_any (point_eq x) keys || in_set ranges x)
in_joined keys ranges x =
    in_with_keys keys (with_ranges ranges []) x
    ∙ ap (λ (there : Bool). list_any (point_eq x) keys || there)
    (in_with_ranges ranges [] x ∙ or-false (in_set ranges x))
  where
    or-false : (b : Bool) → (b || false) ≡ b
    or-false true = refl
    or-false false = refl

-- several ranges more
pub joined-append : (keys : List Point) (ranges added : List Range)
    → joined keys (ranges ++ added) ≡ with_ranges added (joined keys ranges)
joined-append keys ranges added =
    ap (with_keys keys) (fold-append (λ (set : List Range) (range : Range). with_range range set) [] ranges added)
    ∙ keys-add_all keys (with_ranges ranges []) added (apart-with_ranges ranges [] refl)

-- one range more, which may be empty
pub joined-listed : (keys : List Point) (ranges : List Range) (range : Range)
    → joined keys (with_listed range ranges) ≡ with_range range (joined keys ranges)
joined-listed keys ranges range = ⊎_elim
    (λ (empty : is_empty_range range ≡ true).
    ap (joined keys) (cond-true _ ranges (ranges ++ range ∷ []) empty)
    ∙ sym (cond-true _ (joined keys ranges) (inserted range (joined keys ranges)) empty))
    (λ (some : is_empty_range range ≡ false).
    ap (joined keys) (cond-false _ ranges (ranges ++ range ∷ []) some) ∙ joined-append keys ranges (range ∷ []))
    (cases_Bool (is_empty_range range))

pub points-listed : (ranges : List Range) (range : Range) → HavePoints ranges → HavePoints (with_listed range ranges)
points-listed ranges range have = by_test (is_empty_range range) refl
  where
    by_test : (test : Bool) → is_empty_range range ≡ test → HavePoints (if test then ranges else ranges ++ range ∷ [])
    by_test true is = have
    by_test false is = all-append (λ (one : Range). is_empty_range one ≡ false) ranges (range ∷ []) have (is, tt)

-- ranges that are apart have points
apart-points : (ranges : List Range) → is_apart ranges ≡ true → HavePoints ranges
apart-points [] apart = tt
apart-points (range ∷ ranges) apart =
    let parts = apart_parts range ranges apart in (ap not parts.0, apart-points ranges parts.2)

pub points-append : (ranges added : List Range) → HavePoints ranges → is_apart added ≡ true
    → HavePoints (ranges ++ added)
points-append ranges added have apart =
    all-append (λ (one : Range). is_empty_range one ≡ false) ranges added have (apart-points added apart)

-- with a key or a range the set isn't empty
pub some-joined : (keys : List Point) (ranges : List Range) → HavePoints ranges
    → (length (joined keys ranges) == 0) ≡ (if length keys == 0 then length ranges == 0 else false)
some-joined keys ranges have =
    some-keys keys (with_ranges ranges [])
    ∙ ap (λ (none : Bool). if length keys == 0 then none else false) (some ranges have)
  where
    some : (ranges : List Range) → HavePoints ranges → (length (with_ranges ranges []) == 0) ≡ (length ranges == 0)
    some [] have = refl
    some (range ∷ ranges) have =
        has_some range.begin (with_ranges (range ∷ ranges) [])
        (in_with_ranges (range ∷ ranges) [] range.begin
        ∙ or_left _ _ (or_left _ _ (in_range_from range range.begin (lt-itself range.begin) (not-false _ have.0))))
        ∙ sym (eqb-suc-zero (length ranges))

-- Some of the ranges were put down behind the list, and the rest wasn't.
pub record PutDown (list ranges now rest : List Range) : Type 0 where
  pub since : List Range
  pub is : now ≡ list ++ since
  pub all : since ++ rest ≡ ranges

pub put_down-start : (list ranges : List Range) → PutDown list ranges list ranges
put_down-start list ranges = record { since = []; is = sym (append-nil list); all = refl }

pub put_down-more : (list ranges now rest : List Range) (range : Range) (left : List Range)
    → PutDown list ranges now rest → rest ≡ range ∷ left → PutDown list ranges (now ++ range ∷ []) left
put_down-more list ranges now rest range left so_far steps = record {
  since = so_far.since ++ range ∷ [];
  is = ap (λ (l : List Range). l ++ range ∷ []) so_far.is ∙ append_assoc list so_far.since (range ∷ []);
  all = append_assoc so_far.since (range ∷ []) left ∙ ap (λ (l : List Range). so_far.since ++ l) (sym steps)
      ∙ so_far.all;
}

pub put_down-all : (list ranges now rest : List Range) → PutDown list ranges now rest → rest ≡ []
    → now ≡ list ++ ranges
put_down-all list ranges now rest so_far none =
    so_far.is
    ∙ ap (λ (l : List Range). list ++ l)
    (sym (append-nil so_far.since) ∙ ap (λ (l : List Range). so_far.since ++ l) (sym none) ∙ so_far.all)

-- the list is still there
pub put_down-kept : (list ranges now rest : List Range) → PutDown list ranges now rest → take (length list) now ≡ list
put_down-kept list ranges now rest so_far =
    ap (take (length list)) so_far.is
    ∙ take-append-le (length list) list so_far.since (omega arith)
    ∙ take-length list
