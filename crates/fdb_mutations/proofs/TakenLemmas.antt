-- The pairs of a range are taken out of a map's pairs, one after another.
use Rattle.std.proofs.Common.{◌≡◌, ◌∙◌, sym, ap, ap₂, refl, ℕ, ◌≤◌, true, false, not, cond, List, [], ◌∷◌, length}
use Rattle.std.proofs.Common.{drop, suc, Option, Some, None, nat_lt, true≢false, ⊎_elim, arith}
use Rattle.std.specs.List.{slice_get}
use Rattle.std.specs.Option.{option_map}
use Rattle.std.specs.BTreeMap.Range.{entries_between}
use Rattle.std.specs.declared.ops.Bound.TheVariants.{Included, Excluded}
use Rattle.std.specs.Ordering.{nat_cmp}
use Rattle.std.specs.Cmp.{eq_by_cmp_equiv, Equal-is}
use Rattle.std.specs.Cmp.Lexicographic.{slice_cmp}
use Rattle.std.specs.BTreeMap.{is_at}
use Rattle.std.specs.FinMap.{slice_cmp-IsAntisymmetric, nat_cmp-IsAntisymmetric}
use Rattle.std.specs.Map.{remove_entry}
use Rattle.std.proofs.lemmas.Bool.{cases_Bool, cond-true, cond-false, cond_both, lt-ltb}
use Rattle.std.proofs.lemmas.Cmp.{nat_list_cmp_total}
use Rattle.fdb_keys.specs.Points.{Point}
use Rattle.fdb_keys.specs.Ranges.{Range, in_range}
use Rattle.fdb_mutations.specs.Pairs.{pairs_within, pairs_beside}
use Rattle.fdb_mutations.proofs.MapsLemmas.{between-within}

is_key_at : (key x : Point) → is_at (slice_cmp nat_cmp key) x ≡ true → key ≡ x
is_key_at key x same =
    slice_cmp-IsAntisymmetric nat_cmp-IsAntisymmetric key x ((Equal-is (slice_cmp nat_cmp key x)).0 same)

at_itself : (key : Point) → is_at (slice_cmp nat_cmp key) key ≡ true
at_itself = (eq_by_cmp_equiv nat_list_cmp_total).refl

-- The pair of a key of the range goes, so the pairs elsewhere stay.
pub beside-removed : (range : Range) (key : Point) (pairs : List (Point × List ℕ)) → in_range range key ≡ true
    → pairs_beside range (remove_entry (is_at (slice_cmp nat_cmp key)) pairs) ≡ pairs_beside range pairs
beside-removed range key [] inside = refl
beside-removed range key (pair ∷ pairs) inside = ⊎_elim
    (λ here. ap (pairs_beside range) (cond-true (is_at (slice_cmp nat_cmp key) pair.0) pairs _ here)
    ∙ sym (cond-false (not (in_range range pair.0)) (pair ∷ pairs_beside range pairs) _
    (ap not (ap (in_range range) (sym (is_key_at key pair.0 here)) ∙ inside))))
    (λ elsewhere. ap (pairs_beside range) (cond-false (is_at (slice_cmp nat_cmp key) pair.0) pairs _ elsewhere)
    ∙ ap (λ (rest : List (Point × List ℕ)). cond (not (in_range range pair.0)) (pair ∷ rest) rest)
    (beside-removed range key pairs inside))
    (cases_Bool (is_at (slice_cmp nat_cmp key) pair.0))

-- Where it is the first one of the range, the others of the range stay.
pub within-removed : (range : Range) (pairs : List (Point × List ℕ)) (first : Point × List ℕ)
    (rest : List (Point × List ℕ)) → pairs_within range pairs ≡ first ∷ rest
    → (in_range range first.0 ≡ true)
    × (pairs_within range (remove_entry (is_at (slice_cmp nat_cmp first.0)) pairs) ≡ rest)
within-removed range [] first rest is = cc
within-removed range (pair ∷ pairs) first rest is = ⊎_elim
    (λ inside. let same : pair ∷ pairs_within range pairs ≡ first ∷ rest =
    sym (cond-true (in_range range pair.0) (pair ∷ pairs_within range pairs) _ inside) ∙ is in
    let is_first : pair ≡ first = cc in
    let is_rest : pairs_within range pairs ≡ rest = cc in
    let at : is_at (slice_cmp nat_cmp first.0) pair.0 ≡ true =
    ap (λ (x : Point × List ℕ). is_at (slice_cmp nat_cmp first.0) x.0) is_first ∙ at_itself first.0 in (
      ap (λ (x : Point × List ℕ). in_range range x.0) (sym is_first) ∙ inside,
      ap (pairs_within range) (cond-true (is_at (slice_cmp nat_cmp first.0) pair.0) pairs _ at) ∙ is_rest,
    ))
    (λ outside. let later = within-removed range pairs first rest
    (sym (cond-false (in_range range pair.0) (pair ∷ pairs_within range pairs) _ outside) ∙ is) in
    let apart : is_at (slice_cmp nat_cmp first.0) pair.0 ≡ false = ⊎_elim
    (λ here. absurd (true≢false (sym later.0 ∙ ap (in_range range) (is_key_at first.0 pair.0 here) ∙ outside)))
    (λ elsewhere. elsewhere)
    (cases_Bool (is_at (slice_cmp nat_cmp first.0) pair.0)) in (
      later.0,
      ap (pairs_within range) (cond-false (is_at (slice_cmp nat_cmp first.0) pair.0) pairs _ apart)
          ∙ cond-false (in_range range pair.0)
          (pair ∷ pairs_within range (remove_entry (is_at (slice_cmp nat_cmp first.0)) pairs)) _ outside
          ∙ later.1,
    ))
    (cases_Bool (in_range range pair.0))

-- ---- what the calls say
-- what is found between the ends of a range are the pairs of the range
pub within-found : (range : Range) (begin end : Point) (pairs found : List (Point × List ℕ)) → begin ≡ range.begin
    → end ≡ range.end → found ≡ entries_between (slice_cmp nat_cmp) (Included begin) (Excluded end) pairs
    → pairs_within range pairs ≡ found
within-found range begin end pairs found begins ends between =
    sym (between
    ∙ ap₂ (λ (b e : Point). entries_between (slice_cmp nat_cmp) (Included b) (Excluded e) pairs) begins ends
    ∙ between-within range pairs)

-- the key of the first pair, if there is one
abbrev pub first_key_of : List (Point × List ℕ) → Option Point
first_key_of pairs = option_map (λ (pair : Point × List ℕ). pair.0) (slice_get pairs 0)

pub none-first : (pairs : List (Point × List ℕ)) → None ≡ first_key_of pairs → pairs ≡ []
none-first [] none = refl
none-first (pair ∷ pairs) none = cc

pub some-first : (pairs : List (Point × List ℕ)) (key : Point) → Some key ≡ first_key_of pairs
    → (first : Point × List ℕ) × (pairs ≡ first ∷ drop 1 pairs) × (key ≡ first.0)
some-first [] key some = cc
some-first (pair ∷ pairs) key some = (pair, refl, cc)

pub first-taken : (range : Range) (pairs left : List (Point × List ℕ)) (key : Point)
    → Some key ≡ first_key_of (pairs_within range pairs) → left ≡ remove_entry (is_at (slice_cmp nat_cmp key)) pairs
    → (pairs_beside range left ≡ pairs_beside range pairs)
    × (true ≡ nat_lt 0 (length (pairs_within range pairs)))
    × (pairs_within range left ≡ drop 1 (pairs_within range pairs))
first-taken range pairs left key some removed =
    let found = some-first (pairs_within range pairs) key some in
    let went = within-removed range pairs found.0 (drop 1 (pairs_within range pairs)) found.1 in
    let gone : left ≡ remove_entry (is_at (slice_cmp nat_cmp found.0.0)) pairs =
    removed ∙ ap (λ (k : Point). remove_entry (is_at (slice_cmp nat_cmp k)) pairs) found.2 in (
      ap (pairs_beside range) gone ∙ beside-removed range found.0.0 pairs went.0,
      sym (lt-ltb 0 (length (pairs_within range pairs))
          (omega (arith, ap (λ (p : List (Point × List ℕ)). length p) found.1))),
      ap (pairs_within range) gone ∙ went.1,
    )

-- no more pairs lie in the range than there are
pub few-within : (range : Range) (pairs : List (Point × List ℕ)) → length (pairs_within range pairs) ≤ length pairs
few-within range [] = omega arith
few-within range (pair ∷ pairs) =
    let fewer = few-within range pairs in
    cond_both (in_range range pair.0) (pair ∷ pairs_within range pairs) (pairs_within range pairs)
    (λ (p : List (Point × List ℕ)). length p ≤ suc (length pairs)) (λ inside. omega (arith, fewer))
    (λ outside. omega (arith, fewer))

-- where none lies in the range, all lie elsewhere
pub all-beside : (range : Range) (pairs : List (Point × List ℕ)) → pairs_within range pairs ≡ []
    → pairs_beside range pairs ≡ pairs
all-beside range [] none = refl
all-beside range (pair ∷ pairs) none = ⊎_elim
    (λ inside. let same : pair ∷ pairs_within range pairs ≡ [] =
    sym (cond-true (in_range range pair.0) (pair ∷ pairs_within range pairs) _ inside) ∙ none in cc)
    (λ outside. cond-true (not (in_range range pair.0)) (pair ∷ pairs_beside range pairs) _ (ap not outside)
    ∙ ap (λ (rest : List (Point × List ℕ)). pair ∷ rest) (all-beside range pairs
    (sym (cond-false (in_range range pair.0) (pair ∷ pairs_within range pairs) _ outside) ∙ none)))
    (cases_Bool (in_range range pair.0))
