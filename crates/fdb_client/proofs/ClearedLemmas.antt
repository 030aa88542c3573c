-- What is kept once a range is cleared, and the entries of its keys are taken away.
use Rattle.std.proofs.Common.{◌≡◌, ◌∙◌, sym, ap, ap₂, refl, ℕ, Bool, true, false, not, ◌&&◌, ◌||◌, cond, if◌then◌else◌}
use Rattle.std.proofs.Common.{Result, Ok, Err, List, [], ◌∷◌, ◌++◌, Option, Some, None, Less, Equal, Greater, ⊎_elim}
use Rattle.std.proofs.Common.{◌⊎◌, inl, inr}
use Rattle.std.specs.Ordering.{nat_cmp, is_lt, is_gt, is_le, ordering_reverse}
use Rattle.std.specs.declared.cmp.Ordering.{Ordering}
use Rattle.std.specs.Cmp.Lexicographic.{slice_cmp, bytes_decides}
use Rattle.std.specs.BTreeMap.{is_at}
use Rattle.std.specs.BTreeMap.Range.{entries_between, range_contains}
use Rattle.std.specs.declared.ops.Bound.TheVariants.{Included, Excluded}
use Rattle.std.specs.List.{list_any}
use Rattle.std.specs.Map.{keys_of}
use Rattle.std.specs.Prelude.{OnErr, OnOk}
use Rattle.std.proofs.lemmas.Bool.{cases_Bool, both_ways, or_parts, cond-true, cond-false}
use Rattle.std.proofs.lemmas.Cmp.{nat_list_cmp_total}
use Rattle.std.proofs.lemmas.List.Folds.{list_any-append}
use Rattle.std.proofs.lemmas.Map.Text.{is_eq-slice_cmp}
use Rattle.fdb_keys.specs.Answers.{Answers}
use Rattle.fdb_keys.specs.declared.refusal.Refusal.{Refusal}
use Rattle.fdb_keys.specs.Insertion.{with_range}
use Rattle.fdb_keys.specs.Points.{Point, point_eq, point_lt}
use Rattle.fdb_keys.specs.Ranges.{Range, in_range, in_set, is_empty_range}
use Rattle.fdb_keys.proofs.Exports.{in_with_range, in_range-empty}
use Rattle.fdb_client.specs.declared.left.Left.{Left}
use Rattle.fdb_client.specs.declared.left.Left.TheVariants.{Value, Changes}
use Rattle.fdb_client.specs.declared.own_writes.OwnWrites.{OwnWrites}
use Rattle.fdb_client.specs.LeftAt.{left_at, AreClearedDecided}
use Rattle.fdb_client.specs.OwnWrites.{kept_of, kept_at, is_value, keys_between}
use Rattle.fdb_client.proofs.LeftAtLemmas.{found, same_point}

-- between the bounds of a range are its points
from_begin : (r : Ordering) → is_le r ≡ not (is_lt (ordering_reverse r))
from_begin Less = refl
from_begin Equal = refl
from_begin Greater = refl

before_end : (r : Ordering) → not (is_le r) ≡ is_lt (ordering_reverse r)
before_end Less = refl
before_end Equal = refl
before_end Greater = refl

between-range : (range : Range) (x : Point)
    → range_contains (slice_cmp nat_cmp) (Included range.begin) (Excluded range.end) x ≡ in_range range x
unfolding point_lt
between-range range x = ap₂ (λ (from before : Bool). from && before)
    (from_begin (slice_cmp nat_cmp range.begin x)
    ∙ ap (λ (r : Ordering). not (is_lt r)) (sym (nat_list_cmp_total.antisymm x range.begin)))
    (before_end (slice_cmp nat_cmp range.end x) ∙ ap is_lt (sym (nat_list_cmp_total.antisymm x range.end)))

-- whether a point is among the keys of the range that have an entry
abbrev is_listed : Range → List (List ℕ × Left) → Point → Bool
is_listed range entries x = list_any (point_eq x) (keys_between range entries)

-- an entry of the range is listed, and one outside it isn't
listed-cons : (range : Range) (entry : List ℕ × Left) (entries : List (List ℕ × Left)) (x : Point)
    → is_listed range (entry ∷ entries) x ≡ (in_range range entry.0 && point_eq x entry.0 || is_listed range entries x)
listed-cons range entry entries x = by_range _ (between-range range entry.0)
  where
    rest : List (List ℕ × Left)
    rest = entries_between (slice_cmp nat_cmp) (Included range.begin) (Excluded range.end) entries

    by_range : (inside : Bool) → inside ≡ in_range range entry.0
        → list_any (point_eq x) (keys_of (cond inside (entry ∷ rest) rest))
        ≡ (in_range range entry.0 && point_eq x entry.0 || list_any (point_eq x) (keys_of rest))
    by_range true is = ap (λ (inside : Bool). inside && point_eq x entry.0 || list_any (point_eq x) (keys_of rest)) is
    by_range false is = ap (λ (inside : Bool). inside && point_eq x entry.0 || list_any (point_eq x) (keys_of rest)) is

-- a point outside the range is not listed
unlisted : (range : Range) (entries : List (List ℕ × Left)) (x : Point) → in_range range x ≡ false
    → is_listed range entries x ≡ false
unlisted range [] x outside = refl
unlisted range (entry ∷ entries) x outside =
    listed-cons range entry entries x
    ∙ ap₂ (λ (here there : Bool). here || there) here (unlisted range entries x outside)
  where
    here : (in_range range entry.0 && point_eq x entry.0) ≡ false
    here = ⊎_elim
        (λ (same : point_eq x entry.0 ≡ true).
        ap (λ (inside : Bool). inside && point_eq x entry.0)
        (ap (in_range range) (sym ((bytes_decides x entry.0).0 same)) ∙ outside))
        (λ (other : point_eq x entry.0 ≡ false). ap (λ (is : Bool). in_range range entry.0 && is) other
        ∙ and_none (in_range range entry.0))
        (cases_Bool (point_eq x entry.0))
      where
        and_none : (b : Bool) → (b && false) ≡ false
        and_none true = refl
        and_none false = refl

-- a point of the range that is not listed has no entry
no_entry : (range : Range) (entries : List (List ℕ × Left)) (x : Point) → in_range range x ≡ true
    → is_listed range entries x ≡ false → found entries x ≡ None
no_entry range [] x inside absent = refl
no_entry range (entry ∷ entries) x inside absent =
    let parts = or_parts (in_range range entry.0 && point_eq x entry.0) (is_listed range entries x)
    (sym (listed-cons range entry entries x) ∙ absent) in
    cond-false _ (Some entry.1) (found entries x)
    (is_eq-slice_cmp x entry.0 ∙ other (cases_Bool (point_eq x entry.0)) parts.0)
    ∙ no_entry range entries x inside parts.1
  where
    other : (point_eq x entry.0 ≡ true) ⊎ (point_eq x entry.0 ≡ false)
        → (in_range range entry.0 && point_eq x entry.0) ≡ false → point_eq x entry.0 ≡ false
    other (inr different) neither = different
    other (inl same) neither =
        absurd (both_ways _ neither (ap₂ (λ (here is : Bool). here && is)
        (ap (in_range range) (sym ((bytes_decides x entry.0).0 same)) ∙ inside) same))

-- once a range is cleared, nothing stands at its points, and at every other what is kept stays
pub left_at-cleared : (range : Range) (before after : List (List ℕ × Left)) (cleared new_cleared : List Range)
    → ((x : Point) → found after x ≡ cond (list_any (point_eq x) (keys_between range before)) None (found before x))
    → ((x : Point) → in_set new_cleared x ≡ (in_range range x || in_set cleared x))
    → (x : Point) → kept_at after new_cleared x ≡ (if in_range range x then Value None else kept_at before cleared x)
left_at-cleared range before after cleared new_cleared there sets x = by_range (in_range range x) refl
  where
    Kept : Bool → Type 0
    Kept inside = kept_at after new_cleared x ≡ cond inside (Value None) (kept_at before cleared x)

    inside_is : in_range range x ≡ true → (listed : Bool) → is_listed range before x ≡ listed → found after x ≡ None
    inside_is inside true is = there x ∙ cond-true _ _ _ is
    inside_is inside false is = there x ∙ cond-false _ _ _ is ∙ no_entry range before x inside is

    by_range : (inside : Bool) → in_range range x ≡ inside → Kept inside
    by_range true inside =
        ap (kept_of new_cleared x) (inside_is inside (is_listed range before x) refl)
        ∙ cond-true (in_set new_cleared x) (Value None) (Changes [])
        (sets x ∙ ap (λ (here : Bool). here || in_set cleared x) inside)
    by_range false outside =
        ap (kept_of new_cleared x) (there x ∙ cond-false _ _ _ (unlisted range before x outside))
        ∙ same_set (found before x)
      where
        same_set : (left : Option Left) → kept_of new_cleared x left ≡ kept_of cleared x left
        same_set None = ap (λ (is : Bool). cond is (Value None) (Changes []))
            (sets x ∙ ap (λ (here : Bool). here || in_set cleared x) outside)
        same_set (Some left) = refl

-- and what was cleared is decided there too, whether memory ran out or not
pub cleared-range : {T : Type 0} (result : Result T Refusal) (own after : OwnWrites) (range : Range)
    → AreClearedDecided own
    → Answers result None (λ _. (x : Point) → left_at after x ≡
    (if in_range range x then Value None else left_at own x))
    → OnOk result (after.cleared ≡ with_range range own.cleared)
    → OnErr result ((x : Point) → left_at after x ≡ left_at own x) → OnErr result (after.cleared ≡ own.cleared)
    → AreClearedDecided after
cleared-range (Ok given) own after range decided kept grown kept_err same x there =
    ap is_value (kept x) ∙ by_range (in_range range x)
    (sym (in_with_range range own.cleared x) ∙ sym (ap (λ (set : List Range). in_set set x) grown) ∙ there)
  where
    by_range : (inside : Bool) → (inside || in_set own.cleared x) ≡ true
        → is_value (if inside then Value None else left_at own x) ≡ true
    by_range true is = refl
    by_range false is = decided x is
cleared-range (Err why) own after range decided kept grown kept_err same x there =
    ap is_value (kept_err x) ∙ decided x (sym (ap (λ (set : List Range). in_set set x) same) ∙ there)

-- no entry is in a range without a point
pub none_between : (range : Range) (entries : List (List ℕ × Left)) → is_empty_range range ≡ true
    → keys_between range entries ≡ []
none_between range [] empty = refl
none_between range (entry ∷ entries) empty =
    ap keys_of (cond-false _ _ _ (between-range range entry.0 ∙ in_range-empty range entry.0 empty))
    ∙ none_between range entries empty

-- one entry more is taken away
pub found-removed : (before mid after : List (List ℕ × Left)) (keys : List Point) (key x : Point)
    → found mid x ≡ cond (list_any (point_eq x) keys) None (found before x)
    → found after x ≡ cond (is_at (slice_cmp nat_cmp key) x) None (found mid x)
    → found after x ≡ cond (list_any (point_eq x) (keys ++ key ∷ [])) None (found before x)
found-removed before mid after keys key x earlier now =
    now ∙ ap₂ (λ (same : Bool) (left : Option Left). cond same None left) (same_point key x) earlier
    ∙ either (point_eq x key) (list_any (point_eq x) keys)
    ∙ ap (λ (listed : Bool). cond listed None (found before x)) (sym (list_any-append (point_eq x) keys (key ∷ [])))
  where
    either : (same listed : Bool) → cond same None (cond listed None (found before x))
        ≡ cond (listed || (same || false)) None (found before x)
    either true true = refl
    either true false = refl
    either false true = refl
    either false false = refl

-- the bounds of a range with a point are in order
in_order : (r : Ordering) → is_lt r ≡ true → is_gt r ≡ false
in_order Less before = refl
in_order Equal before = refl
in_order Greater before = absurd (both_ways _ refl before)

pub bounds-in_order : (range : Range) → is_empty_range range ≡ false
    → is_gt (slice_cmp nat_cmp range.begin range.end) ≡ false
unfolding point_lt
bounds-in_order range some =
    in_order (slice_cmp nat_cmp range.begin range.end) (from_not (is_lt (slice_cmp nat_cmp range.begin range.end)) some)
  where
    from_not : (b : Bool) → not b ≡ false → b ≡ true
    from_not true is = refl
    from_not false is = sym is
