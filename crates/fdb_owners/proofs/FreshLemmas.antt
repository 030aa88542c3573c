-- What fresh histories at breakpoints make of the history at a point.
use Rattle.std.proofs.Common.{◌≡◌, ◌∙◌, sym, ap, refl, ℕ, Bool, true, false, not, ◌&&◌, List, [], ◌∷◌}
use Rattle.std.proofs.Common.{Option, Some, None, is_some, if◌then◌else◌, ⊎_elim, map}
use Rattle.std.specs.BTreeMap.{is_at}
use Rattle.std.specs.BTreeMap.Range.{range_contains, IsLeBy}
use Rattle.std.specs.Cmp.Lexicographic.{slice_cmp}
use Rattle.std.specs.List.{AllByRecursion, filter, fold}
use Rattle.std.specs.Map.{lookup, set_value}
use Rattle.std.specs.Option.{unwrap_or}
use Rattle.std.specs.Ordering.{nat_cmp, is_eq, is_gt, is_le, is_lt, ordering_reverse}
use Rattle.std.specs.declared.cmp.Ordering.{Ordering}
use Rattle.std.specs.declared.cmp.Ordering.TheVariants.{Less, Equal, Greater}
use Rattle.std.specs.declared.ops.Bound.TheVariants.{Included, Excluded}
use Rattle.std.proofs.lemmas.Bool.{cases_Bool, both_ways, cond-true, cond-false}
use Rattle.std.proofs.lemmas.Cmp.{nat_list_cmp_total}
use Rattle.std.proofs.lemmas.List.Sums.{fold-append}
use Rattle.fdb_keys.specs.Points.{Point, point_lt}
use Rattle.fdb_keys.specs.Ranges.{Range, in_range}
use Rattle.fdb_txn.specs.declared.entry.Move.{Move}
use Rattle.fdb_interval.specs.Breakpoints.{Breaks, AreRising}
use Rattle.fdb_interval.proofs.Exports.{all_imply, at, at_itself, at_same, at_before, at_after, later_than_same}
use Rattle.fdb_owners.specs.declared.history.History.{History}
use Rattle.fdb_owners.specs.Learning.{changed, fresh_by, fresh_of, with_fresh}

-- ---- each value by its point and the value that stands there
abbrev pub remade : {V : Type 0} → (Point → V → V) → Breaks V → Breaks V
remade f [] = []
remade f (e ∷ es) = (e.0, f e.0 e.1) ∷ remade f es

pub remade-same : {V : Type 0} (es : Breaks V) → es ≡ remade (λ x v. v) es
remade-same [] = refl
remade-same {V} (e ∷ es) = ap (λ (l : Breaks V). e ∷ l) (remade-same es)

pub remade-twice : {V : Type 0} (f g : Point → V → V) (es : Breaks V)
    → remade g (remade f es) ≡ remade (λ x v. g x (f x v)) es
remade-twice f g [] = refl
remade-twice {V} f g (e ∷ es) = ap (λ (l : Breaks V). (e.0, g e.0 (f e.0 e.1)) ∷ l) (remade-twice f g es)

pub remade-agree : {V : Type 0} (f g : Point → V → V) (es : Breaks V)
    → AllByRecursion (λ (e : Point × V). f e.0 e.1 ≡ g e.0 e.1) es → remade f es ≡ remade g es
remade-agree f g [] agree = refl
remade-agree f g (e ∷ es) agree = λ i. (e.0, agree.0 i) ∷ remade-agree f g es agree.1 i

pub all-remade : {V : Type 0} (f : Point → V → V) (P Q : Point × V → Type 0)
    → ((x : Point) (v : V) → P (x, v) → Q (x, f x v)) → (es : Breaks V) → AllByRecursion P es
    → AllByRecursion Q (remade f es)
all-remade f P Q says [] all = tt
all-remade f P Q says (e ∷ es) all = (says e.0 e.1 all.0, all-remade f P Q says es all.1)

pub rising-remade : {V : Type 0} (f : Point → V → V) (es : Breaks V) → AreRising es → AreRising (remade f es)
rising-remade f [] rising = tt
rising-remade f (e ∷ es) rising = (
  all-remade f (λ later. point_lt e.0 later.0 ≡ true) (λ later. point_lt e.0 later.0 ≡ true) (λ x v after. after) es
      rising.0,
  rising-remade f es rising.1,
)

-- ---- a value put in the place of the one at a point
unchanged : {V : Type 0} (x : Point) (w : V) (es : Breaks V)
    → AllByRecursion (λ (e : Point × V). at x e.0 ≡ false) es → es ≡ remade (λ y v. if at x y then w else v) es
unchanged x w [] none = refl
unchanged x w (e ∷ es) none = λ i. (e.0, sym (cond-false _ w e.1 none.0) i) ∷ unchanged x w es none.1 i

pub set-remade : {V : Type 0} (x : Point) (w : V) (es : Breaks V) → AreRising es
    → set_value (is_at (slice_cmp nat_cmp x)) es w ≡ remade (λ y v. if at x y then w else v) es
set-remade x w [] rising = refl
set-remade {V} x w (e ∷ es) rising = ⊎_elim
    (λ here.
    let later : AllByRecursion (λ (f : Point × V). at x f.0 ≡ false) es =
    all_imply (λ f. point_lt x f.0 ≡ true) (λ f. at x f.0 ≡ false) (λ f after. at_before x f.0 after) es
    (later_than_same x e.0 es (at_same x e.0 here) rising.0) in
    cond-true _ _ _ here ∙ (λ i. (e.0, sym (cond-true _ w e.1 here) i) ∷ unchanged x w es later i))
    (λ there.
    cond-false _ _ _ there
    ∙ (λ i. (e.0, sym (cond-false _ w e.1 there) i) ∷ set-remade x w es rising.1 i))
    (cases_Bool (at x e.0))

-- ---- several, each in the place of that at its point
-- what they leave of the history at the point
abbrev pub put_at : Point → History → Breaks History → History
put_at x history fresh =
    fold (λ (left : History) (piece : Point × History). if at piece.0 x then piece.1 else left) history fresh

pub with_fresh-remade : (fresh es : Breaks History) → AreRising es
    → with_fresh es fresh ≡ remade (λ x history. put_at x history fresh) es
with_fresh-remade [] es rising = remade-same es
with_fresh-remade (piece ∷ fresh) es rising =
    let one = λ (x : Point) (history : History). if at piece.0 x then piece.1 else history in
    ap (λ (left : Breaks History). with_fresh left fresh) (set-remade piece.0 piece.1 es rising)
    ∙ with_fresh-remade fresh (remade one es) (rising-remade one es rising)
    ∙ remade-twice one (λ x history. put_at x history fresh) es

-- ---- those of one move
at_turned : (x y : Point) → at x y ≡ at y x
at_turned x y = ap is_eq (nat_list_cmp_total.antisymm x y) ∙ turned (slice_cmp nat_cmp y x)
  where
    turned : (o : Ordering) → is_eq (ordering_reverse o) ≡ is_eq o
    turned Less = refl
    turned Equal = refl
    turned Greater = refl

-- the breakpoints of a range are those that lie in it
pub between-is : (range : Range) (x : Point)
    → range_contains (slice_cmp nat_cmp) (Included range.begin) (Excluded range.end) x ≡ in_range range x
unfolding point_lt
between-is range x =
    ap (λ o. is_le o && not (is_le (slice_cmp nat_cmp range.end x))) (nat_list_cmp_total.antisymm range.begin x)
    ∙ ap (λ o. is_le (ordering_reverse (slice_cmp nat_cmp x range.begin)) && not (is_le o))
    (nat_list_cmp_total.antisymm range.end x)
    ∙ by_orders (slice_cmp nat_cmp x range.begin) (slice_cmp nat_cmp x range.end)
  where
    by_orders : (o p : Ordering)
        → (is_le (ordering_reverse o) && not (is_le (ordering_reverse p))) ≡ (not (is_lt o) && is_lt p)
    by_orders Less p = refl
    by_orders Equal Less = refl
    by_orders Equal Equal = refl
    by_orders Equal Greater = refl
    by_orders Greater Less = refl
    by_orders Greater Equal = refl
    by_orders Greater Greater = refl

module _ (picked : Point → Bool) (make : History → History) where
  -- those that a test picks, each with the history that is made of the one there
  abbrev pub made : Breaks History → Breaks History
  made es = map (λ (e : Point × History). (e.0, make e.1)) (filter (λ e. picked e.0) es)

  made-elsewhere : (x : Point) (history : History) (es : Breaks History)
      → AllByRecursion (λ (e : Point × History). at e.0 x ≡ false) es → put_at x history (made es) ≡ history
  made-elsewhere x history [] none = refl
  made-elsewhere x history (e ∷ es) none = ⊎_elim
      (λ passes.
      ap (λ (l : Breaks History). put_at x history (map (λ (f : Point × History). (f.0, make f.1)) l))
      (cond-true _ _ _ passes)
      ∙ ap (λ (h : History). put_at x h (made es)) (cond-false _ _ _ none.0)
      ∙ made-elsewhere x history es none.1)
      (λ fails.
      ap (λ (l : Breaks History). put_at x history (map (λ (f : Point × History). (f.0, make f.1)) l))
      (cond-false _ _ _ fails)
      ∙ made-elsewhere x history es none.1)
      (cases_Bool (picked e.0))

  pub made-at : (x : Point) (from history : History) (es : Breaks History) → AreRising es
      → lookup (is_at (slice_cmp nat_cmp x)) es ≡ Some from
      → put_at x history (made es) ≡ (if picked x then make from else history)
  made-at x from history [] rising found = absurd (both_ways _ refl (ap is_some found))
  made-at x from history (e ∷ es) rising found =
      ⊎_elim here (there (λ later. made-at x from history es rising.1 later)) (cases_Bool (at x e.0))
    where
      here : at x e.0 ≡ true → put_at x history (made (e ∷ es)) ≡ (if picked x then make from else history)
      here is =
          let same : x ≡ e.0 = at_same x e.0 is in
          let is_from : e.1 ≡ from =
          ap (λ (o : Option History). unwrap_or o from) (sym (cond-true _ _ _ is) ∙ found) in
          let others : AllByRecursion (λ (f : Point × History). at f.0 x ≡ false) es =
          all_imply (λ f. point_lt x f.0 ≡ true) (λ f. at f.0 x ≡ false) (λ f after. at_after f.0 x after) es
          (later_than_same x e.0 es same rising.0) in
          ⊎_elim
          (λ (passes : picked e.0 ≡ true).
          ap (λ (l : Breaks History). put_at x history (map (λ (f : Point × History). (f.0, make f.1)) l))
          (cond-true _ _ _ passes)
          ∙ ap (λ (h : History). put_at x h (made es)) (cond-true _ _ _ (at_turned e.0 x ∙ is))
          ∙ made-elsewhere x (make e.1) es others
          ∙ ap make is_from
          ∙ sym (cond-true _ _ _ (ap picked same ∙ passes)))
          (λ (fails : picked e.0 ≡ false).
          ap (λ (l : Breaks History). put_at x history (map (λ (f : Point × History). (f.0, make f.1)) l))
          (cond-false _ _ _ fails)
          ∙ made-elsewhere x history es others
          ∙ sym (cond-false _ _ _ (ap picked same ∙ fails)))
          (cases_Bool (picked e.0))

      there : (lookup (is_at (slice_cmp nat_cmp x)) es ≡ Some from
          → put_at x history (made es) ≡ (if picked x then make from else history))
          → at x e.0 ≡ false → put_at x history (made (e ∷ es)) ≡ (if picked x then make from else history)
      there others is =
          let found_later : lookup (is_at (slice_cmp nat_cmp x)) es ≡ Some from =
          sym (cond-false _ _ _ is) ∙ found in
          ⊎_elim
          (λ (passes : picked e.0 ≡ true).
          ap (λ (l : Breaks History). put_at x history (map (λ (f : Point × History). (f.0, make f.1)) l))
          (cond-true _ _ _ passes)
          ∙ ap (λ (h : History). put_at x h (made es)) (cond-false _ _ _ (at_turned e.0 x ∙ is))
          ∙ others found_later)
          (λ (fails : picked e.0 ≡ false).
          ap (λ (l : Breaks History). put_at x history (map (λ (f : Point × History). (f.0, make f.1)) l))
          (cond-false _ _ _ fails)
          ∙ others found_later)
          (cases_Bool (picked e.0))

-- ---- those of all moves
-- the history that the moves whose ranges pass the test leave, by what stood before and by what is left so far
abbrev pub after : ℕ → (Range → Bool) → History → List Move → History → History
after version touches from moves history =
    fold (λ (left : History) (move : Move). if touches move.range then changed version move.to from else left) history
    moves

fresh_by-made : (version : ℕ) (move : Move) (es : Breaks History)
    → fresh_by version move es ≡ made (in_range move.range) (changed version move.to) es
fresh_by-made version move es = λ i.
    map (λ (e : Point × History). (e.0, changed version move.to e.1))
    (filter (λ (e : Point × History). between-is move.range e.0 i) es)

pub fresh-at : (version : ℕ) (moves : List Move) (es : Breaks History) (x : Point) (from history : History)
    → AreRising es → lookup (is_at (slice_cmp nat_cmp x)) es ≡ Some from
    → put_at x history (fresh_of version moves es) ≡ after version (λ range. in_range range x) from moves history
fresh-at version [] es x from history rising found = refl
fresh-at version (move ∷ moves) es x from history rising found =
    fold-append (λ (left : History) (piece : Point × History). if at piece.0 x then piece.1 else left) history
    (fresh_by version move es) (fresh_of version moves es)
    ∙ ap (λ (h : History). put_at x h (fresh_of version moves es))
    (ap (put_at x history) (fresh_by-made version move es)
    ∙ made-at (in_range move.range) (changed version move.to) x from history es rising found)
    ∙ fresh-at version moves es x from (if in_range move.range x then changed version move.to from else history) rising
    found

-- each breakpoint is the one at its point
pub all-found : {V : Type 0} (es : Breaks V) → AreRising es
    → AllByRecursion (λ (e : Point × V). lookup (is_at (slice_cmp nat_cmp e.0)) es ≡ Some e.1) es
all-found [] rising = tt
all-found {V} (e ∷ es) rising = (cond-true _ _ _ (at_itself e.0), further es rising.0 (all-found es rising.1))
  where
    further : (fs : Breaks V) → AllByRecursion (λ (f : Point × V). point_lt e.0 f.0 ≡ true) fs
        → AllByRecursion (λ (f : Point × V). lookup (is_at (slice_cmp nat_cmp f.0)) es ≡ Some f.1) fs
        → AllByRecursion (λ (f : Point × V). lookup (is_at (slice_cmp nat_cmp f.0)) (e ∷ es) ≡ Some f.1) fs
    further [] later found = tt
    further (f ∷ fs) later found =
        (cond-false _ _ _ (at_after f.0 e.0 later.0) ∙ found.0, further fs later.1 found.1)

-- so the breakpoints with the fresh histories
pub with_fresh-after : (version : ℕ) (moves : List Move) (es : Breaks History) → AreRising es
    → with_fresh es (fresh_of version moves es)
    ≡ remade (λ x history. after version (λ range. in_range range x) history moves history) es
with_fresh-after version moves es rising =
    with_fresh-remade (fresh_of version moves es) es rising
    ∙ remade-agree (λ x history. put_at x history (fresh_of version moves es))
    (λ x history. after version (λ range. in_range range x) history moves history) es
    (all_imply (λ (e : Point × History). lookup (is_at (slice_cmp nat_cmp e.0)) es ≡ Some e.1)
    (λ e. put_at e.0 e.1 (fresh_of version moves es) ≡ after version (λ range. in_range range e.0) e.1 moves e.1)
    (λ e found. fresh-at version moves es e.0 e.1 e.1 rising found) es (all-found es rising))

-- ---- where there is none at a point, none is put there
pub set-absent : {V : Type 0} (x : Point) (w : V) (es : Breaks V) → lookup (is_at (slice_cmp nat_cmp x)) es ≡ None
    → set_value (is_at (slice_cmp nat_cmp x)) es w ≡ es
set-absent x w [] absent = refl
set-absent {V} x w (e ∷ es) absent = ⊎_elim
    (λ here. absurd (both_ways _ (ap is_some (sym (cond-true _ _ _ here) ∙ absent)) refl))
    (λ there.
    cond-false _ _ _ there
    ∙ ap (λ (l : Breaks V). e ∷ l) (set-absent x w es (sym (cond-false _ _ _ there) ∙ absent)))
    (cases_Bool (at x e.0))

-- a range's begin doesn't come after its end
pub bounds-forward : (begin end : Point) → point_lt end begin ≡ false → IsLeBy (slice_cmp nat_cmp) begin end
unfolding point_lt
bounds-forward begin end order =
    ap is_gt (nat_list_cmp_total.antisymm begin end) ∙ turned (slice_cmp nat_cmp end begin) ∙ order
  where
    turned : (o : Ordering) → is_gt (ordering_reverse o) ≡ is_lt o
    turned Less = refl
    turned Equal = refl
    turned Greater = refl
