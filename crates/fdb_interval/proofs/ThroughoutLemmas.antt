-- One value throughout a range: no breakpoint is inside it.
use Rattle.std.proofs.Common.{◌≡◌, ◌∙◌, sym, ap, refl, subst, Bool, true, false, ◌&&◌, [], ◌∷◌, ◌++◌}
use Rattle.std.proofs.Common.{⊎_elim, Option, Some, None, is_some, if◌then◌else◌}
use Rattle.std.specs.BTreeMap.{is_at}
use Rattle.std.specs.Option.{unwrap_or}
use Rattle.std.specs.Map.{lookup}
use Rattle.std.proofs.lemmas.Bool.{cases_Bool, both_ways, cond-true, cond-false}
use Rattle.std.specs.BTreeMap.Range.{entries_between}
use Rattle.std.specs.Cmp.Lexicographic.{slice_cmp}
use Rattle.std.specs.List.{AllByRecursion}
use Rattle.std.specs.Ordering.{nat_cmp}
use Rattle.std.specs.declared.ops.Bound.TheVariants.{Excluded, Unbounded}
use Rattle.fdb_keys.specs.Points.{Point, point_lt}
use Rattle.fdb_keys.proofs.Exports.{lt-itself, le_lt_chain, lt_le_chain, lt_one_way, le_chain, lt_chain}
use Rattle.fdb_interval.specs.Breakpoints.{Breaks, value_from, last_value, breaks_before, AreRising}
use Rattle.fdb_interval.proofs.BreaksLemmas.{sift, sift-none, sift-all, sift_twice, rising-sift, all_imply, before}
use Rattle.fdb_interval.proofs.BreaksLemmas.{beyond, absorbed}
use Rattle.fdb_interval.proofs.BreaksLemmas.{inside, inside-is, before-is, last-one, value-reached}
use Rattle.fdb_interval.proofs.BreaksLemmas.{sift-false, at, all-sift, five_parts, value-after, value-append}
use Rattle.fdb_interval.proofs.PartsLemmas.{at_same, later_than_same}
use Rattle.fdb_interval.proofs.BreaksLemmas.{value-before, all_sooner}

-- the breakpoints before the range's end, of which e is the last, are up to its begin
pub all_up_to : {V : Type 0} (begin : Point) (front : Breaks V) (e : Point × V) → AreRising (front ++ e ∷ [])
    → point_lt begin e.0 ≡ false → AllByRecursion (λ (f : Point × V). point_lt begin f.0 ≡ false) (front ++ e ∷ [])
all_up_to {V} begin front e rising up_to =
    with_last front (all_imply (λ f. point_lt f.0 e.0 ≡ true) (λ f. point_lt begin f.0 ≡ false)
    (λ f sooner. le_chain f.0 e.0 begin (lt_one_way f.0 e.0 sooner) up_to) front (all_sooner front e [] rising))
  where
    with_last : (fs : Breaks V) → AllByRecursion (λ (f : Point × V). point_lt begin f.0 ≡ false) fs
        → AllByRecursion (λ (f : Point × V). point_lt begin f.0 ≡ false) (fs ++ e ∷ [])
    with_last [] all = (up_to, tt)
    with_last (f ∷ fs) all = (all.0, with_last fs all.1)

turned : (s t : Bool) → (s && t) ≡ (t && s)
turned true true = refl
turned true false = refl
turned false true = refl
turned false false = refl

pub inside-of : {V : Type 0} (begin end : Point) (es : Breaks V)
    → sift (beyond begin) (sift (before end) es) ≡ sift (inside begin end) es
inside-of begin end es = sift_twice (beyond begin) (before end) (inside begin end)
    (λ x. turned (point_lt x end) (point_lt begin x) ∙ sym (inside-is begin end x)) es

module _ {V : Type 0} (es front : Breaks V) (e : Point × V) (begin end : Point) (rising : AreRising es)
    (some : point_lt begin end ≡ true)
    (found : entries_between (slice_cmp nat_cmp) Unbounded (Excluded end) es ≡ front ++ e ∷ []) where
  before_end : sift (before end) es ≡ front ++ e ∷ []
  before_end = before-is es end ∙ found

  front_rising : AreRising (front ++ e ∷ [])
  front_rising = subst AreRising before_end (rising-sift (before end) es rising)

  pub value-throughout : (start : V) → point_lt begin e.0 ≡ false → e.1 ≡ value_from start es begin
  value-throughout start up_to = sym
      (value-before start es end begin rising some
      ∙ ap (λ (l : Breaks V). value_from start l begin) before_end
      ∙ value-reached start (front ++ e ∷ []) begin (all_up_to begin front e front_rising up_to)
      ∙ last-one start front e)

  pub none-inside : point_lt begin e.0 ≡ false → sift (inside begin end) es ≡ []
  none-inside up_to =
      sym (inside-of begin end es)
      ∙ ap (sift (beyond begin)) before_end
      ∙ sift-none (beyond begin) (front ++ e ∷ []) (all_up_to begin front e front_rising up_to)

  -- where the last one comes before the begin, its value is the one right before
  pub before-throughout : (start : V) → point_lt e.0 begin ≡ true → e.1 ≡ last_value start (breaks_before begin es)
  before-throughout start sooner = sym
      (ap (last_value start)
      (sym (sift_twice (before begin) (before end) (before begin) (λ x. both x) es)
      ∙ ap (sift (before begin)) before_end
      ∙ sift-all (before begin) (front ++ e ∷ []) (all_before front
      (all_imply (λ f. point_lt f.0 e.0 ≡ true) (λ f. point_lt f.0 begin ≡ true)
      (λ f earlier. lt_chain f.0 e.0 begin earlier sooner) front (all_sooner front e [] front_rising))))
      ∙ last-one start front e)
    where
      both : (x : Point) → (point_lt x end && point_lt x begin) ≡ point_lt x begin
      both x = absorbed (point_lt x end) (point_lt x begin) (λ earlier. lt_chain x begin end earlier some)

      all_before : (fs : Breaks V) → AllByRecursion (λ (f : Point × V). point_lt f.0 begin ≡ true) fs
          → AllByRecursion (λ (f : Point × V). point_lt f.0 begin ≡ true) (fs ++ e ∷ [])
      all_before [] all = (sooner, tt)
      all_before (f ∷ fs) all = (all.0, all_before fs all.1)

-- the same where no breakpoint comes before the end
module _ {V : Type 0} (es : Breaks V) (begin end : Point) (rising : AreRising es) (some : point_lt begin end ≡ true)
    (found : entries_between (slice_cmp nat_cmp) Unbounded (Excluded end) es ≡ []) where
  pub value-nowhere : (start : V) → start ≡ value_from start es begin
  value-nowhere start = sym
      (value-before start es end begin rising some
      ∙ ap (λ (l : Breaks V). value_from start l begin) (before-is es end ∙ found))

  pub none-anywhere : sift (inside begin end) es ≡ []
  none-anywhere =
      sym (inside-of begin end es) ∙ ap (sift (beyond begin)) (before-is es end ∙ found)

  pub before-nowhere : (start : V) → start ≡ last_value start (breaks_before begin es)
  before-nowhere start = sym
      (ap (last_value start)
      (sym (sift_twice (before begin) (before end) (before begin) both es)
      ∙ ap (sift (before begin)) (before-is es end ∙ found)))
    where
      both : (x : Point) → (point_lt x end && point_lt x begin) ≡ point_lt x begin
      both x = absorbed (point_lt x end) (point_lt x begin) (λ earlier. lt_chain x begin end earlier some)

-- ---- the value at the range's end
-- that of a breakpoint there
pub value-found : {V : Type 0} (start : V) (x : Point) (value : V) (es : Breaks V) → AreRising es
    → Some value ≡ lookup (is_at (slice_cmp nat_cmp x)) es → value ≡ value_from start es x
value-found start x value [] rising found = absurd (both_ways _ refl (ap is_some (sym found)))
value-found {V} start x value (e ∷ es) rising found = ⊎_elim
    (λ here.
    let same = at_same x e.0 here in
    let later = later_than_same x e.0 es same rising.0 in
    let reached : point_lt x e.0 ≡ false = ap (point_lt x) (sym same) ∙ lt-itself x in
    let is : Some value ≡ Some e.1 = found ∙ cond-true _ _ _ here in
    ap (λ (o : Option V). unwrap_or o value) is
    ∙ sym (ap (λ n. value_from n es x) (cond-false _ _ _ reached) ∙ value-after e.1 es x later))
    (λ elsewhere.
    value-found (if point_lt x e.0 then start else e.1) x value es rising.1 (found ∙ cond-false _ _ _ elsewhere))
    (cases_Bool (at x e.0))

pub none-at : {V : Type 0} (x : Point) (es : Breaks V) → lookup (is_at (slice_cmp nat_cmp x)) es ≡ None
    → sift (at x) es ≡ []
none-at x [] absent = refl
none-at x (e ∷ es) absent = ⊎_elim
    (λ here. absurd (both_ways _ (ap is_some (sym (cond-true _ _ _ here) ∙ absent)) refl))
    (λ elsewhere. sift-false (at x) e es elsewhere ∙ none-at x es (sym (cond-false _ _ _ elsewhere) ∙ absent))
    (cases_Bool (at x e.0))

-- else that at its begin, where no breakpoint is inside
pub value-goes-on : {V : Type 0} (start : V) (es : Breaks V) (begin end : Point) → AreRising es
    → point_lt begin end ≡ true
    → sift (inside begin end) es ≡ [] → None ≡ lookup (is_at (slice_cmp nat_cmp end)) es
    → value_from start es begin ≡ value_from start es end
value-goes-on {V} start es begin end rising some none absent =
    let front = sift (before begin) es in
    let one = sift (at begin) es in
    let back = sift (beyond end) es in
    let are : es ≡ front ++ (one ++ back) =
    five_parts begin end some es rising
    ∙ (λ i. front ++ (one ++ (none i ++ (none-at end es (sym absent) i ++ back)))) in
    let at_point = λ (x : Point) (reached : point_lt x begin ≡ false) (not_past : point_lt end x ≡ false).
    ap (λ (l : Breaks V). value_from start l x) are
    ∙ value-append start front (one ++ back) x
    ∙ ap (λ n. value_from n (one ++ back) x)
    (value-reached start front x (all-sift (before begin) (λ y. point_lt x y ≡ false)
    (λ y sooner. lt_one_way y x (lt_le_chain y begin x sooner reached)) es))
    ∙ value-append (last_value start front) one back x
    ∙ ap (λ n. value_from n back x)
    (value-reached (last_value start front) one x (all-sift (at begin) (λ y. point_lt x y ≡ false)
    (λ y here. ap (point_lt x) (sym (at_same begin y here)) ∙ reached) es))
    ∙ value-after (last_value (last_value start front) one) back x (all-sift (beyond end) (λ y. point_lt x y ≡ true)
    (λ y after. le_lt_chain x end y not_past after) es) in
    at_point begin (lt-itself begin) (lt_one_way begin end some)
    ∙ sym (at_point end (lt_one_way begin end some) (lt-itself end))
