-- A breakpoint more, at which nothing changes: it has the history of the piece that it lies in.
use Rattle.std.proofs.Common.{◌≡◌, ◌∙◌, sym, ap, refl, subst, Bool, true, false, [], ◌∷◌, ◌⊎◌, inl, inr}
use Rattle.std.proofs.Common.{Result, Ok, Err, OnOk, OnErr}
use Rattle.std.proofs.Common.{Option, Some, is_some, cond, Less, Equal, Greater, if◌then◌else◌}
use Rattle.std.specs.BTreeMap.{is_at}
use Rattle.std.specs.Cmp.Lexicographic.{slice_cmp}
use Rattle.std.specs.List.{AllByRecursion}
use Rattle.std.specs.Map.{lookup}
use Rattle.std.specs.Ordering.{nat_cmp, is_eq, match_ordering}
use Rattle.std.specs.declared.cmp.Ordering.{Ordering}
use Rattle.std.proofs.lemmas.Bool.{cases_Bool, both_ways, cond-true, cond-false}
use Rattle.fdb_keys.specs.Points.{Point, point_lt}
use Rattle.fdb_keys.specs.Texts.{is_bound}
use Rattle.fdb_keys.proofs.Exports.{lt-itself, lt_chain, lt_one_way}
use Rattle.fdb_interval.specs.Breakpoints.{Breaks, value_from, AreRising}
use Rattle.fdb_interval.proofs.Exports.{all_imply, at, value-after, put, at_itself, later_than_same, equal_points}
use Rattle.fdb_interval.proofs.Exports.{less_first, greater_after, rising-put}
use Rattle.fdb_owners.specs.declared.history.History.{History}
use Rattle.fdb_owners.specs.declared.pieces.Pieces.{Pieces}
use Rattle.fdb_owners.specs.Histories.{IsHistory, same_history}
use Rattle.fdb_owners.specs.Learning.{IsSplit}
use Rattle.fdb_owners.specs.Pieces.{history_at, joined_after}
use Rattle.fdb_owners.proofs.SameHistoryLemmas.{same_history-itself, same_history-true}

-- ---- the value where a breakpoint is put
pub either_same : {V : Type 0} (t : Bool) (v : V) → (if t then v else v) ≡ v
either_same true v = refl
either_same false v = refl

-- by where it lies to the first of the breakpoints
value-first-less : {V : Type 0} (before : V) (x : Point) (e : Point × V) (es : Breaks V) → AreRising (e ∷ es)
    → point_lt x e.0 ≡ true → value_from before (e ∷ es) x ≡ before
value-first-less before x e es rising less = value-after before (e ∷ es) x (
  less,
  all_imply (λ f. point_lt e.0 f.0 ≡ true) (λ f. point_lt x f.0 ≡ true) (λ f after. lt_chain x e.0 f.0 less after) es
      rising.0,
)

value-first-equal : {V : Type 0} (before : V) (x : Point) (e : Point × V) (es : Breaks V) → AreRising (e ∷ es)
    → x ≡ e.0 → value_from before (e ∷ es) x ≡ e.1
value-first-equal before x e es rising same =
    ap (λ v. value_from v es x) (cond-false _ _ _ (ap (point_lt x) (sym same) ∙ lt-itself x))
    ∙ value-after e.1 es x (later_than_same x e.0 es same rising.0)

value-first-greater : {V : Type 0} (before : V) (x : Point) (e : Point × V) (es : Breaks V)
    → point_lt e.0 x ≡ true → value_from before (e ∷ es) x ≡ value_from e.1 es x
value-first-greater before x e es greater =
    ap (λ v. value_from v es x) (cond-false _ _ _ (lt_one_way e.0 x greater))

pub all-put : {V : Type 0} (P : Point × V → Type 0) (x : Point) (value : V) (es : Breaks V) → P (x, value)
    → AllByRecursion P es → AllByRecursion P (put x value es)
all-put P x value [] new all = (new, tt)
all-put {V} P x value (e ∷ es) new all =
    by_order (slice_cmp nat_cmp x e.0) refl (all-put P x value es new all.1)
  where
    by_order : (o : Ordering) → slice_cmp nat_cmp x e.0 ≡ o → AllByRecursion P (put x value es)
        → AllByRecursion P (match_ordering o ((x, value) ∷ e ∷ es) ((e.0, value) ∷ es) (e ∷ put x value es))
    by_order Less is others = (new, all)
    by_order Equal is others = (subst (λ (y : Point). P (y, value)) (equal_points x e.0 is) new, all.1)
    by_order Greater is others = (all.0, others)

pub value-split : {V : Type 0} (before : V) (x : Point) (es : Breaks V) → AreRising es → (y : Point)
    → value_from before (put x (value_from before es x) es) y ≡ value_from before es y
value-split before x [] rising y = either_same (point_lt y x) before
value-split {V} before x (e ∷ es) rising y =
    by_order (slice_cmp nat_cmp x e.0) refl (value_from before (e ∷ es) x) refl (cases_Bool (point_lt y e.0))
    (value-split e.1 x es rising.1 y)
  where
    by_order : (o : Ordering) → slice_cmp nat_cmp x e.0 ≡ o → (value : V) → value ≡ value_from before (e ∷ es) x
        → (point_lt y e.0 ≡ true) ⊎ (point_lt y e.0 ≡ false)
        → value_from e.1 (put x (value_from e.1 es x) es) y ≡ value_from e.1 es y
        → value_from before (match_ordering o ((x, value) ∷ e ∷ es) ((e.0, value) ∷ es) (e ∷ put x value es)) y
        ≡ value_from before (e ∷ es) y
    by_order Less is value here either others =
        ap (λ (v : V). value_from (if point_lt y x then before else v) (e ∷ es) y)
        (here ∙ value-first-less before x e es rising (less_first x e.0 is))
        ∙ ap (λ (v : V). value_from v (e ∷ es) y) (either_same (point_lt y x) before)
    by_order Equal is value here either others =
        ap (λ (v : V). value_from (if point_lt y e.0 then before else v) es y)
        (here ∙ value-first-equal before x e es rising (equal_points x e.0 is))
    by_order Greater is value here (inl sooner) others =
        let after : point_lt e.0 x ≡ true = greater_after x e.0 is in
        let later : AllByRecursion (λ (f : Point × V). point_lt y f.0 ≡ true) (put x value es) =
        all-put (λ f. point_lt y f.0 ≡ true) x value es (lt_chain y e.0 x sooner after)
        (all_imply (λ f. point_lt e.0 f.0 ≡ true) (λ f. point_lt y f.0 ≡ true)
        (λ f behind. lt_chain y e.0 f.0 sooner behind) es rising.0) in
        value-after before (e ∷ put x value es) y (sooner, later)
        ∙ sym (value-first-less before y e es rising sooner)
    by_order Greater is value here (inr reached) others =
        ap (λ (v : V). value_from v (put x value es) y) (cond-false _ _ _ reached)
        ∙ ap (λ (v : V). value_from e.1 (put x v es) y)
        (here ∙ value-first-greater before x e es (greater_after x e.0 is))
        ∙ others
        ∙ sym (ap (λ (v : V). value_from v es y) (cond-false _ _ _ reached))

-- ---- what is joined stays
pub joined-split : (before : History) (x : Point) (es : Breaks History) → AreRising es
    → joined_after before (put x (value_from before es x) es) ≡ joined_after before es
joined-split before x [] rising = cond-true _ _ _ (same_history-itself before)
joined-split before x (e ∷ es) rising =
    by_order (slice_cmp nat_cmp x e.0) refl (value_from before (e ∷ es) x) refl
    (cases_Bool (same_history e.1 before)) (λ start. joined-split start x es rising.1)
  where
    by_order : (o : Ordering) → slice_cmp nat_cmp x e.0 ≡ o → (value : History)
        → value ≡ value_from before (e ∷ es) x
        → (same_history e.1 before ≡ true) ⊎ (same_history e.1 before ≡ false)
        → ((start : History) → joined_after start (put x (value_from start es x) es) ≡ joined_after start es)
        → joined_after before (match_ordering o ((x, value) ∷ e ∷ es) ((e.0, value) ∷ es) (e ∷ put x value es))
        ≡ joined_after before (e ∷ es)
    by_order Less is value here either others =
        ap (λ (v : History). joined_after before ((x, v) ∷ e ∷ es))
        (here ∙ value-first-less before x e es rising (less_first x e.0 is))
        ∙ cond-true _ _ _ (same_history-itself before)
    by_order Equal is value here either others =
        ap (λ (v : History). joined_after before ((e.0, v) ∷ es))
        (here ∙ value-first-equal before x e es rising (equal_points x e.0 is))
    by_order Greater is value here (inl same) others =
        let is_first : value ≡ value_from before es x =
        here
        ∙ value-first-greater before x e es (greater_after x e.0 is)
        ∙ ap (λ (v : History). value_from v es x) (same_history-true e.1 before same) in
        cond-true _ _ _ same
        ∙ ap (λ (v : History). joined_after before (put x v es)) is_first
        ∙ others before
        ∙ sym (cond-true _ _ _ same)
    by_order Greater is value here (inr other) others =
        cond-false _ _ _ other
        ∙ ap (λ (v : History). e ∷ joined_after e.1 (put x v es))
        (here ∙ value-first-greater before x e es (greater_after x e.0 is))
        ∙ ap (λ (l : Breaks History). e ∷ l) (others e.1)
        ∙ sym (cond-false _ _ _ other)

-- ---- which breakpoints there are
found-more : {V : Type 0} (t : Bool) (v : V) (o : Option V) → is_some o ≡ true → is_some (cond t (Some v) o) ≡ true
found-more true v o found = refl
found-more false v o found = found

found-still : {V : Type 0} (t : Bool) (v w : V) (o p : Option V) → (is_some o ≡ true → is_some p ≡ true)
    → is_some (cond t (Some v) o) ≡ true → is_some (cond t (Some w) p) ≡ true
found-still true v w o p still found = refl
found-still false v w o p still found = still found

pub found-put : {V : Type 0} (x : Point) (value : V) (es : Breaks V)
    → is_some (lookup (is_at (slice_cmp nat_cmp x)) (put x value es)) ≡ true
found-put x value [] = ap is_some (cond-true _ _ _ (at_itself x))
found-put {V} x value (e ∷ es) = by_order (slice_cmp nat_cmp x e.0) refl (found-put x value es)
  where
    by_order : (o : Ordering) → slice_cmp nat_cmp x e.0 ≡ o
        → is_some (lookup (is_at (slice_cmp nat_cmp x)) (put x value es)) ≡ true
        → is_some (lookup (is_at (slice_cmp nat_cmp x))
        (match_ordering o ((x, value) ∷ e ∷ es) ((e.0, value) ∷ es) (e ∷ put x value es))) ≡ true
    by_order Less is others = ap is_some (cond-true _ _ _ (at_itself x))
    by_order Equal is others = ap is_some (cond-true _ _ _ (ap is_eq is))
    by_order Greater is others = found-more (at x e.0) e.1 _ others

pub found-kept : {V : Type 0} (x : Point) (value : V) (y : Point) (es : Breaks V)
    → is_some (lookup (is_at (slice_cmp nat_cmp y)) es) ≡ true
    → is_some (lookup (is_at (slice_cmp nat_cmp y)) (put x value es)) ≡ true
found-kept x value y [] found = absurd (both_ways _ refl found)
found-kept {V} x value y (e ∷ es) found =
    by_order (slice_cmp nat_cmp x e.0) (found-kept x value y es)
  where
    by_order : (o : Ordering)
        → (is_some (lookup (is_at (slice_cmp nat_cmp y)) es) ≡ true
        → is_some (lookup (is_at (slice_cmp nat_cmp y)) (put x value es)) ≡ true)
        → is_some (lookup (is_at (slice_cmp nat_cmp y))
        (match_ordering o ((x, value) ∷ e ∷ es) ((e.0, value) ∷ es) (e ∷ put x value es))) ≡ true
    by_order Less others = found-more (at y x) value _ found
    by_order Equal others = found-still (at y e.0) e.1 value _ _ (λ (same : _ ≡ _). same) found
    by_order Greater others = found-still (at y e.0) e.1 e.1 _ _ others found

-- ---- a history that holds at each breakpoint holds at each point
pub value-holds : {V : Type 0} (P : V → Type 0) (before : V) (es : Breaks V) (x : Point) → P before
    → AllByRecursion (λ (e : Point × V). P e.1) es → P (value_from before es x)
value-holds P before [] x first all = first
value-holds {V} P before (e ∷ es) x first all =
    value-holds P (if point_lt x e.0 then before else e.1) es x (either (point_lt x e.0)) all.1
  where
    either : (t : Bool) → P (if t then before else e.1)
    either true = first
    either false = all.0

-- ---- pieces split at a point
pub split-same : (pieces others : Pieces) → others.lowest ≡ pieces.lowest
    → others.breaks.entries ≡ pieces.breaks.entries
    → IsSplit pieces others
split-same pieces others front entries = record {
  lowest_same = front;
  histories = λ x i. value_from (front i) (entries i) x;
  joined_same = λ i. joined_after (front i) (entries i);
  breaks = λ x found. ap (λ (es : Breaks History). is_some (lookup (is_at (slice_cmp nat_cmp x)) es)) entries ∙ found;
  kept = λ resolvers last are. record {
    lowest = subst (IsHistory resolvers last) (sym front) are.lowest;
    breaks = subst (AllByRecursion (λ (piece : Point × History).
        (is_bound piece.0 ≡ true) × IsHistory resolvers last piece.1)) (sym entries) are.breaks;
  };
  rising = λ rising. subst AreRising (sym entries) rising;
}

pub split-more : (pieces others more : Pieces) → IsSplit pieces others → IsSplit others more → IsSplit pieces more
split-more pieces others more first second = record {
  lowest_same = second.lowest_same ∙ first.lowest_same;
  histories = λ x. second.histories x ∙ first.histories x;
  joined_same = second.joined_same ∙ first.joined_same;
  breaks = λ x found. second.breaks x (first.breaks x found);
  kept = λ resolvers last are. second.kept resolvers last (first.kept resolvers last are);
  rising = λ rising. second.rising (first.rising rising);
}

pub split-put : (pieces others : Pieces) (x : Point) → is_bound x ≡ true → AreRising pieces.breaks.entries
    → others.lowest ≡ pieces.lowest
    → others.breaks.entries ≡ put x (history_at pieces x) pieces.breaks.entries → IsSplit pieces others
split-put pieces others x bound rising front entries = record {
  lowest_same = front;
  histories = λ y. (λ i. value_from (front i) (entries i) y)
      ∙ value-split pieces.lowest x pieces.breaks.entries rising y;
  joined_same = (λ i. joined_after (front i) (entries i)) ∙ joined-split pieces.lowest x pieces.breaks.entries rising;
  breaks = λ y found. ap (λ (es : Breaks History). is_some (lookup (is_at (slice_cmp nat_cmp y)) es)) entries
      ∙ found-kept x (history_at pieces x) y pieces.breaks.entries found;
  kept = λ resolvers last are. record {
    lowest = subst (IsHistory resolvers last) (sym front) are.lowest;
    breaks = subst (AllByRecursion (λ (piece : Point × History).
        (is_bound piece.0 ≡ true) × IsHistory resolvers last piece.1)) (sym entries)
        (all-put (λ piece. (is_bound piece.0 ≡ true) × IsHistory resolvers last piece.1) x (history_at pieces x)
        pieces.breaks.entries (
          bound,
          value-holds (IsHistory resolvers last) pieces.lowest pieces.breaks.entries x are.lowest
              (all_imply (λ piece. (is_bound piece.0 ≡ true) × IsHistory resolvers last piece.1)
              (λ piece. IsHistory resolvers last piece.1) (λ piece holds. holds.1) pieces.breaks.entries are.breaks),
        )
        are.breaks);
  };
  rising = λ before. subst AreRising (sym entries) (rising-put x (history_at pieces x) pieces.breaks.entries before);
}

-- ---- the same by what a call answers
pub split-answers : {E : Type 0} (result : Result (Unit {0}) E) (pieces others : Pieces) (x begin : Point)
    (history : History) → is_bound x ≡ true → begin ≡ x → history ≡ history_at pieces x → others.lowest ≡ pieces.lowest
    → AreRising pieces.breaks.entries → OnOk result (others.breaks.entries ≡ put begin history pieces.breaks.entries)
    → OnErr result (others.breaks.entries ≡ pieces.breaks.entries) → IsSplit pieces others
split-answers (Ok done) pieces others x begin history bound is_begin is_history front rising ok err =
    split-put pieces others x bound rising front
    (ok ∙ (λ i. put (is_begin i) (is_history i) pieces.breaks.entries))
split-answers (Err why) pieces others x begin history bound is_begin is_history front rising ok err =
    split-same pieces others front err

pub there-answers : {E : Type 0} (result : Result (Unit {0}) E) (es fs : Breaks History) (x begin : Point)
    (history : History) → begin ≡ x → OnOk result (fs ≡ put begin history es)
    → OnOk result (is_some (lookup (is_at (slice_cmp nat_cmp x)) fs) ≡ true)
there-answers (Ok done) es fs x begin history is_begin ok =
    ap (λ (l : Breaks History). is_some (lookup (is_at (slice_cmp nat_cmp x)) l))
    (ok ∙ (λ i. put (is_begin i) history es))
    ∙ found-put x history es
there-answers (Err why) es fs x begin history is_begin ok = tt
