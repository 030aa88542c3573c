-- A breakpoint that is taken out, or whose history is cut: from the floor on each point has the owners that it had.
use Rattle.std.proofs.Common.{◌≡◌, ◌∙◌, sym, ap, refl, subst, subst₂, ℕ, ◌≤◌, ◌⊎◌, inl, inr, Bool, true, false}
use Rattle.std.proofs.Common.{[], ◌∷◌, ◌++◌, ⊎_elim}
use Rattle.std.proofs.Common.{Option, Some, None, is_some, unwrap_or, if◌then◌else◌}
use Rattle.std.specs.BTreeMap.{is_at}
use Rattle.std.specs.Cmp.Lexicographic.{slice_cmp}
use Rattle.std.specs.List.{AllByRecursion, filter}
use Rattle.std.specs.Map.{lookup, set_value}
use Rattle.std.specs.Ordering.{nat_cmp}
use Rattle.std.proofs.lemmas.Bool.{both_ways, cases_Bool, cond-true, cond-false, not_from_false}
use Rattle.fdb_keys.specs.Points.{Point, point_lt}
use Rattle.fdb_keys.specs.Texts.{is_bound}
use Rattle.fdb_keys.proofs.Exports.{lt_one_way, lt_le_chain, lt-itself}
use Rattle.fdb_interval.specs.Breakpoints.{Breaks, value_from, last_value, breaks_before, AreRising}
use Rattle.fdb_interval.proofs.Exports.{sift, all-sift, cut_in_two, cut_within, cut_from, cut_beyond, at-is}
use Rattle.fdb_interval.proofs.Exports.{value-append, value-reached, before, from, up_to, beyond, at, absorbed, taken}
use Rattle.fdb_interval.proofs.Exports.{taken-other, taken-passing, rising-taken, at_itself, all_left, found-at}
use Rattle.fdb_interval.proofs.Exports.{none-at}
use Rattle.fdb_owners.specs.declared.history.History.{History}
use Rattle.fdb_owners.specs.Histories.{owner_in, AreFalling, IsHistory}
use Rattle.fdb_owners.specs.declared.pieces.Pieces.{Pieces}
use Rattle.fdb_owners.specs.Pieces.{history_at, AgreeFrom, HaveHistories, KeepHistories}
use Rattle.fdb_owners.proofs.SplitLemmas.{value-holds}

-- from the floor on both histories have the same owners
abbrev pub Agree : ℕ → History → History → Type 0
Agree floor old new = (v : ℕ) → floor ≤ v → owner_in new v ≡ owner_in old v

agree-itself : (floor : ℕ) (history : History) → Agree floor history history
agree-itself floor history v from = refl

-- ---- the breakpoints before a point, at it, and behind it
three_parts : {V : Type 0} (x : Point) (es : Breaks V) → AreRising es
    → es ≡ sift (before x) es ++ (sift (at x) es ++ sift (beyond x) es)
three_parts {V} x es rising =
    cut_in_two (before x) (from x) (cut_from x) es rising
    ∙ ap (λ (l : Breaks V). sift (before x) es ++ l)
    (cut_within (from x) (up_to x) (beyond x) (at x) (beyond x) (cut_beyond x) (at-is x)
    (λ y. absorbed _ _ (λ after. not_from_false _ (lt_one_way x y after))) es rising)

-- of those at the point there is none, or one alone
at_alone : {V : Type 0} (start : V) (x : Point) (es : Breaks V) → AreRising es
    → (sift (at x) es ≡ []) ⊎ (sift (at x) es ≡ (x, value_from start es x) ∷ [])
at_alone {V} start x es rising = by_what_is_found (lookup (is_at (slice_cmp nat_cmp x)) es) refl
  where
    by_what_is_found : (found : Option V) → lookup (is_at (slice_cmp nat_cmp x)) es ≡ found
        → (sift (at x) es ≡ []) ⊎ (sift (at x) es ≡ (x, value_from start es x) ∷ [])
    by_what_is_found None is = inl (none-at x es is)
    by_what_is_found (Some value) is = inr (found-at start x es rising (ap is_some is))

-- without the one at the point, the others are left
others_left : {V : Type 0} (start : V) (x : Point) (es : Breaks V) → AreRising es
    → taken x es ≡ sift (before x) es ++ sift (beyond x) es
others_left {V} start x es rising =
    three_parts x (taken x es) (rising-taken x es rising)
    ∙ (λ i. taken-other (before x) x (lt-itself x) es i ++ (none_there i
    ++ taken-other (beyond x) x (lt-itself x) es i))
  where
    none_there : sift (at x) (taken x es) ≡ []
    none_there =
        taken-passing (at x) x (at_itself x) es
        ∙ ⊎_elim (λ none. ap (taken x) none) (λ one. ap (taken x) one ∙ cond-true _ _ _ (at_itself x))
        (at_alone start x es rising)

-- ---- histories that agree
agree-after : (floor : ℕ) (old new : History) → Agree floor old new → (es : Breaks History) (y : Point)
    → Agree floor (value_from old es y) (value_from new es y)
agree-after floor old new agree [] y = agree
agree-after floor old new agree (e ∷ es) y = by_side (point_lt y e.0) (agree-after floor old new agree es y)
  where
    by_side : (sooner : Bool) → Agree floor (value_from old es y) (value_from new es y)
        → Agree floor (value_from (if sooner then old else e.1) es y) (value_from (if sooner then new else e.1) es y)
    by_side true others = others
    by_side false others = agree-itself floor (value_from e.1 es y)

-- the history at the point has the owners that the one before it has
pub taken-agrees : (floor : ℕ) (start : History) (x : Point) (es : Breaks History) → AreRising es
    → Agree floor (value_from start es x) (last_value start (breaks_before x es)) → (y : Point)
    → Agree floor (value_from start es y) (value_from start (taken x es) y)
taken-agrees floor start x es rising same y =
    subst₂ (Agree floor)
    (sym (ap (λ l. value_from start l y) (three_parts x es rising)
    ∙ value-append start front (one ++ back) y
    ∙ value-append (value_from start front y) one back y))
    (sym (ap (λ l. value_from start l y) (others_left start x es rising) ∙ value-append start front back y))
    (agree-after floor _ _ here back y)
  where
    front : Breaks History
    front = sift (before x) es

    one : Breaks History
    one = sift (at x) es

    back : Breaks History
    back = sift (beyond x) es

    by_side : (sooner : Bool) → point_lt y x ≡ sooner
        → Agree floor (if sooner then value_from start front y else value_from start es x) (value_from start front y)
    by_side true is = agree-itself floor (value_from start front y)
    by_side false is =
        subst (Agree floor (value_from start es x))
        (sym (value-reached start front y (all-sift (before x) (λ z. point_lt y z ≡ false)
        (λ z sooner. lt_one_way z y (lt_le_chain z x y sooner is)) es)))
        same

    here : Agree floor (value_from (value_from start front y) one y) (value_from start front y)
    here = ⊎_elim
        (λ none.
        subst (λ l. Agree floor (value_from (value_from start front y) l y) (value_from start front y)) (sym none)
        (agree-itself floor (value_from start front y)))
        (λ alone.
        subst (λ l. Agree floor (value_from (value_from start front y) l y) (value_from start front y)) (sym alone)
        (by_side (point_lt y x) refl))
        (at_alone start x es rising)

-- so has a history in place of the one at the point
pub set-agrees : (floor : ℕ) (x : Point) (old new : History) → Agree floor old new → (es : Breaks History)
    → lookup (is_at (slice_cmp nat_cmp x)) es ≡ Some old → (start : History) (y : Point)
    → Agree floor (value_from start es y) (value_from start (set_value (is_at (slice_cmp nat_cmp x)) es new) y)
set-agrees floor x old new agree [] found start y = agree-itself floor start
set-agrees floor x old new agree (e ∷ es) found start y = ⊎_elim
    (λ here.
    subst (λ l. Agree floor (value_from start (e ∷ es) y) (value_from start l y)) (sym (cond-true _ _ _ here))
    (by_side (point_lt y e.0)
    (subst (λ (history : History). Agree floor history new) (sym (taken_from (sym (cond-true _ _ _ here)
    ∙ found))) agree)))
    (λ elsewhere.
    subst (λ l. Agree floor (value_from start (e ∷ es) y) (value_from start l y)) (sym (cond-false _ _ _ elsewhere))
    (set-agrees floor x old new agree es (sym (cond-false _ _ _ elsewhere) ∙ found)
    (if point_lt y e.0 then start else e.1) y))
    (cases_Bool (at x e.0))
  where
    taken_from : Some e.1 ≡ Some old → e.1 ≡ old
    taken_from is = ap (λ (o : Option History). unwrap_or o old) is

    by_side : (sooner : Bool) → Agree floor e.1 new
        → Agree floor (value_from (if sooner then start else e.1) es y)
        (value_from (if sooner then start else new) es y)
    by_side true same = agree-itself floor (value_from start es y)
    by_side false same = agree-after floor e.1 new same es y

pub all-set : (P : Point × History → Type 0) (x : Point) (old new : History)
    → ((y : Point) → P (y, old) → P (y, new)) → (es : Breaks History)
    → lookup (is_at (slice_cmp nat_cmp x)) es ≡ Some old → AllByRecursion P es
    → AllByRecursion P (set_value (is_at (slice_cmp nat_cmp x)) es new)
all-set P x old new goes_on [] found all = tt
all-set P x old new goes_on (e ∷ es) found all = ⊎_elim
    (λ here.
    subst (AllByRecursion P) (sym (cond-true _ _ _ here)) (
      goes_on e.0 (subst (λ (history : History). P (e.0, history)) (taken_from (sym (cond-true _ _ _ here)
          ∙ found)) all.0),
      all.1,
    ))
    (λ elsewhere.
    subst (AllByRecursion P) (sym (cond-false _ _ _ elsewhere))
    (all.0, all-set P x old new goes_on es (sym (cond-false _ _ _ elsewhere) ∙ found) all.1))
    (cases_Bool (at x e.0))
  where
    taken_from : Some e.1 ≡ Some old → e.1 ≡ old
    taken_from is = ap (λ (o : Option History). unwrap_or o old) is

-- ---- what holds of each history
last-holds : (P : History → Type 0) (start : History) (p : Point × History → Bool) (es : Breaks History) → P start
    → AllByRecursion (λ (piece : Point × History). P piece.1) es → P (last_value start (filter p es))
last-holds P start p [] of_start all = of_start
last-holds P start p (e ∷ es) of_start all =
    by_test (p e) (last-holds P start p es of_start all.1) (last-holds P e.1 p es all.0 all.1)
  where
    by_test : (passes : Bool) → P (last_value start (filter p es)) → P (last_value e.1 (filter p es))
        → P (last_value start (if passes then e ∷ filter p es else filter p es))
    by_test true without_it with_it = with_it
    by_test false without_it with_it = without_it

falling-all : (resolvers last : ℕ) (es : Breaks History)
    → AllByRecursion (λ (piece : Point × History). (is_bound piece.0 ≡ true) × IsHistory resolvers last piece.1) es
    → AllByRecursion (λ (piece : Point × History). AreFalling piece.1.changes) es
falling-all resolvers last [] all = tt
falling-all resolvers last (e ∷ es) all = (all.0.1.falling, falling-all resolvers last es all.1)

pub falling-at : (pieces : Pieces) → HaveHistories pieces → (x : Point) → AreFalling (history_at pieces x).changes
falling-at pieces has x =
    value-holds (λ history. AreFalling history.changes) pieces.lowest pieces.breaks.entries x has.2.lowest.falling
    (falling-all has.0 has.1 pieces.breaks.entries has.2.breaks)

pub falling-before : (pieces : Pieces) → HaveHistories pieces → (x : Point)
    → AreFalling (last_value pieces.lowest (breaks_before x pieces.breaks.entries)).changes
falling-before pieces has x =
    last-holds (λ history. AreFalling history.changes) pieces.lowest _ pieces.breaks.entries has.2.lowest.falling
    (falling-all has.0 has.1 pieces.breaks.entries has.2.breaks)

-- ---- pieces with the breakpoint at a point changed
all-holds : (P : History → Type 0) (x : Point) (found : History) (es : Breaks History)
    → lookup (is_at (slice_cmp nat_cmp x)) es ≡ Some found
    → AllByRecursion (λ (piece : Point × History). P piece.1) es → P found
all-holds P x found [] is all = absurd (both_ways _ refl (ap is_some is))
all-holds P x found (e ∷ es) is all = ⊎_elim
    (λ here. subst P (ap (λ (o : Option History). unwrap_or o found) (sym (cond-true _ _ _ here) ∙ is)) all.0)
    (λ elsewhere. all-holds P x found es (sym (cond-false _ _ _ elsewhere) ∙ is) all.1)
    (cases_Bool (at x e.0))

pub found-falling : (pieces : Pieces) → HaveHistories pieces → (x : Point) (found : History)
    → lookup (is_at (slice_cmp nat_cmp x)) pieces.breaks.entries ≡ Some found → AreFalling found.changes
found-falling pieces has x found is =
    all-holds (λ history. AreFalling history.changes) x found pieces.breaks.entries is
    (falling-all has.0 has.1 pieces.breaks.entries has.2.breaks)

-- a piece between two breakpoints, of so many resolvers up to the last version
abbrev pub IsPiece : ℕ → ℕ → Point × History → Type 0
IsPiece resolvers last piece = (is_bound piece.0 ≡ true) × IsHistory resolvers last piece.1

pub taken-kept : (resolvers last : ℕ) (x : Point) (es : Breaks History) → AllByRecursion (IsPiece resolvers last) es
    → AllByRecursion (IsPiece resolvers last) (taken x es)
taken-kept resolvers last x es all = all_left (IsPiece resolvers last) x es all

pub set-kept : (resolvers last : ℕ) (x : Point) (old new : History)
    → (IsHistory resolvers last old → IsHistory resolvers last new)
    → (es : Breaks History) → lookup (is_at (slice_cmp nat_cmp x)) es ≡ Some old
    → AllByRecursion (IsPiece resolvers last) es
    → AllByRecursion (IsPiece resolvers last) (set_value (is_at (slice_cmp nat_cmp x)) es new)
set-kept resolvers last x old new goes_on es found all =
    all-set (IsPiece resolvers last) x old new (λ y piece. (piece.0, goes_on piece.1)) es found all

-- ---- a sweep so far: from the floor on, all points have the owners that they had at its start
pub record IsSwept (floor : ℕ) (start pieces : Pieces) : Type 0 where
  pub has : HaveHistories pieces
  pub agree : AgreeFrom floor start pieces
  pub kept : KeepHistories start pieces
  pub rising : AreRising start.breaks.entries → AreRising pieces.breaks.entries

pub swept-not : (floor : ℕ) (start : Pieces) → HaveHistories start → IsSwept floor start start
swept-not floor start has = record {
  has = has;
  agree = λ x v from. refl;
  kept = λ resolvers last pieces. pieces;
  rising = λ rising. rising;
}

pub swept-further : (floor : ℕ) (start old new : Pieces) → IsSwept floor start old → AgreeFrom floor old new
    → KeepHistories old new → AreRising new.breaks.entries → IsSwept floor start new
swept-further floor start old new swept agree kept rising = record {
  has = (swept.has.0, swept.has.1, kept swept.has.0 swept.has.1 swept.has.2);
  agree = λ x v from. agree x v from ∙ swept.agree x v from;
  kept = λ resolvers last pieces. kept resolvers last (swept.kept resolvers last pieces);
  rising = λ before. rising;
}
