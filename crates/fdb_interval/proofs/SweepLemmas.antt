-- What is left once a dead breakpoint is taken out.
use Rattle.std.proofs.Common.{◌≡◌, ◌∙◌, sym, ap, refl, subst, ℕ, ◌≤◌, max, nat_le, true, false, not, ◌&&◌, List}
use Rattle.std.proofs.Common.{[], ◌∷◌, ◌++◌, ⊎_elim, Less, Equal, Greater, append_assoc, if◌then◌else◌, arith, Bool}
use Rattle.std.specs.BTreeMap.Range.{entries_between, range_contains}
use Rattle.std.specs.Cmp.Lexicographic.{slice_cmp}
use Rattle.std.specs.List.{filter}
use Rattle.std.specs.Ordering.{nat_cmp, is_le, is_lt, ordering_reverse}
use Rattle.std.specs.declared.cmp.Ordering.{Ordering}
use Rattle.std.specs.declared.ops.Bound.TheVariants.{Included, Unbounded}
use Rattle.std.proofs.lemmas.Bool.{cases_Bool, cond-true, cond-false, leb-true}
use Rattle.std.proofs.lemmas.Cmp.{nat_list_cmp_total}
use Rattle.fdb_keys.specs.Points.{Point, point_lt}
use Rattle.fdb_keys.proofs.Exports.{all-parts, lt_le_chain, lt_one_way}
use Rattle.fdb_interval.specs.Breakpoints.{Breaks, value_from, last_value, breaks_before, AreRising, AreJoined}
use Rattle.fdb_interval.specs.Breakpoints.{dead_of, IsWalk}
use Rattle.fdb_keys.specs.RangeMaps.{without_points}
use Rattle.fdb_interval.proofs.BreaksLemmas.{all_imply, cut_in_two, cut_from, before, from, last-append, value-append}
use Rattle.fdb_interval.proofs.BreaksLemmas.{value-reached, all_sooner}
use Rattle.fdb_interval.proofs.JoinedLemmas.{joined-front, joined-back, joined-both}
use Rattle.fdb_interval.proofs.PartsLemmas.{taken, at_itself, at_after, rising-taken}
use Rattle.fdb_interval.proofs.VersionsLemmas.{above, above-older}

-- a breakpoint whose version and the one before it are up to the floor
abbrev IsDead : ℕ → Breaks ℕ → Point → Type 0
IsDead floor breaks x =
    (front : Breaks ℕ) × (version : ℕ) × (back : Breaks ℕ) × (breaks ≡ front ++ (x, version) ∷ back)
    × (last_value 0 front ≤ floor) × (version ≤ floor)

-- ---- where a walk begins
from-is : (x y : Point) → range_contains (slice_cmp nat_cmp) (Included x) Unbounded y ≡ from x y
unfolding point_lt
from-is x y =
    at_or_after (slice_cmp nat_cmp x y) ∙ sym (ap (λ o. not (is_lt o)) (nat_list_cmp_total.antisymm y x))
  where
    at_or_after : (o : Ordering) → (is_le o && not false) ≡ not (is_lt (ordering_reverse o))
    at_or_after Less = refl
    at_or_after Equal = refl
    at_or_after Greater = refl

pub looked_from : (x : Point) (es : Breaks ℕ) → AreRising es
    → es ≡ breaks_before x es ++ entries_between (slice_cmp nat_cmp) (Included x) Unbounded es
looked_from x es rising =
    cut_in_two (before x) (from x) (cut_from x) es rising
    ∙ sym (λ i. breaks_before x es ++ filter (λ (entry : Point × ℕ). from-is x entry.0 i) es)

-- ---- what a dead breakpoint leaves
taken-is : (front : Breaks ℕ) (x : Point) (version : ℕ) (back : Breaks ℕ) → AreRising (front ++ (x, version) ∷ back)
    → taken x (front ++ (x, version) ∷ back) ≡ front ++ back
taken-is [] x version back rising = cond-true _ _ _ (at_itself x)
taken-is (f ∷ front) x version back rising =
    let sooner =
    (all-parts (λ (later : Point × ℕ). point_lt f.0 later.0 ≡ true) front ((x, version) ∷ back) rising.0).1.0 in
    cond-false _ _ _ (at_after x f.0 sooner) ∙ ap (λ (l : Breaks ℕ). f ∷ l) (taken-is front x version back rising.1)

-- of two versions up to the floor, either may come before
low-start : (floor low other : ℕ) (es : Breaks ℕ) (y : Point) → low ≤ floor → other ≤ floor
    → above floor (value_from low es y) ≡ above floor (value_from other es y)
low-start floor low other [] y is_low is_low_too =
    above-older floor low is_low ∙ sym (above-older floor other is_low_too)
low-start floor low other (e ∷ es) y is_low is_low_too = ⊎_elim
    (λ after.
    ap (λ n. above floor (value_from n es y)) (cond-true _ _ _ after)
    ∙ low-start floor low other es y is_low is_low_too
    ∙ sym (ap (λ n. above floor (value_from n es y)) (cond-true _ _ _ after)))
    (λ reached.
    ap (λ n. above floor (value_from n es y)) (cond-false _ _ _ reached)
    ∙ sym (ap (λ n. above floor (value_from n es y)) (cond-false _ _ _ reached)))
    (cases_Bool (point_lt y e.0))

low-joined : (floor low other : ℕ) (es : Breaks ℕ) → other ≤ floor → AreJoined floor low es → AreJoined floor other es
low-joined floor low other [] is_low joined = tt
low-joined floor low other (e ∷ es) is_low joined =
    ((λ newer same. omega (arith, newer, same, is_low)), joined.1)

version-without : (floor : ℕ) (front : Breaks ℕ) (x : Point) (version : ℕ) (back : Breaks ℕ) (y : Point)
    → AreRising (front ++ (x, version) ∷ back) → last_value 0 front ≤ floor → version ≤ floor
    → above floor (value_from 0 (front ++ back) y) ≡ above floor (value_from 0 (front ++ (x, version) ∷ back) y)
version-without floor front x version back y rising before_low low =
    let start = value_from 0 front y in
    ap (above floor) (value-append 0 front back y)
    ∙ ⊎_elim
    (λ sooner. sym (ap (λ n. above floor (value_from n back y)) (cond-true _ _ _ sooner)))
    (λ reached.
    let all_reached = all_imply (λ f. point_lt f.0 x ≡ true) (λ f. point_lt y f.0 ≡ false)
    (λ f before_x. lt_one_way f.0 y (lt_le_chain f.0 x y before_x reached)) front
    (all_sooner front (x, version) back rising) in
    let is : start ≡ last_value 0 front = value-reached 0 front y all_reached in
    low-start floor start version back y (subst (λ (n : ℕ). n ≤ floor) (sym is) before_low) low
    ∙ sym (ap (λ n. above floor (value_from n back y)) (cond-false _ _ _ reached)))
    (cases_Bool (point_lt y x))
    ∙ sym (ap (above floor) (value-append 0 front ((x, version) ∷ back) y))

pub version-swept : (floor : ℕ) (es : Breaks ℕ) (x y : Point) → AreRising es → IsDead floor es x
    → above floor (value_from 0 (taken x es) y) ≡ above floor (value_from 0 es y)
version-swept floor es x y rising dead =
    let still : AreRising (dead.0 ++ (x, dead.1) ∷ dead.2) = subst AreRising dead.3 rising in
    ap (λ (l : Breaks ℕ). above floor (value_from 0 l y)) (ap (taken x) dead.3 ∙ taken-is dead.0 x dead.1 dead.2 still)
    ∙ version-without floor dead.0 x dead.1 dead.2 y still dead.4 dead.5
    ∙ sym (ap (λ (l : Breaks ℕ). above floor (value_from 0 l y)) dead.3)

pub joined-swept : (floor : ℕ) (es : Breaks ℕ) (x : Point) → AreRising es → IsDead floor es x → AreJoined floor 0 es
    → AreJoined floor 0 (taken x es)
joined-swept floor es x rising dead joined =
    let still : AreRising (dead.0 ++ (x, dead.1) ∷ dead.2) = subst AreRising dead.3 rising in
    let parts : AreJoined floor 0 (dead.0 ++ (x, dead.1) ∷ dead.2) = subst (AreJoined floor 0) dead.3 joined in
    let back = (joined-back floor 0 dead.0 ((x, dead.1) ∷ dead.2) parts).1 in
    subst (AreJoined floor 0) (sym (ap (taken x) dead.3 ∙ taken-is dead.0 x dead.1 dead.2 still))
    (joined-both floor 0 dead.0 dead.2 (joined-front floor 0 dead.0 ((x, dead.1) ∷ dead.2) parts)
    (low-joined floor dead.1 (last_value 0 dead.0) dead.2 dead.4 back))

low-last : (floor low other : ℕ) (es : Breaks ℕ) → other ≤ floor → last_value low es ≤ floor
    → last_value other es ≤ floor
low-last floor low other [] is_low last = is_low
low-last floor low other (e ∷ es) is_low last = last

pub last-swept : (floor : ℕ) (es : Breaks ℕ) (x : Point) → AreRising es → IsDead floor es x → last_value 0 es ≤ floor
    → last_value 0 (taken x es) ≤ floor
last-swept floor es x rising dead low =
    let still : AreRising (dead.0 ++ (x, dead.1) ∷ dead.2) = subst AreRising dead.3 rising in
    let before : last_value 0 es ≡ last_value dead.1 dead.2 =
    ap (last_value 0) dead.3 ∙ last-append 0 dead.0 ((x, dead.1) ∷ dead.2) in
    let after : last_value 0 (taken x es) ≡ last_value (last_value 0 dead.0) dead.2 =
    ap (last_value 0) (ap (taken x) dead.3 ∙ taken-is dead.0 x dead.1 dead.2 still)
    ∙ last-append 0 dead.0 dead.2 in
    subst (λ (n : ℕ). n ≤ floor) (sym after)
    (low-last floor dead.1 (last_value 0 dead.0) dead.2 dead.4 (subst (λ (n : ℕ). n ≤ floor) before low))

-- ---- what a walk leaves
pub record Keeps (floor : ℕ) (es after : Breaks ℕ) : Type 0 where
  pub versions : (y : Point) → above floor (value_from 0 after y) ≡ above floor (value_from 0 es y)
  pub joined : AreJoined floor 0 es → AreJoined floor 0 after
  pub last : last_value 0 es ≤ floor → last_value 0 after ≤ floor

keeps-dead : (floor : ℕ) (es after rest : Breaks ℕ) (x : Point) → AreRising es → IsDead floor es x → taken x es ≡ after
    → Keeps floor after rest → Keeps floor es rest
keeps-dead floor es after rest x rising dead is keeps = record {
  versions = λ y.
      keeps.versions y
      ∙ ap (λ (l : Breaks ℕ). above floor (value_from 0 l y)) (sym is)
      ∙ version-swept floor es x y rising dead;
  joined = λ joined. keeps.joined (subst (AreJoined floor 0) is (joined-swept floor es x rising dead joined));
  last = λ low.
      keeps.last (subst (λ (l : Breaks ℕ). last_value 0 l ≤ floor) is (last-swept floor es x rising dead low));
}

keeps_itself : (floor : ℕ) (es : Breaks ℕ) → Keeps floor es es
keeps_itself floor es = record { versions = λ y. refl; joined = λ joined. joined; last = λ low. low }

-- what is seen is taken out where it is dead, and what comes before it and behind it stays
keeps-seen : (floor held : ℕ) (front seen back : Breaks ℕ) → AreRising (front ++ (seen ++ back))
    → (held ≤ floor → last_value 0 front ≤ floor)
    → Keeps floor (front ++ (seen ++ back)) (without_points (dead_of floor held seen) (front ++ (seen ++ back)))
keeps-seen floor held front [] back rising low = keeps_itself floor (front ++ back)
keeps-seen floor held front (e ∷ seen) back rising low = ⊎_elim
    (λ dead.
    let both : max held e.1 ≤ floor = leb-true _ _ dead in
    let low_held = low (omega (arith, both)) in
    let left : taken e.0 (front ++ (e ∷ (seen ++ back))) ≡ front ++ (seen ++ back) =
    taken-is front e.0 e.1 (seen ++ back) rising in
    let others = keeps-seen floor e.1 front seen back
    (subst AreRising left (rising-taken e.0 (front ++ (e ∷ (seen ++ back))) rising)) (λ same. low_held) in
    subst (λ (l : List Point). Keeps floor (front ++ (e ∷ (seen ++ back)))
    (without_points l (front ++ (e ∷ (seen ++ back)))))
    (sym (cond-true _ _ _ dead))
    (subst (λ (l : Breaks ℕ). Keeps floor (front ++ (e ∷ (seen ++ back))) (without_points (dead_of floor e.1 seen) l))
    (sym left)
    (keeps-dead floor (front ++ (e ∷ (seen ++ back))) (front ++ (seen ++ back)) _ e.0 rising
    (front, e.1, seen ++ back, refl, low_held, omega (arith, both)) left others)))
    (λ alive.
    let same : (front ++ e ∷ []) ++ (seen ++ back) ≡ front ++ (e ∷ (seen ++ back)) =
    append_assoc front (e ∷ []) (seen ++ back) in
    let others = keeps-seen floor e.1 (front ++ e ∷ []) seen back (subst AreRising (sym same) rising)
    (λ is_low. subst (λ (n : ℕ). n ≤ floor) (sym (last-append 0 front (e ∷ []))) is_low) in
    subst (λ (l : List Point). Keeps floor (front ++ (e ∷ (seen ++ back)))
    (without_points l (front ++ (e ∷ (seen ++ back)))))
    (sym (cond-false _ _ _ alive))
    (subst (λ (l : Breaks ℕ). Keeps floor l (without_points (dead_of floor e.1 seen) l)) same others))
    (cases_Bool (nat_le (max held e.1) floor))

pub walk-keeps : (floor : ℕ) (from : Point) (es : Breaks ℕ) (dead : List Point) (after : Breaks ℕ) → AreRising es
    → IsWalk floor from es dead → after ≡ without_points dead es → Keeps floor es after
walk-keeps floor from es dead after rising walk is =
    let front = breaks_before from es in
    let start = last_value 0 front in
    let parts = walk.2 in
    subst (λ (l : Breaks ℕ). Keeps floor es l)
    (sym (is ∙ ap (λ (l : List Point). without_points l es) walk.3))
    (subst (λ (l : Breaks ℕ). Keeps floor l (without_points (dead_of floor start walk.0) l)) (sym parts)
    (keeps-seen floor start front walk.0 walk.1 (subst AreRising parts rising) (λ low. low)))

-- ---- the steps of a walk
dead_of-append : (floor before : ℕ) (seen : Breaks ℕ) (e : Point × ℕ)
    → dead_of floor before (seen ++ e ∷ [])
    ≡ dead_of floor before seen ++ (if nat_le (max (last_value before seen) e.1) floor then e.0 ∷ [] else [])
dead_of-append floor before [] e = refl
dead_of-append floor before (f ∷ seen) e =
    ap (λ (l : List Point). if nat_le (max before f.1) floor then f.0 ∷ l else l) (dead_of-append floor f.1 seen e)
    ∙ either (nat_le (max before f.1) floor) f.0 (dead_of floor f.1 seen) _
  where
    either : (t : Bool) (x : Point) (l m : List Point)
        → (if t then x ∷ (l ++ m) else l ++ m) ≡ (if t then x ∷ l else l) ++ m
    either true x l m = refl
    either false x l m = refl

-- what is seen so far, what is dead of it, and the version right before what is left
pub record IsWalking (floor : ℕ) (from : Point) (es rest : Breaks ℕ) (dead : List Point) (before : ℕ) : Type 0 where
  pub seen : Breaks ℕ
  pub are : es ≡ breaks_before from es ++ (seen ++ rest)
  pub dead_are : dead ≡ dead_of floor (last_value 0 (breaks_before from es)) seen
  pub last : before ≡ last_value (last_value 0 (breaks_before from es)) seen

pub walking-begins : (floor : ℕ) (from : Point) (es rest : Breaks ℕ) (before : ℕ) → AreRising es
    → rest ≡ entries_between (slice_cmp nat_cmp) (Included from) Unbounded es
    → before ≡ last_value 0 (breaks_before from es) → IsWalking floor from es rest [] before
walking-begins floor from es rest before rising is last = record {
  seen = [];
  are = looked_from from es rising ∙ ap (λ (l : Breaks ℕ). breaks_before from es ++ l) (sym is);
  dead_are = refl;
  last = last;
}

pub walking-on : (floor : ℕ) (from : Point) (es rest left : Breaks ℕ) (dead more : List Point) (before : ℕ)
    (e : Point × ℕ) → IsWalking floor from es rest dead before → rest ≡ e ∷ left
    → more ≡ dead ++ (if nat_le (max before e.1) floor then e.0 ∷ [] else [])
    → IsWalking floor from es left more e.1
walking-on floor from es rest left dead more before e walking steps is =
    let start = last_value 0 (breaks_before from es) in
    record {
      seen = walking.seen ++ e ∷ [];
      are = walking.are
          ∙ ap (λ (l : Breaks ℕ). breaks_before from es ++ (walking.seen ++ l)) steps
          ∙ ap (λ (l : Breaks ℕ). breaks_before from es ++ l) (sym (append_assoc walking.seen (e ∷ []) left));
      dead_are = is
          ∙ (λ i. walking.dead_are i ++ (if nat_le (max (walking.last i) e.1) floor then e.0 ∷ [] else []))
          ∙ sym (dead_of-append floor start walking.seen e);
      last = sym (last-append start walking.seen (e ∷ []));
    }
