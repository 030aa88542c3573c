-- What is left of the breakpoints once each point of a range has one version.
use Rattle.std.proofs.Common.{◌≡◌, ◌∙◌, sym, ap, refl, subst, ℕ, Bool, true, false, ◌&&◌, ◌==◌, List, [], ◌∷◌, ◌++◌}
use Rattle.std.proofs.Common.{⊎_elim, is_some, if◌then◌else◌}
use Rattle.std.specs.BTreeMap.{is_at}
use Rattle.std.specs.Cmp.Lexicographic.{slice_cmp}
use Rattle.std.specs.List.{AllByRecursion}
use Rattle.std.specs.Map.{keys_of, lookup}
use Rattle.std.specs.Ordering.{nat_cmp}
use Rattle.std.proofs.lemmas.Bool.{cases_Bool, both_ways, cond-true, cond-false, eqb-true, eq-eqb, not-true, and_parts}
use Rattle.std.proofs.lemmas.Bool.{and_left, not_from_true, not_from_false}
use Rattle.fdb_keys.specs.Points.{Point, point_lt}
use Rattle.fdb_keys.specs.Ranges.{Range, in_range}
use Rattle.fdb_keys.proofs.Exports.{lt-itself, lt_one_way, lt_chain, lt_le_chain}
use Rattle.fdb_interval.specs.Breakpoints.{Breaks, value_from, last_value, breaks_before, breaks_inside}
use Rattle.fdb_interval.specs.Breakpoints.{AreRising, AreJoined}
use Rattle.fdb_keys.specs.RangeMaps.{without_points}
use Rattle.fdb_interval.proofs.BreaksLemmas.{sift, before, from, up_to, beyond, at, inside, inside-is, all-sift}
use Rattle.fdb_interval.proofs.BreaksLemmas.{five_parts}
use Rattle.fdb_interval.proofs.BreaksLemmas.{cut_in_two, cut_from, cut_beyond, value-append, value-after}
use Rattle.fdb_interval.proofs.BreaksLemmas.{last-append, value-reached, value-by-last, value-before, value-behind}
use Rattle.fdb_interval.proofs.JoinedLemmas.{joined-front, joined-back, joined-both}
use Rattle.fdb_interval.proofs.PartsLemmas.{put, taken, at_itself, at_before, at_after, put-other, put-at, rising-put}
use Rattle.fdb_interval.proofs.PartsLemmas.{taken-other, taken-passing, without-other, without-passing, without-all}
use Rattle.fdb_interval.proofs.PartsLemmas.{keys_all, found-at, rising-taken, rising-without}

-- one breakpoint, unless it is joined with its neighbour
abbrev pub unless_joined : Bool → Point → ℕ → Breaks ℕ
unless_joined joined x version = if joined then [] else (x, version) ∷ []

abbrev pub taken_if : Bool → Point → Breaks ℕ → Breaks ℕ
taken_if joined x es = if joined then taken x es else es

taken_if-other : (p : Point → Bool) (joined : Bool) (x : Point) (es : Breaks ℕ) → p x ≡ false
    → sift p (taken_if joined x es) ≡ sift p es
taken_if-other p true x es fails = taken-other p x fails es
taken_if-other p false x es fails = refl

taken_if-at : (joined : Bool) (x : Point) (version : ℕ) (es : Breaks ℕ) → sift (at x) es ≡ (x, version) ∷ []
    → sift (at x) (taken_if joined x es) ≡ unless_joined joined x version
taken_if-at true x version es one =
    taken-passing (at x) x (at_itself x) es ∙ ap (taken x) one ∙ cond-true _ _ _ (at_itself x)
taken_if-at false x version es one = one

rising-taken_if : (joined : Bool) (x : Point) (es : Breaks ℕ) → AreRising es → AreRising (taken_if joined x es)
rising-taken_if true x es rising = rising-taken x es rising
rising-taken_if false x es rising = rising

all_unless : (P : Point → Type 0) (joined : Bool) (x : Point) (version : ℕ) → P x
    → AllByRecursion (λ (e : Point × ℕ). P e.0) (unless_joined joined x version)
all_unless P true x version of_x = tt
all_unless P false x version of_x = (of_x, tt)

-- it is there just where it changes the version
last-begin : (start version : ℕ) (x : Point)
    → last_value start (unless_joined (start == version) x version) ≡ version
last-begin start version x = ⊎_elim
    (λ same.
    ap (last_value start) (cond-true (start == version) [] ((x, version) ∷ []) same) ∙ eqb-true _ _ same)
    (λ differ. ap (last_value start) (cond-false (start == version) [] ((x, version) ∷ []) differ))
    (cases_Bool (start == version))

last-end : (version behind : ℕ) (x : Point)
    → last_value version (unless_joined (behind == version) x behind) ≡ behind
last-end version behind x = ⊎_elim
    (λ same.
    ap (last_value version) (cond-true (behind == version) [] ((x, behind) ∷ []) same) ∙ sym (eqb-true _ _ same))
    (λ differ. ap (last_value version) (cond-false (behind == version) [] ((x, behind) ∷ []) differ))
    (cases_Bool (behind == version))

joined-begin : (floor start version : ℕ) (x : Point)
    → AreJoined floor start (unless_joined (start == version) x version)
joined-begin floor start version x = ⊎_elim
    (λ same. subst (AreJoined floor start) (sym (cond-true (start == version) [] ((x, version) ∷ []) same)) tt)
    (λ differ. subst (AreJoined floor start) (sym (cond-false (start == version) [] ((x, version) ∷ []) differ))
    ((λ above is. both_ways _ differ (eq-eqb _ _ (sym is))), tt))
    (cases_Bool (start == version))

joined-end : (floor version behind : ℕ) (x : Point)
    → AreJoined floor version (unless_joined (behind == version) x behind)
joined-end floor version behind x = ⊎_elim
    (λ same. subst (AreJoined floor version) (sym (cond-true (behind == version) [] ((x, behind) ∷ []) same)) tt)
    (λ differ. subst (AreJoined floor version) (sym (cond-false (behind == version) [] ((x, behind) ∷ []) differ))
    ((λ above is. both_ways _ differ (eq-eqb _ _ is)), tt))
    (cases_Bool (behind == version))

module _ (old : Breaks ℕ) (range : Range) (version : ℕ) (rising : AreRising old)
    (some : point_lt range.begin range.end ≡ true) where
  abbrev pub behind : ℕ
  behind = value_from 0 old range.end

  abbrev pub start : ℕ
  start = last_value 0 (sift (before range.begin) old)

  -- with a breakpoint at the end
  abbrev pub with_end : Breaks ℕ
  with_end = if is_some (lookup (is_at (slice_cmp nat_cmp range.end)) old) then old else put range.end behind old

  abbrev swallowed : List Point
  swallowed = keys_of (sift (inside range.begin range.end) old)

  -- with the version from the begin up to the end
  abbrev pub cleared : Breaks ℕ
  cleared = without_points swallowed (put range.begin version with_end)

  -- and with equal neighbours joined
  abbrev pub assigned : Breaks ℕ
  assigned = taken_if (behind == version) range.end (taken_if (start == version) range.begin cleared)

  with_end-other : (p : Point → Bool) → p range.end ≡ false → sift p with_end ≡ sift p old
  with_end-other p fails = ⊎_elim
      (λ found. ap (sift p) (cond-true _ _ _ found))
      (λ absent. ap (sift p) (cond-false _ _ _ absent) ∙ put-other p range.end behind fails old)
      (cases_Bool (is_some (lookup (is_at (slice_cmp nat_cmp range.end)) old)))

  with_end-at : sift (at range.end) with_end ≡ (range.end, behind) ∷ []
  with_end-at = ⊎_elim
      (λ found. ap (sift (at range.end)) (cond-true _ _ _ found) ∙ found-at 0 range.end old rising found)
      (λ absent. ap (sift (at range.end)) (cond-false _ _ _ absent) ∙ put-at range.end behind old rising)
      (cases_Bool (is_some (lookup (is_at (slice_cmp nat_cmp range.end)) old)))

  with_end-rising : AreRising with_end
  with_end-rising = ⊎_elim
      (λ found. subst AreRising (sym (cond-true _ _ _ found)) rising)
      (λ absent. subst AreRising (sym (cond-false _ _ _ absent)) (rising-put range.end behind old rising))
      (cases_Bool (is_some (lookup (is_at (slice_cmp nat_cmp range.end)) old)))

  inside_parts : (x : Point) → inside range.begin range.end x ≡ true
      → (point_lt range.begin x ≡ true) × (point_lt x range.end ≡ true)
  inside_parts x within = and_parts _ _ (sym (inside-is range.begin range.end x) ∙ within)

  -- no test that fails inside the range finds what was swallowed
  unswallowed : (p : Point → Bool) → ((x : Point) → inside range.begin range.end x ≡ true → p x ≡ false)
      → (es : Breaks ℕ) → sift p (without_points swallowed es) ≡ sift p es
  unswallowed p fails es = without-other p swallowed
      (keys_all (λ x. p x ≡ false) (sift (inside range.begin range.end) old)
      (all-sift (inside range.begin range.end) (λ x. p x ≡ false) fails old)) es

  cleared-other : (p : Point → Bool) → p range.begin ≡ false → p range.end ≡ false
      → ((x : Point) → inside range.begin range.end x ≡ true → p x ≡ false) → sift p cleared ≡ sift p old
  cleared-other p at_begin at_end fails =
      unswallowed p fails (put range.begin version with_end)
      ∙ put-other p range.begin version at_begin with_end
      ∙ with_end-other p at_end

  cleared-begin : sift (at range.begin) cleared ≡ (range.begin, version) ∷ []
  cleared-begin =
      unswallowed (at range.begin) (λ x within. at_before range.begin x (inside_parts x within).0)
      (put range.begin version with_end)
      ∙ put-at range.begin version with_end with_end-rising

  cleared-end : sift (at range.end) cleared ≡ (range.end, behind) ∷ []
  cleared-end =
      unswallowed (at range.end) (λ x within. at_after range.end x (inside_parts x within).1)
      (put range.begin version with_end)
      ∙ put-other (at range.end) range.begin version (at_after range.end range.begin some) with_end
      ∙ with_end-at

  begin_outside : inside range.begin range.end range.begin ≡ false
  begin_outside = inside-is range.begin range.end range.begin ∙ ap (λ (t : Bool). t && point_lt range.begin range.end)
      (lt-itself range.begin)

  end_outside : inside range.begin range.end range.end ≡ false
  end_outside = inside-is range.begin range.end range.end ∙ ap (λ (t : Bool). t && point_lt range.end range.end) some
      ∙ lt-itself range.end

  cleared-inside : sift (inside range.begin range.end) cleared ≡ []
  cleared-inside =
      without-passing (inside range.begin range.end) swallowed
      (keys_all (λ x. inside range.begin range.end x ≡ true) (sift (inside range.begin range.end) old)
      (all-sift (inside range.begin range.end) (λ x. inside range.begin range.end x ≡ true) (λ x within. within) old))
      (put range.begin version with_end)
      ∙ ap (without_points swallowed)
      (put-other (inside range.begin range.end) range.begin version begin_outside with_end
      ∙ with_end-other (inside range.begin range.end) end_outside)
      ∙ without-all (sift (inside range.begin range.end) old)

  -- ---- once neighbours are joined
  assigned-other : (p : Point → Bool) → p range.begin ≡ false → p range.end ≡ false
      → ((x : Point) → inside range.begin range.end x ≡ true → p x ≡ false) → sift p assigned ≡ sift p old
  assigned-other p at_begin at_end fails =
      taken_if-other p (behind == version) range.end (taken_if (start == version) range.begin cleared) at_end
      ∙ taken_if-other p (start == version) range.begin cleared at_begin
      ∙ cleared-other p at_begin at_end fails

  assigned-before : sift (before range.begin) assigned ≡ sift (before range.begin) old
  assigned-before = assigned-other (before range.begin) (lt-itself range.begin) (lt_one_way range.begin range.end some)
      (λ x within. lt_one_way range.begin x (inside_parts x within).0)

  assigned-beyond : sift (beyond range.end) assigned ≡ sift (beyond range.end) old
  assigned-beyond = assigned-other (beyond range.end) (lt_one_way range.begin range.end some) (lt-itself range.end)
      (λ x within. lt_one_way x range.end (inside_parts x within).1)

  assigned-inside : sift (inside range.begin range.end) assigned ≡ []
  assigned-inside =
      taken_if-other (inside range.begin range.end) (behind == version) range.end
      (taken_if (start == version) range.begin cleared) end_outside
      ∙ taken_if-other (inside range.begin range.end) (start == version) range.begin cleared begin_outside
      ∙ cleared-inside

  assigned-begin : sift (at range.begin) assigned ≡ unless_joined (start == version) range.begin version
  assigned-begin =
      taken_if-other (at range.begin) (behind == version) range.end
      (taken_if (start == version) range.begin cleared) (at_before range.begin range.end some)
      ∙ taken_if-at (start == version) range.begin version cleared cleared-begin

  assigned-end : sift (at range.end) assigned ≡ unless_joined (behind == version) range.end behind
  assigned-end = taken_if-at (behind == version) range.end behind (taken_if (start == version) range.begin cleared)
      (taken_if-other (at range.end) (start == version) range.begin cleared (at_after range.end range.begin some)
      ∙ cleared-end)

  abbrev first : Breaks ℕ
  first = sift (before range.begin) old

  abbrev one : Breaks ℕ
  one = unless_joined (start == version) range.begin version

  abbrev other : Breaks ℕ
  other = unless_joined (behind == version) range.end behind

  abbrev rest : Breaks ℕ
  rest = sift (beyond range.end) old

  still : AreRising assigned
  still = rising-taken_if (behind == version) range.end (taken_if (start == version) range.begin cleared)
      (rising-taken_if (start == version) range.begin cleared
      (rising-without swallowed (put range.begin version with_end)
      (rising-put range.begin version with_end with_end-rising)))

  assigned-is : assigned ≡ first ++ (one ++ (other ++ rest))
  assigned-is = five_parts range.begin range.end some assigned still
      ∙ (λ i. assigned-before i ++ (assigned-begin i ++ (assigned-inside i ++ (assigned-end i ++ assigned-beyond i))))

  -- the version at a point of the range
  version-within : (x : Point) → in_range range x ≡ true → value_from 0 assigned x ≡ version
  version-within x within =
      let parts = and_parts _ _ within in
      let reached : point_lt x range.begin ≡ false = not-true _ parts.0 in
      ap (λ (l : Breaks ℕ). value_from 0 l x) assigned-is
      ∙ value-append 0 first (one ++ (other ++ rest)) x
      ∙ ap (λ n. value_from n (one ++ (other ++ rest)) x)
      (value-reached 0 first x (all-sift (before range.begin) (λ y. point_lt x y ≡ false)
      (λ y sooner. lt_one_way y x (lt_le_chain y range.begin x sooner reached)) old))
      ∙ value-append start one (other ++ rest) x
      ∙ ap (λ n. value_from n (other ++ rest) x)
      (value-reached start one x
      (all_unless (λ y. point_lt x y ≡ false) (start == version) range.begin version reached)
      ∙ last-begin start version range.begin)
      ∙ value-append version other rest x
      ∙ ap (λ n. value_from n rest x)
      (value-after version other x
      (all_unless (λ y. point_lt x y ≡ true) (behind == version) range.end behind parts.1))
      ∙ value-after version rest x (all-sift (beyond range.end) (λ y. point_lt x y ≡ true)
      (λ y after. lt_chain x range.end y parts.1 after) old)

  -- and the version at its end
  version-at-end : value_from 0 assigned range.end ≡ behind
  version-at-end =
      let end_later : point_lt range.end range.begin ≡ false = lt_one_way range.begin range.end some in
      ap (λ (l : Breaks ℕ). value_from 0 l range.end) assigned-is
      ∙ value-append 0 first (one ++ (other ++ rest)) range.end
      ∙ ap (λ n. value_from n (one ++ (other ++ rest)) range.end)
      (value-reached 0 first range.end (all-sift (before range.begin) (λ y. point_lt range.end y ≡ false)
      (λ y sooner. lt_one_way y range.end (lt_chain y range.begin range.end sooner some)) old))
      ∙ value-append start one (other ++ rest) range.end
      ∙ ap (λ n. value_from n (other ++ rest) range.end)
      (value-reached start one range.end
      (all_unless (λ y. point_lt range.end y ≡ false) (start == version) range.begin version end_later)
      ∙ last-begin start version range.begin)
      ∙ value-append version other rest range.end
      ∙ ap (λ n. value_from n rest range.end)
      (value-reached version other range.end
      (all_unless (λ y. point_lt range.end y ≡ false) (behind == version) range.end behind (lt-itself range.end))
      ∙ last-end version behind range.end)
      ∙ value-after behind rest range.end (all-sift (beyond range.end) (λ y. point_lt range.end y ≡ true)
      (λ y after. after) old)

  pub version-assigned : (x : Point)
      → value_from 0 assigned x ≡ (if in_range range x then version else value_from 0 old x)
  version-assigned x = ⊎_elim
      (λ sooner.
      value-before 0 assigned range.begin x still sooner
      ∙ ap (λ (l : Breaks ℕ). value_from 0 l x) assigned-before
      ∙ sym (value-before 0 old range.begin x rising sooner)
      ∙ sym (cond-false _ _ _ (and_left _ _ (not_from_true _ sooner))))
      (λ reached. ⊎_elim
      (λ within_end.
      let within : in_range range x ≡ true =
      ap (λ (t : Bool). t && point_lt x range.end) (not_from_false _ reached) ∙ within_end in
      version-within x within ∙ sym (cond-true _ _ _ within))
      (λ later.
      let outside : in_range range x ≡ false =
      ap (λ (t : Bool). t && point_lt x range.end) (not_from_false _ reached) ∙ later in
      value-behind 0 assigned range.end x still later
      ∙ (λ i. value_from (version-at-end i) (assigned-beyond i) x)
      ∙ sym (value-behind 0 old range.end x rising later)
      ∙ sym (cond-false _ _ _ outside))
      (cases_Bool (point_lt x range.end)))
      (cases_Bool (point_lt x range.begin))

  -- ---- joined they were, and joined they are
  pub joined-assigned : (floor : ℕ) → AreJoined floor 0 old → AreJoined floor 0 assigned
  joined-assigned floor joined =
      let front : AreJoined floor 0 first = joined-front floor 0 first (sift (from range.begin) old)
      (subst (AreJoined floor 0) (cut_in_two (before range.begin) (from range.begin) (cut_from range.begin) old rising)
      joined) in
      let back : AreJoined floor behind rest = subst (λ (n : ℕ). AreJoined floor n rest)
      (sym (value-by-last 0 old range.end))
      (joined-back floor 0 (sift (up_to range.end) old) rest
      (subst (AreJoined floor 0) (cut_in_two (up_to range.end) (beyond range.end) (cut_beyond range.end) old rising)
      joined)) in
      let from_end : AreJoined floor version (other ++ rest) = joined-both floor version other rest
      (joined-end floor version behind range.end)
      (subst (λ (n : ℕ). AreJoined floor n rest) (sym (last-end version behind range.end)) back) in
      let from_begin : AreJoined floor start (one ++ (other ++ rest)) = joined-both floor start one (other ++ rest)
      (joined-begin floor start version range.begin)
      (subst (λ (n : ℕ). AreJoined floor n (other ++ rest)) (sym (last-begin start version range.begin)) from_end) in
      subst (AreJoined floor 0) (sym assigned-is) (joined-both floor 0 first (one ++ (other ++ rest)) front
      from_begin)

  -- the version behind all is the same
  pub last-assigned : last_value 0 assigned ≡ last_value 0 old
  last-assigned =
      ap (last_value 0) assigned-is
      ∙ last-append 0 first (one ++ (other ++ rest))
      ∙ last-append start one (other ++ rest)
      ∙ ap (λ n. last_value n (other ++ rest)) (last-begin start version range.begin)
      ∙ last-append version other rest
      ∙ ap (λ n. last_value n rest) (last-end version behind range.end)
      ∙ sym (ap (last_value 0)
      (cut_in_two (up_to range.end) (beyond range.end) (cut_beyond range.end) old rising)
      ∙ last-append 0 (sift (up_to range.end) old) rest
      ∙ ap (λ n. last_value n rest) (sym (value-by-last 0 old range.end)))

-- what the steps of the code come to
assigned-by-steps : (old laid left first last : Breaks ℕ) (range : Range) (version before there : ℕ)
    (keys : List Point)
    (rising : AreRising old) (some : point_lt range.begin range.end ≡ true)
    → before ≡ last_value 0 (breaks_before range.begin old)
    → there ≡ value_from 0 old range.end
    → keys ≡ keys_of (breaks_inside range old)
    → laid ≡ put range.begin version
    (if is_some (lookup (is_at (slice_cmp nat_cmp range.end)) old) then old else put range.end there old)
    → left ≡ without_points keys laid
    → first ≡ taken_if (before == version) range.begin left
    → last ≡ taken_if (there == version) range.end first
    → last ≡ assigned old range version rising some
assigned-by-steps old laid left first last range version before there keys rising some is_before is_behind are_keys
    is_laid is_left is_first is_last =
    let laid_is : laid ≡ put range.begin version (with_end old range version rising some) =
    is_laid
    ∙ (λ i. put range.begin version (if is_some (lookup (is_at (slice_cmp nat_cmp range.end)) old) then old
    else put range.end (is_behind i) old)) in
    let left_is : left ≡ cleared old range version rising some = is_left
    ∙ (λ i. without_points (are_keys i) (laid_is i)) in
    let first_is : first ≡ taken_if (start old range version rising some == version) range.begin
    (cleared old range version rising some) =
    is_first ∙ (λ i. taken_if (is_before i == version) range.begin (left_is i)) in
    is_last ∙ (λ i. taken_if (is_behind i == version) range.end (first_is i))

without-append : (xs ys : List Point) (es : Breaks ℕ)
    → without_points (xs ++ ys) es ≡ without_points ys (without_points xs es)
without-append [] ys es = refl
without-append (x ∷ xs) ys es = without-append xs ys (taken x es)

without-if : (joined : Bool) (x : Point) (es : Breaks ℕ)
    → without_points (if joined then x ∷ [] else []) es ≡ taken_if joined x es
without-if true x es = refl
without-if false x es = refl

-- the same where all that goes is taken at once
pub assigned-at-once : (old laid last : Breaks ℕ) (range : Range) (version before there : ℕ) (gone : List Point)
    (rising : AreRising old) (some : point_lt range.begin range.end ≡ true)
    → before ≡ last_value 0 (breaks_before range.begin old)
    → there ≡ value_from 0 old range.end
    → gone ≡ (keys_of (breaks_inside range old) ++ (if before == version then range.begin ∷ [] else []))
    ++ (if there == version then range.end ∷ [] else [])
    → laid ≡ put range.begin version
    (if is_some (lookup (is_at (slice_cmp nat_cmp range.end)) old) then old else put range.end there old)
    → last ≡ without_points gone laid
    → last ≡ assigned old range version rising some
assigned-at-once old laid last range version before there gone rising some is_before is_behind are_gone is_laid is_last =
    let keys = keys_of (breaks_inside range old) in
    let at_begin : List Point = if before == version then range.begin ∷ [] else [] in
    let at_end : List Point = if there == version then range.end ∷ [] else [] in
    let left = without_points keys laid in
    let first = taken_if (before == version) range.begin left in
    assigned-by-steps old laid left first last range version before there keys rising some is_before is_behind refl
    is_laid refl refl
    (is_last
    ∙ ap (λ (l : List Point). without_points l laid) are_gone
    ∙ without-append (keys ++ at_begin) at_end laid
    ∙ ap (without_points at_end)
    (without-append keys at_begin laid ∙ without-if (before == version) range.begin left)
    ∙ without-if (there == version) range.end first)
