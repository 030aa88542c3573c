-- Ranges that are joined with those of a sorted list that they touch, and with one another, and put there at once.
use Rattle.std.proofs.Common.{◌≡◌, ◌∙◌, sym, ap, refl, subst, Bool, true, false, not, ◌||◌, inl, inr, ⊎_elim, List, []}
use Rattle.std.proofs.Common.{◌∷◌, ◌++◌, Less, Equal, Greater}
use Rattle.std.specs.BTreeMap.{is_at}
use Rattle.std.specs.Cmp.Lexicographic.{slice_cmp}
use Rattle.std.specs.FinMap.{nat_cmp-IsAntisymmetric, slice_cmp-IsAntisymmetric}
use Rattle.std.specs.List.{AllByRecursion, fold}
use Rattle.std.specs.Map.{keys_of, values_of, remove_entry}
use Rattle.std.specs.Ordering.{nat_cmp, is_eq, is_lt}
use Rattle.std.specs.declared.cmp.Ordering.{Ordering}
use Rattle.std.proofs.Math.Bool.{or_assoc, or_comm}
use Rattle.std.proofs.lemmas.Bool.{cases_Bool, and_left, and_parts, both_ways, cond-true, cond-false, not-true}
use Rattle.std.proofs.lemmas.Bool.{not_from_true}
use Rattle.fdb_keys.specs.Insertion.{joined_range, inserted, with_range, with_ranges}
use Rattle.fdb_keys.specs.Joining.{all_joined, begins_within_all, with_all}
use Rattle.fdb_keys.specs.Points.{Point, point_lt}
use Rattle.fdb_keys.specs.RangeMaps.{Entries, AreUnderBegins, begins_within, without_points}
use Rattle.fdb_keys.specs.Ranges.{Range, in_range, in_set, is_empty_range, is_apart}
use Rattle.fdb_keys.specs.Touching.{joined_with_touched}
use Rattle.fdb_keys.proofs.PointOrder.{lt_one_way, lt_chain, le_chain, le_lt_chain, cmp_less}
use Rattle.fdb_keys.proofs.InsertionLemmas.{lesser-left, lesser-right, greater-left, greater-right, below_lesser}
use Rattle.fdb_keys.proofs.InsertionLemmas.{greater_below, inserted-before, inserted-after, inserted-joined}
use Rattle.fdb_keys.proofs.InsertionLemmas.{in_inserted, apart_parts, apart-inserted}
use Rattle.fdb_keys.proofs.ApartLemmas.{all_after, same_list, apart-with_range, in_with_range, apart-with_ranges}
use Rattle.fdb_keys.proofs.ApartLemmas.{in_with_ranges}
use Rattle.fdb_keys.proofs.LastLemmas.{all_from}
use Rattle.fdb_keys.proofs.SwallowedLemmas.{is_within}
use Rattle.fdb_keys.proofs.TouchedLemmas.{Fits, touched_fits, inserted-touched}
use Rattle.fdb_keys.proofs.PutBackLemmas.{put_by}
use Rattle.fdb_keys.proofs.RangeMapLemmas.{put, within_of, replaced, begins_within-is, is_inserted}

-- ---- the joined ranges
-- what lies in one of two ranges lies in the two joined
fits_inside : (range other held : Range) → point_lt range.begin other.begin ≡ false
    → point_lt other.end range.end ≡ false → point_lt held.begin range.begin ≡ false
    → point_lt range.end held.end ≡ false → Fits other held
fits_inside range other held begins ends from until =
    inr
    (inl
    (le_chain other.begin range.begin held.begin begins from, le_chain held.end range.end other.end until ends))

-- what fits two ranges that touch fits the two joined
fits-joined : (a b held : Range) → point_lt held.begin held.end ≡ true → point_lt b.end a.begin ≡ false
    → point_lt a.end b.begin ≡ false → Fits a held → Fits b held → Fits (joined_range a b) held
fits-joined a b held some b_reaches a_reaches of_a of_b =
    let joined = joined_range a b in
    let in_a = fits_inside a joined held (lesser-left a.begin b.begin) (greater-left a.end b.end) in
    let in_b = fits_inside b joined held (lesser-right a.begin b.begin) (greater-right a.end b.end) in
    let between : (x y : Point) → point_lt x held.begin ≡ true → point_lt held.end y ≡ true → point_lt x y ≡ true =
    λ x y before after. lt_chain x held.begin y before (lt_chain held.begin held.end y some after) in
    ⊎_elim
    (λ before_a. ⊎_elim
    (λ before_b. inl (below_lesser held.end a.begin b.begin before_a before_b))
    (⊎_elim
    (λ within. in_b within.0 within.1)
    (λ after_b. absurd (both_ways _ b_reaches (between b.end a.begin after_b before_a))))
    of_b)
    (⊎_elim
    (λ within. in_a within.0 within.1)
    (λ after_a. ⊎_elim
    (λ before_b. absurd (both_ways _ a_reaches (between a.end b.begin after_a before_b)))
    (⊎_elim
    (λ within. in_b within.0 within.1)
    (λ after_b. inr (inr (greater_below a.end b.end held.begin after_a after_b))))
    of_b))
    of_a

-- what holds of two ranges that touch where it holds of each, holds of all where it does of one more
module _ (Q : Range → Type 0)
    (joins : (a b : Range) → point_lt b.end a.begin ≡ false → point_lt a.end b.begin ≡ false → Q a → Q b
    → Q (joined_range a b)) where
  all-inserted : (range : Range) (ranges : List Range) → Q range → AllByRecursion Q ranges
      → AllByRecursion Q (inserted range ranges)
  unfolding inserted
  all-inserted range [] first rest = (first, tt)
  all-inserted range (next ∷ ranges) first rest =
      let all = AllByRecursion Q in
      ⊎_elim
      (λ before. subst all (sym (inserted-before range next ranges before))
      (rest.0, all-inserted range ranges first rest.1))
      (λ reaches. ⊎_elim
      (λ after. subst all (sym (inserted-after range next ranges reaches after))
      (first, all-inserted next ranges rest.0 rest.1))
      (λ reached. subst all (sym (inserted-joined range next ranges reaches reached))
      (all-inserted (joined_range range next) ranges (joins range next reaches reached first rest.0) rest.1))
      (cases_Bool (point_lt range.end next.begin)))
      (cases_Bool (point_lt next.end range.begin))

  all-with_range : (range : Range) (ranges : List Range) → Q range → AllByRecursion Q ranges
      → AllByRecursion Q (with_range range ranges)
  all-with_range range ranges first rest =
      ⊎_elim
      (λ empty. subst (AllByRecursion Q) (sym (cond-true _ _ _ empty)) rest)
      (λ some. subst (AllByRecursion Q) (sym (cond-false _ _ _ some)) (all-inserted range ranges first rest))
      (cases_Bool (is_empty_range range))

-- each range of the list fits the range
abbrev AllFit : List Range → Range → Type 0
AllFit ranges range = AllByRecursion (Fits range) ranges

all_fit-joined : (ranges : List Range) → is_apart ranges ≡ true → (a b : Range) → point_lt b.end a.begin ≡ false
    → point_lt a.end b.begin ≡ false → AllFit ranges a → AllFit ranges b → AllFit ranges (joined_range a b)
all_fit-joined [] apart a b b_reaches a_reaches of_a of_b = tt
all_fit-joined (held ∷ ranges) apart a b b_reaches a_reaches of_a of_b =
    let parts = apart_parts held ranges apart in (
      fits-joined a b held parts.0 b_reaches a_reaches of_a.0 of_b.0,
      all_fit-joined ranges parts.2 a b b_reaches a_reaches of_a.1 of_b.1,
    )

module _ (ranges : List Range) (apart : is_apart ranges ≡ true) where
  -- the set, and with it the added ranges, each joined with those of the list that it touches
  abbrev joined_onto : List Range → List Range → List Range
  joined_onto set added = fold (λ rest range. with_range (joined_with_touched range ranges) rest) set added

  all_fit-onto : (set added : List Range) → is_apart added ≡ true → AllByRecursion (AllFit ranges) set
      → AllByRecursion (AllFit ranges) (joined_onto set added)
  all_fit-onto set [] apart_added fit = fit
  all_fit-onto set (range ∷ added) apart_added fit =
      let parts = apart_parts range added apart_added in
      let joined = joined_with_touched range ranges in
      all_fit-onto (with_range joined set) added parts.2
      (all-with_range (AllFit ranges) (all_fit-joined ranges apart) joined set
      (touched_fits range ranges parts.0 apart) fit)

  apart-onto : (set added : List Range) → is_apart set ≡ true → is_apart (joined_onto set added) ≡ true
  apart-onto set [] apart_set = apart_set
  apart-onto set (range ∷ added) apart_set =
      let joined = joined_with_touched range ranges in
      apart-onto (with_range joined set) added (apart-with_range joined set apart_set)

  -- with the list, they have the points of the added ranges
  touched_points : (range : Range) (x : Point) → point_lt range.begin range.end ≡ true
      → (in_range (joined_with_touched range ranges) x || in_set ranges x) ≡ (in_range range x || in_set ranges x)
  touched_points range x some =
      sym (in_inserted (joined_with_touched range ranges) ranges x)
      ∙ ap (λ (l : List Range). in_set l x) (inserted-touched range ranges some apart)
      ∙ in_inserted range ranges x

  in_onto : (x : Point) (set added : List Range) → is_apart added ≡ true
      → (in_set (joined_onto set added) x || in_set ranges x) ≡ ((in_set added x || in_set set x) || in_set ranges x)
  in_onto x set [] apart_added = refl
  in_onto x set (range ∷ added) apart_added =
      let parts = apart_parts range added apart_added in
      let joined = joined_with_touched range ranges in
      let held = in_set ranges x in
      let before = in_set set x in
      let others = in_set added x in
      in_onto x (with_range joined set) added parts.2
      ∙ ap (λ (t : Bool). (others || t) || held) (in_with_range joined set x)
      ∙ regroup others (in_range joined x) before held
      ∙ ap (λ (t : Bool). (others || before) || t) (touched_points range x parts.0)
      ∙ sym (regroup others (in_range range x) before held)
      ∙ ap (λ (t : Bool). t || held)
      (sym (or_assoc others (in_range range x) before)
      ∙ ap (λ (t : Bool). t || before) (or_comm others (in_range range x)))
    where
      regroup : (a b c d : Bool) → ((a || (b || c)) || d) ≡ ((a || c) || (b || d))
      regroup a b c d =
          ap (λ (t : Bool). (a || t) || d) (or_comm b c)
          ∙ ap (λ (t : Bool). t || d) (sym (or_assoc a c b))
          ∙ or_assoc (a || c) b d

  with_joined : (added : List Range) → is_apart added ≡ true
      → with_ranges (all_joined added ranges) ranges ≡ with_ranges added ranges
  with_joined added apart_added =
      let joined = all_joined added ranges in
      same_list (with_ranges joined ranges) (with_ranges added ranges) (apart-with_ranges joined ranges apart)
      (apart-with_ranges added ranges apart) (λ x.
      in_with_ranges joined ranges x
      ∙ in_onto x [] added apart_added
      ∙ ap (λ (t : Bool). t || in_set ranges x) (or_comm (in_set added x) false)
      ∙ sym (in_with_ranges added ranges x))

-- ---- entries that are put, and others that are taken out
abbrev removed : Point → Entries → Entries
removed key entries = remove_entry (is_at (slice_cmp nat_cmp key)) entries

not_at_later : (key later : Point) → point_lt key later ≡ true → is_at (slice_cmp nat_cmp key) later ≡ false
not_at_later key later before = ap is_eq (cmp_less key later before)

same_from_tied : (x y : Point) → slice_cmp nat_cmp x y ≡ Equal → x ≡ y
same_from_tied x y tied = slice_cmp-IsAntisymmetric nat_cmp-IsAntisymmetric x y tied

-- an entry before the begin is taken out before or after the range is put
removed-put : (key : Point) (range : Range) (entries : Entries) → point_lt key range.begin ≡ true
    → removed key (put range entries) ≡ put range (removed key entries)
unfolding point_lt
removed-put key range [] before = cond-false _ _ _ (not_at_later key range.begin before)
removed-put key range (entry ∷ entries) before =
    by_order (slice_cmp nat_cmp range.begin entry.0) refl (removed-put key range entries before)
  where
    Removed : Ordering → Type 0
    Removed order =
        removed key (put_by range.begin range entry entries order) ≡ put range (removed key (entry ∷ entries))

    stays : (order : Ordering) → slice_cmp nat_cmp range.begin entry.0 ≡ order
        → is_at (slice_cmp nat_cmp key) entry.0 ≡ false
        → put range (removed key (entry ∷ entries)) ≡ put_by range.begin range entry (removed key entries) order
    stays order is elsewhere =
        ap (put range) (cond-false _ _ _ elsewhere) ∙ ap (put_by range.begin range entry (removed key entries)) is

    by_order : (order : Ordering) → slice_cmp nat_cmp range.begin entry.0 ≡ order
        → removed key (put range entries) ≡ put range (removed key entries) → Removed order
    by_order Less is others =
        let elsewhere = not_at_later key entry.0 (lt_chain key range.begin entry.0 before (ap is_lt is)) in
        cond-false _ _ _ (not_at_later key range.begin before)
        ∙ ap (λ (l : Entries). (range.begin, range) ∷ l) (cond-false _ _ _ elsewhere)
        ∙ sym (stays Less is elsewhere)
    by_order Equal is others =
        let elsewhere = not_at_later key entry.0
        (subst (λ (x : Point). point_lt key x ≡ true) (same_from_tied range.begin entry.0 is) before) in
        cond-false _ _ _ elsewhere ∙ sym (stays Equal is elsewhere)
    by_order Greater is others =
        ⊎_elim
        (λ here. cond-true _ _ _ here ∙ sym (ap (put range) (cond-true _ _ _ here)))
        (λ elsewhere.
        cond-false _ _ _ elsewhere
        ∙ ap (λ (l : Entries). entry ∷ l) others
        ∙ sym (stays Greater is elsewhere))
        (cases_Bool (is_at (slice_cmp nat_cmp key) entry.0))

-- all keys come before the point
abbrev AllBefore : Point → List Point → Type 0
AllBefore x keys = AllByRecursion (λ key. point_lt key x ≡ true) keys

without-put : (keys : List Point) (range : Range) (entries : Entries) → AllBefore range.begin keys
    → without_points keys (put range entries) ≡ put range (without_points keys entries)
without-put [] range entries before = refl
without-put (key ∷ keys) range entries before =
    ap (without_points keys) (removed-put key range entries before.0)
    ∙ without-put keys range (removed key entries) before.1

without-with_all : (keys : List Point) (ranges : List Range) (entries : Entries)
    → AllByRecursion (λ range. AllBefore range.begin keys) ranges
    → without_points keys (with_all ranges entries) ≡ with_all ranges (without_points keys entries)
without-with_all keys [] entries before = refl
without-with_all keys (range ∷ ranges) entries before =
    without-with_all keys ranges (put range entries) before.1
    ∙ ap (with_all ranges) (without-put keys range entries before.0)

without-append : (keys others : List Point) (entries : Entries)
    → without_points (keys ++ others) entries ≡ without_points others (without_points keys entries)
without-append [] others entries = refl
without-append (key ∷ keys) others entries = without-append keys others (removed key entries)

-- the keys within a range come before what comes after its end
within_before : (range : Range) (x : Point) (entries : Entries) → point_lt range.end x ≡ true
    → AllBefore x (keys_of (within_of range entries))
within_before range x [] after = tt
within_before range x (entry ∷ entries) after =
    let all = λ (l : Entries). AllBefore x (keys_of l) in
    let rest = within_before range x entries after in
    ⊎_elim
    (λ inside.
    let parts : (point_lt range.begin entry.0 ≡ true) × (not (point_lt range.end entry.0) ≡ true) =
    and_parts _ _ inside in
    subst all (sym (cond-true _ _ _ inside)) (le_lt_chain entry.0 range.end x (not-true _ parts.1) after, rest))
    (λ outside. subst all (sym (cond-false _ _ _ outside)) rest)
    (cases_Bool (is_within range entry.0))

-- what is put or taken out elsewhere leaves the keys within a range
module _ (range : Range) where
  within-put : (other : Range) (entries : Entries) → is_within range other.begin ≡ false
      → within_of range (put other entries) ≡ within_of range entries
  within-put other [] outside = cond-false _ _ _ outside
  within-put other (entry ∷ entries) outside =
      by_order (slice_cmp nat_cmp other.begin entry.0) refl (within-put other entries outside)
    where
      by_order : (order : Ordering) → slice_cmp nat_cmp other.begin entry.0 ≡ order
          → within_of range (put other entries) ≡ within_of range entries
          → within_of range (put_by other.begin other entry entries order) ≡ within_of range (entry ∷ entries)
      by_order Less is others = cond-false _ _ _ outside
      by_order Equal is others =
          let here : is_within range entry.0 ≡ false =
          ap (is_within range) (sym (same_from_tied other.begin entry.0 is)) ∙ outside in
          cond-false _ _ _ here ∙ sym (cond-false _ _ _ here)
      by_order Greater is others =
          ⊎_elim
          (λ inside. cond-true _ _ _ inside ∙ ap (λ (l : Entries). entry ∷ l) others ∙ sym (cond-true _ _ _ inside))
          (λ out. cond-false _ _ _ out ∙ others ∙ sym (cond-false _ _ _ out))
          (cases_Bool (is_within range entry.0))

  within-removed : (key : Point) (entries : Entries) → is_within range key ≡ false
      → within_of range (removed key entries) ≡ within_of range entries
  within-removed key [] outside = refl
  within-removed key (entry ∷ entries) outside =
      let rest = within-removed key entries outside in
      ⊎_elim
      (λ here.
      let same : key ≡ entry.0 = same_from_tied key entry.0 (tied_from_test (slice_cmp nat_cmp key entry.0) here) in
      ap (within_of range) (cond-true _ _ _ here)
      ∙ sym (cond-false _ _ _ (ap (is_within range) (sym same) ∙ outside)))
      (λ elsewhere.
      ap (within_of range) (cond-false _ _ _ elsewhere)
      ∙ ⊎_elim
      (λ inside. cond-true _ _ _ inside ∙ ap (λ (l : Entries). entry ∷ l) rest ∙ sym (cond-true _ _ _ inside))
      (λ out. cond-false _ _ _ out ∙ rest ∙ sym (cond-false _ _ _ out))
      (cases_Bool (is_within range entry.0)))
      (cases_Bool (is_at (slice_cmp nat_cmp key) entry.0))
    where
      tied_from_test : (order : Ordering) → is_eq order ≡ true → order ≡ Equal
      tied_from_test Less tied = cc
      tied_from_test Equal tied = refl
      tied_from_test Greater tied = cc

  within-without : (keys : List Point) (entries : Entries) → AllBefore range.begin keys
      → within_of range (without_points keys entries) ≡ within_of range entries
  within-without [] entries before = refl
  within-without (key ∷ keys) entries before =
      within-without keys (removed key entries) before.1
      ∙ within-removed key entries (and_left _ _ (lt_one_way key range.begin before.0))

  -- so a range that ends before it leaves them
  within-replaced : (other : Range) (entries : Entries) → point_lt other.begin other.end ≡ true
      → point_lt other.end range.begin ≡ true
      → within_of range (replaced other entries) ≡ within_of range entries
  within-replaced other entries some before =
      within-without (keys_of (within_of other entries)) (put other entries)
      (within_before other range.begin entries before)
      ∙ within-put other entries
      (and_left _ _ (lt_one_way other.begin range.begin (lt_chain other.begin other.end range.begin some before)))

-- ---- what holds of each range
module _ (Q : Range → Type 0) where
  all-put : (range : Range) (entries : Entries) → Q range → AllByRecursion Q (values_of entries)
      → AllByRecursion Q (values_of (put range entries))
  all-put range [] first rest = (first, tt)
  all-put range (entry ∷ entries) first rest =
      by_order (slice_cmp nat_cmp range.begin entry.0) (all-put range entries first rest.1)
    where
      by_order : (order : Ordering) → AllByRecursion Q (values_of (put range entries))
          → AllByRecursion Q (values_of (put_by range.begin range entry entries order))
      by_order Less others = (first, rest)
      by_order Equal others = (first, rest.1)
      by_order Greater others = (rest.0, others)

  all-removed : (key : Point) (entries : Entries) → AllByRecursion Q (values_of entries)
      → AllByRecursion Q (values_of (removed key entries))
  all-removed key [] all = tt
  all-removed key (entry ∷ entries) all =
      let of_values = λ (l : Entries). AllByRecursion Q (values_of l) in
      ⊎_elim
      (λ here. subst of_values (sym (cond-true _ _ _ here)) all.1)
      (λ elsewhere. subst of_values (sym (cond-false _ _ _ elsewhere)) (all.0, all-removed key entries all.1))
      (cases_Bool (is_at (slice_cmp nat_cmp key) entry.0))

  all-without : (keys : List Point) (entries : Entries) → AllByRecursion Q (values_of entries)
      → AllByRecursion Q (values_of (without_points keys entries))
  all-without [] entries all = all
  all-without (key ∷ keys) entries all = all-without keys (removed key entries) (all-removed key entries all)

-- ---- all at once
begins_within_all-replaced : (range : Range) (ranges : List Range) (entries : Entries)
    → point_lt range.begin range.end ≡ true → AllByRecursion (λ other. point_lt range.end other.begin ≡ true) ranges
    → begins_within_all ranges entries ≡ begins_within_all ranges (replaced range entries)
begins_within_all-replaced range [] entries some after = refl
begins_within_all-replaced range (other ∷ ranges) entries some after =
    ap (λ (l : List Point). l ++ begins_within_all ranges entries)
    (begins_within-is other entries
    ∙ ap keys_of (sym (within-replaced other range entries some after.0))
    ∙ sym (begins_within-is other (replaced range entries)))
    ∙ ap (λ (l : List Point). begins_within other (replaced range entries) ++ l)
    (begins_within_all-replaced range ranges entries some after.1)

-- the first one's part is done before the others'
first_replaced : (range : Range) (ranges : List Range) (entries : Entries) → point_lt range.begin range.end ≡ true
    → AllByRecursion (λ other. point_lt range.end other.begin ≡ true) ranges
    → without_points (begins_within_all (range ∷ ranges) entries) (with_all (range ∷ ranges) entries)
    ≡ without_points (begins_within_all ranges (replaced range entries)) (with_all ranges (replaced range entries))
first_replaced range ranges entries some after =
    let within = keys_of (within_of range entries) in
    let others = begins_within_all ranges entries in
    without-append (begins_within range entries) others (with_all ranges (put range entries))
    ∙ ap (λ (l : List Point). without_points others (without_points l (with_all ranges (put range entries))))
    (begins_within-is range entries)
    ∙ ap (without_points others) (without-with_all within ranges (put range entries)
    (all_from (λ other later again. within_before range other.begin entries later) ranges after after))
    ∙ ap (λ (l : List Point). without_points l (with_all ranges (replaced range entries)))
    (begins_within_all-replaced range ranges entries some after)

all_put : (ranges : List Range) (entries : Entries) → is_apart ranges ≡ true → AreUnderBegins entries
    → is_apart (values_of entries) ≡ true → AllByRecursion (AllFit (values_of entries)) ranges
    → (values_of (without_points (begins_within_all ranges entries) (with_all ranges entries))
    ≡ with_ranges ranges (values_of entries))
    × AreUnderBegins (without_points (begins_within_all ranges entries) (with_all ranges entries))
all_put [] entries apart_added under apart fit = (refl, under)
all_put (range ∷ ranges) entries apart_added under apart fit =
    let parts = apart_parts range ranges apart_added in
    let held = values_of entries in
    let result = replaced range entries in
    let step = is_inserted range entries parts.0 under apart fit.0 in
    let later = all_after range.end ranges parts.2 parts.1 in
    let rest = all_put ranges result parts.2 step.1
    (ap is_apart step.0 ∙ apart-inserted range held parts.0 apart)
    (all_from (λ other after fits. all-without (Fits other) (keys_of (within_of range entries)) (put range entries)
    (all-put (Fits other) range entries (inl after) fits)) ranges later fit.1) in
    let same = first_replaced range ranges entries parts.0 later in
    let first : with_range range held ≡ inserted range held = cond-false _ _ _ (not_from_true _ parts.0) in (
      ap values_of same ∙ rest.0 ∙ ap (with_ranges ranges) (step.0 ∙ sym first),
      subst AreUnderBegins (sym same) rest.1,
    )

-- after the joined ranges were put, and what they swallow was taken out, the map has the list with all ranges added
pub all_added : (added joined : List Range) (others : List Point) (entries result : Entries)
    → is_apart added ≡ true → AreUnderBegins entries → is_apart (values_of entries) ≡ true
    → joined ≡ all_joined added (values_of entries) → others ≡ begins_within_all joined entries
    → result ≡ without_points others (with_all joined entries)
    → (values_of result ≡ with_ranges added (values_of entries)) × AreUnderBegins result
    × (is_apart (values_of result) ≡ true)
all_added added joined others entries result apart_added under apart joins swallows is =
    let ranges = values_of entries in
    let all = all_joined added ranges in
    let made = all_put all entries (apart-onto ranges apart [] added refl) under apart
    (all_fit-onto ranges apart [] added apart_added tt) in
    let same : result ≡ without_points (begins_within_all all entries) (with_all all entries) =
    is
    ∙ ap (λ (l : List Point). without_points l (with_all joined entries)) swallows
    ∙ ap (λ (l : List Range). without_points (begins_within_all l entries) (with_all l entries)) joins in
    let values : values_of result ≡ with_ranges added ranges =
    ap values_of same ∙ made.0 ∙ with_joined ranges apart added apart_added in
    (values, subst AreUnderBegins (sym same) made.1, ap is_apart values ∙ apart-with_ranges added ranges apart)
