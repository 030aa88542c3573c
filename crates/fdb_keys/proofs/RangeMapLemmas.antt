-- Ranges in a map, each under its begin, as the list of the ranges.
use Rattle.std.proofs.Common.{◌≡◌, ◌∙◌, sym, ap, refl, subst, Bool, true, false, not, ◌&&◌, ⊎_elim, Option, Some, None}
use Rattle.std.proofs.Common.{is_some, List, [], ◌∷◌, ◌++◌, Less, Equal, Greater}
use Rattle.std.specs.BTreeMap.{insert_entry, is_at}
use Rattle.std.specs.BTreeMap.Range.{entries_between, range_contains}
use Rattle.std.specs.Cmp.Lexicographic.{slice_cmp}
use Rattle.std.specs.List.{AllByRecursion, filter, last_or}
use Rattle.std.specs.Map.{keys_of, values_of, lookup, remove_entry}
use Rattle.std.specs.Ordering.{nat_cmp, is_eq, is_le, is_lt, match_ordering, ordering_reverse}
use Rattle.std.specs.declared.cmp.Ordering.{Ordering}
use Rattle.std.specs.declared.ops.Bound.TheVariants.{Included, Excluded, Unbounded}
use Rattle.std.proofs.lemmas.Bool.{cases_Bool, and_left, both_ways, cond-true, cond-false, not_from_true}
use Rattle.std.proofs.lemmas.Bool.{not_from_false}
use Rattle.std.proofs.lemmas.Cmp.{nat_list_cmp_total, tied_itself}
use Rattle.fdb_keys.specs.Insertion.{inserted}
use Rattle.fdb_keys.specs.Touching.{joined_with_touched, last_by}
use Rattle.fdb_keys.specs.Points.{Point, point_lt}
use Rattle.fdb_keys.specs.RangeMaps.{Entries, AreUnderBegins, begins_within, without_points}
use Rattle.fdb_keys.specs.Ranges.{Range, is_apart}
use Rattle.fdb_keys.proofs.PointOrder.{lt-itself, lt_one_way, cmp_less, cmp_greater, same_point}
use Rattle.fdb_keys.proofs.InsertionLemmas.{apart_parts, inserted-before, inserted-joined, apart-inserted}
use Rattle.fdb_keys.proofs.ApartLemmas.{all_after}
use Rattle.fdb_keys.proofs.OutsideLemmas.{begins_inside}
use Rattle.fdb_keys.proofs.SwallowedLemmas.{is_within, after_by, before_from, joined-same, inserted-swallows}
use Rattle.fdb_keys.proofs.TouchedLemmas.{Fits, some_touched, touched_fits, inserted-touched}

-- the first entry's range is under its begin, and so are the others
under_parts : (entry : Point × Range) (entries : Entries) → AreUnderBegins (entry ∷ entries)
    → (entry.0 ≡ entry.1.begin) × AreUnderBegins entries
under_parts entry entries under = (cc, cc)

under_from : (entry : Point × Range) (entries : Entries) → entry.0 ≡ entry.1.begin
    → AreUnderBegins entries → AreUnderBegins (entry ∷ entries)
under_from entry entries first rest = λ i. first i ∷ rest i

-- a test of the keys is one of the begins
values-filter : (p : Point → Bool) (entries : Entries) → AreUnderBegins entries
    → values_of (filter (λ entry. p entry.0) entries) ≡ filter (λ range. p range.begin) (values_of entries)
values-filter p [] under = refl
values-filter p (entry ∷ entries) under =
    let parts = under_parts entry entries under in
    ⊎_elim
    (λ passes.
    ap values_of (cond-true _ _ _ passes)
    ∙ ap (λ (l : List Range). entry.1 ∷ l) (values-filter p entries parts.1)
    ∙ sym (cond-true _ _ _ (ap p (sym parts.0) ∙ passes)))
    (λ fails.
    ap values_of (cond-false _ _ _ fails)
    ∙ values-filter p entries parts.1
    ∙ sym (cond-false _ _ _ (ap p (sym parts.0) ∙ fails)))
    (cases_Bool (p entry.0))

under-filter : (p : Point → Bool) (entries : Entries) → AreUnderBegins entries
    → AreUnderBegins (filter (λ entry. p entry.0) entries)
under-filter p [] under = refl
under-filter p (entry ∷ entries) under =
    let parts = under_parts entry entries under in
    ⊎_elim
    (λ passes. subst AreUnderBegins (sym (cond-true _ _ _ passes))
    (under_from entry (filter (λ e. p e.0) entries) parts.0 (under-filter p entries parts.1)))
    (λ fails. subst AreUnderBegins (sym (cond-false _ _ _ fails)) (under-filter p entries parts.1))
    (cases_Bool (p entry.0))

-- the ranges under the begins that come after the range's begin, and before its end
pub not_past : (x y : Point) → not (is_le (slice_cmp nat_cmp y x)) ≡ point_lt x y
unfolding point_lt
not_past x y = ap (λ o. not (is_le o)) (nat_list_cmp_total.antisymm y x) ∙ turned (slice_cmp nat_cmp x y)
  where
    turned : (o : Ordering) → not (is_le (ordering_reverse o)) ≡ is_lt o
    turned Less = refl
    turned Equal = refl
    turned Greater = refl

inside_bounds : (range : Range) (x : Point)
    → range_contains (slice_cmp nat_cmp) (Excluded range.begin) (Excluded range.end) x
    ≡ (point_lt range.begin x && point_lt x range.end)
unfolding point_lt
inside_bounds range x = ap (λ (t : Bool). is_lt (slice_cmp nat_cmp range.begin x) && t) (not_past x range.end)

pub values-inside : (range : Range) (begin end : Point) (entries found : Entries) → AreUnderBegins entries
    → begin ≡ range.begin → end ≡ range.end
    → found ≡ entries_between (slice_cmp nat_cmp) (Excluded begin) (Excluded end) entries
    → values_of found ≡ filter (begins_inside range) (values_of entries)
values-inside range begin end entries found under begins ends between =
    let contains = range_contains (slice_cmp nat_cmp) (Excluded range.begin) (Excluded range.end) in
    ap values_of between
    ∙ (λ i. values_of (entries_between (slice_cmp nat_cmp) (Excluded (begins i)) (Excluded (ends i)) entries))
    ∙ values-filter contains entries under
    ∙ (λ i. filter (λ (r : Range). inside_bounds range r.begin i) (values_of entries))

last_value : (entries : Entries) (entry : Point × Range) (other : Option Range)
    → last_or other (values_of (entries ++ entry ∷ [])) ≡ Some entry.1
last_value [] entry other = refl
last_value (first ∷ entries) entry other = last_value entries entry (Some first.1)

-- the last range up to a point, from the entries up to it
last_by-between : (x : Point) (entries : Entries) → AreUnderBegins entries
    → last_by x (values_of entries)
    ≡ last_or None (values_of (entries_between (slice_cmp nat_cmp) Unbounded (Included x) entries))
unfolding point_lt
last_by-between x entries under = ap (last_or None) (sym (values-filter (λ k. not (point_lt x k)) entries under))

pub last_by-some : (x : Point) (entries before : Entries) (entry : Point × Range) → AreUnderBegins entries
    → entries_between (slice_cmp nat_cmp) Unbounded (Included x) entries ≡ before ++ entry ∷ []
    → last_by x (values_of entries) ≡ Some entry.1
last_by-some x entries before entry under between =
    last_by-between x entries under ∙ ap (λ (l : Entries). last_or None (values_of l)) between
    ∙ last_value before entry None

pub last_by-none : (x : Point) (entries : Entries) → AreUnderBegins entries
    → entries_between (slice_cmp nat_cmp) Unbounded (Included x) entries ≡ [] → last_by x (values_of entries) ≡ None
last_by-none x entries under between =
    last_by-between x entries under ∙ ap (λ (l : Entries). last_or None (values_of l)) between

-- ---- an entry that is inserted and those that are removed
not_at : (x y : Point) → point_lt x y ≡ true → is_at (slice_cmp nat_cmp y) x ≡ false
not_at x y before = ap is_eq (cmp_greater y x before)

pub at_itself : (x : Point) → is_at (slice_cmp nat_cmp x) x ≡ true
at_itself x = ap is_eq (tied_itself nat_list_cmp_total x)

-- an entry whose key isn't named stays
without-other : (keys : List Point) (entry : Point × Range) (entries : Entries)
    → AllByRecursion (λ key. point_lt entry.0 key ≡ true) keys
    → without_points keys (entry ∷ entries) ≡ entry ∷ without_points keys entries
without-other [] entry entries after = refl
without-other (key ∷ keys) entry entries after =
    ap (without_points keys) (cond-false _ _ _ (not_at entry.0 key after.0))
    ∙ without-other keys entry (remove_entry (is_at (slice_cmp nat_cmp key)) entries) after.1

-- the keys of sorted ranges that begin after a point, of which some pass a test
keys_after : (x : Point) (p : Point → Bool) (entries : Entries) → AreUnderBegins entries
    → AllByRecursion (λ range. point_lt x range.begin ≡ true) (values_of entries)
    → AllByRecursion (λ key. point_lt x key ≡ true) (keys_of (filter (λ entry. p entry.0) entries))
keys_after x p [] under after = tt
keys_after x p (entry ∷ entries) under after =
    let parts = under_parts entry entries under in
    let after_by = λ (l : Entries). AllByRecursion (λ key. point_lt x key ≡ true) (keys_of l) in
    let rest = keys_after x p entries parts.1 after.1 in
    ⊎_elim
    (λ passes. subst after_by (sym (cond-true _ _ _ passes)) (ap (point_lt x) parts.0 ∙ after.0, rest))
    (λ fails. subst after_by (sym (cond-false _ _ _ fails)) rest)
    (cases_Bool (p entry.0))

-- the entries whose keys are within the range, and the others
abbrev pub within_of : Range → Entries → Entries
within_of range entries = filter (λ entry. is_within range entry.0) entries

abbrev pub outside_of : Range → Entries → Entries
outside_of range entries = filter (λ entry. not (is_within range entry.0)) entries

pub begins_within-is : (range : Range) (entries : Entries)
    → begins_within range entries ≡ keys_of (within_of range entries)
unfolding point_lt
begins_within-is range entries = refl

-- the same of the entries' ranges, after the first key
after_first : (entry : Point × Range) (entries : Entries) → entry.0 ≡ entry.1.begin
    → is_apart (values_of (entry ∷ entries)) ≡ true
    → AllByRecursion (λ range. point_lt entry.0 range.begin ≡ true) (values_of entries)
after_first entry entries key apart = after_by entry.0 entry.1 (values_of entries) (sym key) apart

-- without the keys within the range, the other entries are left
without-within : (range : Range) (entries : Entries) → AreUnderBegins entries
    → is_apart (values_of entries) ≡ true
    → without_points (keys_of (within_of range entries)) entries ≡ outside_of range entries
without-within range [] under apart = refl
without-within range (entry ∷ entries) under apart =
    let parts = under_parts entry entries under in
    let of_first = apart_parts entry.1 (values_of entries) apart in
    let within = within_of range entries in
    let rest = without-within range entries parts.1 of_first.2 in
    let keys = keys_after entry.0 (is_within range) entries parts.1 (after_first entry entries parts.0 apart) in
    ⊎_elim
    (λ inside.
    ap (λ (l : Entries). without_points (keys_of l) (entry ∷ entries)) (cond-true _ _ _ inside)
    ∙ ap (without_points (keys_of within)) (cond-true _ _ _ (at_itself entry.0))
    ∙ rest
    ∙ sym (cond-false _ _ _ (not_from_true _ inside)))
    (λ outside.
    ap (λ (l : Entries). without_points (keys_of l) (entry ∷ entries)) (cond-false _ _ _ outside)
    ∙ without-other (keys_of within) entry entries keys
    ∙ ap (λ (l : Entries). entry ∷ l) rest
    ∙ sym (cond-true _ _ _ (not_from_false _ outside)))
    (cases_Bool (is_within range entry.0))

-- ---- both together
-- the entries with the range under its begin
abbrev pub put : Range → Entries → Entries
put range entries = insert_entry (slice_cmp nat_cmp) entries range.begin range

-- the entries with the range under its begin, and without those within it
abbrev pub replaced : Range → Entries → Entries
replaced range entries =
    without_points (keys_of (within_of range entries)) (put range entries)

swallowed-same : (range : Range) (entry : Point × Range) (entries : Entries)
    → AreUnderBegins (entry ∷ entries) → is_apart (values_of (entry ∷ entries)) ≡ true → entry.0 ≡ range.begin
    → replaced range (entry ∷ entries) ≡ (entry.0, range) ∷ outside_of range entries
swallowed-same range entry entries under apart same =
    let parts = under_parts entry entries under in
    let of_first = apart_parts entry.1 (values_of entries) apart in
    let within = within_of range entries in
    let tied : slice_cmp nat_cmp range.begin entry.0 ≡ Equal =
    ap (slice_cmp nat_cmp range.begin) same ∙ tied_itself nat_list_cmp_total range.begin in
    let outside : is_within range entry.0 ≡ false =
    and_left _ _ (ap (point_lt range.begin) same ∙ lt-itself range.begin) in
    let keys = keys_after entry.0 (is_within range) entries parts.1 (after_first entry entries parts.0 apart) in
    ap (λ (l : Entries). without_points (keys_of l) (put range (entry ∷ entries))) (cond-false _ _ _ outside)
    ∙ ap (λ o. without_points (keys_of within) (match_ordering o ((range.begin, range) ∷ entry ∷ entries)
    ((entry.0, range) ∷ entries) (entry ∷ put range entries))) tied
    ∙ without-other (keys_of within) (entry.0, range) entries keys
    ∙ ap (λ (l : Entries). (entry.0, range) ∷ l) (without-within range entries parts.1 of_first.2)

swallowed-later : (range : Range) (entry : Point × Range) (entries : Entries)
    → AreUnderBegins (entry ∷ entries) → is_apart (values_of (entry ∷ entries)) ≡ true
    → point_lt range.begin entry.0 ≡ true
    → replaced range (entry ∷ entries) ≡ (range.begin, range) ∷ outside_of range (entry ∷ entries)
swallowed-later range entry entries under apart later =
    let parts = under_parts entry entries under in
    let within = within_of range (entry ∷ entries) in
    let after = all_after range.begin (values_of (entry ∷ entries)) apart
    (ap (point_lt range.begin) (sym parts.0) ∙ later) in
    ap (λ o. without_points (keys_of within) (match_ordering o ((range.begin, range) ∷ entry ∷ entries)
    ((entry.0, range) ∷ entries) (entry ∷ put range entries)))
    (cmp_less range.begin entry.0 later)
    ∙ without-other (keys_of within) (range.begin, range) (entry ∷ entries)
    (keys_after range.begin (is_within range) (entry ∷ entries) under after)
    ∙ ap (λ (l : Entries). (range.begin, range) ∷ l) (without-within range (entry ∷ entries) under apart)

replaced-sooner : (range : Range) (entry : Point × Range) (entries : Entries)
    → AreUnderBegins (entry ∷ entries) → is_apart (values_of (entry ∷ entries)) ≡ true
    → point_lt entry.0 range.begin ≡ true → replaced range (entry ∷ entries) ≡ entry ∷ replaced range entries
replaced-sooner range entry entries under apart sooner =
    let parts = under_parts entry entries under in
    let within = within_of range entries in
    let outside : is_within range entry.0 ≡ false = and_left _ _ (lt_one_way entry.0 range.begin sooner) in
    let keys = keys_after entry.0 (is_within range) entries parts.1 (after_first entry entries parts.0 apart) in
    ap (λ (l : Entries). without_points (keys_of l) (put range (entry ∷ entries))) (cond-false _ _ _ outside)
    ∙ ap (λ o. without_points (keys_of within) (match_ordering o ((range.begin, range) ∷ entry ∷ entries)
    ((entry.0, range) ∷ entries) (entry ∷ put range entries)))
    (cmp_greater range.begin entry.0 sooner)
    ∙ without-other (keys_of within) entry (put range entries) keys

-- the entries are each under its begin, and their ranges are those of the list with the range in it
abbrev pub IsInserted : Range → Entries → Entries → Type 0
IsInserted range entries result = (values_of result ≡ inserted range (values_of entries)) × AreUnderBegins result

-- what is left of the entries, after the range under its begin
inserted-swallowed : (range : Range) (key : Point) (entries : Entries) → key ≡ range.begin
    → AreUnderBegins entries
    → (values_of ((key, range) ∷ outside_of range entries)
    ≡ range ∷ filter (λ r. not (is_within range r.begin)) (values_of entries))
    × AreUnderBegins ((key, range) ∷ outside_of range entries)
inserted-swallowed range key entries same under = (
  ap (λ (l : List Range). range ∷ l) (values-filter (λ k. not (is_within range k)) entries under),
  under_from (key, range) (outside_of range entries) same
      (under-filter (λ k. not (is_within range k)) entries under),
)

pub is_inserted : (range : Range) (entries : Entries) → point_lt range.begin range.end ≡ true
    → AreUnderBegins entries → is_apart (values_of entries) ≡ true → AllByRecursion (Fits range) (values_of entries)
    → IsInserted range entries (replaced range entries)
unfolding inserted
is_inserted range [] some under apart fits = (refl, refl)
is_inserted range (entry ∷ entries) some under apart fits =
    let parts = under_parts entry entries under in
    let of_first = apart_parts entry.1 (values_of entries) apart in
    let first = entry.1 in
    let ranges = values_of entries in
    let inserted_by = IsInserted range (entry ∷ entries) in
    ⊎_elim
    (λ (sooner : point_lt entry.0 range.begin ≡ true).
    let begins : point_lt first.begin range.begin ≡ true = ap (λ x. point_lt x range.begin) (sym parts.0) ∙ sooner in
    let before : point_lt first.end range.begin ≡ true = before_from range first some begins fits.0 in
    let rest = is_inserted range entries some parts.1 of_first.2 fits.1 in
    subst inserted_by (sym (replaced-sooner range entry entries under apart sooner)) (
      ap (λ (l : List Range). first ∷ l) rest.0 ∙ sym (inserted-before range first ranges before),
      under_from entry (replaced range entries) parts.0 rest.1,
    ))
    (λ (no_sooner : point_lt entry.0 range.begin ≡ false).
    ⊎_elim
    (λ (later : point_lt range.begin entry.0 ≡ true).
    let after = all_after range.begin (first ∷ ranges) apart (ap (point_lt range.begin) (sym parts.0) ∙ later) in
    let made = inserted-swallowed range range.begin (entry ∷ entries) refl under in
    subst inserted_by (sym (swallowed-later range entry entries under apart later)) (
      made.0 ∙ sym (inserted-swallows range (first ∷ ranges) apart after fits),
      made.1,
    ))
    (λ (no_later : point_lt range.begin entry.0 ≡ false).
    let same : entry.0 ≡ range.begin = same_point entry.0 range.begin no_sooner no_later in
    let begins : first.begin ≡ range.begin = sym parts.0 ∙ same in
    let made = inserted-swallowed range entry.0 entries same parts.1 in
    let reaches : point_lt first.end range.begin ≡ false =
    ap (point_lt first.end) (sym begins) ∙ lt_one_way first.begin first.end of_first.0 in
    let reached : point_lt range.end first.begin ≡ false =
    ap (point_lt range.end) begins ∙ lt_one_way range.begin range.end some in
    let after = after_by range.begin first ranges begins apart in
    subst inserted_by (sym (swallowed-same range entry entries under apart same)) (
      made.0
          ∙ sym (inserted-swallows range ranges of_first.2 after fits.1)
          ∙ sym
          (inserted-joined range first ranges reaches reached
          ∙ ap (λ (r : Range). inserted r ranges) (joined-same range first begins reaches reached fits.0)),
      made.1,
    ))
    (cases_Bool (point_lt range.begin entry.0)))
    (cases_Bool (point_lt entry.0 range.begin))

-- the entries with the joined range under its begin, and without those that it swallows
abbrev added : Range → Entries → Entries
added joined entries =
    without_points (begins_within joined entries) (put joined entries)

-- after a range was joined with those that it touches, the map has the list with the range inserted
pub added-is : (range joined : Range) (entries result : Entries) → point_lt range.begin range.end ≡ true
    → AreUnderBegins entries → is_apart (values_of entries) ≡ true
    → joined ≡ joined_with_touched range (values_of entries) → result ≡ added joined entries
    → (values_of result ≡ inserted range (values_of entries)) × AreUnderBegins result
    × (is_apart (values_of result) ≡ true)
added-is range joined entries result some under apart touched is =
    let ranges = values_of entries in
    let whole = joined_with_touched range ranges in
    let made = is_inserted whole entries (some_touched range ranges some apart) under apart
    (touched_fits range ranges some apart) in
    let same : replaced whole entries ≡ result =
    ap (λ keys. without_points keys (put whole entries))
    (sym (begins_within-is whole entries))
    ∙ ap (λ (r : Range). added r entries) (sym touched)
    ∙ sym is in
    let values : values_of result ≡ inserted range ranges =
    sym (ap values_of same) ∙ made.0 ∙ inserted-touched range ranges some apart in
    (values, subst AreUnderBegins same made.1, ap is_apart values ∙ apart-inserted range ranges some apart)

-- an entry that is put under a new key and taken out again leaves what was there
pub taken_back : (entries : Entries) (key : Point) (range : Range)
    → lookup (is_at (slice_cmp nat_cmp key)) entries ≡ None
    → remove_entry (is_at (slice_cmp nat_cmp key)) (insert_entry (slice_cmp nat_cmp) entries key range) ≡ entries
taken_back [] key range absent = cond-true _ _ _ (at_itself key)
taken_back (entry ∷ entries) key range absent =
    by_order (slice_cmp nat_cmp key entry.0) refl (taken_back entries key range)
  where
    Others : Type 0
    Others = lookup (is_at (slice_cmp nat_cmp key)) entries ≡ None
        → remove_entry (is_at (slice_cmp nat_cmp key)) (insert_entry (slice_cmp nat_cmp) entries key range) ≡ entries

    Taken : Ordering → Type 0
    Taken order =
        remove_entry (is_at (slice_cmp nat_cmp key)) (match_ordering order ((key, range) ∷ entry ∷ entries)
        ((entry.0, range) ∷ entries) (entry ∷ insert_entry (slice_cmp nat_cmp) entries key range)) ≡ entry ∷ entries

    by_order : (order : Ordering) → slice_cmp nat_cmp key entry.0 ≡ order → Others → Taken order
    by_order Less is others = cond-true _ _ _ (at_itself key)
    by_order Equal is others = absurd (both_ways _ (ap is_some (sym (cond-true _ _ _ (ap is_eq is)) ∙ absent)) refl)
    by_order Greater is others =
        cond-false _ _ _ (ap is_eq is)
        ∙ ap (λ (l : Entries). entry ∷ l) (others (sym (cond-false _ _ _ (ap is_eq is)) ∙ absent))
