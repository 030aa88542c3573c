-- What was under the begins of a map, put back in the other order, is what there was before.
use Rattle.std.proofs.Common.{◌≡◌, ◌∙◌, sym, ap, refl, true, ⊎_elim, Option, Some, None, is_some, List, [], ◌∷◌, ◌++◌}
use Rattle.std.proofs.Common.{Less, Equal, Greater}
use Rattle.std.specs.BTreeMap.{insert_entry, is_at}
use Rattle.std.specs.Cmp.Lexicographic.{slice_cmp}
use Rattle.std.specs.List.{AllByRecursion}
use Rattle.std.specs.List.Sorted.{IsStrictlySortedBy}
use Rattle.std.specs.Map.{keys_of, lookup, remove_entry}
use Rattle.std.specs.Ordering.{nat_cmp, is_eq, is_lt, match_ordering}
use Rattle.std.specs.declared.cmp.Ordering.{Ordering}
use Rattle.std.proofs.lemmas.Bool.{cases_Bool, both_ways, cond-true, cond-false}
use Rattle.std.proofs.lemmas.Cmp.{nat_list_cmp_total, tied_itself}
use Rattle.std.proofs.lemmas.Map.Keys.{sorted_head, sorted_tail}
use Rattle.fdb_keys.specs.Joining.{put_back, all_put_back}
use Rattle.fdb_keys.specs.Points.{Point, point_lt}
use Rattle.fdb_keys.specs.RangeMaps.{Entries}
use Rattle.fdb_keys.specs.Ranges.{Range}
use Rattle.fdb_keys.proofs.PointOrder.{lt_chain, cmp_less}
use Rattle.fdb_keys.proofs.RangeMapLemmas.{taken_back, at_itself}

-- ---- an entry that is put under a key
abbrev pub put_at : Point → Range → Entries → Entries
put_at key range entries = insert_entry (slice_cmp nat_cmp) entries key range

abbrev found_at : Point → Entries → Option Range
found_at key entries = lookup (is_at (slice_cmp nat_cmp key)) entries

-- what insertion makes of a list with a first entry, by how the key compares with that one
abbrev pub put_by : Point → Range → (Point × Range) → Entries → Ordering → Entries
put_by key range entry entries order =
    match_ordering order ((key, range) ∷ entry ∷ entries) ((entry.0, range) ∷ entries)
    (entry ∷ put_at key range entries)

found_put : (key : Point) (range : Range) (entries : Entries) → found_at key (put_at key range entries) ≡ Some range
found_put key range [] = cond-true _ _ _ (at_itself key)
found_put key range (entry ∷ entries) = by_order (slice_cmp nat_cmp key entry.0) refl (found_put key range entries)
  where
    by_order : (order : Ordering) → slice_cmp nat_cmp key entry.0 ≡ order
        → found_at key (put_at key range entries) ≡ Some range
        → found_at key (put_by key range entry entries order) ≡ Some range
    by_order Less is rest = cond-true _ _ _ (at_itself key)
    by_order Equal is rest = cond-true _ _ _ (ap is_eq is)
    by_order Greater is rest = cond-false _ _ _ (ap is_eq is) ∙ rest

put_twice : (key : Point) (range other : Range) (entries : Entries)
    → put_at key other (put_at key range entries) ≡ put_at key other entries
put_twice key range other [] = ap (put_by key other (key, range) []) (tied_itself nat_list_cmp_total key)
put_twice key range other (entry ∷ entries) =
    by_order (slice_cmp nat_cmp key entry.0) refl (put_twice key range other entries)
  where
    by_order : (order : Ordering) → slice_cmp nat_cmp key entry.0 ≡ order
        → put_at key other (put_at key range entries) ≡ put_at key other entries
        → put_at key other (put_by key range entry entries order) ≡ put_by key other entry entries order
    by_order Less is rest =
        ap (put_by key other (key, range) (entry ∷ entries)) (tied_itself nat_list_cmp_total key)
    by_order Equal is rest = ap (put_by key other (entry.0, range) entries) is
    by_order Greater is rest =
        ap (put_by key other entry (put_at key range entries)) is ∙ ap (λ (l : Entries). entry ∷ l) rest

-- nothing is found before the first key of a sorted list
none_before : (key first : Point) (entries : Entries) → point_lt key first ≡ true
    → AllByRecursion (λ next. slice_cmp nat_cmp first next ≡ Less) (keys_of entries) → found_at key entries ≡ None
unfolding point_lt
none_before key first [] before after = refl
none_before key first (entry ∷ entries) before after =
    cond-false _ _ _ (ap is_eq (cmp_less key entry.0 (lt_chain key first entry.0 before (ap is_lt after.0))))
    ∙ none_before key first entries before after.1

-- what is under a key, put there, changes nothing
put_same : (key : Point) (range : Range) (entries : Entries) → IsStrictlySortedBy (slice_cmp nat_cmp) (keys_of entries)
    → found_at key entries ≡ Some range → put_at key range entries ≡ entries
unfolding point_lt
put_same key range [] sorted found = cc
put_same key range (entry ∷ entries) sorted found =
    by_order (slice_cmp nat_cmp key entry.0) refl
    (put_same key range entries (sorted_tail (slice_cmp nat_cmp) entry.0 (keys_of entries) sorted))
  where
    Others : Type 0
    Others = found_at key entries ≡ Some range → put_at key range entries ≡ entries

    by_order : (order : Ordering) → slice_cmp nat_cmp key entry.0 ≡ order → Others
        → put_by key range entry entries order ≡ entry ∷ entries
    by_order Less is others =
        let none : found_at key entries ≡ None = none_before key entry.0 entries (ap is_lt is)
        (sorted_head (slice_cmp nat_cmp) entry.0 (keys_of entries) sorted) in
        let absent : Some range ≡ None = sym found ∙ cond-false _ _ _ (ap is_eq is) ∙ none in cc
    by_order Equal is others =
        let same : Some entry.1 ≡ Some range = sym (cond-true _ _ _ (ap is_eq is)) ∙ found in
        let held : range ≡ entry.1 = cc in
        ap (λ (r : Range). (entry.0, r) ∷ entries) held
    by_order Greater is others =
        ap (λ (l : Entries). entry ∷ l) (others (sym (cond-false _ _ _ (ap is_eq is)) ∙ found))

none_removed : (key : Point) (entries : Entries) → found_at key entries ≡ None
    → remove_entry (is_at (slice_cmp nat_cmp key)) entries ≡ entries
none_removed key [] absent = refl
none_removed key (entry ∷ entries) absent =
    ⊎_elim
    (λ here. absurd (both_ways _ (ap is_some (sym (cond-true _ _ _ here) ∙ absent)) refl))
    (λ elsewhere.
    cond-false _ _ _ elsewhere
    ∙ ap (λ (l : Entries). entry ∷ l)
    (none_removed key entries (sym (cond-false _ _ _ elsewhere) ∙ absent)))
    (cases_Bool (is_at (slice_cmp nat_cmp key) entry.0))

-- ---- one entry put back
back_after_put : (key : Point) (range : Range) (entries : Entries) (found : Option Range)
    → IsStrictlySortedBy (slice_cmp nat_cmp) (keys_of entries) → found_at key entries ≡ found
    → put_back key found (put_at key range entries) ≡ entries
back_after_put key range entries None sorted is = taken_back entries key range is
back_after_put key range entries (Some held) sorted is =
    cond-true _ _ _ (ap is_some (found_put key range entries))
    ∙ put_twice key range held entries
    ∙ put_same key held entries sorted is

back_unchanged : (key : Point) (entries : Entries) (found : Option Range)
    → IsStrictlySortedBy (slice_cmp nat_cmp) (keys_of entries) → found_at key entries ≡ found
    → put_back key found entries ≡ entries
back_unchanged key entries None sorted is = none_removed key entries is
back_unchanged key entries (Some held) sorted is =
    cond-true _ _ _ (ap is_some is) ∙ put_same key held entries sorted is

-- ---- one more in the list of what is put back
pub back_with_last : (held : List (Point × Option Range)) (last : Point × Option Range) (entries : Entries)
    → all_put_back (held ++ last ∷ []) entries ≡ all_put_back held (put_back last.0 last.1 entries)
back_with_last [] last entries = refl
back_with_last (first ∷ held) last entries = ap (put_back first.0 first.1) (back_with_last held last entries)

module _ (held list : List (Point × Option Range)) (key : Point) (found : Option Range) (entries after : Entries)
    (pushed : list ≡ held ++ (key, found) ∷ []) (is : found ≡ found_at key entries)
    (sorted : IsStrictlySortedBy (slice_cmp nat_cmp) (keys_of entries)) where
  pub back_pushed-put : (range : Range) → after ≡ insert_entry (slice_cmp nat_cmp) entries key range
      → all_put_back list after ≡ all_put_back held entries
  back_pushed-put range put =
      ap (λ (l : List (Point × Option Range)). all_put_back l after) pushed
      ∙ back_with_last held (key, found) after
      ∙ ap (λ (e : Entries). all_put_back held (put_back key found e)) put
      ∙ ap (all_put_back held) (back_after_put key range entries found sorted (sym is))

  pub back_pushed-same : after ≡ entries → all_put_back list after ≡ all_put_back held entries
  back_pushed-same same =
      ap (λ (l : List (Point × Option Range)). all_put_back l after) pushed
      ∙ back_with_last held (key, found) after
      ∙ ap (λ (e : Entries). all_put_back held (put_back key found e)) same
      ∙ ap (all_put_back held) (back_unchanged key entries found sorted (sym is))
