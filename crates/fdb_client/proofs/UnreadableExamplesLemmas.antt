-- What of the reads of unreadable keys is refused on the map of three pairs.
use Rattle.std.proofs.Common.{◌≡◌, ◌∙◌, sym, ap, refl, ℕ, Bool, true, false, List, [], ◌∷◌, Option, Some, None}
use Rattle.std.proofs.Common.{cond, not, ◌&&◌, if◌then◌else◌}
use Rattle.std.specs.Ordering.{nat_cmp}
use Rattle.std.specs.Cmp.Lexicographic.{slice_cmp, bytes_decides}
use Rattle.std.specs.FinMap.{entries, entries-insert, from_entries, get, nat_cmp-IsAntisymmetric, same_map}
use Rattle.std.specs.FinMap.{slice_cmp-IsAntisymmetric}
use Rattle.std.specs.FinMap.Entries.{put}
use Rattle.std.specs.List.Sorted.{IsStrictlySortedBy}
use Rattle.std.proofs.lemmas.Cmp.{nat_list_cmp_total}
use Rattle.std.proofs.lemmas.Map.Text.{is_eq-slice_cmp}
use Rattle.fdb_keys.specs.Insertion.{inserted}
use Rattle.fdb_keys.specs.Points.{Point, point_eq, point_lt}
use Rattle.fdb_keys.specs.Ranges.{Range}
use Rattle.fdb_keys.specs.declared.refusal.Refusal.TheVariants.{AccessedUnreadable}
use Rattle.fdb_mutations.specs.Examples.{one, span}
use Rattle.fdb_mutations.specs.declared.mutation.Mutation.TheVariants.{CompareAndClear}
use Rattle.fdb_mutations.specs.Mutations.{effect, new_value}
use Rattle.std.specs.BTreeMap.{is_at}
use Rattle.fdb_mutations.specs.PairExamples.{pair, three_pairs, three}
use Rattle.fdb_mutations.specs.PairLaws.{scanned_of}
use Rattle.fdb_mutations.specs.Pairs.{scanned}
use Rattle.fdb_mutations.proofs.Exports.{entries-sorted, get-pairs, value_at}
use Rattle.fdb_client.specs.declared.program.Op.{Op}
use Rattle.fdb_client.specs.Programs.{copy}
use Rattle.fdb_client.specs.Unreadable.{counted, unreadable, unreadable_in}
use Rattle.fdb_client.specs.UnreadableExamples.{compares, operand, refused, sets, stamps}
use Rattle.fdb_client.specs.UnreadableExamples.{WorkedUnreadable, WorkedLeft, WorkedKeyFaults, WorkedRangeFaults}
use Rattle.fdb_client.proofs.KeyExamplesLemmas.{get-copy, there}
use Rattle.fdb_client.proofs.ReadExamplesLemmas.{entries_of_three, given_by}
use Rattle.fdb_client.proofs.UnreadableLaws.{counted-at}

-- ---- the pairs that writes leave, since nothing can be computed with the entries of a map
with_stamped : entries (copy three (stamps 2 ∷ [])) ≡ pair 1 5 ∷ (one 2, operand) ∷ pair 3 7 ∷ []
unfolding effect
with_stamped =
    entries-insert nat_list_cmp_total three (one 2) operand
    ∙ ap (put (slice_cmp nat_cmp) (one 2) operand) entries_of_three

with_set : entries (copy three (sets 2 ∷ stamps 2 ∷ [])) ≡ pair 1 5 ∷ pair 2 9 ∷ pair 3 7 ∷ []
unfolding effect
with_set =
    entries-insert nat_list_cmp_total (copy three (stamps 2 ∷ [])) (one 2) (one 9)
    ∙ ap (put (slice_cmp nat_cmp) (one 2) (one 9)) with_stamped

-- where the bare operand was cleared, no pair is at the key
compared-at : (x : Point) → there (compares ∷ stamps 2 ∷ []) x ≡ value_at (pair 1 5 ∷ pair 3 7 ∷ []) x
compared-at x = by_key (point_eq x (one 2)) refl
  where
    by_key : (same : Bool) → point_eq x (one 2) ≡ same
        → there (compares ∷ stamps 2 ∷ []) x ≡ value_at (pair 1 5 ∷ pair 3 7 ∷ []) x
    by_key true same =
        ap (there (compares ∷ stamps 2 ∷ [])) ((bytes_decides x (one 2)).0 same)
        ∙ ap (value_at (pair 1 5 ∷ pair 3 7 ∷ [])) (sym ((bytes_decides x (one 2)).0 same))
    by_key false same =
        ap (λ (is : Bool). if is then new_value (CompareAndClear (one 2) operand)
        (if is then Some operand else value_at three_pairs x)
        else (if is then Some operand else value_at three_pairs x)) same
        ∙ ap (λ (is : Bool). cond (is_at (slice_cmp nat_cmp x) (one 1)) (Some (one 5)) (cond is (Some (one 6))
        (value_at (pair 3 7 ∷ []) x))) (is_eq-slice_cmp x (one 2) ∙ same)

with_compared : entries (copy three (compares ∷ stamps 2 ∷ [])) ≡ pair 1 5 ∷ pair 3 7 ∷ []
unfolding IsStrictlySortedBy
with_compared =
    ap entries (same_map nat_list_cmp_total (slice_cmp-IsAntisymmetric nat_cmp-IsAntisymmetric)
    (copy three (compares ∷ stamps 2 ∷ [])) (from_entries (pair 1 5 ∷ pair 3 7 ∷ []))
    (λ x. get-copy (compares ∷ stamps 2 ∷ []) x ∙ compared-at x ∙ sym (get-pairs (pair 1 5 ∷ pair 3 7 ∷ []) x)))
    ∙ entries-sorted (pair 1 5 ∷ pair 3 7 ∷ []) ((refl, tt), (tt, tt))

-- ---- a read after these writes, by the pairs that they leave
module _ (ops : List Op) (pairs : List (Point × List ℕ)) (left : entries (copy three ops) ≡ pairs)
    (range : Range) (limit : ℕ) (is_reverse : Bool) where
  scans : unreadable_in ops (scanned_of (copy three ops) range limit is_reverse)
      ≡ unreadable_in ops (scanned range limit is_reverse (given_by pairs range limit is_reverse))
  scans = ap (λ (all : List (Point × List ℕ)).
      unreadable_in ops (scanned range limit is_reverse (given_by all range limit is_reverse))) left

  faults : refused ops range limit is_reverse
      ≡ (if unreadable_in ops (scanned range limit is_reverse (given_by pairs range limit is_reverse))
      then Some AccessedUnreadable else None)
  faults = ap (λ (is : Bool). if is then Some AccessedUnreadable else None) scans

-- what is counted at a key
counts : (ops : List Op) (x : Point)
    → get (counted three ops) x ≡ (if unreadable ops x then Some [] else there ops x)
counts ops x =
    counted-at three ops x
    ∙ ap (λ (value : Option (List ℕ)). if unreadable ops x then Some [] else value) (get-copy ops x)

pub worked_unreadable : WorkedUnreadable
unfolding point_lt
worked_unreadable = (
  refl,
  refl,
  refl,
  refl,
  refl,
  refl,
  refl,
  refl,
  refl,
  refl,
  refl,
  refl,
  refl,
  refl,
  refl,
  refl,
  refl,
  refl,
  refl,
  refl,
  refl,
  refl,
  refl,
  refl,
  refl,
  refl,
  refl,
  refl,
  refl,
)

pub worked_left : WorkedLeft
worked_left = (
  refl,
  refl,
  refl,
  refl,
  refl,
  refl,
  refl,
  refl,
  refl,
  refl,
  refl,
  refl,
  refl,
  refl,
  refl,
  refl,
  refl,
  refl,
  refl,
)

pub worked_key_faults : WorkedKeyFaults
unfolding point_lt inserted
worked_key_faults = (
  refl,
  refl,
  refl,
  refl,
  refl,
  refl,
  refl,
  (λ given. refl),
  (λ given. refl),
  refl,
  refl,
  refl,
  refl,
  refl,
  refl,
  refl,
  refl,
  refl,
  refl,
  refl,
  refl,
  refl,
  refl,
  refl,
)

pub worked_range_faults : WorkedRangeFaults
unfolding point_lt
worked_range_faults = (
  faults (stamps 2 ∷ []) _ with_stamped (span 1 9) 0 false,
  faults (stamps 2 ∷ []) _ with_stamped (span 1 9) 1 false,
  faults (stamps 2 ∷ []) _ with_stamped (span 1 9) 2 false,
  faults (stamps 2 ∷ []) _ with_stamped (span 2 9) 1 false,
  faults (stamps 2 ∷ []) _ with_stamped (span 1 9) 0 true,
  faults (stamps 2 ∷ []) _ with_stamped (span 1 9) 1 true,
  faults (stamps 2 ∷ []) _ with_stamped (span 1 9) 2 true,
  faults (stamps 2 ∷ []) _ with_stamped (span 1 3) 1 true,
  faults (stamps 2 ∷ []) _ with_stamped (span 3 9) 0 false,
  faults (stamps 2 ∷ []) _ with_stamped (span 1 2) 0 false,
  faults (compares ∷ stamps 2 ∷ []) _ with_compared (span 1 9) 1 false,
  faults (compares ∷ stamps 2 ∷ []) _ with_compared (span 1 9) 2 false,
  faults (compares ∷ stamps 2 ∷ []) _ with_compared (span 2 9) 1 false,
  faults (compares ∷ stamps 2 ∷ []) _ with_compared (span 1 9) 1 true,
  faults (compares ∷ stamps 2 ∷ []) _ with_compared (span 1 9) 2 true,
  faults (sets 2 ∷ stamps 2 ∷ []) _ with_set (span 1 9) 0 false,
  refl,
  faults (stamps 2 ∷ []) _ with_stamped (span 1 9) 0 false,
  faults (stamps 2 ∷ []) _ with_stamped (span 1 9) 1 false,
  refl,
  ap (λ (is : Bool). not is && true) (scans (stamps 2 ∷ []) _ with_stamped (span 1 9) 2 false),
  ap (λ (is : Bool). not is && true) (scans (stamps 2 ∷ []) _ with_stamped (span 1 9) 1 false),
  counts (stamps 2 ∷ []) (one 2),
  counts (compares ∷ stamps 2 ∷ []) (one 2),
  counts (sets 2 ∷ stamps 2 ∷ []) (one 2),
  counts (stamps 2 ∷ []) (one 3),
  counts (stamps 2 ∷ []) (one 4),
)
