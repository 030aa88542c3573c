-- What programs read of the map of three pairs.
use Rattle.std.proofs.Common.{◌≡◌, ◌∙◌, sym, ap, refl, ℕ, Bool, true, false, not, List, [], ◌∷◌, Option, reverse}
use Rattle.std.proofs.Common.{if◌then◌else◌}
use Rattle.std.specs.Ordering.{nat_cmp}
use Rattle.std.specs.Cmp.Lexicographic.{slice_cmp}
use Rattle.std.specs.FinMap.{entries, entries-insert}
use Rattle.std.specs.FinMap.Entries.{put}
use Rattle.std.specs.List.Sorted.{IsStrictlySortedBy}
use Rattle.std.proofs.lemmas.Cmp.{nat_list_cmp_total}
use Rattle.fdb_keys.specs.Insertion.{inserted}
use Rattle.fdb_keys.specs.Points.{Point, point_lt}
use Rattle.fdb_keys.specs.Ranges.{Range, in_range}
use Rattle.fdb_mutations.specs.declared.mutation.Mutation.TheVariants.{Add}
use Rattle.fdb_mutations.specs.Examples.{one, span}
use Rattle.fdb_mutations.specs.Mutations.{effect, new_value, with_value}
use Rattle.fdb_mutations.specs.PairExamples.{pair, three_pairs, three}
use Rattle.fdb_mutations.specs.PairLaws.{given_of}
use Rattle.fdb_mutations.specs.Pairs.{pairs_within, first_of, scanned}
use Rattle.fdb_mutations.proofs.Exports.{entries-sorted, get-pairs, some_kept}
use Rattle.fdb_client.specs.declared.program.Op.{Op}
use Rattle.fdb_client.specs.declared.program.Op.TheVariants as operation
use Rattle.fdb_client.specs.declared.program.Reply.TheVariants.{Pairs}
use Rattle.fdb_client.specs.Programs.{copy, add_scanned}
use Rattle.fdb_client.specs.ReadExamples.{WorkedRangeReads, reading, replied, read_by, sets, clears, adds}

-- ---- the pairs that writes leave, since nothing can be computed with the entries of a map
pub entries_of_three : entries three ≡ three_pairs
unfolding IsStrictlySortedBy
entries_of_three = entries-sorted three_pairs ((refl, (refl, tt)), ((refl, tt), (tt, tt)))

with_set : entries (copy three (sets ∷ [])) ≡ pair 1 5 ∷ pair 2 6 ∷ pair 3 7 ∷ pair 5 8 ∷ []
unfolding effect
with_set =
    entries-insert nat_list_cmp_total three (one 5) (one 8)
    ∙ ap (put (slice_cmp nat_cmp) (one 5) (one 8)) entries_of_three

with_cleared : entries (copy three (clears ∷ [])) ≡ pair 1 5 ∷ pair 3 7 ∷ []
unfolding effect point_lt IsStrictlySortedBy
with_cleared =
    ap entries (sym (some_kept three_pairs (λ x. not (in_range (span 2 3) x))))
    ∙ entries-sorted (pair 1 5 ∷ pair 3 7 ∷ []) ((refl, tt), (tt, tt))

with_added : entries (copy three (adds ∷ [])) ≡ pair 1 5 ∷ pair 2 7 ∷ pair 3 7 ∷ []
unfolding effect
with_added =
    ap (λ (old : Option (List ℕ)). entries (with_value three (one 2) (new_value (Add (one 2) (one 1)) old)))
    (get-pairs three_pairs (one 2))
    ∙ entries-insert nat_list_cmp_total three (one 2) (one 7)
    ∙ ap (put (slice_cmp nat_cmp) (one 2) (one 7)) entries_of_three

-- ---- a read after these writes, by the pairs that they leave
abbrev pub given_by : List (Point × List ℕ) → Range → ℕ → Bool → List (Point × List ℕ)
given_by pairs range limit is_reverse =
    first_of limit (if is_reverse then reverse (pairs_within range pairs) else pairs_within range pairs)

module _ (earlier : List Op) (pairs : List (Point × List ℕ)) (left : entries (copy three earlier) ≡ pairs)
    (range : Range) (limit : ℕ) (is_reverse : Bool) where
  given : given_of (copy three earlier) range limit is_reverse ≡ given_by pairs range limit is_reverse
  given = ap (λ (all : List (Point × List ℕ)). given_by all range limit is_reverse) left

  replies : (snapshot : Bool) → replied (operation.Range range limit is_reverse snapshot ∷ earlier)
      ≡ Pairs (given_by pairs range limit is_reverse) ∷ replied earlier
  replies snapshot = ap (λ (all : List (Point × List ℕ)). Pairs all ∷ replied earlier) given

  ranges : read_by (reading range limit is_reverse ∷ earlier)
      ≡ add_scanned earlier (scanned range limit is_reverse (given_by pairs range limit is_reverse)) (read_by earlier)
  ranges =
      ap (λ (all : List (Point × List ℕ)). add_scanned earlier (scanned range limit is_reverse all) (read_by earlier))
      given

pub worked_range_reads : WorkedRangeReads
unfolding point_lt inserted
worked_range_reads = (
  replies [] three_pairs entries_of_three (span 1 9) 3 false false,
  ranges [] three_pairs entries_of_three (span 1 9) 3 false,
  replies (sets ∷ []) _ with_set (span 2 9) 3 false false,
  ranges (sets ∷ []) _ with_set (span 2 9) 3 false,
  replies (sets ∷ []) _ with_set (span 0 9) 2 true false,
  ranges (sets ∷ []) _ with_set (span 0 9) 2 true,
  replies [] three_pairs entries_of_three (span 0 9) 4 true false,
  ranges [] three_pairs entries_of_three (span 0 9) 4 true,
  replies (clears ∷ []) _ with_cleared (span 1 9) 2 false false,
  ranges (clears ∷ []) _ with_cleared (span 1 9) 2 false,
  replies (adds ∷ []) _ with_added (span 1 3) 0 false false,
  ranges (adds ∷ []) _ with_added (span 1 3) 0 false,
  replies [] three_pairs entries_of_three (span 2 2) 1 false false,
  ranges [] three_pairs entries_of_three (span 2 2) 1 false,
  replies [] three_pairs entries_of_three (span 3 255) 0 false false,
  ranges [] three_pairs entries_of_three (span 3 255) 0 false,
  replies [] three_pairs entries_of_three (span 2 9) 0 false true,
  refl,
)
