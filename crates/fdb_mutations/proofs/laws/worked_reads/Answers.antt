use Rattle.std.proofs.Common.{◌≡◌, ap, refl, ℕ, Bool, true, false, List, reverse, if◌then◌else◌}
use Rattle.std.specs.FinMap.{entries}
use Rattle.std.specs.List.Sorted.{IsStrictlySortedBy}
use Rattle.fdb_keys.specs.Points.{Point, point_lt}
use Rattle.fdb_keys.specs.Ranges.{Range}
use Rattle.fdb_mutations.specs.Examples.{span}
use Rattle.fdb_mutations.specs.PairExamples.{three, three_pairs}
use Rattle.fdb_mutations.specs.PairLaws.{given_of, scanned_of}
use Rattle.fdb_mutations.specs.Pairs.{pairs_within, first_of, scanned}
use Rattle.fdb_mutations.proofs.MapsLemmas.{entries-sorted}
use Rattle.fdb_mutations.proofs.laws.worked_reads.Goals as goal

entries_of_three : entries three ≡ three_pairs
unfolding IsStrictlySortedBy
entries_of_three = entries-sorted three_pairs ((refl, (refl, tt)), ((refl, tt), (tt, tt)))

-- the three pairs stand for the map's entries, with which nothing can be computed
abbrev of_three : Range → ℕ → Bool → List (Point × List ℕ)
of_three range limit is_reverse =
    first_of limit
    (if is_reverse then reverse (pairs_within range three_pairs) else pairs_within range three_pairs)

given : (range : Range) (limit : ℕ) (is_reverse : Bool)
    → given_of three range limit is_reverse ≡ of_three range limit is_reverse
given range limit is_reverse =
    ap (λ (pairs : List (Point × List ℕ)). first_of limit
    (if is_reverse then reverse (pairs_within range pairs) else pairs_within range pairs)) entries_of_three

read : (range : Range) (limit : ℕ) (is_reverse : Bool)
    → scanned_of three range limit is_reverse ≡ scanned range limit is_reverse (of_three range limit is_reverse)
read range limit is_reverse = ap (scanned range limit is_reverse) (given range limit is_reverse)

pub returns : goal.returns
unfolding point_lt
returns c = (
  given (span 1 9) 3 false,
  read (span 1 9) 3 false,
  given (span 1 9) 2 false,
  read (span 1 9) 2 false,
  given (span 0 9) 2 true,
  read (span 0 9) 2 true,
  read (span 0 9) 3 true,
  given (span 0 3) 3 false,
  read (span 0 3) 3 false,
  given (span 2 9) 0 false,
  read (span 2 9) 0 false,
  given (span 2 9) 0 true,
  read (span 2 9) 0 true,
  given (span 4 9) 1 false,
  read (span 4 9) 1 false,
  given (span 2 2) 1 true,
  read (span 2 2) 1 true,
  given (span 3 1) 1 false,
  read (span 3 1) 1 false,
)
