-- The sum of pairs where it grows too large.
use Rattle.std.proofs.Common.{◌≡◌, ℕ, ◌+◌, ◌<◌, ◌≤◌, ◌^◌, List, length, take, get_or, Some, None, arith}
use Rattle.std.proofs.lemmas.Bool.Decides.{nat_tests}
use Rattle.std.proofs.lemmas.List.Sums.{sum_by_more_le}
use Rattle.std.proofs.lemmas.Option.{cond_some}
use Rattle.fdb_keys.specs.Points.{Point}
use Rattle.fdb_load.specs.Sums.{number_of, sum_of, told_sum}

-- Where the numbers of the first pairs and the next one come to more than eight bytes hold, so do all.
pub told_sum-too_large : (pairs : List (Point × List ℕ)) (i sum : ℕ) (pair : Point × List ℕ) → i < length pairs
    → told_sum (take i pairs) ≡ Some sum → 2 ^ 64 ≤ sum + number_of (get_or pairs i pair).1 → told_sum pairs ≡ None
told_sum-too_large pairs i sum pair inside before large =
    let is : sum_of (take i pairs) ≡ sum = (cond_some _ (sum_of (take i pairs)) sum before).1 in
    let bound = sum_by_more_le (λ (p : Point × List ℕ). number_of p.1) pairs i pair inside in
    let far : 2 ^ 64 ≤ sum_of pairs = omega arith in
    grind (arith, nat_tests)
