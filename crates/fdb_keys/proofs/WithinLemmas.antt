-- Ranges that lie in others.
use Rattle.std.proofs.Common.{◌≡◌, true, not, ⊎_elim, ◌↔◌}
use Rattle.std.proofs.lemmas.Bool.{cases_Bool, both_ways, and_parts, and_from, or_left, or_right, or_cases, not-true}
use Rattle.std.proofs.lemmas.Bool.{not_from_false}
use Rattle.fdb_keys.specs.Points.{Point, point_lt}
use Rattle.fdb_keys.specs.Ranges.{Range, in_range, is_empty_range, is_within}
use Rattle.fdb_keys.proofs.PointOrder.{lt-itself, lt_one_way, le_chain, lt_le_chain}
use Rattle.fdb_keys.proofs.RangesLemmas.{in_range_parts, in_range_from}
use Rattle.fdb_keys.proofs.InsertionLemmas.{in_range-empty}

-- a range with a point has its begin
begin-inside : (range : Range) → point_lt range.begin range.end ≡ true → in_range range range.begin ≡ true
begin-inside range some = in_range_from range range.begin (lt-itself range.begin) some

-- a range lies in another one exactly where each of its points does
pub within-points : (range whole : Range)
    → (is_within range whole ≡ true) ↔ ((x : Point) → in_range range x ≡ true → in_range whole x ≡ true)
within-points range whole = (inside, within)
  where
    inside : is_within range whole ≡ true → (x : Point) → in_range range x ≡ true → in_range whole x ≡ true
    inside is x there = ⊎_elim
        (λ empty. absurd (both_ways (in_range range x) (in_range-empty range x empty) there))
        (λ some.
        let parts : (not (point_lt range.begin whole.begin) ≡ true) × (not (point_lt whole.end range.end) ≡ true) =
        and_parts _ _ some in
        let of_range = in_range_parts range x there in
        in_range_from whole x (le_chain whole.begin range.begin x (not-true _ parts.0) of_range.0)
        (lt_le_chain x range.end whole.end of_range.1 (not-true _ parts.1)))
        (or_cases _ _ is)

    within : ((x : Point) → in_range range x ≡ true → in_range whole x ≡ true) → is_within range whole ≡ true
    within each = ⊎_elim
        (λ some. or_right (is_empty_range range) _
        (let here = in_range_parts whole range.begin (each range.begin (begin-inside range some)) in
        and_from _ _ (not_from_false _ here.0)
        (⊎_elim
        (λ beyond. absurd (both_ways (point_lt whole.end whole.end) (lt-itself whole.end)
        (in_range_parts whole whole.end (each whole.end
        (in_range_from range whole.end (lt_one_way range.begin whole.end here.1) beyond))).1))
        (λ until. not_from_false _ until)
        (cases_Bool (point_lt whole.end range.end)))))
        (λ none. or_left (is_empty_range range) _ (not_from_false _ none))
        (cases_Bool (point_lt range.begin range.end))
