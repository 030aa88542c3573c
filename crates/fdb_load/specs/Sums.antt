-- The numbers that keys have.
use Rattle.std.specs.Prelude.{◌==◌, ◌^◌, ◌&&◌, ℕ, Bool, List, length, sum_by, nat_lt, Option, Some, None, if◌then◌else◌}
use Rattle.std.specs.Int.{w64, from_le_bytes}
use Rattle.std.specs.List.{list_all}
use Rattle.fdb_keys.specs.Points.{Point}

-- the value has the eight bytes of a number
abbrev pub is_number : List ℕ → Bool
is_number value = length value == 8

-- the number that eight bytes are, the lowest one first
abbrev pub number_of : List ℕ → ℕ
number_of value = from_le_bytes w64 value

-- each value of the pairs is a number
abbrev pub are_numbers : List (Point × List ℕ) → Bool
are_numbers pairs = list_all (λ pair. is_number pair.1) pairs

-- the sum of the numbers that the values of the pairs are
abbrev pub sum_of : List (Point × List ℕ) → ℕ
sum_of pairs = sum_by (λ pair. number_of pair.1) pairs

-- this sum, if each value is a number and eight bytes hold the sum
abbrev pub told_sum : List (Point × List ℕ) → Option ℕ
told_sum pairs = if are_numbers pairs && nat_lt (sum_of pairs) (2 ^ 64) then Some (sum_of pairs) else None
