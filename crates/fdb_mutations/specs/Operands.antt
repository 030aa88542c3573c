-- What is made of an old value and an operand.
use Rattle.std.specs.Prelude.{ℕ, ◌+◌, ◌-◌, ◌++◌, Bool, false, ◌&&◌, nat_le, List, [], length, take, replicate, map}
use Rattle.std.specs.Prelude.{Option, Some, None}
use Rattle.std.specs.List.{zip}
use Rattle.fdb_keys.specs.Points.{point_eq}
use Rattle.fdb_mutations.specs.Numbers.{number_of, bytes_of}

-- the value, cut to as many bytes or extended to them with zero bytes at its end
abbrev pub fit : ℕ → List ℕ → List ℕ
fit count value = take count value ++ replicate (count - length value) 0

-- the value, with no bytes where there is none
abbrev pub present : Option (List ℕ) → List ℕ
present None = []
present (Some value) = value

-- the operand where there is no value, and else what the two make
abbrev pub combined : (List ℕ → List ℕ → List ℕ) → Option (List ℕ) → List ℕ → List ℕ
combined make None operand = operand
combined make (Some value) operand = make value operand

-- each byte of the value beside the operand's, with the value fitted to it
abbrev pub bytewise : (ℕ → ℕ → ℕ) → List ℕ → List ℕ → List ℕ
bytewise make value operand = map (λ pair. make pair.0 pair.1) (zip (fit (length operand) value) operand)

-- the sum of the two numbers, wrapped at the operand's length
abbrev pub sum_of : List ℕ → List ℕ → List ℕ
sum_of value operand = bytes_of (length operand) (number_of (fit (length operand) value) + number_of operand)

-- the operand has 1 to 16 bytes, so that it can be added
abbrev pub is_addend : List ℕ → Bool
is_addend operand = nat_le 1 (length operand) && nat_le (length operand) 16

-- there is a value, and it is this one
abbrev pub has_value : Option (List ℕ) → List ℕ → Bool
has_value None operand = false
has_value (Some value) operand = point_eq value operand
