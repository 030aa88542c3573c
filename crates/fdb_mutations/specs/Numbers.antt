-- Bytes as little-endian numbers: the first byte is the lowest.
use Rattle.std.specs.Prelude.{ℕ, ◌+◌, ◌*◌, List, [], ◌∷◌, nat_lt, if◌then◌else◌}
use Rattle.std.specs.Int.{bytes_low_first}

abbrev pub number_of : List ℕ → ℕ
number_of [] = 0
number_of (byte ∷ bytes) = byte + 256 * number_of bytes

-- as many of the number's lowest bytes
abbrev pub bytes_of : ℕ → ℕ → List ℕ
bytes_of count number = bytes_low_first 0 count number

-- of two texts the one that is the greater number
abbrev pub greater_number : List ℕ → List ℕ → List ℕ
greater_number a b = if nat_lt (number_of b) (number_of a) then a else b

-- of two texts the one that is the smaller number
abbrev pub lesser_number : List ℕ → List ℕ → List ℕ
lesser_number a b = if nat_lt (number_of a) (number_of b) then a else b
