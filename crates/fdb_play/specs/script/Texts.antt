-- Byte texts and the bytes that they write.
use Rattle.std.specs.Prelude.{ℕ, ◌+◌, ◌*◌, ◌==◌, Bool, ◌&&◌, ◌||◌, nat_lt, List, [], ◌∷◌, Option, Some, None}
use Rattle.std.specs.Prelude.{if◌then◌else◌}
use Rattle.std.specs.Char.{digit_value, is_ascii_alphanumeric}

-- a byte that may write itself: a letter, a digit, '.', '_' or '/'
abbrev pub is_plain : ℕ → Bool
is_plain byte = is_ascii_alphanumeric byte || (byte == 46) || (byte == 95) || (byte == 47)

-- the three bytes are '%' and two hexadecimal digits, in upper or lower case
abbrev pub is_escape : ℕ → ℕ → ℕ → Bool
is_escape mark high low = (mark == 37) && nat_lt (digit_value high) 16 && nat_lt (digit_value low) 16

-- a byte and then the others, where there are any others to come after it
abbrev pub put_before : ℕ → Option (List ℕ) → Option (List ℕ)
put_before byte None = None
put_before byte (Some bytes) = Some (byte ∷ bytes)

-- the bytes that a row of plain bytes and escapes writes, and none for another row
abbrev pub bytes_of : List ℕ → Option (List ℕ)
bytes_of [] = Some []
bytes_of (a ∷ []) = if is_plain a then Some (a ∷ []) else None
bytes_of (a ∷ b ∷ []) = if is_plain a then put_before a (bytes_of (b ∷ [])) else None
bytes_of (a ∷ b ∷ c ∷ rest) =
    if is_plain a then put_before a (bytes_of (b ∷ c ∷ rest))
    else (if is_escape a b c then put_before (digit_value b * 16 + digit_value c) (bytes_of rest) else None)

-- the bytes that a word writes, if it is a byte text: the word '%' alone writes none
abbrev pub value_of : List ℕ → Option (List ℕ)
value_of [] = None
value_of (a ∷ []) = if a == 37 then Some [] else bytes_of (a ∷ [])
value_of (a ∷ b ∷ rest) = bytes_of (a ∷ b ∷ rest)
