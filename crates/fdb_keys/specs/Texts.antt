-- Which texts are keys and bounds, and why others are refused.
use Rattle.std.specs.Prelude.{ℕ, Bool, false, not, ◌&&◌, ◌||◌, nat_lt, nat_le, List, [], ◌∷◌, length, Option, Some}
use Rattle.std.specs.Prelude.{None, if◌then◌else◌}
use Rattle.fdb_keys.specs.Limits.{key_limit, bound_limit}
use Rattle.fdb_keys.specs.Points.{point_lt}
use Rattle.fdb_keys.specs.declared.refusal.Refusal.{Refusal}
use Rattle.fdb_keys.specs.declared.refusal.Refusal.TheVariants.{KeyTooLarge, KeyOutsideLegalRange, InvertedRange}

-- the text's first byte is FF, which no byte exceeds
abbrev pub begins_with_ff : List ℕ → Bool
begins_with_ff [] = false
begins_with_ff (byte ∷ bytes) = nat_le 255 byte

-- a key has at most 10,000 bytes, and its first isn't FF
abbrev pub is_key : List ℕ → Bool
is_key text = nat_le (length text) key_limit && not (begins_with_ff text)

-- the text comes after the one byte FF
abbrev pub is_after_ff : List ℕ → Bool
is_after_ff text = point_lt (255 ∷ []) text

-- a bound has at most 10,001 bytes, and is at most the one byte FF
abbrev pub is_bound : List ℕ → Bool
is_bound text = nat_le (length text) bound_limit && not (is_after_ff text)

-- why a text is no key
abbrev pub key_fault : List ℕ → Option Refusal
key_fault text =
    if nat_lt key_limit (length text) then Some KeyTooLarge
    else (if begins_with_ff text then Some KeyOutsideLegalRange else None)

-- why two texts are no range
abbrev pub range_fault : List ℕ → List ℕ → Option Refusal
range_fault begin end =
    if nat_lt bound_limit (length begin) || nat_lt bound_limit (length end) then Some KeyTooLarge
    else (if is_after_ff begin || is_after_ff end then Some KeyOutsideLegalRange
    else (if point_lt end begin then Some InvertedRange else None))
