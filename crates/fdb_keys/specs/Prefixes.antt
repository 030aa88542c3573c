-- The keys that begin with a prefix, as a range.
use Rattle.std.specs.Prelude.{ℕ, suc, Bool, true, false, ◌&&◌, nat_eq, nat_le, List, [], ◌∷◌, if◌then◌else◌}
use Rattle.fdb_keys.specs.Points.{Point}
use Rattle.fdb_keys.specs.Ranges.{Range}

-- each number of the text is a byte, as each one of a key is
abbrev pub are_bytes : List ℕ → Bool
are_bytes [] = true
are_bytes (byte ∷ bytes) = nat_le byte 255 && are_bytes bytes

-- each byte of the text is FF
abbrev pub all_ff : List ℕ → Bool
all_ff [] = true
all_ff (byte ∷ bytes) = nat_eq byte 255 && all_ff bytes

-- the text begins with the prefix
abbrev pub begins_with : List ℕ → Point → Bool
begins_with [] x = true
begins_with (byte ∷ bytes) [] = false
begins_with (byte ∷ bytes) (first ∷ rest) = nat_eq first byte && begins_with bytes rest

-- The least text after all that begin with the prefix: its last byte that isn't FF is one greater, and what comes
-- behind that is dropped. All keys begin with the empty prefix, and the one byte FF comes after them.
abbrev pub after_prefix : List ℕ → List ℕ
after_prefix [] = 255 ∷ []
after_prefix (byte ∷ bytes) = if all_ff bytes then suc byte ∷ [] else byte ∷ after_prefix bytes

-- the keys that begin with the prefix
abbrev pub prefix_range : List ℕ → Range
prefix_range prefix = record { begin = prefix; end = after_prefix prefix }
