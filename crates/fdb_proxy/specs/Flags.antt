-- Lists of flags, one for each role of a kind.
use Rattle.std.specs.Prelude.{ℕ, suc, Bool, false, List, [], ◌∷◌, Option, Some, None, unwrap_or, slice_get}
use Rattle.std.specs.Prelude.{if◌then◌else◌}

-- the flag with the number is there and set
abbrev pub is_set : List Bool → ℕ → Bool
is_set flags number = unwrap_or (slice_get flags number) false

-- the least number, of those from n on, whose flag isn't set
abbrev pub first_unset : ℕ → List Bool → Option ℕ
first_unset n [] = None
first_unset n (flag ∷ flags) = if flag then first_unset (suc n) flags else Some n
