-- Which versions are below an end.
use Rattle.std.specs.Prelude.{ℕ, Bool, true, nat_lt, Option, Some, None}

-- the version is below the end, where there is one
abbrev pub is_below : ℕ → Option ℕ → Bool
is_below version None = true
is_below version (Some end) = nat_lt version end
