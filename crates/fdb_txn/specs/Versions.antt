-- Versions between two at which something holds, and at which something changes.
use Rattle.std.specs.Prelude.{ℕ, zero, suc, Bool, false, ◌+◌, ◌&&◌, not, nat_le, if◌then◌else◌}

-- how many of the versions above low and at most high pass the test
abbrev pub count_between : (ℕ → Bool) → ℕ → ℕ → ℕ
count_between test low zero = 0
count_between test low (suc v) = count_between test low v + (if nat_le low v && test (suc v) then 1 else 0)

-- whether what stands at a version isn't what stands at the one before, by a test of two being the same
abbrev pub changes_by : {V : Type 0} → (V → V → Bool) → (ℕ → V) → ℕ → Bool
changes_by same value_of zero = false
changes_by same value_of (suc v) = not (same (value_of (suc v)) (value_of v))
