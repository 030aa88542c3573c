-- How many pairs of a page are wanted yet.
use Rattle.std.specs.Prelude.{◌≡◌, ◌≤◌, ℕ, false, nat_eq, List, length, ◌-◌, nat_lt, Option, Some, None, if◌then◌else◌}
use Rattle.fdb_keys.specs.Points.{Point}

-- no more than are wanted, where 0 stands for all
abbrev pub AreFew : ℕ → List (Point × List ℕ) → Type 0
AreFew wanted pairs = nat_eq wanted 0 ≡ false → length pairs ≤ wanted

-- how many are still wanted beside so many, where 0 stands for all
abbrev pub left_of : ℕ → ℕ → Option ℕ
left_of wanted count =
    if nat_eq wanted 0 then Some 0 else (if nat_lt count wanted then Some (wanted - count) else None)
