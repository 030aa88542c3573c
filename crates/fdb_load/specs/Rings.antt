-- Keys of which each has the name of the next one.
use Rattle.std.specs.Prelude.{◌≡◌, ◌≢◌, ◌==◌, ◌<◌, ℕ, zero, suc, List, length, codes, Option, Some, None, option_map}
use Rattle.std.specs.Prelude.{option_and_then, if◌then◌else◌}
use Rattle.std.specs.List.{find}
use Rattle.fdb_keys.specs.Points.{Point, point_eq}

-- the name of the first key
abbrev pub first_name : Point
first_name = codes "r/00"

-- the value of the first pair that has the key
abbrev pub value_at : List (Point × List ℕ) → Point → Option (List ℕ)
value_at pairs key = option_map (λ pair. pair.1) (find (λ pair. point_eq pair.0 key) pairs)

-- the name that a value is, if it has the four bytes of one
abbrev pub name_in : List ℕ → Option Point
name_in value = if length value == 4 then Some value else None

-- the name that a key has
abbrev pub next_name : List (Point × List ℕ) → Point → Option Point
next_name pairs name = option_and_then name_in (value_at pairs name)

-- the name to which so many steps lead from the first key, if each key on the way has one
unfoldable pub name_after : List (Point × List ℕ) → ℕ → Option Point
name_after pairs zero = Some first_name
name_after pairs (suc steps) = option_and_then (next_name pairs) (name_after pairs steps)

-- so many steps, at least one, lead to the first key again, and no fewer do
abbrev pub IsBackAfter : List (Point × List ℕ) → ℕ → Type 0
IsBackAfter pairs steps =
    (0 < steps) × (name_after pairs steps ≡ Some first_name)
    × ((fewer : ℕ) → 0 < fewer → fewer < steps → name_after pairs fewer ≢ Some first_name)

-- The pairs are one cycle: there are 32, and just 32 steps lead from the first key to it again.
abbrev pub IsOneCycle : List (Point × List ℕ) → Type 0
IsOneCycle pairs = (length pairs ≡ 32) × IsBackAfter pairs 32
