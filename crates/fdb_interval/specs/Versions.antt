-- The version of the last write at each point.
use Rattle.std.specs.Prelude.{ℕ, ◌+◌, ◌==◌, ◌||◌, nat_lt, List, [], ◌∷◌, map, if◌then◌else◌}
use Rattle.fdb_keys.specs.Points.{Point}
use Rattle.fdb_interval.specs.Breakpoints.{value_from}
use Rattle.fdb_interval.specs.declared.last_commit.LastCommit.{LastCommit}

-- the versions f once all up to a floor are forgotten: a version that isn't above the floor is 0
abbrev pub forgetting : ℕ → (Point → ℕ) → Point → ℕ
forgetting floor f x = if nat_lt floor (f x) then f x else 0

-- the version of the last breakpoint at or before the point, 0 where there is none or where it is forgotten
abbrev pub version_at : LastCommit → Point → ℕ
version_at last x = forgetting last.floor (value_from 0 last.breaks) x

-- how many of the versions are neither 0 nor the one before them
abbrev pub changes : ℕ → List ℕ → ℕ
changes before [] = 0
changes before (version ∷ rest) = (if version == 0 || version == before then 0 else 1) + changes version rest

-- the number of maximal ranges with one version other than 0: each begins at a breakpoint
abbrev pub piece_count : LastCommit → ℕ
piece_count last = changes 0 (map (λ entry. if nat_lt last.floor entry.1 then entry.1 else 0) last.breaks)
