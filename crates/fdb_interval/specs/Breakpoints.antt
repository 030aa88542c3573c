-- Breakpoints in their order, each with the value that goes from it up to the next one, as a version.
use Rattle.std.specs.Prelude.{◌≡◌, ◌<◌, ⊤, ℕ, max, nat_le, true, List, [], ◌∷◌, ◌++◌, if◌then◌else◌}
use Rattle.std.specs.BTreeMap.Range.{entries_between}
use Rattle.std.specs.Cmp.Lexicographic.{slice_cmp}
use Rattle.std.specs.List.{filter}
use Rattle.std.specs.Ordering.{nat_cmp}
use Rattle.std.specs.declared.ops.Bound.TheVariants.{Excluded}
use Rattle.fdb_keys.specs.Ordered.{AreOrdered}
use Rattle.fdb_keys.specs.Points.{Point, point_lt}
use Rattle.fdb_keys.specs.Ranges.{Range}

abbrev pub Breaks : Type 0 → Type 0
Breaks V = List (Point × V)

-- the breakpoints with their versions, and the floor: a version up to it is forgotten
pub record Breakpoints : Type 0 where
  pub floor : ℕ
  pub breaks : Breaks ℕ

-- the value at the point: that of the last breakpoint at or before it, `before` where there is none
abbrev pub value_from : {V : Type 0} → V → Breaks V → Point → V
value_from before [] x = before
value_from before (first ∷ rest) x = value_from (if point_lt x first.0 then before else first.1) rest x

-- the value of the last breakpoint, `before` where there is none
abbrev pub last_value : {V : Type 0} → V → Breaks V → V
last_value before [] = before
last_value before (first ∷ rest) = last_value first.1 rest

-- each breakpoint comes before those after it
abbrev pub AreRising : {V : Type 0} → Breaks V → Type 0
AreRising {V} es = AreOrdered (λ (first later : Point × V). point_lt first.0 later.0 ≡ true) es

-- equal neighbours are joined: a version above the floor isn't the one before it
abbrev pub AreJoined : ℕ → ℕ → Breaks ℕ → Type 0
AreJoined floor before [] = ⊤
AreJoined floor before (first ∷ rest) = (floor < first.1 → first.1 ≡ before → ⊥) × AreJoined floor first.1 rest

-- the points of dead breakpoints: the versions there and right before are up to the floor
abbrev pub dead_of : ℕ → ℕ → Breaks ℕ → List Point
dead_of floor before [] = []
dead_of floor before (first ∷ rest) =
    if nat_le (max before first.1) floor then first.0 ∷ dead_of floor first.1 rest else dead_of floor first.1 rest

-- the breakpoints before a point
abbrev pub breaks_before : {V : Type 0} → Point → Breaks V → Breaks V
breaks_before x breaks = filter (λ entry. point_lt entry.0 x) breaks

-- the breakpoints after the range's begin, and before its end
abbrev pub breaks_inside : {V : Type 0} → Range → Breaks V → Breaks V
breaks_inside range breaks =
    entries_between (slice_cmp nat_cmp) (Excluded range.begin) (Excluded range.end) breaks

-- the points are those of the dead breakpoints that a walk from the point on went over
abbrev pub IsWalk : ℕ → Point → Breaks ℕ → List Point → Type 0
IsWalk floor from breaks dead =
    (seen : Breaks ℕ) × (rest : Breaks ℕ) × (breaks ≡ breaks_before from breaks ++ (seen ++ rest))
    × (dead ≡ dead_of floor (last_value 0 (breaks_before from breaks)) seen)
