-- Points and their order.
use Rattle.std.specs.Prelude.{ℕ, Bool, List}
use Rattle.std.specs.Ordering.{nat_cmp, is_lt}
use Rattle.std.specs.Cmp.Lexicographic.{slice_cmp, pointwise}
use Rattle.std.specs.Prelude.{nat_eq}

-- A point is a list of numbers, and a key is the point of its bytes. Clauses and laws speak of every
-- list of numbers. That is the same as speaking of legal texts alone, since ranges that have a point
-- in common have one of their own bounds in common.
abbrev pub Point : Type 0
Point = List ℕ

-- x comes before y, in the lexicographic order by byte
unfoldable pub point_lt : Point → Point → Bool
point_lt x y = is_lt (slice_cmp nat_cmp x y)

-- x and y are the same point
abbrev pub point_eq : Point → Point → Bool
point_eq x y = pointwise nat_eq x y
