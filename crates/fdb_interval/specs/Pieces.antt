-- Pieces: maximal ranges of one version other than 0.
use Rattle.std.specs.Prelude.{◌≡◌, ◌<◌, ◌⊎◌, ⊤, ℕ, true, List, [], ◌∷◌, if◌then◌else◌}
use Rattle.fdb_keys.specs.Points.{Point, point_lt}
use Rattle.fdb_keys.specs.Ranges.{Range, in_range}

-- a range with its version
abbrev pub Piece : Type 0
Piece = Range × ℕ

-- the version of the piece that holds the point, 0 where none does
abbrev pub version_in : List Piece → Point → ℕ
version_in [] x = 0
version_in (piece ∷ pieces) x = if in_range piece.0 x then piece.1 else version_in pieces x

-- the next piece, if any, begins behind this one, or at its end with another version
abbrev pub EndsBefore : Piece → List Piece → Type 0
EndsBefore piece [] = ⊤
EndsBefore piece (next ∷ pieces) =
    (point_lt piece.0.end next.0.begin ≡ true) ⊎ ((piece.0.end ≡ next.0.begin) × (next.1 ≡ piece.1 → ⊥))

-- the pieces are in order, each has a point and a version other than 0, and none could be joined with the next one
abbrev pub AreMaximal : List Piece → Type 0
AreMaximal [] = ⊤
AreMaximal (piece ∷ pieces) =
    (point_lt piece.0.begin piece.0.end ≡ true) × (0 < piece.1) × EndsBefore piece pieces × AreMaximal pieces

-- they are maximal, and each point has the version of the piece that holds it
pub record ArePieces (f : Point → ℕ) (pieces : List Piece) : Type 0 where
  pub versions : (x : Point) → f x ≡ version_in pieces x
  pub maximal : AreMaximal pieces
