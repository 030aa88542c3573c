-- Versions and pieces, computed.
use Rattle.std.specs.Prelude.{◌≡◌, ℕ, List, [], ◌∷◌}
use Rattle.fdb_keys.specs.Ranges.{Range}
use Rattle.fdb_interval.specs.Breakpoints.{Breakpoints, value_from, breaks_inside}
use Rattle.fdb_interval.specs.Newer.{newer_pieces}
use Rattle.fdb_interval.specs.Pieces.{Piece, AreMaximal}
use Rattle.fdb_interval.specs.Versions.{version_at, piece_count}

-- after the keys from b to d were marked with 100, and then those from c to e with 200
abbrev pub two_marks : ℕ → Breakpoints
two_marks floor = record {
  floor = floor;
  breaks = (98 ∷ [], 100) ∷ (99 ∷ [], 200) ∷ (101 ∷ [], 0) ∷ [];
}

-- after the keys from a to b and those from c to d were marked with 100
abbrev pub one_gap : ℕ → Breakpoints
one_gap floor = record {
  floor = floor;
  breaks = (97 ∷ [], 100) ∷ (98 ∷ [], 0) ∷ (99 ∷ [], 100) ∷ (100 ∷ [], 0) ∷ [];
}

-- a breakpoint that changes no version
abbrev pub one_more : ℕ → Breakpoints
one_more floor = record {
  floor = floor;
  breaks = (97 ∷ [], 100) ∷ (98 ∷ [], 100) ∷ (99 ∷ [], 50) ∷ (100 ∷ [], 0) ∷ [];
}

-- A version goes from its breakpoint up to the next one, and one that isn't above the floor counts as 0. Ranges that a
-- gap parts are two pieces, also of one version; ranges that touch are two where their versions differ.
abbrev pub WorkedVersions : Type 0
WorkedVersions =
    (version_at (two_marks 0) (97 ∷ []) ≡ 0)
    × (version_at (two_marks 0) (98 ∷ []) ≡ 100)
    × (version_at (two_marks 0) (98 ∷ 0 ∷ []) ≡ 100)
    × (version_at (two_marks 0) (99 ∷ []) ≡ 200)
    × (version_at (two_marks 0) (100 ∷ []) ≡ 200)
    × (version_at (two_marks 0) (101 ∷ []) ≡ 0)
    × (version_at (two_marks 99) (98 ∷ []) ≡ 100)
    × (version_at (two_marks 100) (98 ∷ []) ≡ 0)
    × (version_at (two_marks 100) (99 ∷ []) ≡ 200)
    × (piece_count (two_marks 0) ≡ 2)
    × (piece_count (two_marks 100) ≡ 1)
    × (piece_count (two_marks 200) ≡ 0)
    × (piece_count (one_gap 0) ≡ 2)
    × (piece_count (one_gap 100) ≡ 0)
    × (piece_count (one_more 0) ≡ 2)
    × (piece_count (one_more 50) ≡ 1)

-- the keys from one letter up to another, with a version
abbrev pub letters : ℕ → ℕ → ℕ → Piece
letters begin end version = (record { begin = begin ∷ []; end = end ∷ [] }, version)

-- Pieces may touch where their versions differ, and a gap may part pieces of one version. Two that touch have no one
-- version, none has version 0 or no point, and they are in order.
abbrev pub WorkedPieces : Type 0
WorkedPieces =
    AreMaximal (letters 97 98 100 ∷ letters 98 99 200 ∷ [])
    × AreMaximal (letters 97 98 100 ∷ letters 99 100 100 ∷ [])
    × (AreMaximal (letters 97 98 100 ∷ letters 98 99 100 ∷ []) → ⊥)
    × (AreMaximal (letters 97 98 0 ∷ []) → ⊥)
    × (AreMaximal (letters 97 97 100 ∷ []) → ⊥)
    × (AreMaximal (letters 98 99 200 ∷ letters 97 98 100 ∷ []) → ⊥)
    × (AreMaximal (letters 97 99 200 ∷ letters 98 100 100 ∷ []) → ⊥)

-- the keys from one letter up to another
abbrev pub keys_from : ℕ → ℕ → Range
keys_from begin end = (letters begin end 0).0

-- the parts of a range with versions above a bar, by breakpoints
abbrev pub newer_parts : Breakpoints → Range → ℕ → List Range
newer_parts last range bar =
    newer_pieces bar (value_from 0 last.breaks range.begin) range.begin (breaks_inside range last.breaks) range.end

-- Only versions above the bar count; one part goes on where its version changes to another one above the bar, a gap
-- parts two, and each begins and ends within the range.
abbrev pub WorkedNewer : Type 0
WorkedNewer =
    (newer_parts (two_marks 0) (keys_from 98 102) 99 ≡ keys_from 98 101 ∷ [])
    × (newer_parts (two_marks 0) (keys_from 98 102) 100 ≡ keys_from 99 101 ∷ [])
    × (newer_parts (two_marks 0) (keys_from 98 102) 200 ≡ [])
    × (newer_parts (two_marks 0) (keys_from 97 99) 99 ≡ keys_from 98 99 ∷ [])
    × (newer_parts (two_marks 0) (keys_from 100 102) 100 ≡ keys_from 100 101 ∷ [])
    × (newer_parts (two_marks 0) (keys_from 100 101) 100 ≡ keys_from 100 101 ∷ [])
    × (newer_parts (two_marks 0) (keys_from 101 102) 0 ≡ [])
    × (newer_parts (one_gap 0) (keys_from 97 102) 99 ≡ keys_from 97 98 ∷ keys_from 99 100 ∷ [])
