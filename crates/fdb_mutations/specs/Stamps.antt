-- The stamp of a commit.
use Rattle.std.specs.Prelude.{ℕ, ◌+◌, Bool, nat_le, List, ◌++◌, take, drop, length}
use Rattle.std.specs.Int.{to_be_bytes, w16, w64}

-- how many bytes a stamp has
abbrev pub stamp_size : ℕ
stamp_size = 10

-- the stamp of a place of a version: the version in eight bytes and the place in two, the highest byte first
abbrev pub stamp_bytes : (version place : ℕ) → List ℕ
stamp_bytes version place = to_be_bytes w64 version ++ to_be_bytes w16 place

-- the operand has room for a stamp at the offset
abbrev pub has_room : List ℕ → ℕ → Bool
has_room operand offset = nat_le (offset + stamp_size) (length operand)

-- the operand with the stamp in place of the bytes at the offset
abbrev pub with_stamp : List ℕ → ℕ → List ℕ → List ℕ
with_stamp operand offset stamp = take offset operand ++ (stamp ++ drop (offset + stamp_size) operand)
