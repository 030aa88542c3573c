-- Splits of the keys into pieces.
use Rattle.std.specs.Prelude.{◌≡◌, ◌≤◌, ℕ, zero, suc, Bool, true, ◌&&◌, ◌==◌, nat_le, nat_lt, List, [], ◌∷◌, length}
use Rattle.std.specs.Prelude.{Option, Some, None, if◌then◌else◌}
use Rattle.fdb_keys.specs.Points.{Point, point_lt}
use Rattle.fdb_keys.specs.Ranges.{Range, in_range}
use Rattle.fdb_keys.specs.declared.refusal.Refusal.{Refusal}
use Rattle.fdb_keys.specs.declared.refusal.Refusal.TheVariants.{BadConfig}
use Rattle.fdb_txn.specs.rules.Owners.{first_owner}

-- each split comes after the one before it, and the first after the point
abbrev pub rise_after : Point → List Point → Bool
rise_after x [] = true
rise_after x (split ∷ splits) = point_lt x split && rise_after split splits

-- splits rise strictly, and none is the empty key
abbrev pub are_splits : List Point → Bool
are_splits splits = rise_after [] splits

-- the bound that comes after every key
abbrev pub end_of_keys : Point
end_of_keys = 255 ∷ []

-- piece i of the keys from a begin on
abbrev pub piece_after : Point → List Point → ℕ → Range
piece_after begin [] i = record { begin = begin; end = end_of_keys }
piece_after begin (split ∷ splits) zero = record { begin = begin; end = split }
piece_after begin (split ∷ splits) (suc i) = piece_after split splits i

-- piece i of all keys, from the split before it up to but not including the one after it
abbrev pub piece : List Point → ℕ → Range
piece splits i = piece_after [] splits i

-- why keys are no splits into at most so many pieces
abbrev pub splits_fault : ℕ → List Point → Option Refusal
splits_fault most splits = if nat_lt (length splits) most && are_splits splits then None else Some BadConfig

-- why there is no piece i
abbrev pub piece_fault : List Point → ℕ → Option Refusal
piece_fault splits i = if nat_le i (length splits) then None else Some BadConfig

-- each key lies in the piece of its first owner, and in no other
abbrev pub PiecesPartTheKeys : Type 0
PiecesPartTheKeys =
    (splits : List Point) (i : ℕ) (x : Point) → are_splits splits ≡ true → i ≤ length splits
    → point_lt x end_of_keys ≡ true → in_range (piece splits i) x ≡ (first_owner splits x == i)
