-- The order of spots, which is that of the run.
use Rattle.std.specs.Prelude.{◌≡◌, ℕ, suc, Bool, true, ◌==◌, ◌&&◌, ◌||◌, nat_lt, nat_le, List, Some, slice_get}
use Rattle.std.specs.List.{AllByRecursion, count_by}
use Rattle.fdb_txn.specs.declared.entry.Entry.{Entry}
use Rattle.fdb_txn.specs.declared.spot.Spot.{Spot}
use Rattle.fdb_txn.specs.declared.spot.Spot.TheVariants as spot
use Rattle.fdb_roles.specs.declared.placed.Placed.{Placed}
use Rattle.fdb_check.specs.declared.fault.CheckFault.{CheckFault}
use Rattle.fdb_check.specs.declared.fault.CheckFault.TheVariants.{Txn}

-- how many entries have a version that is at most this one
abbrev pub entries_through : List Entry → ℕ → ℕ
entries_through book version = count_by (λ (entry : Entry). nat_le entry.version version) book

-- How many entries go before a spot, and how many places of the next entry up to the spot with its own. A read-only
-- spot goes after the entries of version at most its own, and before all places of the next one.
abbrev pub moment_of : List Entry → Spot → ℕ × ℕ
moment_of book (spot.Entry index place version) = (index, suc place)
moment_of book (spot.ReadOnly version) = (entries_through book version, 0)

-- by entries, and then by places
abbrev pub comes_before : ℕ × ℕ → ℕ × ℕ → Bool
comes_before one other = nat_lt one.0 other.0 || (one.0 == other.0 && nat_lt one.1 other.1)

-- the claim is true of all whose spots go before this one
abbrev pub HoldsBefore : List Entry → (Placed → Type 0) → List Placed → Placed → Type 0
HoldsBefore book Claim placed one = AllByRecursion
    (λ (other : Placed). comes_before (moment_of book other.spot) (moment_of book one.spot) ≡ true → Claim other) placed

-- the fault names one of them of whom the claim isn't true, and it is true of all whose spots go before
abbrev pub IsFirstOther : List Entry → (Placed → Type 0) → List Placed → CheckFault → Type 0
IsFirstOther book Claim placed fault =
    (i : ℕ) × (one : Placed) × (slice_get placed i ≡ Some one) × (fault ≡ Txn one.transcript.id) × ¬ Claim one
    × HoldsBefore book Claim placed one
