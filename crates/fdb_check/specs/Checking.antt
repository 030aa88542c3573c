-- What a check of transcripts finds.
use Rattle.std.specs.Prelude.{◌≡◌, List, ◌⊎◌, ℕ, length, Result, MatchResult}
use Rattle.std.specs.List.{AllByRecursion}
use Rattle.fdb_keys.specs.Points.{Point}
use Rattle.fdb_txn.specs.declared.entry.Entry.{Entry}
use Rattle.fdb_roles.specs.declared.placed.Placed.{Placed}
use Rattle.fdb_roles.specs.Spots.{IsSerialized}
use Rattle.fdb_check.specs.Spots.{IsFirstOther}
use Rattle.fdb_check.specs.declared.fault.CheckFault.{CheckFault}
use Rattle.fdb_check.specs.declared.fault.CheckFault.TheVariants.{NoMemory}

-- memory ran out, or the fault names the first one in the order of spots that isn't serialized at its spot
abbrev pub Stops : List Point → List Entry → List Placed → CheckFault → Type 0
Stops splits book placed fault = (fault ≡ NoMemory) ⊎ IsFirstOther book (IsSerialized splits book) placed fault

-- What a check of transcripts finds: that each is serialized at its spot, or the first one that isn't. Or memory runs
-- out.
abbrev pub FindsSerialized : Result ℕ CheckFault → List Point → List Entry → List Placed → Type 0
FindsSerialized result splits book placed =
    MatchResult result
    (λ count. (count ≡ length placed) × AllByRecursion (IsSerialized splits book) placed)
    (Stops splits book placed)
