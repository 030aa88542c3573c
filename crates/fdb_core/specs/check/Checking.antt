-- What a check of the acknowledged transactions and of the shards finds.
use Rattle.std.specs.Prelude.{◌≡◌, ℕ, true, nat_lt, List, take, length, Result, MatchResult, ◌⊎◌}
use Rattle.std.specs.List.{AllByRecursion}
use Rattle.fdb_keys.specs.Points.{Point}
use Rattle.fdb_txn.specs.declared.entry.Entry.{Entry}
use Rattle.fdb_txn.specs.book.Book.{last_version}
use Rattle.fdb_roles.specs.declared.placed.Placed.{Placed}
use Rattle.fdb_roles.specs.Spots.{IsSerialized}
use Rattle.fdb_check.specs.Checking.{Stops}
use Rattle.fdb_core.specs.declared.roles.shard.ShardRole.{ShardRole}
use Rattle.fdb_check.specs.declared.fault.CheckFault.{CheckFault}
use Rattle.fdb_core.specs.check.Holding.{HoldsTheRun, StopsByShard}

-- each shard whose version lies below that of the last of the first n entries has the run's values there
abbrev pub HaveHeld : List Point → List Entry → List ShardRole → ℕ → Type 0
HaveHeld splits book shards n =
    AllByRecursion (λ (role : ShardRole). nat_lt role.state.version (last_version (take n book)) ≡ true
    → HoldsTheRun splits book role) shards

-- What a check of a world finds: that each acknowledged transaction is serialized at its spot, and that each shard has
-- the run's values at its version; or one of which that isn't so. Or memory runs out.
abbrev pub Finds : Result ℕ CheckFault → List Point → List Entry → List Placed → List ShardRole → Type 0
Finds result splits book acknowledged shards =
    MatchResult result
    (λ count. (count ≡ length acknowledged) × AllByRecursion (IsSerialized splits book) acknowledged
    × AllByRecursion (HoldsTheRun splits book) shards)
    (λ fault. Stops splits book acknowledged fault ⊎ StopsByShard (HoldsTheRun splits book) shards fault)
