-- A commit proxy that has the entries of a book through that of its last ticket, and its batch, at each stage.
use Rattle.std.specs.Prelude.{◌≡◌, ◌⊎◌, ◌<◌, ◌≤◌, ⊤, ℕ, suc, false, List, [], length, Some, None, slice_get}
use Rattle.fdb_keys.specs.Points.{Point}
use Rattle.fdb_keys.specs.Ranges.{Range, in_set}
use Rattle.fdb_txn.specs.declared.entry.Entry.{Entry}
use Rattle.fdb_txn.specs.book.Book.{Seen, seen_of, seen_before, last_version, last_horizon}
use Rattle.fdb_txn.specs.book.Places.{place_of}
use Rattle.fdb_txn.specs.book.Transactions.{Transaction}
use Rattle.fdb_owners.specs.OwnersLaws.{AgreesWith}
use Rattle.fdb_resolver.specs.declared.part.Part.{Part}
use Rattle.fdb_resolver.specs.declared.verdict.Verdicts.{Verdicts}
use Rattle.fdb_resolver.specs.Rule.{Found, finds}
use Rattle.fdb_proxy.specs.declared.config.Config.{Config}
use Rattle.fdb_proxy.specs.declared.logging.Logging.{Logging as Decided}
use Rattle.fdb_proxy.specs.declared.position.Position.{Position}
use Rattle.fdb_proxy.specs.declared.resolving.Resolving.{Resolving as Unheard}
use Rattle.fdb_proxy.specs.declared.stage.Stage.{Stage}
use Rattle.fdb_proxy.specs.declared.stage.Stage.TheVariants as stage
use Rattle.fdb_proxy.specs.CommitProxies.{CommitProxy}
use Rattle.fdb_proxy.specs.Conflicts.{set_at}
use Rattle.fdb_proxy.specs.Deciding.{Said}
use Rattle.fdb_proxy.specs.Logging.{answers_by}
use Rattle.fdb_proxy.specs.Parting.{AreParts}
use Rattle.fdb_proxy.specs.Verdicts.{moves_through, verdicts_on, outcomes_on, found_at, conflict_at}

-- the batch is that of entry i, which is at its position in the book
pub record IsBatchOf (book : List Entry) (i : ℕ) (batch : List Transaction)
    (position : Position) (entry : Entry) : Type 0 where
  pub there : slice_get book i ≡ Some entry
  pub index : position.index ≡ i
  pub version : position.version ≡ entry.version
  pub prev : position.prev ≡ entry.prev
  pub places : batch ≡ entry.batch
  pub horizon : position.horizon ≡ entry.horizon

-- the position of entry i
abbrev pub position_in : ℕ → Entry → Position
position_in i entry =
    record { index = i; version = entry.version; prev = entry.prev; horizon = entry.horizon }

-- the parts of entry i, one for each resolver
abbrev pub ArePartsOf : List Point → List Entry → ℕ → Entry → List Part → Type 0
ArePartsOf splits book i entry parts =
    AreParts splits (moves_through (seen_before book i) entry) (position_in i entry) entry.batch parts

-- of each place of the entry just the points were found that resolver r finds there by the rule
abbrev pub AreFindsOn : List Point → ℕ → Seen → Entry → Found → Type 0
AreFindsOn splits r before entry found =
    (p : ℕ) (x : Point) → finds p found x ≡ found_at splits r (place_of before p (Some entry)) x

-- of each place of the entry that isn't old the set has just the points of the conflict set, and of an old one none
abbrev pub AreConflictsOn : List Point → Seen → Entry → List (List Range) → Type 0
AreConflictsOn splits before entry conflicts =
    (p : ℕ) (x : Point) → in_set (set_at p conflicts) x ≡ conflict_at splits (place_of before p (Some entry)) x

-- the batch waits for verdicts: the rule's came, with what is found by the rule, and no others
pub record IsResolving (splits : List Point) (book : List Entry) (i : ℕ) (entry : Entry) (batch : Unheard) : Type 0
  where
    pub parts : ArePartsOf splits book i entry batch.parts
    pub count : length batch.verdicts ≡ suc (length splits)
    pub came : (r : ℕ) (said : Said) → slice_get batch.verdicts r ≡ Some (Some said)
        → said ≡ verdicts_on splits r (seen_before book i) entry
    pub found_count : length batch.conflicts ≡ suc (length splits)
    pub found : (r : ℕ) (of : Found) → slice_get batch.conflicts r ≡ Some of
        → ((slice_get batch.verdicts r ≡ Some None) × (of ≡ [])) ⊎ AreFindsOn splits r (seen_before book i) entry of

-- the batch is decided by the rule, and waits for so many logs
pub record IsLogging (config : Config) (book : List Entry) (i : ℕ) (entry : Entry) (decided : Decided) : Type 0 where
  pub answers : decided.answers ≡ answers_by entry.batch (outcomes_on config.resolver_splits (seen_before book i) entry)
  pub count : length decided.acknowledged ≡ config.logs

module _ (config : Config) (front : List Entry) where
  -- how far the batch in flight is: one that has an entry is that of the last one
  abbrev pub IsStageAt : List Transaction → Stage → Type 0
  IsStageAt batch stage.Idle = batch ≡ []
  IsStageAt batch stage.Sealed = ⊤
  IsStageAt batch stage.Entered = ⊥
  IsStageAt batch (stage.Resolving resolving) =
      (i : ℕ) × (entry : Entry) × (length front ≡ suc i) × IsBatchOf front i batch resolving.position entry
      × IsResolving config.resolver_splits front i entry resolving
  IsStageAt batch (stage.Logging decided) =
      (i : ℕ) × (entry : Entry) × (length front ≡ suc i) × IsBatchOf front i batch decided.position entry
      × IsLogging config front i entry decided

  -- The commit proxy works, knows the configuration, and learnt the moves of these entries, of which the last one is
  -- that of its last ticket. It forgot no owner from that one's horizon on.
  pub record IsCommitProxyAt (proxy : CommitProxy) : Type 0 where
    pub works : proxy.is_failed ≡ false
    pub logs : proxy.logs ≡ config.logs
    pub shard_splits : proxy.shard_splits ≡ config.shard_splits
    pub splits : proxy.owners.splits ≡ config.resolver_splits
    pub owners : AgreesWith proxy.owners (seen_of front).moves
    pub last : proxy.last ≡ last_version front
    pub stage : IsStageAt proxy.batch proxy.stage
    pub floor : proxy.owners.floor ≤ last_horizon front

-- what a resolver said of an entry is the rule's
pub record IsSaid (splits : List Point) (book : List Entry) (verdicts : Verdicts) (entry : Entry) : Type 0 where
  pub there : slice_get book verdicts.index ≡ Some entry
  pub exists : verdicts.resolver < suc (length splits)
  pub answers : verdicts.answers ≡ verdicts_on splits verdicts.resolver (seen_before book verdicts.index) entry
  pub found : AreFindsOn splits verdicts.resolver (seen_before book verdicts.index) entry verdicts.conflicts
