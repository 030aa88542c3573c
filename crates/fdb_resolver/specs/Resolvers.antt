-- What a resolver keeps, why it refuses a part, and what it makes of one.
use Rattle.std.specs.Prelude.{◌≡◌, ℕ, Bool, true, false, not, ◌==◌, Option, Some, if◌then◌else◌}
use Rattle.fdb_keys.specs.Points.{Point}
use Rattle.fdb_keys.specs.declared.refusal.Refusal.{Refusal}
use Rattle.fdb_keys.specs.declared.refusal.Refusal.TheVariants.{Failed, Unknown}
use Rattle.fdb_interval.specs.declared.last_commit.LastCommit.{LastCommit}
use Rattle.fdb_interval.specs.Versions.{version_at, forgetting}
use Rattle.fdb_txn.specs.rules.Resolvers.{AgreeFrom}
use Rattle.fdb_txn.specs.Turn.{turn_fault}
use Rattle.fdb_resolver.specs.declared.part.Part.{Part}
use Rattle.fdb_resolver.specs.declared.verdict.Verdicts.{Verdicts}
use Rattle.fdb_resolver.specs.Rule.{AreVerdicts, AreConflicts, versions_after}

-- its number, the version of the last entry that it took, whether memory ran out, and the versions at which
-- it admitted writes
pub record Resolver : Type 0 where
  pub index : ℕ
  pub last : ℕ
  pub is_failed : Bool
  pub versions : LastCommit

-- why it refuses a part
abbrev pub part_fault : Resolver → Part → Option Refusal
part_fault core part =
    if not (part.resolver == core.index) then Some Unknown
    else (if core.is_failed then Some Failed
    else turn_fault core.last part.prev)

-- it has taken nothing, and no point was written
pub record IsNew (number : ℕ) (core : Resolver) : Type 0 where
  pub index : core.index ≡ number
  pub last : core.last ≡ 0
  pub works : core.is_failed ≡ false
  pub versions : (x : Point) → version_at core.versions x ≡ 0

-- its verdicts on a part, by the versions that it kept, and what it found newer of the places in conflict
pub record IsAnswer (core : Resolver) (part : Part) (verdicts : Verdicts) : Type 0 where
  pub resolver : verdicts.resolver ≡ core.index
  pub index : verdicts.index ≡ part.index
  pub answers : AreVerdicts part.version part.horizon (version_at core.versions) part.items verdicts.answers
  pub conflicts : AreConflicts part.version (version_at core.versions) part.items verdicts.answers verdicts.conflicts

-- What it keeps after a part: the versions after all places, with those up to the part's horizon forgotten.
-- From the horizon on, what it keeps answers as the versions after all places do.
pub record HasTaken (old : Resolver) (part : Part) (verdicts : Verdicts) (new : Resolver) : Type 0 where
  pub index : new.index ≡ old.index
  pub last : new.last ≡ part.version
  pub works : new.is_failed ≡ false
  pub kept : (x : Point) → version_at new.versions x ≡ forgetting part.horizon
      (versions_after part.version (version_at old.versions) part.items verdicts.answers) x
  pub versions : AgreeFrom part.horizon (version_at new.versions)
      (versions_after part.version (version_at old.versions) part.items verdicts.answers)

-- it is the same resolver, and refuses every further part
pub record HasFailed (old new : Resolver) : Type 0 where
  pub index : new.index ≡ old.index
  pub fails : new.is_failed ≡ true
