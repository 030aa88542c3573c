-- Who owned the keys of a piece when.
use Rattle.std.specs.Prelude.{◌<◌, ◌≤◌, ℕ, zero, suc, Bool, true, false, ◌+◌, ◌&&◌, ◌||◌, ◌==◌, nat_le, List}
use Rattle.std.specs.Prelude.{[], ◌∷◌, if◌then◌else◌}
use Rattle.std.specs.List.{AllByRecursion}
use Rattle.fdb_keys.specs.Ordered.{AreOrdered}
use Rattle.fdb_txn.specs.Versions.{changes_by}
use Rattle.fdb_owners.specs.declared.history.Change.{Change}
use Rattle.fdb_owners.specs.declared.history.History.{History}

-- the owner at a version, by the first owner and the changes, the latest first: that of the latest change up to it
abbrev pub owner_by : ℕ → List Change → ℕ → ℕ
owner_by first [] v = first
owner_by first (change ∷ older) v = if nat_le change.version v then change.owner else owner_by first older v

abbrev pub owner_in : History → ℕ → ℕ
owner_in history v = owner_by history.first history.changes v

-- each change is of a version above those after it
abbrev pub AreFalling : List Change → Type 0
AreFalling changes = AreOrdered (λ (change earlier : Change). earlier.version < change.version) changes

-- each change is of a version above this one
abbrev pub AreAbove : ℕ → List Change → Type 0
AreAbove version changes = AllByRecursion (λ (change : Change). version < change.version) changes

-- each change is of a version up to this one
abbrev pub AreUpTo : ℕ → List Change → Type 0
AreUpTo version changes = AllByRecursion (λ (change : Change). change.version ≤ version) changes

-- the owner after all changes
abbrev pub latest_of : ℕ → List Change → ℕ
latest_of first [] = first
latest_of first (change ∷ older) = change.owner

-- how many of the changes are to another owner than the one before
abbrev pub differing : ℕ → List Change → ℕ
differing first [] = 0
differing first (change ∷ older) = differing first older + (if change.owner == latest_of first older then 0 else 1)

-- the owners are some of so many resolvers, and the changes' versions, the latest first, are up to the last one
pub record IsHistory (resolvers last : ℕ) (history : History) : Type 0 where
  pub first : history.first < resolvers
  pub changes : AllByRecursion (λ (change : Change). (change.owner < resolvers)
      × (change.version ≤ last)) history.changes
  pub falling : AreFalling history.changes

-- whether an owner isn't the one at the version before
abbrev pub changes_at : (ℕ → ℕ) → ℕ → Bool
changes_at = changes_by (λ (owner other : ℕ). owner == other)

-- whether some version above low and at most high passes the test
abbrev pub any_between : (ℕ → Bool) → ℕ → ℕ → Bool
any_between test low zero = false
any_between test low (suc v) = (nat_le low v && test (suc v)) || any_between test low v

abbrev pub same_changes : List Change → List Change → Bool
same_changes [] [] = true
same_changes [] (change ∷ older) = false
same_changes (change ∷ older) [] = false
same_changes (change ∷ older) (other ∷ others) =
    (change.version == other.version) && (change.owner == other.owner) && same_changes older others

abbrev pub same_history : History → History → Bool
same_history history other = (history.first == other.first) && same_changes history.changes other.changes
