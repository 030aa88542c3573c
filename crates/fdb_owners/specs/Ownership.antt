-- Which resolver owns a point at a version, and what each call leaves of that.
use Rattle.std.specs.Prelude.{◌≡◌, ◌<◌, ◌≤◌, ℕ, suc, max, Bool, true, ◌&&◌, ◌==◌, nat_le, List, [], fold, length}
use Rattle.std.specs.Prelude.{Option, Some, None, if◌then◌else◌}
use Rattle.fdb_keys.specs.Points.{Point}
use Rattle.fdb_keys.specs.Ranges.{in_range}
use Rattle.fdb_keys.specs.declared.refusal.Refusal.{Refusal}
use Rattle.fdb_keys.specs.declared.refusal.Refusal.TheVariants.{Stale, BadConfig}
use Rattle.fdb_txn.specs.declared.entry.Move.{Move}
use Rattle.fdb_txn.specs.rules.Owners.{first_owner}
use Rattle.fdb_txn.specs.rules.Splits.{are_splits}
use Rattle.fdb_txn.specs.Limits.{resolver_limit}
use Rattle.fdb_interval.specs.Breakpoints.{Breaks, value_from}
use Rattle.fdb_owners.specs.declared.history.History.{History}
use Rattle.fdb_txn.specs.Versions.{count_between}
use Rattle.fdb_owners.specs.Histories.{owner_in, changes_at, any_between}

-- the splits, the history of the keys before the first breakpoint, the breakpoints, each with the history of the keys
-- from it up to the next one, the last version learnt, and the version from which on owners are known
pub record Ownership : Type 0 where
  pub splits : List Point
  pub lowest : History
  pub breaks : Breaks History
  pub last : ℕ
  pub floor : ℕ

-- one resolver owns all keys, and no move is learnt up to the last version
abbrev pub one_owner : ℕ → Ownership
one_owner last =
    record { splits = []; lowest = record { first = 0; changes = [] }; breaks = []; last = last; floor = 0 }

-- the owner of a point at a version
abbrev pub owner_at : Ownership → Point → ℕ → ℕ
owner_at owners x v = owner_in (value_from owners.lowest owners.breaks x) v

-- there is one more of them than there are splits
abbrev pub resolvers_of : Ownership → ℕ
resolvers_of owners = suc (length owners.splits)

-- resolver i owned the point at some version above low and at most high
abbrev pub owned_between : Ownership → ℕ → Point → ℕ → ℕ → Bool
owned_between owners i x low high = any_between (λ v. owner_at owners x v == i) low high

-- how many versions above the floor, up to the last one, gave the point another owner than it had at the version before
abbrev pub changes_of : Ownership → Point → ℕ
changes_of owners x = count_between (changes_at (owner_at owners x)) owners.floor owners.last

-- the target of the last of the moves whose range holds the point, else the owner before them
abbrev pub target_after : List Move → Point → ℕ → ℕ
target_after moves x before =
    fold (λ (target : ℕ) (move : Move). if in_range move.range x then move.to else target) before moves

-- why there are not so many resolvers with these splits
abbrev pub owners_fault : ℕ → List Point → Option Refusal
owners_fault resolvers splits =
    if (suc (length splits) == resolvers) && nat_le resolvers resolver_limit && are_splits splits then None
    else Some BadConfig

-- why the moves of a version can't be learnt
abbrev pub learn_fault : Ownership → ℕ → Option Refusal
learn_fault owners version = if nat_le version owners.last then Some Stale else None

-- Between two calls there are few resolvers, and the splits rise.
pub record IsOwnership (splits : List Point) : Type 0 where
  pub few : suc (length splits) ≤ resolver_limit
  pub rising : are_splits splits ≡ true

-- nothing was learnt: each point has its first owner at every version
pub record IsNew (splits : List Point) (owners : Ownership) : Type 0 where
  pub splits_are : owners.splits ≡ splits
  pub last : owners.last ≡ 0
  pub floor : owners.floor ≡ 0
  pub first : (x : Point) (v : ℕ) → owner_at owners x v ≡ first_owner splits x

-- From the version on owners are those before it, changed by the moves; below it they are what they were.
pub record HasLearnt (old : Ownership) (version : ℕ) (moves : List Move) (new : Ownership) : Type 0 where
  pub splits : new.splits ≡ old.splits
  pub last : new.last ≡ version
  pub floor : new.floor ≡ old.floor
  pub before : (x : Point) (v : ℕ) → old.floor ≤ v → v < version → owner_at new x v ≡ owner_at old x v
  pub since : (x : Point) (v : ℕ) → old.floor ≤ v → version ≤ v
      → owner_at new x v ≡ target_after moves x (owner_at old x v)
  pub now : (x : Point) → owner_at new x version ≡ target_after moves x (owner_at old x old.last)

-- From the greater floor on owners are what they were, and so they are at the last version learnt.
pub record HasExpired (old : Ownership) (version : ℕ) (new : Ownership) : Type 0 where
  pub splits : new.splits ≡ old.splits
  pub last : new.last ≡ old.last
  pub floor : new.floor ≡ max old.floor version
  pub kept : (x : Point) (v : ℕ) → new.floor ≤ v → owner_at new x v ≡ owner_at old x v
  pub now : (x : Point) → owner_at new x new.last ≡ owner_at old x old.last
