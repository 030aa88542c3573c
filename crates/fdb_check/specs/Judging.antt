-- What the check's judge keeps of the entries that it took, and what it makes of the next one.
use Rattle.std.specs.Prelude.{◌≡◌, ◌<◌, ◌≤◌, ℕ, List, length, slice_get, Option, Some, None}
use Rattle.fdb_keys.specs.Points.{Point}
use Rattle.fdb_txn.specs.declared.entry.Entry.{Entry}
use Rattle.fdb_txn.specs.book.Book.{DatedMove, seen_of, last_version, last_horizon}
use Rattle.fdb_owners.specs.Ownership.{Ownership, resolvers_of}
use Rattle.fdb_owners.specs.OwnersLaws.{AgreesWith}
use Rattle.fdb_resolver.specs.declared.part.Part.{Part}
use Rattle.fdb_resolver.specs.Resolvers.{Resolver, part_fault}
use Rattle.fdb_proxy.specs.Deciding.{Said}
use Rattle.fdb_roles.specs.Lists.{Each}
use Rattle.fdb_roles.specs.AtBook.{IsResolverAt}
use Rattle.fdb_roles.specs.Judging.{HasSaid}

-- who owned which keys, the version of the last entry, and the resolvers by number
pub record Judge : Type 0 where
  pub owners : Ownership
  pub last : ℕ
  pub resolvers : List Resolver

-- the owners are those of some moves
abbrev pub HaveMoves : Ownership → Type 0
HaveMoves owners = (moves : List DatedMove) × AgreesWith owners moves

-- what holds of every judge
pub record IsJudge (judge : Judge) : Type 0 where
  pub known : HaveMoves judge.owners
  pub learnt : judge.owners.last ≤ judge.last
  pub count : length judge.resolvers ≡ resolvers_of judge.owners

-- the judge took these entries, with the keys split so at first, and forgot no owner from the last one's horizon on
pub record IsJudgeAt (splits : List Point) (before : List Entry) (judge : Judge) : Type 0 where
  pub splits_are : judge.owners.splits ≡ splits
  pub last : judge.last ≡ last_version before
  pub owners : AgreesWith judge.owners (seen_of before).moves
  pub resolvers : Each (IsResolverAt splits before) judge.resolvers
  pub floor : judge.owners.floor ≤ last_horizon before

-- each resolver may take its part
abbrev pub MayTake : List Resolver → List Part → Type 0
MayTake resolvers parts =
    (i : ℕ) (resolver : Resolver) (part : Part) → slice_get resolvers i ≡ Some resolver → slice_get parts i ≡ Some part
    → part_fault resolver part ≡ None

-- the first n resolvers did so, each with its part
pub record HaveSaid (n : ℕ) (old : List Resolver) (parts : List Part)
    (new : List Resolver) (said : List (Option Said)) : Type 0 where
  pub count : length new ≡ length old
  pub as_many : length said ≡ n
  pub each : (i : ℕ) (resolver : Resolver) (part : Part) → i < n
      → slice_get old i ≡ Some resolver → slice_get parts i ≡ Some part
      → (after : Resolver) × (one : Option Said)
      × (slice_get new i ≡ Some after) × (slice_get said i ≡ Some one) × HasSaid resolver part after one
  pub others : (i : ℕ) → n ≤ i → slice_get new i ≡ slice_get old i
