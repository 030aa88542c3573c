-- What a shard keeps, why it refuses, and what its calls leave.
use Rattle.std.specs.Prelude.{◌≡◌, ◌≤◌, ℕ, max, Bool, true, false, not, ◌&&◌, ◌==◌, nat_lt, List, fold, length, Option}
use Rattle.std.specs.Prelude.{Some, None, if◌then◌else◌}
use Rattle.std.specs.FinMap.{get}
use Rattle.std.specs.Option.{option_or}
use Rattle.fdb_keys.specs.declared.refusal.Refusal.{Refusal}
use Rattle.fdb_keys.specs.declared.refusal.Refusal.TheVariants.{Failed, Unknown, KeyOutsideLegalRange}
use Rattle.fdb_keys.specs.declared.refusal.Refusal.TheVariants.{TransactionTooOld, FutureVersion}
use Rattle.fdb_keys.specs.Points.{Point}
use Rattle.fdb_keys.specs.Ranges.{Range, in_range, is_within, ranges_meet}
use Rattle.fdb_mutations.specs.Maps.{Map}
use Rattle.fdb_mutations.specs.Pairs.{pairs_in, first_of}
use Rattle.fdb_txn.specs.rules.Messages.{value_with}
use Rattle.fdb_txn.specs.Turn.{turn_fault}
use Rattle.fdb_log.specs.declared.peek.Peek.{Peek}
use Rattle.fdb_mutations.specs.declared.page.Page.{Page}
use Rattle.fdb_storage.specs.StampedMessages.{stamped_fault}
use Rattle.fdb_storage.specs.VersionLists.{kept_from}
use Rattle.fdb_storage.specs.VersionMaps.{VersionedKeys, value_of, EndBy, HaveLegalKeys, HaveLive}

-- its tag and its range, the greatest version and the least that it serves, whether memory ran out, and its keys with
-- their versions
pub record Shard : Type 0 where
  pub tag : ℕ
  pub range : Range
  pub version : ℕ
  pub floor : ℕ
  pub is_failed : Bool
  pub keys : VersionedKeys

-- Between two calls: its floor isn't above its version, and unless memory ran out, no version of a key is, its keys are
-- legal ones, and the points are the keys at which something stands from their newest version on.
pub record IsShard (version floor : ℕ) (is_failed : Bool) (keys : VersionedKeys) (points : List Point) : Type 0 where
  pub serves : floor ≤ version
  pub within : is_failed ≡ false → EndBy version keys
  pub legal_keys : is_failed ≡ false → HaveLegalKeys keys
  pub live : is_failed ≡ false → HaveLive keys points

-- what a shard answers at a version and a point of its range
abbrev pub value_at : Shard → ℕ → Point → Option (List ℕ)
value_at shard v x = value_of shard.keys v x

-- why a version is not served by who serves from a floor through a greatest version
abbrev pub serving_fault : (version floor greatest : ℕ) → Option Refusal
serving_fault version floor greatest =
    if nat_lt version floor then Some TransactionTooOld
    else (if nat_lt greatest version then Some FutureVersion else None)

-- why it refuses to read at a version what it holds, or doesn't hold
abbrev pub read_fault : Shard → Bool → ℕ → Option Refusal
read_fault shard is_held version =
    if shard.is_failed then Some Failed
    else (if not is_held then Some KeyOutsideLegalRange
    else serving_fault version shard.floor shard.version)

abbrev pub key_fault : Shard → Point → ℕ → Option Refusal
key_fault shard key version = read_fault shard (in_range shard.range key) version

abbrev pub range_fault : Shard → Range → ℕ → Option Refusal
range_fault shard range version = read_fault shard (is_within range shard.range) version

-- why it refuses to give its part of a range at a version
abbrev pub part_fault : Shard → Range → ℕ → Option Refusal
part_fault shard range version =
    if shard.is_failed then Some Failed
    else (if ranges_meet range shard.range then serving_fault version shard.floor shard.version else None)

-- why it refuses messages, of which none may have a mutation that waits for a stamp
abbrev pub apply_fault : Shard → Peek → Option Refusal
apply_fault shard peek =
    if not (peek.tag == shard.tag) then Some Unknown
    else (if shard.is_failed then Some Failed
    else option_or (stamped_fault peek.messages) (turn_fault shard.version peek.after))

-- why it refuses to raise its floor
abbrev pub forget_fault : Shard → ℕ → Option Refusal
forget_fault shard version =
    if shard.is_failed then Some Failed
    else (if nat_lt shard.version version then Some FutureVersion else None)

-- the map has at each point of the range what the shard has there at the version
abbrev pub HasValuesOf : Shard → ℕ → Range → Map → Type 0
HasValuesOf shard v range map = (x : Point) → in_range range x ≡ true → get map x ≡ value_at shard v x

-- A page of a range at a version: on each map that has the shard's values in the range, its pairs are the first of the
-- range's, as many as the limit says, and there is more exactly where the range has a further pair.
abbrev pub IsPage : Shard → Range → ℕ → ℕ → Bool → Page → Type 0
IsPage shard range v limit is_reverse page =
    (map : Map) → HasValuesOf shard v range map
    → (page.pairs ≡ first_of limit (pairs_in map range is_reverse))
    × (page.more ≡ nat_lt (length page.pairs) (length (pairs_in map range is_reverse)))

-- outside the shard's part of the range the map has what it had
abbrev pub IsKeptOutside : Shard → Range → Map → Map → Type 0
IsKeptOutside shard range old new =
    (x : Point) → (in_range range x && in_range shard.range x) ≡ false → get new x ≡ get old x

-- The map has in the shard's part of the range what the shard has there at the version, if it had nothing there before,
-- and elsewhere what it had. Where it had a value in that part, what it has there now isn't said: that would tell how
-- the shard keeps its values.
pub record HasCopied (shard : Shard) (range : Range) (v : ℕ) (old new : Map) : Type 0 where
  pub inside : (x : Point) → in_range range x ≡ true → in_range shard.range x ≡ true → get old x ≡ None
      → get new x ≡ value_at shard v x
  pub outside : IsKeptOutside shard range old new

-- it has applied nothing, and has no value
pub record IsNewShard (number : ℕ) (keys : Range) (shard : Shard) : Type 0 where
  pub tag : shard.tag ≡ number
  pub range : shard.range ≡ keys
  pub version : shard.version ≡ 0
  pub floor : shard.floor ≡ 0
  pub works : shard.is_failed ≡ false
  pub empty : (v : ℕ) (x : Point) → value_at shard v x ≡ None

-- It serves through the last message's version, and answers as before at each version that it served; at each later
-- one it answers what stood there at its version before, changed by the messages through that one.
pub record HasApplied (old : Shard) (peek : Peek) (new : Shard) : Type 0 where
  pub tag : new.tag ≡ old.tag
  pub range : new.range ≡ old.range
  pub version : new.version ≡ peek.through
  pub floor : new.floor ≡ old.floor
  pub works : new.is_failed ≡ false
  pub before : (v : ℕ) (x : Point) → old.floor ≤ v → v ≤ old.version → in_range old.range x ≡ true
      → value_at new v x ≡ value_at old v x
  pub after : (v : ℕ) (x : Point) → old.version ≤ v → v ≤ new.version → in_range old.range x ≡ true
      → value_at new v x ≡ fold (value_with v x) (value_at old old.version x) peek.messages

-- it serves from the version on, or from its floor where that is greater, and answers there as before
pub record HasForgotten (old : Shard) (v : ℕ) (new : Shard) : Type 0 where
  pub tag : new.tag ≡ old.tag
  pub range : new.range ≡ old.range
  pub version : new.version ≡ old.version
  pub floor : new.floor ≡ max old.floor v
  pub works : new.is_failed ≡ old.is_failed
  pub values : (w : ℕ) (x : Point) → new.floor ≤ w → w ≤ old.version → in_range old.range x ≡ true
      → value_at new w x ≡ value_at old w x

-- it is the same shard with the same versions, and refuses every further call
pub record HasFailed (old new : Shard) : Type 0 where
  pub tag : new.tag ≡ old.tag
  pub range : new.range ≡ old.range
  pub version : new.version ≡ old.version
  pub floor : new.floor ≡ old.floor
  pub fails : new.is_failed ≡ true

-- how many versions of a key have to be kept: those above the floor and up to the shard's version at which another
-- value stands than at the version before, and one more where a value stands at the floor
abbrev pub kept_of : Shard → Point → ℕ
kept_of shard x = kept_from (λ (v : ℕ). value_at shard v x) shard.floor shard.version
