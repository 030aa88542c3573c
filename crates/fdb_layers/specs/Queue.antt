-- A queue whose pushes read nothing: each item stands behind the stamp of its commit, under a key of its transaction.
use Rattle.std.specs.Prelude.{◌≡◌, ◌<◌, ◌≤◌, ◌^◌, ◌⊎◌, ℕ, true, false, List, [], ◌∷◌, ◌++◌, length, drop, codes}
use Rattle.std.specs.Prelude.{Option, Some}
use Rattle.std.specs.Prelude.{None, replicate, if◌then◌else◌}
use Rattle.std.specs.FinMap.{get}
use Rattle.std.specs.Int.{to_be_bytes, w32, w64}
use Rattle.std.specs.List.{slice_get, AllByRecursion}
use Rattle.std.specs.Option.{option_map}
use Rattle.fdb_keys.specs.Points.{Point, point_lt}
use Rattle.fdb_keys.specs.Prefixes.{begins_with, prefix_range}
use Rattle.fdb_mutations.specs.Maps.{Map}
use Rattle.fdb_mutations.specs.Stamps.{stamp_size}
use Rattle.fdb_mutations.specs.declared.mutation.Mutation.TheVariants.{Set, Clear, Stamped}
use Rattle.fdb_txn.specs.declared.txn_id.TxnId.{TxnId}
use Rattle.fdb_client.specs.declared.program.Op.{Op}
use Rattle.fdb_client.specs.declared.program.Reply.{Reply}
use Rattle.fdb_client.specs.declared.program.Transcript.{Transcript}
use Rattle.fdb_layers.specs.Operations.{reading_range, writing, WritesNoValue}

-- what the keys of the queue begin with
abbrev pub queue : Point
queue = codes "queue/"

-- the key under which a transaction pushes: its session's number in four bytes, and its own number in eight
abbrev pub item_key : TxnId → Point
item_key id = queue ++ (to_be_bytes w32 id.session ++ to_be_bytes w64 id.number)

-- an item behind ten bytes, in whose place the stamp of the commit will stand
abbrev pub unstamped : List ℕ → List ℕ
unstamped item = replicate stamp_size 0 ++ item

-- a push: the item is stamped under the key of the transaction, and nothing is read
abbrev pub pushing : TxnId → List ℕ → List (Op × Reply)
pushing id item = writing (Stamped (item_key id) (unstamped item) 0) ∷ []

-- the item of a value, which stands behind the stamp
abbrev pub item_of : List ℕ → List ℕ
item_of value = drop stamp_size value

-- of two pairs the one with the lesser value, and the first one where neither is less
abbrev pub older : Point × List ℕ → Point × List ℕ → Point × List ℕ
older one other = if point_lt other.1 one.1 then other else one

-- the pair is one of them, and none of them has a lesser value: so it was committed first
pub record IsOldest (pairs : List (Point × List ℕ)) (pair : Point × List ℕ) : Type 0 where
  pub at : ℕ
  pub there : slice_get pairs at ≡ Some pair
  pub least : AllByRecursion (λ (other : Point × List ℕ). point_lt other.1 pair.1 ≡ false) pairs

-- the oldest one of the pairs, or none where there are none
abbrev pub IsOldestIfAny : List (Point × List ℕ) → Option (Point × List ℕ) → Type 0
IsOldestIfAny pairs None = pairs ≡ []
IsOldestIfAny pairs (Some pair) = IsOldest pairs pair

-- the key of a pair is cleared, if there is one
abbrev pub taking : Option (Point × List ℕ) → List (Op × Reply)
taking None = []
taking (Some pair) = writing (Clear pair.0) ∷ []

-- a pop: all of the queue is read, which has these pairs, and one of them is taken, if there is any
abbrev pub popping : List (Point × List ℕ) → Option (Point × List ℕ) → List (Op × Reply)
popping pairs oldest = reading_range (prefix_range queue) pairs ∷ taking oldest

-- the numbers of the id fit into the bytes of its key, so no other id has that key
abbrev pub FitsKey : TxnId → Type 0
FitsKey id = (id.session < 2 ^ 32) × (id.number < 2 ^ 64)

-- the transaction pushes an item under the key of its own id
abbrev pub IsPush : Transcript → Type 0
IsPush transcript = (item : List ℕ) × FitsKey transcript.id × (transcript.ops ≡ pushing transcript.id item)

-- the transaction pops this, if there is any
abbrev pub Pops : Transcript → Option (Point × List ℕ) → Type 0
Pops transcript oldest =
    (pairs : List (Point × List ℕ)) × IsOldestIfAny pairs oldest × (transcript.ops ≡ popping pairs oldest)

-- the transaction pops the oldest item, if there is any
abbrev pub IsPop : Transcript → Type 0
IsPop transcript = (oldest : Option (Point × List ℕ)) × Pops transcript oldest

-- the transaction pops this item, if there is any
abbrev pub PopsItem : Transcript → Option (List ℕ) → Type 0
PopsItem transcript item =
    (oldest : Option (Point × List ℕ)) × Pops transcript oldest
    × (item ≡ option_map (λ (pair : Point × List ℕ). item_of pair.1) oldest)

-- a transaction of the queue: one that writes no value, a push or a pop
abbrev pub IsOfQueue : Transcript → Type 0
IsOfQueue transcript = WritesNoValue transcript ⊎ (IsPush transcript ⊎ IsPop transcript)

-- whatever stands in the queue begins with a stamp
abbrev pub AreStamped : Map → Type 0
AreStamped map =
    (key value : List ℕ) → begins_with queue key ≡ true → get map key ≡ Some value → stamp_size ≤ length value

-- an item is set with no stamp
abbrev pub IsUnstampedPush : Transcript → Type 0
IsUnstampedPush transcript =
    (item : List ℕ) × (transcript.ops ≡ writing (Set (item_key transcript.id) item) ∷ [])
