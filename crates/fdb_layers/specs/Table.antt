-- A table with an index: the record of an ID holds a value of four bytes, and an entry of the index finds the ID by it.
use Rattle.std.specs.Prelude.{◌≡◌, ◌⊎◌, ℕ, List, [], ◌∷◌, ◌++◌, length, codes, Option, Some, None}
use Rattle.std.specs.FinMap.{get}
use Rattle.fdb_keys.specs.Points.{Point}
use Rattle.fdb_mutations.specs.Maps.{Map}
use Rattle.fdb_mutations.specs.declared.mutation.Mutation.TheVariants.{Set, Clear}
use Rattle.fdb_client.specs.declared.program.Op.{Op}
use Rattle.fdb_client.specs.declared.program.Reply.{Reply}
use Rattle.fdb_client.specs.declared.program.Transcript.{Transcript}
use Rattle.fdb_layers.specs.Operations.{reading, writing, WritesNoValue}

-- how many bytes a value has
abbrev pub value_size : ℕ
value_size = 4

-- the key of an ID's record: t/ID
abbrev pub record_key : List ℕ → Point
record_key id = codes "t/" ++ id

-- the key of the index entry of a value and an ID: i/VALUEID
abbrev pub entry_key : List ℕ → List ℕ → Point
entry_key value id = codes "i/" ++ (value ++ id)

-- the index forgets the old value of the ID's record, if there was one
abbrev pub forgetting : List ℕ → Option (List ℕ) → List (Op × Reply)
forgetting id None = []
forgetting id (Some old) = writing (Clear (entry_key old id)) ∷ []

-- the record and its index entry are set
abbrev pub setting : List ℕ → List ℕ → List (Op × Reply)
setting id value = writing (Set (record_key id) value) ∷ writing (Set (entry_key value id) []) ∷ []

-- a put: the old value is read, the index forgets it, and the new one is set
abbrev pub putting : List ℕ → Option (List ℕ) → List ℕ → List (Op × Reply)
putting id old value = reading (record_key id) old ∷ (forgetting id old ++ setting id value)

-- the record is cleared, if there was one
abbrev pub clearing : List ℕ → Option (List ℕ) → List (Op × Reply)
clearing id None = []
clearing id (Some old) = writing (Clear (record_key id)) ∷ []

-- a removal: the old value is read, the index forgets it, and the record is cleared
abbrev pub removing : List ℕ → Option (List ℕ) → List (Op × Reply)
removing id old = reading (record_key id) old ∷ (forgetting id old ++ clearing id old)

-- the transaction puts a record
abbrev pub IsPut : Transcript → Type 0
IsPut transcript =
    (id : List ℕ) × (old : Option (List ℕ)) × (value : List ℕ) × (length value ≡ value_size)
    × (transcript.ops ≡ putting id old value)

-- the transaction removes a record
abbrev pub IsRemoval : Transcript → Type 0
IsRemoval transcript = (id : List ℕ) × (old : Option (List ℕ)) × (transcript.ops ≡ removing id old)

-- a transaction of the table: one that writes no value, a put or a removal
abbrev pub IsOfTable : Transcript → Type 0
IsOfTable transcript = WritesNoValue transcript ⊎ (IsPut transcript ⊎ IsRemoval transcript)

-- Index and records agree: each record has a value of four bytes, by which the index finds it; and the index finds
-- nothing else, as whatever stands at the entry of a value and an ID, the record of the ID has the value.
pub record AreIndexed (map : Map) : Type 0 where
  pub fits : (id value : List ℕ) → get map (record_key id) ≡ Some value → length value ≡ value_size
  pub found : (id value : List ℕ) → get map (record_key id) ≡ Some value → get map (entry_key value id) ≡ Some []
  pub finds : (id value content : List ℕ) → length value ≡ value_size → get map (entry_key value id) ≡ Some content
      → get map (record_key id) ≡ Some value

-- a put that forgets to clear the entry of the old value
abbrev pub IsForgetfulPut : Transcript → Type 0
IsForgetfulPut transcript =
    (id : List ℕ) × (old : Option (List ℕ)) × (value : List ℕ) × (length value ≡ value_size)
    × (transcript.ops ≡ reading (record_key id) old ∷ setting id value)
