-- Two counters to which each transaction adds the same, with no read.
use Rattle.std.specs.Prelude.{◌≡◌, ◌⊎◌, ℕ, List, [], ◌∷◌, codes}
use Rattle.std.specs.FinMap.{get}
use Rattle.fdb_keys.specs.Points.{Point}
use Rattle.fdb_mutations.specs.Maps.{Map}
use Rattle.fdb_mutations.specs.declared.mutation.Mutation.TheVariants.{Add}
use Rattle.fdb_client.specs.declared.program.Op.{Op}
use Rattle.fdb_client.specs.declared.program.Reply.{Reply}
use Rattle.fdb_client.specs.declared.program.Transcript.{Transcript}
use Rattle.fdb_layers.specs.Operations.{writing, WritesNoValue}

-- the keys of the two counters
abbrev pub first_counter : Point
first_counter = codes "count/first"

abbrev pub second_counter : Point
second_counter = codes "count/second"

-- the operand is added to both
abbrev pub adding : List ℕ → List (Op × Reply)
adding operand = writing (Add first_counter operand) ∷ writing (Add second_counter operand) ∷ []

-- the transaction adds some operand to both counters
abbrev pub IsAddition : Transcript → Type 0
IsAddition transcript = (operand : List ℕ) × (transcript.ops ≡ adding operand)

-- a transaction of the counters: one that writes no value, or an addition
abbrev pub IsOfCounters : Transcript → Type 0
IsOfCounters transcript = WritesNoValue transcript ⊎ IsAddition transcript

-- both counters have the same value
abbrev pub AreEqual : Map → Type 0
AreEqual map = get map first_counter ≡ get map second_counter

-- an addition to one counter alone
abbrev pub IsLoneAddition : Transcript → Type 0
IsLoneAddition transcript = (operand : List ℕ) × (transcript.ops ≡ writing (Add first_counter operand) ∷ [])
