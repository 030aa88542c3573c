-- A layer in miniature: what stands at b is what stands at a. Which transactions keep it, and which don't, computed.
use Rattle.std.specs.Prelude.{◌≡◌, ℕ, Bool, true, false, List, [], ◌∷◌, codes, Some}
use Rattle.std.specs.FinMap.{get}
use Rattle.fdb_mutations.specs.Maps.{Map}
use Rattle.fdb_mutations.specs.declared.mutation.Mutation.TheVariants.{Set, Stamped}
use Rattle.fdb_client.specs.declared.program.Op.{Op}
use Rattle.fdb_client.specs.declared.program.Op.TheVariants as op
use Rattle.fdb_client.specs.declared.program.Reply.{Reply}
use Rattle.fdb_client.specs.declared.program.Reply.TheVariants as reply
use Rattle.fdb_client.specs.declared.program.Transcript.{Transcript}
use Rattle.fdb_roles.specs.Layers.{Keeps}

-- what stands at b is what stands at a
abbrev pub Agree : Map → Type 0
Agree map = get map (codes "a") ≡ get map (codes "b")

-- the key is set, and that is answered
abbrev pub setting : List ℕ → List ℕ → Op × Reply
setting key value = (op.Write (Set key value), reply.Done)

-- the key a is read, by a snapshot or not, answered so, and b is set to the answer
abbrev pub copying : Bool → List ℕ → List (Op × Reply)
copying snapshot value = (op.Get (codes "a") snapshot, reply.Value (Some value)) ∷ setting (codes "b") value ∷ []

-- a transaction that does so, whoever's and whenever
abbrev pub IsCopying : Bool → Transcript → Type 0
IsCopying snapshot transcript = (value : List ℕ) × (transcript.ops ≡ copying snapshot value)

-- one that sets both
abbrev pub IsSettingBoth : Transcript → Type 0
IsSettingBoth transcript =
    (value : List ℕ) × (transcript.ops ≡ setting (codes "a") value ∷ setting (codes "b") value ∷ [])

-- one that forgets the copy
abbrev pub IsForgetful : Transcript → Type 0
IsForgetful transcript = (value : List ℕ) × (transcript.ops ≡ setting (codes "a") value ∷ [])

-- the key is set to the stamp of the commit
abbrev pub stamping : List ℕ → Op × Reply
stamping key = (op.Write (Stamped key (codes "0123456789") 0), reply.Done)

-- one that sets both so
abbrev pub IsStampingBoth : Transcript → Type 0
IsStampingBoth transcript = transcript.ops ≡ stamping (codes "a") ∷ stamping (codes "b") ∷ []

-- Who sets both keeps it, by stamps too, and so does who copies what was read; who copies a snapshot doesn't, since
-- that may be an old one, nor does who forgets the copy.
abbrev pub WorkedLayers : Type 0
WorkedLayers =
    Keeps IsSettingBoth Agree × Keeps IsStampingBoth Agree × Keeps (IsCopying false) Agree
    × (Keeps (IsCopying true) Agree → ⊥) × (Keeps IsForgetful Agree → ⊥)
