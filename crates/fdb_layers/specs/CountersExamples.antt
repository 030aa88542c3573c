-- The counters, worked: which transaction is their own, and which additions would part them.
use Rattle.std.specs.Prelude.{◌≡◌, List, [], ◌∷◌, ◌++◌}
use Rattle.fdb_mutations.specs.Maps.{Map}
use Rattle.fdb_mutations.specs.declared.mutation.Mutation.TheVariants.{Add}
use Rattle.fdb_client.specs.declared.program.Op.{Op}
use Rattle.fdb_client.specs.declared.program.Reply.{Reply}
use Rattle.fdb_client.specs.declared.program.Transcript.{Transcript}
use Rattle.fdb_roles.specs.Layers.{Keeps}
use Rattle.fdb_roles.specs.Spots.{AnsweredOn}
use Rattle.fdb_layers.specs.Operations.{writing}
use Rattle.fdb_layers.specs.Counters.{first_counter, second_counter, IsOfCounters, AreEqual, IsLoneAddition}

-- one is added to both by two calls, one after another
abbrev pub one_for_both : List (Op × Reply)
one_for_both =
    ([] ++ writing (Add first_counter (1 ∷ [])) ∷ []) ++ writing (Add second_counter (1 ∷ [])) ∷ []

-- these calls are a transaction of the counters, and answered so on every map
abbrev pub OneIsAddition : Type 0
OneIsAddition =
    (transcript : Transcript) (map : Map) → transcript.ops ≡ one_for_both
    → IsOfCounters transcript × AnsweredOn map transcript

-- who adds to one counter alone doesn't keep both equal
abbrev pub LoneAdditionsFail : Type 0
LoneAdditionsFail = Keeps IsLoneAddition AreEqual → ⊥
