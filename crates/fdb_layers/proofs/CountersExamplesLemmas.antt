-- The counters, worked.
use Rattle.std.proofs.Common.{◌∙◌, sym, refl, List, [], ◌∷◌}
use Rattle.std.proofs.lemmas.Option.{none-some}
use Rattle.std.proofs.Math.Logic.{inr}
use Rattle.std.specs.FinMap.{get}
use Rattle.fdb_mutations.specs.Mutations.{effects}
use Rattle.fdb_mutations.specs.Operands.{sum_of, present}
use Rattle.fdb_mutations.specs.declared.mutation.Mutation.TheVariants.{Add}
use Rattle.fdb_txn.proofs.Exports.{get-effects}
use Rattle.fdb_client.specs.declared.program.Op.{Op}
use Rattle.fdb_client.specs.declared.program.Reply.{Reply}
use Rattle.fdb_layers.specs.Operations.{writing}
use Rattle.fdb_layers.specs.Counters.{first_counter, second_counter, AreEqual}
use Rattle.fdb_layers.specs.CountersExamples.{one_for_both, OneIsAddition, LoneAdditionsFail}
use Rattle.fdb_layers.proofs.CountersLemmas.{counters_start}
use Rattle.fdb_layers.proofs.OperationsLemmas.{written, of_ops, answered-so, nothing-at, nowhere}

pub one_is_addition : OneIsAddition
one_is_addition transcript map is = (
  inr (1 ∷ [], is),
  answered-so map transcript one_for_both is ((λ ordinary. refl), ((λ ordinary. refl), tt)),
)

-- one is added to the first counter alone
abbrev lone : List (Op × Reply)
lone = writing (Add first_counter (1 ∷ [])) ∷ []

pub lone_additions_fail : LoneAdditionsFail
lone_additions_fail keeps =
    let equal : AreEqual (effects nowhere (written 0 0 lone)) =
    keeps nowhere (of_ops lone) 0 0 (1 ∷ [], refl) ((λ ordinary. refl), tt) counters_start in
    none-some (sum_of (present (get nowhere first_counter)) (1 ∷ []))
    (sym (get-effects nowhere (written 0 0 lone) second_counter ∙ nothing-at second_counter) ∙ sym equal
    ∙ get-effects nowhere (written 0 0 lone) first_counter)
