-- Both counters are equal after each of their transactions.
use Rattle.std.proofs.Common.{◌∙◌, sym, ap, ℕ, List, Option, Some, if◌then◌else◌, ⊎_elim}
use Rattle.std.specs.FinMap.{empty}
use Rattle.fdb_mutations.specs.Operands.{is_addend, sum_of, present}
use Rattle.fdb_txn.proofs.Exports.{get-effects}
use Rattle.fdb_roles.specs.Layers.{Keeps}
use Rattle.fdb_layers.specs.Counters.{first_counter, second_counter, adding, AreEqual, IsAddition, IsOfCounters}
use Rattle.fdb_layers.proofs.OperationsLemmas.{written, kept-unwritten, left-by, nothing-at}

-- what an addition makes of a value
abbrev added : List ℕ → Option (List ℕ) → Option (List ℕ)
added operand old = if is_addend operand then Some (sum_of (present old) operand) else old

addition-keeps : Keeps IsAddition AreEqual
addition-keeps map transcript version place (operand, is) answered equal =
    left-by AreEqual map version place transcript (adding operand) is
    (get-effects map (written version place (adding operand)) first_counter ∙ ap (added operand) equal
    ∙ sym (get-effects map (written version place (adding operand)) second_counter))

pub counters_keep : Keeps IsOfCounters AreEqual
counters_keep map transcript version place allowed answered before = ⊎_elim
    (λ none. kept-unwritten AreEqual map transcript version place none answered before)
    (λ addition. addition-keeps map transcript version place addition answered before)
    allowed

pub counters_start : AreEqual empty
counters_start = nothing-at first_counter ∙ sym (nothing-at second_counter)
