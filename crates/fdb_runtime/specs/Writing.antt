-- What a call that writes a mutation answers which it makes.
use Rattle.std.specs.Prelude.{◌≡◌, ◌⊎◌, Option, Some, None, Result, Ok, Err}
use Rattle.fdb_keys.specs.declared.refusal.Refusal.{Refusal}
use Rattle.fdb_keys.specs.declared.refusal.Refusal.TheVariants.{NoMemory}
use Rattle.fdb_mutations.specs.declared.mutation.Mutation.{Mutation}
use Rattle.fdb_mutations.specs.Mutations.{mutation_fault}
use Rattle.fdb_client.specs.TxnState.{with_op}
use Rattle.fdb_client.specs.declared.program.Op.TheVariants as operation
use Rattle.fdb_client.specs.declared.program.Reply.TheVariants as answer
use Rattle.fdb_roles.specs.Sessions.{OfOpen}
use Rattle.fdb_sections.specs.Sessions.{Session, with_current}

-- Where the call isn't refused there is no fault, and the property holds. It is refused with its fault, unless memory
-- ran out first.
abbrev pub AnswersOrLacksMemory : {T : Type 0} → Result T Refusal → Option Refusal → Type 0 → Type 0
AnswersOrLacksMemory (Ok given) fault P = (fault ≡ None) × P
AnswersOrLacksMemory (Err why) fault P = (why ≡ NoMemory) ⊎ (fault ≡ Some why)

-- The open transaction buffers the mutation, where that is legal. The call is refused as NoTransaction just where none
-- is open.
abbrev pub Writes : {T : Type 0} → Session → Mutation → Result T Refusal → Session → Type 0
Writes old mutation result new =
    OfOpen old.current result (λ transcript. AnswersOrLacksMemory result (mutation_fault mutation)
    (new ≡ with_current old (Some (with_op transcript (operation.Write mutation) answer.Done))))
