-- What a call that writes a mutation answers which it makes.
use Rattle.std.proofs.Common.{◌≡◌, sym, ap, subst, inl, inr, refl, Option, Some, None, Result, Ok, Err}
use Rattle.fdb_keys.specs.Answers.{Answers}
use Rattle.fdb_keys.specs.declared.refusal.Refusal.{Refusal}
use Rattle.fdb_mutations.specs.declared.mutation.Mutation.{Mutation}
use Rattle.fdb_mutations.specs.Mutations.{mutation_fault}
use Rattle.fdb_client.specs.TxnState.{with_op}
use Rattle.fdb_client.specs.declared.program.Op.TheVariants as operation
use Rattle.fdb_client.specs.declared.program.Reply.TheVariants as answer
use Rattle.fdb_client.specs.declared.program.Transcript.{Transcript}
use Rattle.fdb_roles.specs.Sessions.{OfOpen}
use Rattle.fdb_sections.specs.Sessions.{Session, with_current}
use Rattle.fdb_runtime.specs.Writing.{AnswersOrLacksMemory, Writes}

weaker : {T : Type 0} (result : Result T Refusal) (fault : Option Refusal) (P : Type 0)
    → Answers result fault (λ _. P) → AnswersOrLacksMemory result fault P
weaker (Ok given) None P holds = (refl, holds)
weaker (Ok given) (Some why) P holds = absurd holds
weaker (Err why) None P holds = inl holds
weaker (Err why) (Some fault) P holds = inr (ap Some (sym holds))

on_open : {T : Type 0} (current : Option Transcript) (result : Result T Refusal) (P Q : Transcript → Type 0)
    → ((transcript : Transcript) → P transcript → Q transcript) → OfOpen current result P → OfOpen current result Q
on_open None result P Q so holds = holds
on_open (Some transcript) result P Q so holds = so transcript holds

-- what `write` answers
writes : {T : Type 0} (old : Session) (mutation : Mutation) (result : Result T Refusal) (new : Session)
    → OfOpen old.current result (λ transcript. Answers result (mutation_fault mutation)
    (λ _. new ≡ with_current old (Some (with_op transcript (operation.Write mutation) answer.Done))))
    → Writes old mutation result new
writes old mutation result new holds =
    on_open old.current result
    (λ transcript. Answers result (mutation_fault mutation)
    (λ _. new ≡ with_current old (Some (with_op transcript (operation.Write mutation) answer.Done))))
    (λ transcript. AnswersOrLacksMemory result (mutation_fault mutation)
    (new ≡ with_current old (Some (with_op transcript (operation.Write mutation) answer.Done))))
    (λ transcript. weaker result (mutation_fault mutation)
    (new ≡ with_current old (Some (with_op transcript (operation.Write mutation) answer.Done)))) holds

-- the mutation that was made is written
pub written : {T : Type 0} (old : Session) (mutation it : Mutation) (made : Result Mutation Refusal)
    (result : Result T Refusal) (new : Session) → made ≡ Ok it → Answers made None (λ one. one ≡ mutation)
    → OfOpen old.current result (λ transcript. Answers result (mutation_fault it)
    (λ _. new ≡ with_current old (Some (with_op transcript (operation.Write it) answer.Done))))
    → Writes old mutation result new
written old mutation it made result new is told holds =
    let same : it ≡ mutation =
    subst (λ (one : Result Mutation Refusal). Answers one None (λ given. given ≡ mutation)) is told in
    subst (λ (one : Mutation). Writes old one result new) same (writes old it result new holds)
