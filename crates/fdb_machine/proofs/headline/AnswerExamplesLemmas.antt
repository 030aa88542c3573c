-- What the examples say is no answer is none: where it were one, a number or a flag would be two at once.
use Rattle.std.proofs.Common.{◌≡◌, ◌∙◌, ◌<◌, ◌≤◌, refl, sym, ap, subst, arith, ℕ, zero, suc, Bool, true, false, List}
use Rattle.std.proofs.Common.{[], ◌∷◌, length, Option, Some, None}
use Rattle.std.specs.List.{Contains, slice_get}
use Rattle.fdb_keys.specs.Points.{Point, point_lt}
use Rattle.fdb_keys.specs.Insertion as insertion
use Rattle.fdb_txn.specs.book.Book.{Place}
use Rattle.fdb_txn.specs.book.Places.{place_at}
use Rattle.fdb_txn.specs.declared.entry.Entry.{Entry}
use Rattle.fdb_txn.specs.rules.Admission.{is_fresh, admits, committed}
use Rattle.fdb_txn.specs.rules.Owners.{is_asked}
use Rattle.fdb_resolver.specs.declared.verdict.Verdict.{Verdict}
use Rattle.fdb_resolver.specs.declared.verdict.Verdict.TheVariants as verdict
use Rattle.fdb_proxy.specs.declared.outcome.Outcome.{Outcome}
use Rattle.fdb_proxy.specs.declared.outcome.Outcome.TheVariants as outcome
use Rattle.fdb_client.specs.declared.program.Transcript.{Transcript}
use Rattle.fdb_roles.specs.Outcomes.{IsByRule}
use Rattle.fdb_machine.specs.headline.AnswerExamples.{OtherVersionsAreNoAnswers, OtherVerdictsAreNoAnswers}
use Rattle.fdb_machine.specs.headline.AnswerExamples.{EarlyDecisionsAreNoAnswers, EarlyMessagesAreNoAnswers}
use Rattle.fdb_machine.specs.headline.AnswerExamples.{OtherOutcomesAreNoAnswers, MessagesAreDue, told_by}
use Rattle.fdb_machine.specs.headline.Answers.{IsAskedAt, IsDecided}
use Rattle.fdb_machine.specs.headline.Due.{CameBelow}
use Rattle.fdb_machine.specs.headline.Readings.{Readings}
use Rattle.fdb_machine.specs.headline.ScriptExamples.{parted_at_m, one_batch}
use Rattle.fdb_machine.specs.declared.step.Answered.{Answered}
use Rattle.fdb_machine.specs.declared.step.Answered.TheVariants as answered

-- the version that an answer gives
abbrev version_of : Answered → ℕ
version_of (answered.Version version) = version
version_of other = 0

-- the read version of the first one that is open
abbrev version_opened : List Transcript → ℕ
version_opened [] = 0
version_opened (transcript ∷ others) = transcript.read_version

pub other_versions_are_no_answers : OtherVersionsAreNoAnswers
other_versions_are_no_answers = (
  (λ is. let wrong : 0 ≡ 100 = is.0 in absurd (omega (arith, wrong))),
  (λ is. let wrong : 101 ≡ 100 = is.2 in absurd (omega (arith, wrong))),
  (λ is. let wrong : 1 ≡ 0 = is.0 in absurd (omega (arith, wrong))),
  (λ is. let wrong : 0 ≡ 1 = is.3 in absurd (omega (arith, wrong))),
  (λ is. let wrong : 100 ≡ 0 = is.1 in absurd (omega (arith, wrong))),
  (λ is. let wrong : 0 ≡ 100 = ap version_of is in absurd (omega (arith, wrong))),
  (λ is. let wrong : 0 ≡ 100 = is in absurd (omega (arith, wrong))),
  (λ is. let wrong : 100 ≡ 0 = is in absurd (omega (arith, wrong))),
  (λ is. let wrong : 0 ≡ 100 = ap version_of is in absurd (omega (arith, wrong))),
  (λ is. let wrong : 100 ≡ 0 = ap version_of is.0 in absurd (omega (arith, wrong))),
  (λ is. let wrong : 101 ≤ 100 = is.1 in absurd (omega (arith, wrong))),
  (λ is. let wrong : 0 ≡ 100 = is.2 ∙ sym (ap version_opened is.1) in absurd (omega (arith, wrong))),
  (λ is. let wrong : 1 ≤ 0 = is.1 in absurd (omega (arith, wrong))),
  (λ is. let wrong : 5000001 ≤ 5000000 = is.2 in absurd (omega (arith, wrong))),
  (λ is. let wrong : answered.Version 5 ≡ answered.Done = is.0 in cc),
)

abbrev splits : List Point
splits = (parted_at_m 1).resolver_splits

-- what the rule says of a place, where there is one
abbrev fresh_at : Option (Place × List Place) → Bool
fresh_at None = true
fresh_at (Some there) = is_fresh there.0

abbrev admitted_at : Option (Place × List Place) → Bool
admitted_at None = true
admitted_at (Some there) = admits splits 0 there.1 there.0

abbrev asked_at : ℕ → Option (Place × List Place) → Bool
asked_at resolver None = false
asked_at resolver (Some there) = is_asked splits resolver there.0

abbrev committed_at : Option (Place × List Place) → Bool
committed_at None = true
committed_at (Some there) = committed splits there.1 there.0

-- how many places an entry has, and the session of a reply, where there is one
abbrev size_at : Option Entry → ℕ
size_at None = 0
size_at (Some entry) = length entry.batch

-- what became of a place, where something is said of it
abbrev became_of : Option Outcome → Outcome
became_of None = outcome.Old
became_of (Some became) = became

abbrev became_at : Option (ℕ × Outcome) → Outcome
became_at None = outcome.Old
became_at (Some told) = told.1

-- no outcome is another one
not_commit : (version place : ℕ) → outcome.Conflict ≡ outcome.Commit version place → ⊥
not_commit version place same = cc

not_old : outcome.Conflict ≡ outcome.Old → ⊥
not_old same = cc

abbrev session_at : Option (ℕ × Outcome) → ℕ
session_at None = 0
session_at (Some told) = told.0

-- a list of the first place alone has no other one
of_one : (said other : Verdict) → Contains {X = ℕ × Verdict} ((0, said) ∷ []) (1, other) → ⊥
of_one said other (zero, within, is) = let wrong : 0 ≡ 1 = ap (λ (p : ℕ × Verdict). p.0) is in
    absurd (omega (arith, wrong))
of_one said other (suc k, within, is) = absurd (omega (arith, within))

pub other_verdicts_are_no_answers : OtherVerdictsAreNoAnswers
unfolding point_lt insertion.inserted
other_verdicts_are_no_answers = (
  (λ is. let by = is.by_rule 1 verdict.Yes (1, omega arith, refl) in
      let wrong : false ≡ true = ap admitted_at (by.1.0) ∙ (by.2.admits_it.0 refl).1 in cc),
  (λ is. let by = is.by_rule 0 verdict.Old (0, omega arith, refl) in
      let wrong : true ≡ false = ap fresh_at (by.1.0) ∙ by.2.is_old.0 refl in cc),
  (λ is. let of = is.of_each 1 _ (refl, refl) in of_one verdict.Yes of.0 of.1),
  (λ is. let wrong : 1 < 0 = is.by_place 0 1 _ _ (omega arith) refl refl in absurd (omega (arith, wrong))),
  (λ is. let by = is.by_rule 0 verdict.Yes (0, omega arith, refl) in
      let wrong : false ≡ true = ap (asked_at 1) (by.1.0) ∙ by.1.1 in cc),
  (λ is. let wrong : 1 ≡ 0 = is.its_turn in absurd (omega (arith, wrong))),
)

-- what is told of the batch after so many lines
abbrev told_after : ℕ → Readings
told_after count = told_by count one_batch

-- What became of the second place is that it conflicts, and of the first one that it is committed.
module _ (there : Place × List Place) (became : Outcome) where
  second_conflicts : IsByRule splits there 1 became → place_at (told_after 10).book 0 1 ≡ Some there
      → outcome.Conflict ≡ became
  unfolding point_lt insertion.inserted
  second_conflicts by at = sym (by.conflicts.1 (sym (ap fresh_at at), sym (ap committed_at at)))

  first_commits : IsByRule splits there 0 became → place_at (told_after 10).book 0 0 ≡ Some there
      → outcome.Commit there.0.version 0 ≡ became
  unfolding point_lt insertion.inserted
  first_commits by at = sym (by.commits.1 (sym (ap committed_at at)))

-- what the proxy decides it decides of entry 0, once the verdicts came
module _ (count : ℕ) (outcomes : List Outcome) (is : IsDecided (parted_at_m 1) (told_after count) 0 outcomes)
    (waits : (told_after count).progress.resolving 0 ≡ Some 0) where
  number_is : is.number ≡ 0
  number_is = let same : Some 0 ≡ Some is.number = sym waits ∙ is.waits in cc

  came : (there : Place × List Place) → IsAskedAt (parted_at_m 1) (told_after count) 0 0 0 there
      → (told_after count).progress.verdicts_came 0 0 ≡ true
  came there asked =
      subst (λ (n : ℕ). IsAskedAt (parted_at_m 1) (told_after count) n 0 0 there
      → (told_after count).progress.verdicts_came n 0 ≡ true) number_is (is.came 0 0 there (omega arith)) asked

  by_rule : (p : ℕ) (there : Place × List Place) → place_at (told_after count).book 0 p ≡ Some there
      → (became : Outcome) × (slice_get outcomes p ≡ Some became) × IsByRule splits there p became
  by_rule p there at =
      is.by_rule p there (ap (λ (n : ℕ). place_at (told_after count).book n p) number_is ∙ at)

  all_of : (entry : Entry) → slice_get (told_after count).book 0 ≡ Some entry → length outcomes ≡ length entry.batch
  all_of entry at =
      let same : Some is.entry ≡ Some entry = sym is.entry_is
      ∙ ap (λ (n : ℕ). slice_get (told_after count).book n) number_is ∙ at in
      is.all_places ∙ ap size_at same

pub early_decisions_are_no_answers : EarlyDecisionsAreNoAnswers
unfolding point_lt insertion.inserted
early_decisions_are_no_answers = (
  (λ is. let wrong : false ≡ true = came 12 _ is refl _ (refl, refl) in cc),
  (λ is. let by = by_rule 13 _ is refl 1 _ refl in
      let same = second_conflicts _ by.0 by.2 refl in
      let said : outcome.Commit 100 1 ≡ by.0 = ap became_of by.1 in
      not_commit 100 1 (same ∙ sym said)),
  (λ is. let by = by_rule 13 _ is refl 0 _ refl in
      let same = first_commits _ by.0 by.2 refl in
      let said : outcome.Conflict ≡ by.0 = ap became_of by.1 in
      not_commit _ 0 (said ∙ sym same)),
  (λ is. let by = by_rule 13 _ is refl 1 _ refl in
      let same = second_conflicts _ by.0 by.2 refl in
      let said : outcome.Old ≡ by.0 = ap became_of by.1 in
      not_old (same ∙ sym said)),
  (λ is. let wrong : 1 ≡ 2 = all_of 13 _ is refl _ refl in absurd (omega (arith, wrong))),
  (λ is. let wrong : None ≡ Some is.number = is.waits in cc),
)

pub early_messages_are_no_answers : EarlyMessagesAreNoAnswers
early_messages_are_no_answers = (
  (λ is. let wrong : 0 < 0 = is.1.took in absurd (omega (arith, wrong))),
  (λ is. let wrong : true ≡ false = is.1.once in cc),
  (λ is. let wrong : false ≡ true = is.1.decided in cc),
  (λ is. let wrong : 0 < 0 = is.1.took in absurd (omega (arith, wrong))),
  (λ is. let wrong : 1 ≡ 0 = is.1.its_turn in absurd (omega (arith, wrong))),
  (λ is. let wrong : true ≡ false = is.1.once in cc),
)

pub other_outcomes_are_no_answers : OtherOutcomesAreNoAnswers
unfolding point_lt insertion.inserted
other_outcomes_are_no_answers = (
  (λ is. let reply = is.replies 1 _ refl in
      let same = second_conflicts reply.there reply.became reply.by_rule reply.there_is in
      let said : outcome.Commit 100 1 ≡ reply.became = ap became_at reply.told_so in
      not_commit 100 1 (same ∙ sym said)),
  (λ is. let reply = is.replies 0 _ refl in
      let same = first_commits reply.there reply.became reply.by_rule reply.there_is in
      let said : outcome.Conflict ≡ reply.became = ap became_at reply.told_so in
      not_commit _ 0 (said ∙ sym same)),
  (λ is. let reply = is.replies 1 _ refl in
      let same = second_conflicts reply.there reply.became reply.by_rule reply.there_is in
      let said : outcome.Old ≡ reply.became = ap became_at reply.told_so in
      not_old (same ∙ sym said)),
  (λ is. let wrong : 1 ≡ 2 = is.each_once in absurd (omega (arith, wrong))),
  (λ is. let reply = is.replies 0 _ refl in
      let wrong : 1 ≡ 0 = ap session_at reply.told_so in absurd (omega (arith, wrong))),
)

pub messages_are_due : MessagesAreDue
unfolding point_lt insertion.inserted
messages_are_due = (
  record { is_there = omega arith; exists = omega arith; its_turn = refl },
  record { is_there = omega arith; exists = omega arith; its_turn = refl },
  record { took = omega arith; proxy = 0; waits = refl; once = refl },
  (0, refl, came_of),
  record { is_there = omega arith; exists = omega arith; its_turn = refl; decided = refl },
  record { took = omega arith; proxy = 0; waits = refl; once = refl },
)
  where
    -- of the two resolvers the first one alone is asked
    came_of : CameBelow (parted_at_m 1) (told_after 13) 0 2
    came_of zero p there within asked = refl
    came_of (suc zero) zero there within asked =
        let wrong : false ≡ true = ap (asked_at 1) asked.0 ∙ asked.1 in cc
    came_of (suc zero) (suc zero) there within asked =
        let wrong : false ≡ true = ap (asked_at 1) asked.0 ∙ asked.1 in cc
    came_of (suc zero) (suc (suc p)) there within asked = cc
    came_of (suc (suc n)) p there within asked = absurd (omega (arith, within))
