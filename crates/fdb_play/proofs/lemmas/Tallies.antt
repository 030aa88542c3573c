-- What is counted of steps counts each of them once.
use Rattle.std.proofs.Common.{true, false, ◌≡◌, ◌<◌, ◌≤◌, ◌+◌, ◌∙◌, ℕ, zero, suc, List, [], ◌∷◌, length}
use Rattle.std.proofs.Common.{slice_index_or, refl, ap, sym, arith, Result, Ok, Err}
use Rattle.std.proofs.lemmas.List.{length-set}
use Rattle.std.proofs.lemmas.List.Sums.{sum_by-set}
use Rattle.std.specs.List.{sum}
use Rattle.fdb_play.specs.declared.random.tally.Tally.{Tally}
use Rattle.fdb_proxy.specs.declared.outcome.Outcome.{Outcome}
use Rattle.fdb_proxy.specs.declared.outcome.Outcome.TheVariants as outcome
use Rattle.fdb_machine.specs.declared.step.Answered.{Answered}
use Rattle.fdb_machine.specs.declared.step.Answered.TheVariants as answered
use Rattle.fdb_keys.specs.declared.refusal.Refusal.{Refusal}
use Rattle.fdb_keys.specs.declared.refusal.Refusal.TheVariants as refusal
use Rattle.fdb_keys.specs.Refusals.{code_of}
use Rattle.fdb_machine.specs.declared.step.AnyStep.{AnyStep}
use Rattle.fdb_machine.specs.declared.step.AnyStep.TheVariants as step
use Rattle.fdb_machine.specs.machine.Failures.{State}
use Rattle.fdb_play.specs.random.Runs.{CountsSteps}
use Rattle.fdb_play.specs.random.Tallies.{AreCounted, noting, noting_answer, noting_outcome}
use Rattle.fdb_play.specs.random.Tallies.{kind_of, noting_outcomes, place_of, raised, raised_at}

-- one more below the greatest number
one_more : (count : ℕ) → count < 4294967295 → raised count ≡ count + 1
one_more count below = omega arith

-- no count is above the sum
within_sum : (counts : List ℕ) (place : ℕ) → place < length counts → slice_index_or counts place 0 ≤ sum counts
within_sum counts place there = omega (arith, sum_by-set (λ x. x) counts place 0 0 there)

-- the sum grows by one
sum_raised : (counts : List ℕ) (place : ℕ) → place < length counts → sum counts < 4294967295
    → sum (raised_at counts place) ≡ sum counts + 1
sum_raised counts place there below =
    let within = within_sum counts place there in
    let more = one_more (slice_index_or counts place 0) (omega (arith, within)) in
    omega (arith, more, sum_by-set (λ x. x) counts place (raised (slice_index_or counts place 0)) 0 there)

-- each code has its place
has_place : (why : Refusal) → place_of (code_of why) < 26
has_place refusal.TransactionTooOld = omega arith
has_place refusal.FutureVersion = omega arith
has_place refusal.NotCommitted = omega arith
has_place refusal.CommitUnknownResult = omega arith
has_place refusal.AccessedUnreadable = omega arith
has_place refusal.KeyOutsideLegalRange = omega arith
has_place refusal.InvertedRange = omega arith
has_place refusal.TransactionTooLarge = omega arith
has_place refusal.KeyTooLarge = omega arith
has_place refusal.ValueTooLarge = omega arith
has_place refusal.NoMemory = omega arith
has_place (refusal.NotYet number) = omega arith
has_place refusal.Stale = omega arith
has_place refusal.Failed = omega arith
has_place refusal.Exhausted = omega arith
has_place refusal.BookFull = omega arith
has_place (refusal.Repeated place) = omega arith
has_place refusal.BadOperand = omega arith
has_place refusal.BadConfig = omega arith
has_place refusal.Chain = omega arith
has_place refusal.Taken = omega arith
has_place refusal.MovesFull = omega arith
has_place refusal.Closed = omega arith
has_place refusal.WrongState = omega arith
has_place refusal.NoTransaction = omega arith
has_place refusal.Unknown = omega arith

-- each kind has its place
known_kind : {K R M : Type 0} (act : AnyStep K R M) → kind_of act < 23
known_kind (step.Ask session proxy) = omega arith
known_kind (step.Grant proxy) = omega arith
known_kind (step.Get session key true) = omega arith
known_kind (step.Get session key false) = omega arith
known_kind (step.GetRange session range limit reverse true) = omega arith
known_kind (step.GetRange session range limit reverse false) = omega arith
known_kind (step.Write session mutation) = omega arith
known_kind (step.AddRead session range) = omega arith
known_kind (step.AddWrite session range) = omega arith
known_kind (step.Submit session proxy) = omega arith
known_kind (step.Seal proxy advance) = omega arith
known_kind (step.Resolve entry resolver) = omega arith
known_kind (step.Verdict entry resolver) = omega arith
known_kind (step.Decide proxy) = omega arith
known_kind (step.Push entry log) = omega arith
known_kind (step.Logged entry log) = omega arith
known_kind (step.Report proxy) = omega arith
known_kind (step.Answer proxy) = omega arith
known_kind (step.Pull shard limit) = omega arith
known_kind (step.Forget shard version) = omega arith
known_kind (step.Pop shard) = omega arith
known_kind (step.Move range to) = omega arith
known_kind (step.Window window) = omega arith

-- what is counted of steps stays, whatever else is
abbrev KeepsSteps : Tally → Tally → Type 0
KeepsSteps old new =
    (new.refused ≡ old.refused) × (new.accepted ≡ old.accepted) × (new.refusals ≡ old.refusals)
    × (new.refused_kinds ≡ old.refused_kinds)

outcome_keeps : (tally : Tally) (told : Outcome) → KeepsSteps tally (noting_outcome tally told)
outcome_keeps tally (outcome.Commit version place) = (refl, refl, refl, refl)
outcome_keeps tally outcome.Conflict = (refl, refl, refl, refl)
outcome_keeps tally outcome.Old = (refl, refl, refl, refl)

outcomes_keep : (tally : Tally) (told : List (ℕ × Outcome)) → KeepsSteps tally (noting_outcomes tally told)
outcomes_keep tally [] = (refl, refl, refl, refl)
outcomes_keep tally (one ∷ more) =
    let first = outcome_keeps tally one.1 in
    let rest = outcomes_keep (noting_outcome tally one.1) more in
    (rest.0 ∙ first.0, rest.1 ∙ first.1, rest.2 ∙ first.2, rest.3 ∙ first.3)

answer_keeps : (tally : Tally) (answer : Answered) → KeepsSteps tally (noting_answer tally answer)
answer_keeps tally (answered.Answers told) = outcomes_keep tally told
answer_keeps tally answered.Done = (refl, refl, refl, refl)
answer_keeps tally (answered.Granted served) = (refl, refl, refl, refl)
answer_keeps tally (answered.Value value) = (refl, refl, refl, refl)
answer_keeps tally (answered.Pairs pairs) = (refl, refl, refl, refl)
answer_keeps tally (answered.ReadOnly version) = (refl, refl, refl, refl)
answer_keeps tally (answered.Issued index version prev places) = (refl, refl, refl, refl)
answer_keeps tally (answered.Verdicts verdicts) = (refl, refl, refl, refl)
answer_keeps tally (answered.Decided outcomes) = (refl, refl, refl, refl)
answer_keeps tally (answered.Version version) = (refl, refl, refl, refl)

-- there is a count for each kind, of either answer, and for each code
abbrev HasCounts : Tally → Type 0
HasCounts tally =
    (length tally.accepted ≡ 23) × (length tally.refusals ≡ 26) × (length tally.refused_kinds ≡ 23)

note_counts : (tally : Tally) (kind : ℕ) (answer : Result Answered Refusal) → HasCounts tally
    → HasCounts (noting tally kind answer)
note_counts tally kind (Ok answer) has =
    let keeps = answer_keeps (record tally { accepted = raised_at tally.accepted kind }) answer in (
      ap length keeps.1 ∙ length-set tally.accepted kind _ ∙ has.0,
      ap length keeps.2 ∙ has.1,
      ap length keeps.3 ∙ has.2,
    )
note_counts tally kind (Err why) has = (
  has.0,
  length-set tally.refusals (place_of (code_of why)) _ ∙ has.1,
  length-set tally.refused_kinds kind _ ∙ has.2,
)

-- one more step is counted
note_step : (steps : ℕ) (tally : Tally) (kind : ℕ) (answer : Result Answered Refusal) → HasCounts tally → kind < 23
    → steps < 4294967295 → AreCounted steps tally → AreCounted (suc steps) (noting tally kind answer)
note_step steps tally kind (Ok answer) has known below counted =
    let keeps = answer_keeps (record tally { accepted = raised_at tally.accepted kind }) answer in
    let more = sum_raised tally.accepted kind (omega (arith, has.0)) (omega (arith, counted.0)) in (
      omega (arith, keeps.0, ap sum keeps.1, more, counted.0),
      ap sum keeps.2 ∙ counted.1 ∙ sym keeps.0,
      ap sum keeps.3 ∙ counted.2 ∙ sym keeps.0,
    )
note_step steps tally kind (Err why) has known below counted =
    let more = sum_raised tally.refusals (place_of (code_of why)) (omega (arith, has_place why, has.1))
    (omega (arith, counted.0, counted.1)) in
    let kinds = sum_raised tally.refused_kinds kind (omega (arith, known, has.2))
    (omega (arith, counted.0, counted.2)) in
    let one = one_more tally.refused (omega (arith, counted.0)) in
    (omega (arith, one, counted.0), omega (arith, one, more, counted.1), omega (arith, one, kinds, counted.2))

-- the steps of a run are counted
pub count_steps : (steps : ℕ) (old : State) (new : State) (tally : Tally) → steps < 4294967296
    → CountsSteps steps old new tally → HasCounts tally × AreCounted steps tally
count_steps zero old new tally below counts = rw counts.1 ((refl, refl, refl), (refl, refl, refl))
count_steps (suc steps) old new tally below counts =
    let one = counts.3 in
    let before = count_steps steps old counts.0 counts.1 (omega (arith, below)) counts.2 in
    rw one.3 (
      note_counts counts.1 (kind_of one.0) one.1 before.0,
      note_step steps counts.1 (kind_of one.0) one.1 before.0 (known_kind one.0) (omega (arith, below)) before.1,
    )
