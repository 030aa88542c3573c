-- What a step comes to, whichever it is.
use Rattle.std.proofs.Common.{◌≡◌, ◌∙◌, refl, sym, ap, subst, inl, ℕ, Bool, true, false, Result, Ok, Err}
use Rattle.std.specs.Prelude.{⊤, nat_lt}
use Rattle.fdb_keys.specs.declared.refusal.Refusal.{Refusal}
use Rattle.fdb_keys.specs.declared.refusal.Refusal.TheVariants.{NoMemory, Unknown, Failed, Stale, NotYet}
use Rattle.fdb_txn.specs.declared.entry.Entry.{Entry}
use Rattle.fdb_core.specs.declared.cluster.Cluster.{Cluster}
use Rattle.fdb_machine.specs.declared.step.Answered.{Answered}
use Rattle.fdb_machine.specs.machine.AnyStep.{Step}
use Rattle.fdb_machine.specs.machine.Failures.{uses_failed, unless_failed}
use Rattle.fdb_machine.specs.machine.Machine.{Machine, Transition, in_turn, refused_where}
use Rattle.fdb_machine.specs.machine.Steps.{next, answer_of, after, ran_out, ByTest}
use Rattle.fdb_core.specs.refinement.Cluster.{machine_of}
use Rattle.fdb_core.specs.refinement.Restoring.{Tied, failures_of}
use Rattle.fdb_core.specs.refinement.Steps.{Stepped, LeftOrFailed, Takes, transition_of}
use Rattle.fdb_machine.proofs.Exports.{Unless, by_test-map}
use Rattle.fdb_core.proofs.refinement.RestoringLemmas.{restored, same-machine}

-- the cluster is as it was, but for room that was made
pub record IsKept (old new : Cluster) : Type 0 where
  pub machine : machine_of new ≡ machine_of old
  pub failed : failures_of new ≡ failures_of old
  pub tied : Tied new

-- one in which nothing changed is
pub kept : (k : Cluster) → Tied k → IsKept k k
kept k tied = record { machine = refl; failed = refl; tied = tied }

-- A step that uses no role that has failed comes to what the machine says.
pub works : (old : Cluster) (step : Step) (transition : Result Transition Refusal)
    → uses_failed (machine_of old) (failures_of old) step ≡ false → next (machine_of old) step ≡ transition
    → transition_of old step ≡ transition
works old step transition unused is =
    ap (λ (uses : Bool). unless_failed uses (next (machine_of old) step)) unused ∙ is

-- One that names something that isn't there is refused so, whatever roles have failed.
pub unknown : (old : Cluster) (step : Step) → next (machine_of old) step ≡ Err Unknown
    → transition_of old step ≡ Err Unknown
unknown old step is = ap (unless_failed (uses_failed (machine_of old) (failures_of old) step)) is ∙ by_use _
  where
    by_use : (uses : Bool) → unless_failed uses (Err Unknown) ≡ Err Unknown
    by_use true = refl
    by_use false = refl

-- One that uses a role that has failed is refused so, where it names what is there.
pub record NamesWhatIsThere (transition : Result Transition Refusal) : Type 0 where
  pub refused : unless_failed true transition ≡ Err Failed

-- so does one that takes an entry in its turn
pub in-turn : (taken i : ℕ) (entry : Entry) (to : Transition)
    → unless_failed true (in_turn taken i entry (Ok to)) ≡ Err Failed
in-turn taken i entry to = by (nat_lt i taken) (nat_lt taken i)
  where
    by : (early late : Bool)
        → unless_failed true (refused_where early Stale (refused_where late (NotYet entry.prev) (Ok to))) ≡ Err Failed
    by true late = refl
    by false true = refl
    by false false = refl

pub fails : (old : Cluster) (step : Step) → uses_failed (machine_of old) (failures_of old) step ≡ true
    → NamesWhatIsThere (next (machine_of old) step) → transition_of old step ≡ Err Failed
fails old step uses there =
    ap (λ (used : Bool). unless_failed used (next (machine_of old) step)) uses ∙ there.refused

-- A step that the machine accepts answers what the machine answers, and goes on to what the machine goes on to.
pub accepted : (step : Step) {old new : Cluster} {given : Answered} {to : Transition} → transition_of old step ≡ Ok to
    → given ≡ to.answer → machine_of new ≡ to.next → failures_of new ≡ failures_of old
    → Tied new → Takes old step (Ok given) new
accepted step {old} is answer machine failed tied = record {
  answer = ap (λ (it : Answered). Ok it) answer ∙ sym (ap answer_of is);
  machine = machine ∙ sym (ap (after (machine_of old)) is);
  failed = failed;
  tied = tied;
}

-- So does one that is accepted of the cluster as it was before roles failed, and uses none of these.
pub accepted-restored : (old new : Cluster) (step : Step) (before : Tied old) (later : Tied new) {given : Answered}
    {to : Transition} → uses_failed (machine_of old) (failures_of old) step ≡ false
    → next (machine_of (restored old before)) step ≡ Ok to → given ≡ to.answer
    → machine_of (restored new later) ≡ to.next → failures_of new ≡ failures_of old → Takes old step (Ok given) new
accepted-restored old new step before later {given} {to} unused is answer machine failed =
    accepted step (works old step (Ok to) unused (ap (λ (m : Machine). next m step) (sym (same-machine old before))
    ∙ is)) answer
    (sym (same-machine new later) ∙ machine) failed later

-- And what refuses it there refuses it.
pub refused-restored : (old : Cluster) (step : Step) (before : Tied old) (why : Refusal)
    → uses_failed (machine_of old) (failures_of old) step ≡ false
    → next (machine_of (restored old before)) step ≡ Err why → transition_of old step ≡ Err why
refused-restored old step before why unused is =
    works old step (Err why) unused (ap (λ (m : Machine). next m step) (sym (same-machine old before)) ∙ is)

-- A step that the machine refuses, too, changes nothing.
pub refuses : (step : Step) {old new : Cluster} {why : Refusal} → transition_of old step ≡ Err why → IsKept old new
    → Stepped old (Err why) new (transition_of old step)
refuses step {old} is same = record {
  answer = sym (ap answer_of is);
  machine = same.machine ∙ sym (ap (after (machine_of old)) is);
  failed = same.failed;
  tied = same.tied;
}

-- A step hands on why a call was refused:
module _ (old : Cluster) (step : Step) (result : Result Answered Refusal) (new : Cluster) (why : Refusal)
    (is : result ≡ Err why) where
  -- it lacked memory,
  pub lacked : why ≡ NoMemory → LeftOrFailed old step new → Takes old step result new
  lacked lacks left = subst (λ (answer : Result Answered Refusal). Takes old step answer new)
      (sym (is ∙ ap (λ (refusal : Refusal). Err refusal) lacks)) left

  -- or else the machine refuses it, too
  pub refused-unless : Unless (ran_out (Err why)) (Stepped old (Err why) new (transition_of old step))
      → LeftOrFailed old step new → Takes old step result new
  refused-unless stepped left = subst (λ (answer : Result Answered Refusal). Takes old step answer new) (sym is)
      (by_test-map (ran_out (Err why)) ⊤ (Stepped old (Err why) new (transition_of old step))
      (LeftOrFailed old step new) (Stepped old (Err why) new (transition_of old step)) (λ _. left) (λ step. step)
      stepped)

  -- where nothing changed anyhow, also where memory ran out
  pub left : Unless (ran_out (Err why)) (transition_of old step ≡ Err why) → IsKept old new
      → Takes old step result new
  left same stays = subst (λ (answer : Result Answered Refusal). Takes old step answer new) (sym is)
      (by_test-map (ran_out (Err why)) ⊤ (transition_of old step ≡ Err why) (LeftOrFailed old step new)
      (Stepped old (Err why) new (transition_of old step))
      (λ _. record { machine = stays.machine; failed = inl stays.failed; tied = stays.tied })
      (λ same. refuses step same stays) same)

-- The machine after a step is the one before it or the one that it goes on to. What holds of both holds of it, and the
-- cluster is tied to it.
pub left_or_stepped : (P : Machine → Type 0) (old : Cluster) (step : Step) (result : Result Answered Refusal)
    (new : Cluster) → Takes old step result new → P (machine_of old)
    → P (after (machine_of old) (next (machine_of old) step)) → Tied new × P (machine_of new)
left_or_stepped P old step result new taken before later = by (ran_out result) taken
  where
    m : Machine
    m = machine_of old

    after-use : (uses : Bool) (transition : Result Transition Refusal) → P (after m transition)
        → P (after m (unless_failed uses transition))
    after-use false transition went = went
    after-use true (Ok to) went = before
    after-use true (Err Unknown) went = before
    after-use true (Err why) went = before

    by : (test : Bool) → ByTest test (LeftOrFailed old step new) (Stepped old result new (transition_of old step))
        → Tied new × P (machine_of new)
    by true left = (left.tied, subst P (sym left.machine) before)
    by false stepped = (
      stepped.tied,
      subst P (sym stepped.machine) (after-use (uses_failed m (failures_of old) step) (next m step) later),
    )
