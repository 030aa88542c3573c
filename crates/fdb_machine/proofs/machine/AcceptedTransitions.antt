-- What holds of a step's transition wherever the step is accepted, by what the step looks at.
use Rattle.std.proofs.Common.{◌≡◌, ◌≤◌, refl, subst, arith, ℕ, Bool, true, false, Option, Some, None, Result, Ok, Err}
use Rattle.std.proofs.Common.{if◌then◌else◌}
use Rattle.std.specs.Prelude.{nat_lt, ⊤}
use Rattle.std.proofs.lemmas.Bool.{ltb-false}
use Rattle.fdb_keys.specs.declared.refusal.Refusal.{Refusal}
use Rattle.fdb_keys.specs.declared.refusal.Refusal.TheVariants.{Stale, NotYet}
use Rattle.fdb_txn.specs.declared.entry.Entry.{Entry}
use Rattle.fdb_client.specs.declared.program.Transcript.{Transcript}
use Rattle.fdb_machine.specs.machine.Machine.{Transition, found, refused_where, refused_by, in_turn, waits_for}
use Rattle.fdb_machine.specs.machine.Machine.{with_open}

-- the property holds of the transition, if there is one
abbrev pub IfAccepted : (Transition → Type 0) → Result Transition Refusal → Type 0
IfAccepted Q (Ok transition) = Q transition
IfAccepted Q (Err refusal) = ⊤

-- so it holds of what a step is known to go on to
pub of-accepted : (Q : Transition → Type 0) (result : Result Transition Refusal) (transition : Transition)
    → result ≡ Ok transition
    → IfAccepted Q result → Q transition
of-accepted Q result transition accepted holds = subst (IfAccepted Q) accepted holds

module _ (Q : Transition → Type 0) where
  -- after a number it holds if it does after what has it
  pub past-found : {A : Type 0} (x : Option A) (next : A → Result Transition Refusal)
      → ((a : A) → x ≡ Some a → IfAccepted Q (next a))
      → IfAccepted Q (found x next)
  past-found None next holds = tt
  past-found (Some a) next holds = holds a refl

  -- after a test, if it does where that fails
  pub past-test : (test : Bool) (refusal : Refusal) (next : Result Transition Refusal)
      → (test ≡ false → IfAccepted Q next)
      → IfAccepted Q (refused_where test refusal next)
  past-test true refusal next holds = tt
  past-test false refusal next holds = holds refl

  -- after what may be at fault, if it does where nothing is
  pub past-fault : (fault : Option Refusal) (next : Result Transition Refusal) → (fault ≡ None → IfAccepted Q next)
      → IfAccepted Q (refused_by fault next)
  past-fault None next holds = holds refl
  past-fault (Some why) next holds = tt

  -- after a wait, if it does where none is missing
  pub past-wait : (missing : Option ℕ) (next : Result Transition Refusal) → (missing ≡ None → IfAccepted Q next)
      → IfAccepted Q (waits_for missing next)
  past-wait None next holds = holds refl
  past-wait (Some i) next holds = tt

  -- after an entry's turn
  pub past-turn : (taken i : ℕ) (entry : Entry) (next : Result Transition Refusal)
      → (taken ≡ i → IfAccepted Q next)
      → IfAccepted Q (in_turn taken i entry next)
  past-turn taken i entry next holds = past-test (nat_lt i taken) Stale _
      (λ late. past-test (nat_lt taken i) (NotYet entry.prev) next
      (λ early. let above : taken ≤ i = ltb-false i taken late in
      let below : i ≤ taken = ltb-false taken i early in holds (omega arith)))

  -- after a choice, if it does in both
  pub past-choice : (test : Bool) (one other : Result Transition Refusal) → (test ≡ true → IfAccepted Q one)
      → (test ≡ false → IfAccepted Q other)
      → IfAccepted Q (if test then one else other)
  past-choice true one other first second = first refl
  past-choice false one other first second = second refl

  -- after a session's open transaction, if it does after each one
  pub past-open : (opened : Option Transcript) (next : Transcript → Result Transition Refusal)
      → ((transcript : Transcript) → opened ≡ Some transcript → IfAccepted Q (next transcript))
      → IfAccepted Q (with_open opened next)
  past-open None next holds = tt
  past-open (Some transcript) next holds = holds transcript refl
