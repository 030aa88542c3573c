-- What follows from how a call answered.
use Rattle.std.proofs.Common.{◌≡◌, ◌⊎◌, inl, inr, refl, ap, subst, sym, Bool, true, false, Option, Some, None, Err}
use Rattle.std.specs.Prelude.{⊤}
use Rattle.std.specs.Option.{IsNone, IsSome}
use Rattle.fdb_keys.specs.Answers.{Answers, AnswersExactly}
use Rattle.fdb_keys.specs.declared.refusal.Refusal.{Refusal}
use Rattle.fdb_keys.specs.declared.refusal.Refusal.TheVariants.{NoMemory}
use Rattle.fdb_machine.specs.machine.Steps.{ByTest, ran_out}

-- so one without a fault refuses nothing
pub never-refused : {T : Type 0} (fault : Option Refusal) (why : Refusal) (P : T → Type 0) → fault ≡ None
    → AnswersExactly (Err why) fault P → ⊥
never-refused {T} fault why P none answers =
    subst (λ (f : Option Refusal). AnswersExactly {T = T} (Err why) f P) none answers

-- it holds unless the test does
abbrev pub Unless : Bool → Type 0 → Type 0
Unless test P = ByTest test ⊤ P

-- what holds anyhow holds unless a test does
pub unless : (test : Bool) (P : Type 0) → P → Unless test P
unless true P holds = tt
unless false P holds = holds

-- what follows from the fault of a refused call holds, unless memory ran out, of the step that is refused so
pub unless-fault : {T : Type 0} (fault : Option Refusal) (why : Refusal) (Q : T → Type 0) (P : Type 0)
    → Answers (Err why) fault Q → (fault ≡ Some why → P) → Unless (ran_out (Err why)) P
unless-fault None why Q P answers follows = rw answers tt
unless-fault (Some fault) why Q P answers follows = unless (ran_out (Err why)) P
    (follows (ap (λ (f : Refusal). Some f) (sym answers)))

-- where memory ran out in a call, whatever is asked of the step that is refused so unless memory ran out
pub unless-lacked : (why : Refusal) (P : Type 0) → why ≡ NoMemory → Unless (ran_out (Err why)) P
unless-lacked why P lacks = rw lacks tt

-- what follows from the one and from the other, by the same test
pub by_test-map : (test : Bool) (P Q R S : Type 0) → (P → R) → (Q → S) → ByTest test P Q → ByTest test R S
by_test-map true P Q R S one other holds = one holds
by_test-map false P Q R S one other holds = other holds

-- what follows from what holds unless a test does
pub unless-map : (test : Bool) (P Q : Type 0) → (P → Q) → Unless test P → Unless test Q
unless-map test P Q follows holds = by_test-map test ⊤ P ⊤ Q (λ _. tt) follows holds

-- it holds where the test doesn't
pub held : (test : Bool) (P : Type 0) → Unless test P → test ≡ false → P
held true P holds is = cc
held false P holds is = holds

-- a call that is refused leaves what it was called on as it was, or has failed, by whether it had a fault
pub left-or-failed : {A : Type 0} (fault : Option Refusal) (old new : A) (HasFailed : Type 0)
    → (IsSome fault → new ≡ old) → (IsNone fault → HasFailed) → (new ≡ old) ⊎ HasFailed
left-or-failed None old new HasFailed refused failed = inr (failed refl)
left-or-failed (Some why) old new HasFailed refused failed = inl (refused refl)
