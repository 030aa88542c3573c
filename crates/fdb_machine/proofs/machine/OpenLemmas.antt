-- What a call on the open transaction of a session comes to for the sessions.
use Rattle.std.proofs.Common.{◌≡◌, refl, ◌∙◌, sym, ap, ap₂, subst, ℕ, cond, List, Option, Some, None, Result, Ok, Err}
use Rattle.std.specs.Prelude.{IfSome, OnErr, OnOk}
use Rattle.std.specs.Ordering.{nat_cmp}
use Rattle.std.specs.BTreeMap.{is_at}
use Rattle.std.specs.FinMap.{from_entries, insert}
use Rattle.std.specs.Map.{set_value}
use Rattle.std.proofs.lemmas.Map.Steps.{set_value_same}
use Rattle.fdb_keys.specs.Answers.{Answers}
use Rattle.fdb_keys.specs.declared.refusal.Refusal.{Refusal}
use Rattle.fdb_keys.specs.declared.refusal.Refusal.TheVariants.{NoTransaction}
use Rattle.fdb_txn.proofs.Exports.{at_number, one_put}
use Rattle.fdb_client.specs.declared.program.Transcript.{Transcript}
use Rattle.fdb_roles.specs.Sessions.{OfOpen}
use Rattle.fdb_machine.specs.machine.Machine.{Transition, with_open}
use Rattle.fdb_machine.specs.machine.Steps.{ran_out}
use Rattle.fdb_machine.specs.machine.Sessions.{Session, SessionState, Sessions, session_of, open_of, open_at, at_state}
use Rattle.fdb_machine.specs.machine.Sessions.{with_state}
use Rattle.fdb_machine.proofs.common.FaultLemmas.{Unless, unless}
use Rattle.fdb_machine.proofs.machine.SessionMaps.{session-at}

-- what a call answers follows from what another one does of the same transaction
pub of-open : {T : Type 0} (opened other : Option Transcript) (result : Result T Refusal) (P Q : Transcript → Type 0)
    → opened ≡ other → ((transcript : Transcript) → P transcript → Q transcript)
    → OfOpen other result P → OfOpen opened result Q
of-open {T} opened other result P Q same follows holds =
    subst (λ (there : Option Transcript). OfOpen there result Q) (sym same) (mapped other holds)
  where
    mapped : (there : Option Transcript) → OfOpen there result P → OfOpen there result Q
    mapped None is = is
    mapped (Some transcript) is = follows transcript is

-- what holds of the open transaction, if there is one, holds of the same one
pub some-follows : (opened other : Option Transcript) (P : Transcript → Type 0) → opened ≡ other → IfSome opened P
    → IfSome other P
some-follows opened other P same holds = subst (λ (there : Option Transcript). IfSome there P) same holds

-- a call that gave something had an open transaction
pub open-given : {T : Type 0} (opened : Option Transcript) (given : T) (P : Transcript → Type 0)
    → OfOpen opened (Ok given) P → (transcript : Transcript) × (opened ≡ Some transcript) × P transcript
open-given None given P is = cc
open-given (Some transcript) given P is = (transcript, refl, is)

-- a refused call on the open transaction, if there is one, is a refused step, unless memory ran out
pub open-refused : (T : Type 0) (opened : Option Transcript) (why : Refusal) (Q : Transcript → Type 0)
    (next : Transcript → Result Transition Refusal)
    → OfOpen {T = T} opened (Err why) Q
    → ((transcript : Transcript) → Q transcript → Unless (ran_out (Err why)) (next transcript ≡ Err why))
    → Unless (ran_out (Err why)) (with_open opened next ≡ Err why)
open-refused T None why Q next is follows =
    unless (ran_out (Err why)) _
    (ap (λ (refusal : Refusal). Err refusal)
    (sym (same_refusal {A = T} why NoTransaction (Err why) (Err NoTransaction) refl refl is)))
  where
    same_refusal : {A : Type 0} (one other : Refusal) (first second : Result A Refusal) → first ≡ Err one
        → second ≡ Err other → first ≡ second → one ≡ other
    same_refusal one other first second is_one is_other same = cc
open-refused T (Some transcript) why Q next is follows = follows transcript is

-- and so does what holds of what it gives
pub answers-follow : {T : Type 0} (result : Result T Refusal) (fault : Option Refusal) (P Q : T → Type 0)
    → ((given : T) → P given → Q given) → Answers result fault P → Answers result fault Q
answers-follow (Ok given) None P Q follows holds = follows given holds
answers-follow (Ok given) (Some why) P Q follows holds = holds
answers-follow (Err why) None P Q follows holds = holds
answers-follow (Err why) (Some fault) P Q follows holds = holds

-- what holds after a refused call follows too
pub refused-follows : {T : Type 0} (result : Result T Refusal) (P Q : Type 0) → (P → Q) → OnErr result P
    → OnErr result Q
refused-follows (Ok given) P Q follows holds = holds
refused-follows (Err why) P Q follows holds = follows holds

-- what holds anyhow holds after a refused call
pub anyhow : {T E : Type 0} (result : Result T E) (P : Type 0) → P → OnErr result P
anyhow (Ok given) P holds = tt
anyhow (Err why) P holds = holds

-- and after one that gave something
pub given-follows : {T : Type 0} (result : Result T Refusal) (P Q : Type 0) → (P → Q) → OnOk result P → OnOk result Q
given-follows (Ok given) P Q follows holds = follows holds
given-follows (Err why) P Q follows holds = holds

module _ (pairs : List (ℕ × Session)) (sessions : Sessions) (number : ℕ)
    (is : from_entries {R = nat_cmp} pairs ≡ sessions)
  where
    -- one that did nothing yet has no open transaction
    pub open-none : None ≡ at_number pairs number → open_at sessions number ≡ None
    open-none none = ap (λ (session : Session). open_of session.state) (session-at pairs sessions number None is none)

    module _ (known : Session) (there : Some known ≡ at_number pairs number) where
      known-is : session_of sessions number ≡ known
      known-is = session-at pairs sessions number (Some known) is there

      -- one that did something has what it is at
      pub open-known : open_at sessions number ≡ open_of known.state
      open-known = ap (λ (session : Session). open_of session.state) known-is

      -- and with another state there, so are the sessions
      pub state-put : (after : List (ℕ × Session)) (new : Session) (state : SessionState)
          → ((other : ℕ)
          → at_number after other ≡ cond (is_at (nat_cmp number) other) (Some new) (at_number pairs other))
          → new ≡ at_state known state → from_entries {R = nat_cmp} after ≡ with_state sessions number state
      state-put after new state put changed =
          one_put pairs after number new put
          ∙ ap₂ (λ (others : Sessions) (session : Session). insert others number session) is
          (changed ∙ (λ i. record { last_number = (sym known-is i).last_number; state = state }))

      -- where it is left as it is, so are the sessions
      pub state-kept : (after : List (ℕ × Session)) (new : Session)
          → after ≡ set_value (is_at (nat_cmp number)) pairs new → new ≡ known
          → from_entries {R = nat_cmp} after ≡ sessions
      state-kept after new put same =
          ap (λ (list : List (ℕ × Session)). from_entries {R = nat_cmp} list)
          (put ∙ set_value_same (is_at (nat_cmp number)) pairs new
          (sym there ∙ ap (λ (session : Session). Some session) (sym same)))
          ∙ is

-- a call on a transaction that is known to be open answers as the property says
pub at-open : {T : Type 0} (opened : Option Transcript) (transcript : Transcript) (result : Result T Refusal)
    (P : Transcript → Type 0) → opened ≡ Some transcript → OfOpen opened result P → P transcript
at-open {T} opened transcript result P is holds =
    subst (λ (there : Option Transcript). OfOpen {T = T} there result P) is holds
