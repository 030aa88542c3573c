-- What holds of the sessions where one of them is put, where some begin a transaction, and where some are told.
use Rattle.std.proofs.Common.{◌≡◌, ◌≢◌, ◌∙◌, sym, ap, refl, subst, ⊎_elim, ◌<◌, ◌≤◌, arith, ℕ, true, false, List, []}
use Rattle.std.proofs.Common.{◌∷◌, fold, Option, Some, None}
use Rattle.std.specs.Prelude.{◌==◌, IfSome}
use Rattle.std.specs.List.{count_by, list_any}
use Rattle.std.specs.FinMap.{insert, empty}
use Rattle.std.proofs.lemmas.Bool.{or_parts}
use Rattle.std.proofs.lemmas.Bool.Decides.{eqb_tells}
use Rattle.fdb_txn.specs.declared.txn_id.TxnId.{TxnId}
use Rattle.fdb_client.specs.declared.program.Transcript.{Transcript}
use Rattle.fdb_machine.specs.machine.GrvProxySteps.{has_no_number}
use Rattle.fdb_machine.specs.machine.Sessions.{Session, SessionState, Sessions, EachOpen, Idle, session_of, with_state}
use Rattle.fdb_machine.specs.machine.Sessions.{open_of, open_at, begins_next, next_number, greatest_number, serve, tell}
use Rattle.fdb_machine.specs.machine.Sessions.{tell_all}
use Rattle.fdb_machine.proofs.common.SumLemmas.{counted, none_or_some}
use Rattle.fdb_machine.proofs.machine.SessionMaps.{session-there, session-elsewhere, session-new}

-- where one session is put, what holds of a session does if it does of the new one where it is that session, and of the
-- one that was there for any other
pub put-cases : (P : Session → Type 0) (sessions : Sessions) (client : ℕ) (new : Session) (session : ℕ)
    → (client ≡ session → P new) → (client ≢ session → P (session_of sessions session))
    → P (session_of (insert sessions client new) session)
put-cases P sessions client new session there elsewhere = ⊎_elim
    (λ (is : (session == client ≡ true) × (session ≡ client)).
    subst (λ (n : ℕ). P (session_of (insert sessions client new) n)) (sym is.1)
    (subst P (sym (session-there sessions client new)) (there (sym is.1))))
    (λ (is : (session == client ≡ false) × (session ≢ client)).
    subst P (sym (session-elsewhere sessions client new session is.1)) (elsewhere (λ same. is.1 (sym same))))
    (eqb_tells session client)

-- the same of its state
pub state-put : (P : SessionState → Type 0) (sessions : Sessions) (client : ℕ) (state : SessionState) (session : ℕ)
    → (client ≡ session → P state) → (client ≢ session → P (session_of sessions session).state)
    → P (session_of (with_state sessions client state) session).state
state-put P sessions client state session there elsewhere =
    put-cases (λ (found : Session). P found.state) sessions client _ session there elsewhere

-- the number of its last transaction stays
pub last-put : (sessions : Sessions) (client : ℕ) (state : SessionState) (session : ℕ)
    → (session_of (with_state sessions client state) session).last_number ≡ (session_of sessions session).last_number
last-put sessions client state session =
    put-cases (λ (found : Session). found.last_number ≡ (session_of sessions session).last_number) sessions client _
    session (λ same. ap (λ (n : ℕ). (session_of sessions n).last_number) same) (λ differs. refl)

-- where a change is at one session, what holds of each session is kept if the new one has it
pub each-put : (P : ℕ → Session → Type 0) (sessions : Sessions) (number : ℕ) (session : Session)
    → ((other : ℕ) → P other (session_of sessions other)) → P number session
    → (other : ℕ) → P other (session_of (insert sessions number session) other)
each-put P sessions number session each new other =
    put-cases (P other) sessions number session other (λ same. subst (λ (n : ℕ). P n session) same new)
    (λ differs. each other)

-- and where some are served, if each that begins its next transaction has it
pub each-served : (P : ℕ → Session → Type 0) (version : ℕ)
    → ((number : ℕ) (session : Session) → P number session → P number (begins_next version number session))
    → (askers : List ℕ) (sessions : Sessions) → ((number : ℕ) → P number (session_of sessions number))
    → (number : ℕ) → P number (session_of (fold (serve version) sessions askers) number)
each-served P version begins [] sessions each = each
each-served P version begins (asker ∷ askers) sessions each =
    each-served P version begins askers (serve version sessions asker)
    (each-put P sessions asker _ each (begins asker (session_of sessions asker) (each asker)))

-- and where some are told, if it stays so when a session has no transaction any more
pub each-told : (P : ℕ → Session → Type 0)
    → ((number : ℕ) (session : Session) → P number session
    → P number (record { last_number = session.last_number; state = Idle }))
    → (transcripts : List Transcript) (sessions : Sessions) → ((number : ℕ) → P number (session_of sessions number))
    → (number : ℕ) → P number (session_of (tell_all transcripts sessions) number)
each-told P ends [] sessions each = each
each-told P ends (transcript ∷ transcripts) sessions each =
    let own = transcript.id.session in
    each-told P ends transcripts (tell sessions transcript)
    (each-put P sessions own _ each (ends own (session_of sessions own) (each own)))

-- so does what holds of each open transaction: where a session has another state, where some are served, and where some
-- are told
module _ (P : Transcript → Type 0) where
  pub open-has : (sessions : Sessions) (number : ℕ) (transcript : Transcript) → EachOpen P sessions
      → open_at sessions number ≡ Some transcript → P transcript
  open-has sessions number transcript each opened =
      subst (λ (there : Option Transcript). IfSome there P) opened (each number)

  pub open-put : (sessions : Sessions) (number : ℕ) (state : SessionState) → EachOpen P sessions
      → IfSome (open_of state) P → EachOpen P (with_state sessions number state)
  open-put sessions number state each new =
      each-put (λ (_ : ℕ) (session : Session). IfSome (open_of session.state) P) sessions number _ each new

  pub open-served : (version : ℕ) → ((id : TxnId) → P (record { id = id; read_version = version; ops = [] }))
      → (askers : List ℕ) (sessions : Sessions) → EachOpen P sessions
      → EachOpen P (fold (serve version) sessions askers)
  open-served version first askers sessions each =
      each-served (λ (_ : ℕ) (session : Session). IfSome (open_of session.state) P) version
      (λ number session _. first (record { session = number; number = next_number session.last_number })) askers
      sessions each

  pub open-told : (transcripts : List Transcript) (sessions : Sessions) → EachOpen P sessions
      → EachOpen P (tell_all transcripts sessions)
  open-told transcripts sessions each =
      each-told (λ (_ : ℕ) (session : Session). IfSome (open_of session.state) P) (λ _ _ _. tt) transcripts sessions
      each

  pub open-new : EachOpen P empty
  open-new number = subst (λ (session : Session). IfSome (open_of session.state) P) (sym (session-new number)) tt

pub open-weaken : (P Q : Transcript → Type 0) → ((transcript : Transcript) → P transcript → Q transcript)
    → (sessions : Sessions) → EachOpen P sessions → EachOpen Q sessions
open-weaken P Q more sessions each number = by_open (open_at sessions number) (each number)
  where
    by_open : (opened : Option Transcript) → IfSome opened P → IfSome opened Q
    by_open None has = tt
    by_open (Some transcript) has = more transcript has

-- the numbers of the last transactions stay where some are told
pub last-told : (transcripts : List Transcript) (sessions : Sessions) (session : ℕ)
    → (session_of (tell_all transcripts sessions) session).last_number ≡ (session_of sessions session).last_number
last-told [] sessions session = refl
last-told (transcript ∷ transcripts) sessions session =
    last-told transcripts (tell sessions transcript) session
    ∙ last-put sessions transcript.id.session Idle session

-- how often the session is among some
abbrev pub times_among : ℕ → List ℕ → ℕ
times_among number askers = count_by (λ (asker : ℕ). asker == number) askers

-- how many of some transactions are the session's
abbrev pub times_of : ℕ → List Transcript → ℕ
times_of number transcripts = count_by (λ (transcript : Transcript). transcript.id.session == number) transcripts

module _ (number version : ℕ) where
  -- a session that isn't among those who are served stays
  pub served-none : (askers : List ℕ) (sessions : Sessions) → times_among number askers ≡ 0
      → session_of (fold (serve version) sessions askers) number ≡ session_of sessions number
  served-none [] sessions none = refl
  served-none (asker ∷ askers) sessions none =
      let parts = counted (λ (other : ℕ). other == number) asker askers in
      ⊎_elim
      (λ (is : (asker == number ≡ true) × (asker ≡ number)). absurd (omega (arith, none, parts.0 is.0)))
      (λ (is : (asker == number ≡ false) × (asker ≢ number)).
      served-none askers (serve version sessions asker) (omega (arith, none, parts.1 is.0))
      ∙ session-elsewhere sessions asker _ number (λ same. is.1 (sym same)))
      (eqb_tells asker number)

  -- one that is there once begins its next transaction
  pub served-once : (askers : List ℕ) (sessions : Sessions) → times_among number askers ≡ 1
      → session_of (fold (serve version) sessions askers) number
      ≡ begins_next version number (session_of sessions number)
  served-once [] sessions once = absurd (omega (arith, once))
  served-once (asker ∷ askers) sessions once =
      let parts = counted (λ (other : ℕ). other == number) asker askers in
      ⊎_elim
      (λ (is : (asker == number ≡ true) × (asker ≡ number)).
      served-none askers (serve version sessions asker) (omega (arith, once, parts.0 is.0))
      ∙ ap (λ (n : ℕ). session_of (serve version sessions n) number) is.1
      ∙ session-there sessions number (begins_next version number (session_of sessions number)))
      (λ (is : (asker == number ≡ false) × (asker ≢ number)).
      served-once askers (serve version sessions asker) (omega (arith, once, parts.1 is.0))
      ∙ ap (begins_next version number) (session-elsewhere sessions asker _ number (λ same. is.1 (sym same))))
      (eqb_tells asker number)

module _ (number : ℕ) where
  -- a session that has none of the transactions that are told of stays
  pub told-none : (transcripts : List Transcript) (sessions : Sessions) → times_of number transcripts ≡ 0
      → session_of (tell_all transcripts sessions) number ≡ session_of sessions number
  told-none [] sessions none = refl
  told-none (transcript ∷ transcripts) sessions none =
      let own = transcript.id.session in
      let parts = counted (λ (other : Transcript). other.id.session == number) transcript transcripts in
      ⊎_elim
      (λ (is : (own == number ≡ true) × (own ≡ number)). absurd (omega (arith, none, parts.0 is.0)))
      (λ (is : (own == number ≡ false) × (own ≢ number)).
      told-none transcripts (tell sessions transcript) (omega (arith, none, parts.1 is.0))
      ∙ session-elsewhere sessions own _ number (λ same. is.1 (sym same)))
      (eqb_tells own number)

  -- and one that has some of them has none any more
  pub told-some : (transcripts : List Transcript) (sessions : Sessions) → 0 < times_of number transcripts
      → session_of (tell_all transcripts sessions) number
      ≡ record { last_number = (session_of sessions number).last_number; state = Idle }
  told-some [] sessions some = absurd (omega (arith, some))
  told-some (transcript ∷ transcripts) sessions some =
      let own = transcript.id.session in
      let parts = counted (λ (other : Transcript). other.id.session == number) transcript transcripts in
      let after = tell sessions transcript in
      ⊎_elim
      (λ (is : (own == number ≡ true) × (own ≡ number)).
      let there : session_of after number
      ≡ record { last_number = (session_of sessions number).last_number; state = Idle } =
      ap (λ (n : ℕ). session_of (with_state sessions n Idle) number) is.1
      ∙ session-there sessions number
      (record { last_number = (session_of sessions number).last_number; state = Idle }) in
      ⊎_elim
      (λ none. told-none transcripts after none ∙ there)
      (λ more. told-some transcripts after more
      ∙ (λ i. record { last_number = (there i).last_number; state = Idle }))
      (none_or_some (times_of number transcripts)))
      (λ (is : (own == number ≡ false) × (own ≢ number)).
      let kept : session_of after number ≡ session_of sessions number =
      session-elsewhere sessions own _ number (λ same. is.1 (sym same)) in
      told-some transcripts after (omega (arith, some, parts.1 is.0))
      ∙ (λ i. record { last_number = (kept i).last_number; state = Idle }))
      (eqb_tells own number)

-- where each of those who ask has a number left, one of them has
pub able : (session : ℕ) (sessions : Sessions) (askers : List ℕ) → list_any (has_no_number sessions) askers ≡ false
    → 0 < times_among session askers → has_no_number sessions session ≡ false
able session sessions [] left some = absurd (omega (arith, some))
able session sessions (asker ∷ askers) left some =
    let parts = or_parts (has_no_number sessions asker) (list_any (has_no_number sessions) askers) left in
    let more = counted (λ (other : ℕ). other == session) asker askers in
    ⊎_elim
    (λ (is : (asker == session ≡ true) × (asker ≡ session)).
    subst (λ (s : ℕ). has_no_number sessions s ≡ false) is.1 parts.0)
    (λ (is : (asker == session ≡ false) × (asker ≢ session)).
    able session sessions askers parts.1 (omega (arith, some, more.1 is.0)))
    (eqb_tells asker session)

-- the next number is one that there is
pub next-within : (last : Option ℕ) → next_number last ≤ greatest_number
next-within None = omega arith
next-within (Some last) = omega arith
