-- The transactions that a Grant begins: what the machine numbers by each session's last one, a trace numbers by how
-- often the session began before.
use Rattle.std.proofs.Common.{◌≡◌, ◌≢◌, ◌∙◌, ◌<◌, ◌≤◌, refl, sym, ap, arith, ⊎_elim, ℕ, zero, suc, ◌+◌, min, true}
use Rattle.std.proofs.Common.{false, cond, List, [], ◌∷◌, ◌++◌, Option, Some, None}
use Rattle.std.specs.Prelude.{◌==◌}
use Rattle.std.proofs.lemmas.List.{append-nil}
use Rattle.std.proofs.lemmas.List.Elements.{filter-append}
use Rattle.std.proofs.lemmas.List.Sums.{sum_by_push}
use Rattle.std.proofs.lemmas.Bool.{eq-eqb, ne_eqb, eqb-false}
use Rattle.std.proofs.lemmas.Bool.Decides.{eqb_tells}
use Rattle.fdb_client.specs.declared.program.Transcript.{Transcript}
use Rattle.fdb_machine.specs.headline.Readings.{Readings, begins, is_of_session, times_begun}
use Rattle.fdb_machine.specs.headline.Traces.{alone}
use Rattle.fdb_machine.specs.machine.GrvProxySteps.{has_no_number}
use Rattle.fdb_machine.specs.machine.Sessions.{Session, SessionState, Sessions, session_of, with_state, open_of}
use Rattle.fdb_machine.specs.machine.Sessions.{open_at, begins_next, next_number, greatest_number, has_used_up, serve}
use Rattle.fdb_machine.specs.machine.Sessions.{tell_all}
use Rattle.fdb_machine.proofs.common.SumLemmas.{counted}
use Rattle.fdb_machine.proofs.machine.SessionLemmas.{put-cases, last-put, last-told, times_among}
use Rattle.fdb_machine.proofs.machine.SessionMaps.{session-elsewhere}
use Rattle.fdb_machine.proofs.readings.SessionLists.{own, OpenTold}

-- the number of the last of so many transactions, which stops at the greatest one
abbrev pub last_of : ℕ → Option ℕ
last_of zero = None
last_of (suc n) = Some (min n greatest_number)

-- each session's last number is that of the last of those that it began
abbrev pub NumbersBegun : List ℕ → Sessions → Type 0
NumbersBegun begun sessions =
    (session : ℕ) → (session_of sessions session).last_number ≡ last_of (times_begun session begun)

-- they stay so where a session has another state, and where some are told
pub numbers-put : (begun : List ℕ) (sessions : Sessions) (client : ℕ) (state : SessionState)
    → NumbersBegun begun sessions → NumbersBegun begun (with_state sessions client state)
numbers-put begun sessions client state numbers session = last-put sessions client state session ∙ numbers session

pub numbers-told : (begun : List ℕ) (sessions : Sessions) (transcripts : List Transcript)
    → NumbersBegun begun sessions → NumbersBegun begun (tell_all transcripts sessions)
numbers-told begun sessions transcripts numbers session = last-told transcripts sessions session ∙ numbers session

-- the next number is how often the session began one, up to the greatest
pub next-begun : (times : ℕ) → next_number (last_of times) ≡ min times greatest_number
next-begun zero = least greatest_number
  where
    least : (greatest : ℕ) → 0 ≡ min 0 greatest
    least greatest = omega arith
next-begun (suc n) = stops n greatest_number
  where
    stops : (n greatest : ℕ) → min (min n greatest + 1) greatest ≡ min (suc n) greatest
    stops n greatest = omega arith

-- the number after the last one
next-of : (times : ℕ) → Some (next_number (last_of times)) ≡ last_of (suc times)
next-of times = ap (λ (n : ℕ). Some n) (next-begun times)

-- is how many there are, where the greatest one isn't used up
next-left : (times : ℕ) → has_used_up (last_of times) ≡ false → next_number (last_of times) ≡ times
next-left zero left = refl
next-left (suc n) left = stays n greatest_number (eqb-false (min n greatest_number) greatest_number left)
  where
    stays : (n greatest : ℕ) → (min n greatest ≡ greatest → ⊥) → min (min n greatest + 1) greatest ≡ suc n
    stays n greatest left = omega (arith, left)

-- Those who ask ask once, have no open transaction, and have a number left.
abbrev pub AreReady : Sessions → List ℕ → Type 0
AreReady sessions askers =
    (session : ℕ) → (times_among session askers ≤ 1)
    × (0 < times_among session askers
    → (open_at sessions session ≡ None) × (has_no_number sessions session ≡ false))

-- those who ask after the first one are ready still when that one is served
pub ready-others : (version : ℕ) (sessions : Sessions) (asker : ℕ) (askers : List ℕ)
    → AreReady sessions (asker ∷ askers) → AreReady (serve version sessions asker) askers
ready-others version sessions asker askers ready session =
    let more = counted (λ (other : ℕ). other == session) asker askers in
    ⊎_elim
    (λ (is : (asker == session ≡ true) × (asker ≡ session)).
    let none : times_among session askers ≡ 0 = omega (arith, (ready session).0, more.0 is.0) in
    (omega (arith, none), λ some. absurd (omega (arith, some, none))))
    (λ (is : (asker == session ≡ false) × (asker ≢ session)).
    let stays : session_of (serve version sessions asker) session ≡ session_of sessions session =
    session-elsewhere sessions asker _ session (λ same. is.1 (sym same)) in (
      omega (arith, (ready session).0, more.1 is.0),
      λ some. let was = (ready session).1 (omega (arith, some, more.1 is.0)) in (
        ap (λ (found : Session). open_of found.state) stays ∙ was.0,
        ap (λ (found : Session). has_used_up found.last_number) stays ∙ was.1,
      ),
    ))
    (eqb_tells asker session)

module _ (version : ℕ) (r : Readings) (sessions : Sessions) (asker : ℕ) (askers : List ℕ)
    (numbers : NumbersBegun r.begun sessions) (ready : AreReady sessions (asker ∷ askers)) where
  itself : (0 < times_among asker (asker ∷ askers))
  itself = omega
      (arith, (counted (λ (other : ℕ). other == asker) asker askers).0 (eq-eqb asker asker refl))

  -- the numbers are kept when one who asks begins one more
  pub numbers-begins : NumbersBegun (begins r (asker, version)).begun (serve version sessions asker)
  numbers-begins session =
      let push = sum_by_push (λ (other : ℕ). cond {A = ℕ} (other == session) 1 0) r.begun asker in
      put-cases (λ (found : Session). found.last_number ≡ last_of (times_begun session (r.begun ++ asker ∷ [])))
      sessions asker (begins_next version asker (session_of sessions asker)) session
      (λ same.
      let one : cond {A = ℕ} (asker == session) 1 0 ≡ 1 = rw (eq-eqb asker session same) refl in
      let times : suc (times_begun asker r.begun) ≡ times_begun session (r.begun ++ asker ∷ []) =
      omega (arith, push, one, ap (λ (n : ℕ). times_begun n r.begun) same) in
      ap (λ (last : Option ℕ). Some (next_number last)) (numbers asker) ∙ next-of (times_begun asker r.begun)
      ∙ ap last_of times)
      (λ differs.
      let none : cond {A = ℕ} (asker == session) 1 0 ≡ 0 = rw (ne_eqb asker session differs) refl in
      numbers session ∙ ap last_of (omega (arith, push, none)))

  -- its number is how often it began before
  numbered : times_begun asker r.begun ≡ next_number (session_of sessions asker).last_number
  numbered =
      let left = ((ready asker).1 itself).1 in
      sym (ap next_number (numbers asker)
      ∙ next-left (times_begun asker r.begun) (sym (ap has_used_up (numbers asker)) ∙ left))

  -- and the transaction that it begins is the one that is told of it
  pub opened-begins : OpenTold r.opened sessions
      → OpenTold (begins r (asker, version)).opened (serve version sessions asker)
  opened-begins told session =
      let first : Transcript = record {
        id = record { session = asker; number = times_begun asker r.begun };
        read_version = version;
        ops = [];
      } in
      let push = filter-append (is_of_session session) r.opened (first ∷ []) in
      put-cases (λ (found : Session). own session (r.opened ++ first ∷ []) ≡ alone (open_of found.state)) sessions asker
      (begins_next version asker (session_of sessions asker)) session
      (λ same.
      let none : own session r.opened ≡ [] = told session ∙ ap alone
      (ap (open_at sessions) (sym same) ∙ ((ready asker).1 itself).0) in
      push ∙ ap (λ (before : List Transcript). before ++ own session (first ∷ [])) none
      ∙ rw (eq-eqb asker session same) (λ i. record {
        id = record { session = asker; number = numbered i };
        read_version = version;
        ops = [];
      } ∷ []))
      (λ differs. push ∙ rw (ne_eqb asker session differs) (append-nil (own session r.opened)) ∙ told session)
