-- The sessions as a map: what is looked up after one was put.
use Rattle.std.proofs.Common.{◌≡◌, ◌≢◌, ◌∙◌, sym, ap, refl, subst, ⊎_elim, ℕ, Bool, true, false, cond, List, Option}
use Rattle.std.proofs.Common.{zero, suc, None, Some, [], ◌∷◌, slice_get}
use Rattle.std.specs.Option.{is_some}
use Rattle.std.specs.Prelude.{◌==◌, unwrap_or}
use Rattle.std.specs.Ordering.{nat_cmp, eq_by_cmp}
use Rattle.std.specs.BTreeMap.{is_at}
use Rattle.std.specs.Cmp.{eq_by_cmp_equiv, Equal-is}
use Rattle.std.specs.FinMap.{get, insert, empty, from_entries, get-empty, get-insert, nat_cmp-IsAntisymmetric}
use Rattle.std.proofs.lemmas.Cmp.{nat_cmp_total}
use Rattle.std.proofs.lemmas.Bool.{eq-eqb, ne_eqb, false_from_ne_true}
use Rattle.std.proofs.lemmas.Bool.Decides.{eqb_tells}
use Rattle.fdb_txn.proofs.Exports.{at_number, get-pairs, same_maps}
use Rattle.fdb_proxy.specs.Askers.{Asker}
use Rattle.fdb_client.specs.declared.program.Transcript.{Transcript}
use Rattle.fdb_machine.specs.machine.Acting.{AreKnown, HaveActed}
use Rattle.fdb_machine.specs.machine.Sessions.{Session, SessionState, Sessions, new_session, session_of, with_state}

-- only equal numbers tie
tie : (one other : ℕ) → eq_by_cmp nat_cmp one other ≡ (one == other)
tie one other = ⊎_elim
    (λ (is : (one == other ≡ true) × (one ≡ other)).
    subst (λ (n : ℕ). eq_by_cmp nat_cmp one n ≡ true) is.1 ((eq_by_cmp_equiv nat_cmp_total).refl one) ∙ sym is.0)
    (λ (is : (one == other ≡ false) × (one ≢ other)).
    false_from_ne_true (eq_by_cmp nat_cmp one other)
    (λ tied. is.1 (nat_cmp-IsAntisymmetric one other ((Equal-is (nat_cmp one other)).0 tied))) ∙ sym is.0)
    (eqb_tells one other)

-- what is looked up after a session was put at a number
pub session-put : (sessions : Sessions) (number : ℕ) (session : Session) (other : ℕ)
    → session_of (insert sessions number session) other ≡ cond (other == number) session (session_of sessions other)
session-put sessions number session other =
    ap (λ (there : Option Session). unwrap_or there new_session)
    (get-insert nat_cmp_total sessions number session other
    ∙ ap (λ (test : Bool). cond test (Some session) (get sessions other)) (tie other number))
    ∙ chosen (other == number)
  where
    chosen : (test : Bool)
        → unwrap_or (cond test (Some session) (get sessions other)) new_session
        ≡ cond test session (session_of sessions other)
    chosen true = refl
    chosen false = refl

module _ (sessions : Sessions) (number : ℕ) (session : Session) where
  -- there it is the new one
  pub session-there : session_of (insert sessions number session) number ≡ session
  session-there = session-put sessions number session number ∙ rw (eq-eqb number number refl) refl

  -- and elsewhere the one that was there
  pub session-elsewhere : (other : ℕ) → other ≢ number
      → session_of (insert sessions number session) other ≡ session_of sessions other
  session-elsewhere other differs = session-put sessions number session other ∙ rw (ne_eqb other number differs) refl

-- who was put has an entry
pub put-there : (sessions : Sessions) (number : ℕ) (session : Session)
    → get (insert sessions number session) number ≡ None → ⊥
put-there sessions number session none = never session
    (sym (get-insert nat_cmp_total sessions number session number
    ∙ ap (λ (test : Bool). cond test (Some session) (get sessions number)) (tie number number
    ∙ eq-eqb number number refl))
    ∙ none)
  where
    never : (found : Session) → Some found ≡ None → ⊥
    never found wrong = cc

-- before any session did something
pub session-new : (number : ℕ) → session_of empty number ≡ new_session
session-new number = ap (λ (there : Option Session). unwrap_or there new_session) (get-empty nat_cmp number)

-- a session that is put twice is the one that was put last
pub put-again : (sessions : Sessions) (number : ℕ) (first last : Session)
    → insert (insert sessions number first) number last ≡ insert sessions number last
put-again sessions number first last = same_maps _ _ (λ other.
    get-insert nat_cmp_total (insert sessions number first) number last other
    ∙ ap (cond (eq_by_cmp nat_cmp other number) (Some last))
    (get-insert nat_cmp_total sessions number first other)
    ∙ twice (eq_by_cmp nat_cmp other number) (get sessions other)
    ∙ sym (get-insert nat_cmp_total sessions number last other))
  where
    twice : (test : Bool) (there : Option Session)
        → cond test (Some last) (cond test (Some first) there) ≡ cond test (Some last) there
    twice true there = refl
    twice false there = refl

-- one that is put, and then put back as it was, leaves all as they were
pub put_back-same : (pairs between after : List (ℕ × Session)) (number : ℕ) (session : Session)
    → ((other : ℕ)
    → at_number between other ≡ cond (is_at (nat_cmp number) other) (Some session) (at_number pairs other))
    → ((other : ℕ) → at_number after other
    ≡ cond (is_at (nat_cmp number) other) (at_number pairs number) (at_number between other))
    → from_entries {R = nat_cmp} after ≡ from_entries pairs
put_back-same pairs between after number session put back = same_maps _ _ (λ other.
    get-pairs after other ∙ back other
    ∙ ap (cond (is_at (nat_cmp number) other) (at_number pairs number)) (put other)
    ∙ again other ∙ sym (get-pairs pairs other))
  where
    again : (other : ℕ)
        → cond (is_at (nat_cmp number) other) (at_number pairs number)
        (cond (is_at (nat_cmp number) other) (Some session) (at_number pairs other))
        ≡ at_number pairs other
    again other = ⊎_elim
        (λ (is : (number == other ≡ true) × (number ≡ other)).
        subst (λ (test : Bool). cond test (at_number pairs number) (cond test (Some session) (at_number pairs other))
        ≡ at_number pairs other) (sym (tie number other ∙ is.0)) (ap (at_number pairs) is.1))
        (λ (is : (number == other ≡ false) × (number ≢ other)).
        subst (λ (test : Bool). cond test (at_number pairs number) (cond test (Some session) (at_number pairs other))
        ≡ at_number pairs other) (sym (tie number other ∙ is.0)) refl)
        (eqb_tells number other)

-- a session that did something has done it still where another one is put
known-put : (sessions : Sessions) (number : ℕ) (session : Session) (other : ℕ)
    → is_some (get sessions other) ≡ true → is_some (get (insert sessions number session) other) ≡ true
known-put sessions number session other known =
    ap (λ (there : Option Session). is_some there) (get-insert nat_cmp_total sessions number session other)
    ∙ by_test (eq_by_cmp nat_cmp other number)
  where
    by_test : (test : Bool) → is_some (cond test (Some session) (get sessions other)) ≡ true
    by_test true = refl
    by_test false = known

-- and so so have all
pub all_known-put : (sessions : Sessions) (number : ℕ) (session : Session) (askers : List Asker)
    → AreKnown sessions askers → AreKnown (insert sessions number session) askers
all_known-put sessions number session [] known = tt
all_known-put sessions number session (asker ∷ askers) known =
    (known-put sessions number session asker.0 known.0, all_known-put sessions number session askers known.1)

-- and so have the sessions of all transactions
pub all_acted-put : (sessions : Sessions) (number : ℕ) (session : Session) (transcripts : List Transcript)
    → HaveActed sessions transcripts → HaveActed (insert sessions number session) transcripts
all_acted-put sessions number session [] acted = tt
all_acted-put sessions number session (t ∷ ts) acted =
    (known-put sessions number session t.id.session acted.0, all_acted-put sessions number session ts acted.1)

-- also the session of one of them
pub acted-at : (sessions : Sessions) (transcripts : List Transcript) (i : ℕ) (transcript : Transcript)
    → HaveActed sessions transcripts → slice_get transcripts i ≡ Some transcript
    → is_some (get sessions transcript.id.session) ≡ true
acted-at sessions [] i transcript acted there = cc
acted-at sessions (t ∷ ts) zero transcript acted there =
    let same : t ≡ transcript = cc in
    subst (λ (one : Transcript). is_some (get sessions one.id.session) ≡ true) same acted.0
acted-at sessions (t ∷ ts) (suc i) transcript acted there = acted-at sessions ts i transcript acted.1 there

-- one that acted has an entry
pub acted-there : (pairs : List (ℕ × Session)) (sessions : Sessions) (number : ℕ) → from_entries pairs ≡ sessions
    → is_some (get sessions number) ≡ true → None ≡ at_number pairs number → ⊥
acted-there pairs sessions number is acted none = never
    (sym (ap (λ (there : Option Session). is_some there)
    (sym (ap (λ (map : Sessions). get map number) is) ∙ get-pairs pairs number ∙ sym none)) ∙ acted)
  where
    never : is_some {T = Session} None ≡ true → ⊥
    never wrong = cc

-- and so with its last state alone
pub state-again : (sessions : Sessions) (number : ℕ) (first last : SessionState)
    → with_state (with_state sessions number first) number last ≡ with_state sessions number last
state-again sessions number first last =
    put-again sessions number _ _
    ∙ ap (λ (found : Session). insert sessions number (record { last_number = found.last_number; state = last }))
    (session-there sessions number _)

-- the session at a number where the pairs that the map is made of have one there, or none
pub session-at : (pairs : List (ℕ × Session)) (sessions : Sessions) (number : ℕ) (there : Option Session)
    → from_entries pairs ≡ sessions → there ≡ at_number pairs number
    → session_of sessions number ≡ unwrap_or there new_session
session-at pairs sessions number there is has =
    ap (λ (found : Option Session). unwrap_or found new_session)
    (sym (ap (λ (map : Sessions). get map number) is) ∙ get-pairs pairs number ∙ sym has)
