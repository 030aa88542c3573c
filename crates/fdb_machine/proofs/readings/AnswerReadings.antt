-- The transactions that an Answer acknowledges: what the machine takes by place, a trace takes by the session that is
-- told.
use Rattle.std.proofs.Common.{◌≡◌, ◌∙◌, ◌≤◌, refl, sym, ap, subst, arith, ⊎_elim, ℕ, cond, List, [], ◌∷◌, ◌++◌}
use Rattle.std.specs.List.{count_by}
use Rattle.std.proofs.lemmas.Bool.{cases_Bool, eq-eqb}
use Rattle.std.proofs.lemmas.List.{append_assoc}
use Rattle.std.proofs.lemmas.List.Sums.{sum_by-cons, sum_by-append}
use Rattle.fdb_txn.specs.declared.spot.Spot.TheVariants as spot
use Rattle.fdb_proxy.specs.declared.outcome.Outcome.{Outcome}
use Rattle.fdb_proxy.specs.declared.outcome.Outcome.TheVariants as outcome
use Rattle.fdb_client.specs.declared.program.Transcript.{Transcript}
use Rattle.fdb_roles.specs.declared.placed.Placed.{Placed}
use Rattle.fdb_machine.specs.headline.Readings.{of_session, all_acknowledged_by}
use Rattle.fdb_machine.specs.machine.CommitProxySteps.{placed_from, replies_from}
use Rattle.fdb_machine.specs.headline.Sessions.{is_of}

-- each session has one of the transactions at most
abbrev pub OneEach : List Transcript → Type 0
OneEach transcripts = (session : ℕ) → count_by (is_of session) transcripts ≤ 1

abbrev counts : ℕ → Transcript → ℕ
counts session transcript = cond (is_of session transcript) 1 0

-- so a session's transaction is the only one to be found by the session
found-alone : (before : List Transcript) (transcript : Transcript) (behind : List Transcript)
    → count_by (is_of transcript.id.session) (before ++ transcript ∷ behind) ≤ 1
    → of_session transcript.id.session (before ++ transcript ∷ behind) ≡ transcript ∷ []
found-alone [] transcript behind one = rw (eq-eqb transcript.id.session transcript.id.session refl) refl
found-alone (first ∷ before) transcript behind one = ⊎_elim
    (λ is. let session = transcript.id.session in
    let here : counts session first ≡ 1 = rw is refl in
    let itself : counts session transcript ≡ 1 = rw (eq-eqb session session refl) refl in
    absurd (omega (
      arith,
      one,
      here,
      itself,
      sum_by-cons (counts session) first (before ++ transcript ∷ behind),
      sum_by-append (counts session) before (transcript ∷ behind),
      sum_by-cons (counts session) transcript behind,
    )))
    (λ is. let session = transcript.id.session in
    rw is (found-alone before transcript behind
    (omega (arith, one, sum_by-cons (counts session) first (before ++ transcript ∷ behind)))))
    (cases_Bool (is_of transcript.id.session first))

-- those of the batch from some place on
acknowledged-from : (entry version : ℕ) (batch before transcripts : List Transcript) (outcomes : List Outcome)
    → batch ≡ before ++ transcripts → OneEach batch
    → all_acknowledged_by (record { entry = entry; version = version; transcripts = batch })
    (replies_from transcripts outcomes) ≡ placed_from entry transcripts outcomes
acknowledged-from entry version batch before [] outcomes is one = refl
acknowledged-from entry version batch before (transcript ∷ transcripts) [] is one = refl
acknowledged-from entry version batch before (transcript ∷ transcripts) (first ∷ outcomes) is one =
    by_outcome first (acknowledged-from entry version batch (before ++ transcript ∷ []) transcripts outcomes
    (is ∙ sym (append_assoc before (transcript ∷ []) transcripts)) one)
  where
    alone : of_session transcript.id.session batch ≡ transcript ∷ []
    alone = ap (of_session transcript.id.session) is ∙ found-alone before transcript transcripts
        (subst (λ (all : List Transcript). count_by (is_of transcript.id.session) all ≤ 1) is
        (one transcript.id.session))

    by_outcome : (first : Outcome)
        → all_acknowledged_by (record { entry = entry; version = version; transcripts = batch })
        (replies_from transcripts outcomes) ≡ placed_from entry transcripts outcomes
        → all_acknowledged_by (record { entry = entry; version = version; transcripts = batch })
        (replies_from (transcript ∷ transcripts) (first ∷ outcomes))
        ≡ placed_from entry (transcript ∷ transcripts) (first ∷ outcomes)
    by_outcome (outcome.Commit at place) rest = rw alone
        (ap (λ (placed : List Placed). record { spot = spot.Entry entry place at; transcript = transcript } ∷ placed)
        rest)
    by_outcome outcome.Conflict rest = rest
    by_outcome outcome.Old rest = rest

-- and so all of them
pub acknowledged-placed : (entry version : ℕ) (batch : List Transcript) (outcomes : List Outcome) → OneEach batch
    → all_acknowledged_by (record { entry = entry; version = version; transcripts = batch })
    (replies_from batch outcomes) ≡ placed_from entry batch outcomes
acknowledged-placed entry version batch outcomes one =
    acknowledged-from entry version batch [] batch outcomes refl one
