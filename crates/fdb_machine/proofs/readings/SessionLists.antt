-- A session's transactions in a list of open ones: what the machine has by session, a trace tells in one list.
use Rattle.std.proofs.Common.{◌≡◌, ◌≢◌, ◌∙◌, refl, sym, ap, subst, arith, ⊎_elim, inl, inr, ◌⊎◌, ℕ, zero, suc, true}
use Rattle.std.proofs.Common.{false, List, [], ◌∷◌, take, Option, Some, None}
use Rattle.std.specs.List.{filter, slice_get, slice_set}
use Rattle.std.proofs.lemmas.Bool.{cases_Bool, eqb-true, ne_eqb}
use Rattle.fdb_client.specs.declared.program.Op.{Op}
use Rattle.fdb_client.specs.declared.program.Reply.{Reply}
use Rattle.fdb_client.specs.declared.program.Transcript.{Transcript}
use Rattle.fdb_client.specs.TxnState.{with_op}
use Rattle.fdb_machine.specs.headline.Readings.{is_of_session, of_session, others_than, with_one_more}
use Rattle.fdb_machine.specs.headline.Traces.{alone}
use Rattle.fdb_machine.specs.machine.Sessions.{SessionState, Open, Sessions, with_state, open_of, open_at}
use Rattle.fdb_machine.proofs.machine.SessionLemmas.{state-put}

module _ (session : ℕ) where
  -- all of the session's transactions
  abbrev pub own : List Transcript → List Transcript
  own transcripts = filter (is_of_session session) transcripts

  -- the one that is found by the session is the first of them
  first-own : (transcripts : List Transcript) → of_session session transcripts ≡ take 1 (own transcripts)
  first-own [] = refl
  first-own (first ∷ others) = ⊎_elim (λ is. rw is refl) (λ is. rw is (first-own others))
      (cases_Bool (is_of_session session first))

  -- where there is one, none is left without it
  own-gone : (transcripts : List Transcript) (opened : Option Transcript) → own transcripts ≡ alone opened
      → own (others_than session transcripts) ≡ []
  own-gone [] opened is = refl
  own-gone (first ∷ others) opened is = ⊎_elim
      (λ here. by_open opened (first ∷ own others) (sym (rw here refl) ∙ is) here)
      (λ elsewhere. rw elsewhere (rw elsewhere (own-gone others opened (sym (rw elsewhere refl) ∙ is))))
      (cases_Bool (is_of_session session first))
    where
      by_open : (opened : Option Transcript) (found : List Transcript) → first ∷ own others ≡ alone opened
          → is_of_session session first ≡ true
          → own (others_than session (first ∷ others)) ≡ []
      by_open None found same here = cc
      by_open (Some transcript) found same here = rw here (let rest : own others ≡ [] = cc same in rest)

  -- those of another session stay
  own-others : (other : ℕ) (transcripts : List Transcript) → other ≢ session
      → own (others_than other transcripts) ≡ own transcripts
  own-others other [] differs = refl
  own-others other (first ∷ others) differs = ⊎_elim
      (λ here. let elsewhere : is_of_session session first ≡ false = ne_eqb first.id.session session
      (λ same. differs (sym (eqb-true first.id.session other here) ∙ same)) in rw here (rw elsewhere refl))
      (λ elsewhere. rw elsewhere (⊎_elim
      (λ mine. rw mine (ap (λ (rest : List Transcript). first ∷ rest) (own-others other others differs)))
      (λ theirs. rw theirs (own-others other others differs))
      (cases_Bool (is_of_session session first))))
      (cases_Bool (is_of_session other first))

  module _ (operation : Op) (reply : Reply) where
    -- the one that there is has one more operation
    own-more : (transcripts : List Transcript) (transcript : Transcript) → own transcripts ≡ transcript ∷ []
        → own (with_one_more session operation reply transcripts) ≡ with_op transcript operation reply ∷ []
    own-more [] transcript is = cc
    own-more (first ∷ others) transcript is = ⊎_elim
        (λ here. let found : first ∷ own others ≡ transcript ∷ [] = sym (rw here refl) ∙ is in
        let same : first ≡ transcript = cc found in
        let rest : own others ≡ [] = cc found in
        rw here (rw here (λ i. with_op (same i) operation reply ∷ rest i)))
        (λ elsewhere. rw elsewhere
        (rw elsewhere (own-more others transcript (sym (rw elsewhere refl) ∙ is))))
        (cases_Bool (is_of_session session first))

    -- those of another session stay
    own-more-others : (other : ℕ) (transcripts : List Transcript) → other ≢ session
        → own (with_one_more other operation reply transcripts) ≡ own transcripts
    own-more-others other [] differs = refl
    own-more-others other (first ∷ others) differs = ⊎_elim
        (λ here. let elsewhere : is_of_session session first ≡ false = ne_eqb first.id.session session
        (λ same. differs (sym (eqb-true first.id.session other here) ∙ same)) in
        rw here (rw elsewhere refl))
        (λ elsewhere. rw elsewhere (⊎_elim
        (λ mine. rw mine (ap (λ (rest : List Transcript). first ∷ rest) (own-more-others other others differs)))
        (λ theirs. rw theirs (own-more-others other others differs))
        (cases_Bool (is_of_session session first))))
        (cases_Bool (is_of_session other first))

-- Of each session's open transactions exactly the machine's is told.
abbrev pub OpenTold : List Transcript → Sessions → Type 0
OpenTold opened sessions = (session : ℕ) → own session opened ≡ alone (open_at sessions session)

module _ (opened : List Transcript) (sessions : Sessions) (told : OpenTold opened sessions) where
  -- so it is the one that is found by the session
  pub found-told : (session : ℕ) (transcript : Transcript) → open_at sessions session ≡ Some transcript
      → of_session session opened ≡ transcript ∷ []
  found-told session transcript is =
      first-own session opened ∙ ap (take 1) (told session ∙ ap alone is)

  -- it stays so where a session has no open transaction any more
  pub others-told : (client : ℕ) (state : SessionState) → open_of state ≡ None
      → OpenTold (others_than client opened) (with_state sessions client state)
  others-told client state none session =
      state-put (λ (s : SessionState). own session (others_than client opened) ≡ alone (open_of s)) sessions client
      state session
      (λ same. subst (λ (n : ℕ). own session (others_than n opened) ≡ alone (open_of state)) (sym same)
      (own-gone session opened (open_at sessions session) (told session) ∙ sym (ap alone none)))
      (λ differs. own-others session client opened differs ∙ told session)

  -- or one more operation in it
  pub more-told : (client : ℕ) (transcript : Transcript) (operation : Op) (reply : Reply)
      → open_at sessions client ≡ Some transcript
      → OpenTold (with_one_more client operation reply opened)
      (with_state sessions client (Open (with_op transcript operation reply)))
  more-told client transcript operation reply is session =
      state-put (λ (s : SessionState). own session (with_one_more client operation reply opened) ≡ alone (open_of s))
      sessions client (Open (with_op transcript operation reply)) session
      (λ same. subst (λ (n : ℕ). own session (with_one_more n operation reply opened)
      ≡ with_op transcript operation reply ∷ []) (sym same)
      (own-more session operation reply opened transcript
      (told session
      ∙ ap alone (subst (λ (n : ℕ). open_at sessions n ≡ Some transcript) same is))))
      (λ differs. own-more-others session operation reply client opened differs ∙ told session)

-- what is found in a list after a change is the new item, or what stood there
pub item-after-set : {A : Type 0} (xs : List A) (i : ℕ) (x : A) (j : ℕ) (y : A)
    → slice_get (slice_set xs i x) j ≡ Some y
    → ((j ≡ i) × (x ≡ y)) ⊎ ((j ≢ i) × (slice_get xs j ≡ Some y))
item-after-set [] zero x j y there = cc
item-after-set [] (suc i) x j y there = cc
item-after-set (z ∷ zs) zero x zero y there = inl (refl, cc)
item-after-set (z ∷ zs) zero x (suc j) y there = inr (λ same. omega (arith, same), there)
item-after-set (z ∷ zs) (suc i) x zero y there = inr (λ same. omega (arith, same), there)
item-after-set (z ∷ zs) (suc i) x (suc j) y there = ⊎_elim
    (λ here. inl (ap suc here.0, here.1))
    (λ other. inr (λ same. other.0 (omega (arith, same)), other.1))
    (item-after-set zs i x j y there)
