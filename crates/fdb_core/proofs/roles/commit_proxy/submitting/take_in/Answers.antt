use Rattle.std.proofs.Common.{◌≡◌, ◌∙◌, sym, ap, subst, false, List, [], ◌∷◌, ◌++◌, Option, None, Some, Ok, Err}
use Rattle.std.specs.Prelude.{⊤, IfSome}
use Rattle.fdb_keys.specs.Answers.{AnswersOrHandsBack, AnswersExactlyOrHandsBack}
use Rattle.fdb_keys.specs.declared.refusal.Refusal.{Refusal}
use Rattle.fdb_keys.specs.declared.refusal.Refused.{Refused}
use Rattle.fdb_client.specs.declared.program.Transcript.{Transcript}
use Rattle.fdb_client.specs.Programs.{commit_request_of, is_read_only}
use Rattle.fdb_proxy.specs.CommitProxies.{submit_fault as core_fault, submitting}
use Rattle.fdb_roles.specs.Sessions.{submit_fault}
use Rattle.fdb_machine.specs.machine.Sessions.{Sessions, Idle, Waiting, open_at, with_state}
use Rattle.std.specs.FinMap.{get}
use Rattle.fdb_machine.proofs.Exports.{put-there, state-again}
use Rattle.fdb_core.proofs.refinement.client.Submitting.{finished-some}
use Rattle.fdb_core.proofs.roles.commit_proxy.submitting.take_in.Goals as goal
use Rattle.fdb_core.proofs.roles.commit_proxy.submitting.take_in.Goals.{After-sealed}

-- what was taken has what follows of it
gave : {T B : Type 0} (fault : Option Refusal) (given : T) (back : B) (P : T → Type 0)
    → AnswersOrHandsBack (Ok given) back fault P → P given
gave None given back P holds = holds
gave (Some why) given back P holds = absurd holds

-- and what has no fault is taken, where there is room
taken : {T B : Type 0} (fault : Option Refusal) (refused : Refused B) (back : B) (P : T → Type 0) → fault ≡ None
    → AnswersExactlyOrHandsBack {T = T} (Err refused) back fault P → ⊥
taken {T} fault refused back P none answers =
    subst (λ (f : Option Refusal). AnswersExactlyOrHandsBack {T = T} (Err refused) back f P) none answers

module _ (c : After-sealed) where
  was : (open_at c.args.sessions.now c.args.session ≡ Some c.in-ToCommit.transcript)
      × (is_read_only c.in-ToCommit.transcript ≡ false) × (submit_fault c.in-ToCommit.transcript ≡ None)
      × (c.in-ToCommit.sealed ≡ commit_request_of c.in-ToCommit.transcript)
  was = finished-some c.args.sessions.now c.args.session c.in_ok-transcript.field-0 c.in_ok-transcript.ensures.answers
      c.in-ToCommit.sealed c.in-ToCommit.transcript c.in-ToCommit.is

  faultless : core_fault c.args.state.now.proxy c.in-ToCommit.sealed ≡ None
  faultless =
      ap (core_fault c.args.state.now.proxy) was.3
      ∙ subst (λ (there : Option Transcript).
      IfSome there (λ (t : Transcript). core_fault c.args.state.now.proxy (commit_request_of t) ≡ None)) was.0
      c.requires.taken

-- a session that had a transaction has an entry, so no memory is needed for it to wait
pub returns-in_err-wait-in-ToCommit : goal.returns-in_err-wait-in-ToCommit
returns-in_err-wait-in-ToCommit c = absurd (put-there c.args.sessions.now c.args.session _
    (sym (ap (λ (sessions : Sessions). get sessions c.args.session) c.in_ok-transcript.ensures.ok)
    ∙ c.in_err-wait-in-ToCommit.ensures.first))

pub returns-in-Ok : goal.returns-in-Ok
returns-in-Ok c =
    let found = (goal.at.returns-in-Ok c).After-sealed in
    let transcript = c.in-ToCommit.transcript in
    let before = c.args.sessions.now in
    let is = was found in (
      transcript,
      is.0,
      is.1,
      is.2,
      c.in_ok-wait-in-ToCommit.ensures.ok
          ∙ ap (λ (sessions : Sessions). with_state sessions c.args.session Waiting) c.in_ok-transcript.ensures.ok
          ∙ state-again before c.args.session Idle Waiting,
      gave _ c.in-Ok.field-0 c.in-ToCommit.sealed (λ _. c.submit.new.self.proxy
          ≡ submitting c.args.state.now.proxy c.in-ToCommit.sealed) c.in-Ok.ensures.answers
          ∙ ap (submitting c.args.state.now.proxy) is.3,
      c.push_reserved.ensures.items
          ∙ ap (λ (all : List Transcript). all ++ transcript ∷ []) c.reserve.ensures.items,
    )

pub returns-in-Err : goal.returns-in-Err
returns-in-Err c = absurd (taken {T = Unit {0}} _ c.in-Err.refused c.in-ToCommit.sealed (λ _. ⊤)
    (faultless (goal.at.returns-in-Err c).After-sealed) (c.in-Err.ensures.room c.requires.room))
