-- What is known of who asked for a commit proxy's requests stays known after each of its calls.
use Rattle.std.proofs.Common.{◌≡◌, ◌∙◌, refl, sym, ap, subst, ⊎_elim, inl, inr, List, [], ◌∷◌, ◌++◌, take}
use Rattle.std.specs.List.{AllByRecursion}
use Rattle.std.proofs.lemmas.Bool.{cases_Bool, cond-true, cond-false}
use Rattle.fdb_proxy.specs.declared.stage.Stage.TheVariants as stage
use Rattle.std.proofs.Math.Logic.{∥∥₁_map, ∥∥₁_map₂}
use Rattle.std.specs.Prelude.{◌-◌, ◌==◌, ◌⊎◌, suc, true, length, Option, Some, Result, Ok, Err, IfSome, IfErr, OnOk}
use Rattle.fdb_keys.specs.Answers.{AnswersExactly}
use Rattle.fdb_keys.specs.Points.{Point}
use Rattle.fdb_keys.specs.declared.refusal.Refusal.{Refusal}
use Rattle.fdb_keys.specs.declared.refusal.Refusal.TheVariants.{NoMemory}
use Rattle.fdb_txn.specs.Limits.{place_limit}
use Rattle.fdb_txn.specs.declared.entry.Entry.{Entry}
use Rattle.fdb_txn.specs.book.Transactions.{Transaction}
use Rattle.fdb_sequencer.specs.declared.ticket.Ticket.{Ticket}
use Rattle.fdb_txn.specs.book.History.{AreEntries}
use Rattle.fdb_book.specs.Fronts.{IsPrefix}
use Rattle.fdb_proxy.specs.declared.config.Config.{Config}
use Rattle.fdb_proxy.specs.CommitProxies as proxies
use Rattle.fdb_proxy.specs.CommitProxies.{CommitProxy, HasLearntTicket, HasFailed, sealing, unsealing, finishing}
use Rattle.fdb_proxy.specs.CommitProxies.{is_sealed}
use Rattle.fdb_client.specs.declared.program.Transcript.{Transcript}
use Rattle.fdb_roles.proofs.Exports.{all-take, all-drop}
use Rattle.fdb_sections.specs.declared.machines.commit_proxy.Phase.{Phase}
use Rattle.fdb_sections.specs.declared.machines.commit_proxy.Phase.TheVariants as phase
use Rattle.fdb_sections.specs.CommitMachines.{CommitMachine, decided, judged, submitting}
use Rattle.fdb_sections.specs.Asking.{IsAsked, AreAsked, HasAsked}
use Rattle.fdb_sections.specs.CommitProxiesAtFronts.{CommitProxyAtFront, verdict_fault}
use Rattle.fdb_sections.specs.Messages.{VerdictsAtFront}
use Rattle.fdb_sections.specs.Ticketing.{LeftByTicket}
use Rattle.fdb_sections.proofs.AskingLemmas.{longer-asked}

all-append : {X : Type 0} (P : X → Type 0) (xs ys : List X) → AllByRecursion P xs → AllByRecursion P ys
    → AllByRecursion P (xs ++ ys)
all-append P [] ys all others = others
all-append P (x ∷ xs) ys all others = (all.0, all-append P xs ys all.1 others)

-- a call that is refused for its fault
pub refuses-exactly : {T : Type 0} (fault : Option Refusal) (why : Refusal) (P : T → Type 0) → fault ≡ Some why
    → AnswersExactly {T = T} (Err why) fault P
refuses-exactly {T} fault why P is =
    subst (λ (f : Option Refusal). AnswersExactly {T = T} (Err why) f P) (sym is) refl

module _ (allows : Transcript → Type 0) (splits : List Point) (front : List Entry) where
  -- where nobody waits and nothing is in flight, nothing is asked for
  pub none-asked : (p : CommitProxy) → p.waiting ≡ [] → p.batch ≡ [] → HasAsked allows splits front p
  none-asked p waiting batch = ∣ (
    subst (AreAsked allows splits front) (sym waiting) tt,
    subst (AreAsked allows splits front) (sym batch) tt,
  ) ∣₁

  -- whoever has the same requests
  pub same-asked : (old new : CommitProxy) → new.waiting ≡ old.waiting → new.batch ≡ old.batch
      → HasAsked allows splits front old → HasAsked allows splits front new
  same-asked old new waiting batch asked = ∥∥₁_map asked (λ both. (
    subst (AreAsked allows splits front) (sym waiting) both.0,
    subst (AreAsked allows splits front) (sym batch) both.1,
  ))

  -- one more request that is asked for
  one-more-asked : (p : CommitProxy) (t : Transaction) → HasAsked allows splits front p
      → ∥ IsAsked allows splits front t ∥₁ → HasAsked allows splits front (proxies.submitting p t)
  one-more-asked p t asked one = ∥∥₁_map₂ asked one (λ both is.
      (all-append (IsAsked allows splits front) p.waiting (t ∷ []) both.0 (is, tt), both.1))

  pub submit-asked : (at : Phase) (p : CommitProxy) (t : Transaction) → HasAsked allows splits front p
      → ∥ IsAsked allows splits front t ∥₁ → HasAsked allows splits front (submitting at p t)
  submit-asked (phase.Refusing why) p t asked one = asked
  submit-asked phase.Idle p t asked one = one-more-asked p t asked one
  submit-asked phase.Sealed p t asked one = one-more-asked p t asked one
  submit-asked phase.Resolving p t asked one = one-more-asked p t asked one
  submit-asked phase.Logging p t asked one = one-more-asked p t asked one
  submit-asked phase.Logged p t asked one = one-more-asked p t asked one
  submit-asked phase.Reporting p t asked one = one-more-asked p t asked one
  submit-asked phase.Failed p t asked one = one-more-asked p t asked one

  -- the first of those who wait are the batch
  pub seal-asked : (p : CommitProxy) → HasAsked allows splits front p → HasAsked allows splits front (sealing p)
  seal-asked p asked = ∥∥₁_map asked (λ both. (
    all-drop (IsAsked allows splits front) place_limit p.waiting both.0,
    all-take (IsAsked allows splits front) place_limit p.waiting both.0,
  ))

  pub batch-asked : (p : CommitProxy) → HasAsked allows splits front p
      → ∥ AreAsked allows splits front (take place_limit p.waiting) ∥₁
  batch-asked p asked =
      ∥∥₁_map asked (λ both. all-take (IsAsked allows splits front) place_limit p.waiting both.0)

  -- the batch waits again
  pub unseal-asked : (p : CommitProxy) → HasAsked allows splits front p → HasAsked allows splits front (unsealing p)
  unseal-asked p asked = ⊎_elim
      (λ is. subst (HasAsked allows splits front) (sym (cond-true (is_sealed p.stage) again p is)) (∥∥₁_map asked
      (λ both. (all-append (IsAsked allows splits front) p.batch p.waiting both.1 both.0, tt))))
      (λ not. subst (HasAsked allows splits front) (sym (cond-false (is_sealed p.stage) again p not)) asked)
      (cases_Bool (is_sealed p.stage))
    where
      again : CommitProxy
      again = record p { batch = []; waiting = p.batch ++ p.waiting; stage = stage.Idle }

  -- the batch is done
  pub finish-asked : (p : CommitProxy) → HasAsked allows splits front p → HasAsked allows splits front (finishing p)
  finish-asked p asked = ∥∥₁_map asked (λ both. (both.0, tt))

  -- nobody waits any more
  pub refuse-asked : (old new : CommitProxy) → new.waiting ≡ [] → new.batch ≡ old.batch
      → HasAsked allows splits front old → HasAsked allows splits front new
  refuse-asked old new waiting batch asked = ∥∥₁_map asked (λ both. (
    subst (AreAsked allows splits front) (sym waiting) tt,
    subst (AreAsked allows splits front) (sym batch) both.1,
  ))

  -- a ticket is learnt
  pub learn-asked : (old : CommitProxy) (ticket : Ticket) (new : CommitProxy) → HasLearntTicket old ticket new
      → HasAsked allows splits front old → HasAsked allows splits front new
  learn-asked old ticket new learnt =
      same-asked old new (ap (λ (p : CommitProxy). p.waiting) learnt.rest) (ap (λ (p : CommitProxy). p.batch)
      learnt.rest)

  pub fail-asked : (old : CommitProxy) (ticket : Ticket) (new : CommitProxy) → HasFailed old ticket new
      → HasAsked allows splits front old → HasAsked allows splits front new
  fail-asked old ticket new failed =
      same-asked old new (ap (λ (p : CommitProxy). p.waiting) failed.rest) (ap (λ (p : CommitProxy). p.batch)
      failed.rest)

  -- whatever comes of a ticket
  pub left-asked : {T : Type 0} (result : Result T Refusal) (old : CommitProxyAtFront) (ticket : Ticket)
      (given : List Entry) (new : CommitProxyAtFront) → LeftByTicket result old ticket given new
      → HasAsked allows splits front old.state.proxy → HasAsked allows splits front new.state.proxy
  left-asked (Ok done) old ticket given new left = learn-asked old.state.proxy ticket new.state.proxy left.1
  left-asked (Err NoMemory) old ticket given new left = fail-asked old.state.proxy ticket new.state.proxy left.1
  left-asked (Err why) old ticket given new left = λ asked. subst (HasAsked allows splits front) (sym left.1) asked

-- The same with a longer front.
module _ (allows : Transcript → Type 0) (config : Config) (short long : List Entry)
    (entries : AreEntries (suc (length config.resolver_splits)) 0 long) (begins : IsPrefix short long) where
  pub one-longer : (t : Transaction) → ∥ IsAsked allows config.resolver_splits short t ∥₁
      → ∥ IsAsked allows config.resolver_splits long t ∥₁
  one-longer t asked = ∥∥₁_map (longer-asked allows config (suc (length config.resolver_splits)) short long entries
      begins
      (t ∷ []) (∥∥₁_map asked (λ is. (is, tt)))) (λ all. all.0)

  pub has-longer : (p : CommitProxy) → HasAsked allows config.resolver_splits short p
      → HasAsked allows config.resolver_splits long p
  has-longer p asked = ∥∥₁_map₂
      (longer-asked allows config (suc (length config.resolver_splits)) short long entries begins p.waiting
      (∥∥₁_map asked (λ both. both.0)))
      (longer-asked allows config (suc (length config.resolver_splits)) short long entries begins p.batch
      (∥∥₁_map asked (λ both. both.1)))
      (λ waiting batch. (waiting, batch))

-- What is said of a machine by its fields is said of it as its callers see it.
module _ {B W T : Type 0} (result : Result T Refusal) (own now : CommitMachine B W) (same : own ≡ now)
    (sent : VerdictsAtFront) where
  -- verdicts that are late
  pub verdict-late : (why : Refusal) (new : CommitMachine B W) → new ≡ own → result ≡ Err why
      → verdict_fault own.front own.proxy sent ≡ Some why
      → IfSome (verdict_fault now.front now.proxy sent) (λ why. (result ≡ Err why) × (new ≡ now))
  verdict-late why new stays is fault =
      subst (λ (f : Option Refusal). IfSome f (λ why. (result ≡ Err why) × (new ≡ now)))
      (sym (subst (λ (it : CommitMachine B W). verdict_fault it.front it.proxy sent ≡ Some why) same fault))
      (is, stays ∙ same)

  -- once they are the last ones, it is decided
  pub verdict-last : (middle new : CommitMachine B W) → middle
      ≡ record own { proxy = proxies.with_verdict own.proxy sent.verdicts; left = own.left - 1 }
      → (own.left - 1 == 0) ≡ true
      → OnOk result (new ≡ decided middle)
      → OnOk result (new ≡ judged now (proxies.with_verdict now.proxy sent.verdicts))
  verdict-last middle new middle-is last = by_result result
    where
      is : decided middle ≡ judged now (proxies.with_verdict now.proxy sent.verdicts)
      is = subst (λ (it : CommitMachine B W). decided middle ≡ judged it (proxies.with_verdict it.proxy sent.verdicts))
          same
          (ap decided middle-is
          ∙ sym (cond-true (own.left - 1 == 0) (decided (record own {
            proxy = proxies.with_verdict own.proxy
                sent.verdicts;
            left = own.left - 1;
          }))
          (record own { proxy = proxies.with_verdict own.proxy sent.verdicts; left = own.left - 1 }) last))

      by_result : (r : Result T Refusal) → OnOk r (new ≡ decided middle)
          → OnOk r (new ≡ judged now (proxies.with_verdict now.proxy sent.verdicts))
      by_result (Ok given) new-is = new-is ∙ is
      by_result (Err why) none = none

  -- why it isn't
  pub verdict-why : (proxy : CommitProxy) → proxy ≡ proxies.with_verdict own.proxy sent.verdicts
      → IfErr result (λ why. (why ≡ NoMemory) ⊎ (proxies.decide_fault proxy ≡ Some why))
      → IfErr result (λ why. (verdict_fault now.front now.proxy sent ≡ Some why) ⊎ (why ≡ NoMemory)
      ⊎ (proxies.decide_fault (proxies.with_verdict now.proxy sent.verdicts) ≡ Some why))
  verdict-why proxy proxy-is = by_result result
    where
      by_result : (r : Result T Refusal) → IfErr r (λ why. (why ≡ NoMemory) ⊎ (proxies.decide_fault proxy ≡ Some why))
          → IfErr r (λ why. (verdict_fault now.front now.proxy sent ≡ Some why) ⊎ (why ≡ NoMemory)
          ⊎ (proxies.decide_fault (proxies.with_verdict now.proxy sent.verdicts) ≡ Some why))
      by_result (Ok given) none = none
      by_result (Err why) because = inr (⊎_elim (λ memory. inl memory)
          (λ fault. inr (subst (λ (it : CommitMachine B W).
          proxies.decide_fault (proxies.with_verdict it.proxy sent.verdicts) ≡ Some why) same
          (subst (λ (p : CommitProxy). proxies.decide_fault p ≡ Some why) proxy-is fault))) because)
