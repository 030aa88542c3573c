-- A log that takes its message of the next entry.
use Rattle.std.proofs.Common.{◌≡◌, ◌∙◌, ◌<◌, refl, sym, ap, subst, ℕ, suc, List, [], ◌∷◌, ◌++◌, length, Option, Some}
use Rattle.std.proofs.Common.{None, arith, Bool, true, false, not, inl, inr, ◌⊎◌, IsSome, IsNone, Result, Ok, Err}
use Rattle.std.proofs.Common.{OnErr}
use Rattle.std.specs.Prelude.{◌==◌, if◌then◌else◌}
use Rattle.std.proofs.lemmas.Bool.{eqb-true, true≢false}
use Rattle.fdb_keys.specs.Answers.{Answers, AnswersExactly}
use Rattle.fdb_keys.specs.declared.refusal.Refusal.{Refusal}
use Rattle.fdb_keys.specs.declared.refusal.Refusal.TheVariants.{Unknown, Failed}
use Rattle.fdb_txn.specs.declared.entry.Entry.{Entry}
use Rattle.fdb_txn.specs.book.Book.{seen_of}
use Rattle.fdb_txn.specs.book.History.{AreEntries}
use Rattle.fdb_txn.specs.Turn.{turn_fault}
use Rattle.fdb_log.specs.declared.message.LogAck.{LogAck}
use Rattle.fdb_log.specs.declared.message.LogMsg.{LogMsg}
use Rattle.fdb_log.specs.Logs.{Log, push_fault, tag_fault, HasTaken, HasPopped, HasFailed}
use Rattle.fdb_storage.specs.LogMessages.{log_message}
use Rattle.fdb_proxy.specs.declared.config.Config.{Config}
use Rattle.fdb_roles.specs.AtBook.{IsLogAt}
use Rattle.fdb_roles.proofs.Exports.{log_goes_on, log_pops, follows}
use Rattle.fdb_sections.specs.Messages.{AckAtFront, IsLastAck, LogMsgAtFront, IsLastMessage}
use Rattle.fdb_sections.specs.RolesAtFronts.{LogAtFront}
use Rattle.fdb_sections.specs.Turns.{front_fault, HasOneMore, AnswersInTurn}
use Rattle.fdb_sections.proofs.TurnLemmas.{same-front, refused-by-role}

-- what is known of a log at a front: it is there unless it has failed
abbrev pub IsLogThere : Config → List Entry → Log → Type 0
IsLogThere config front state =
    (state.log < config.logs) × (state.is_failed ≡ false → IsLogAt config front state.log state)

-- what the log answers that takes the message
abbrev pub IsAck : LogAtFront → LogMsgAtFront → LogAck → Type 0
IsAck at sent ack = ack ≡ record { log = at.state.log; index = sent.message.index }

-- the same with the front that it is sent with
abbrev pub IsAckMessage : LogAtFront → LogMsgAtFront → AckAtFront → Type 0
IsAckMessage at sent told = (told.front ≡ sent.front) × IsAck at sent told.ack

module _ (config : Config) (sent : LogMsgAtFront) (is : IsLastMessage config sent)
    (entries : AreEntries (suc (length config.resolver_splits)) 0 sent.front) where
  abbrev entries-here : AreEntries (suc (length config.resolver_splits)) 0 (is.before ++ is.entry ∷ [])
  entries-here = subst (AreEntries (suc (length config.resolver_splits)) 0) is.front_is entries

  -- the message's version is above the one before it
  pub rises : sent.message.prev < sent.message.version
  rises =
      let after = follows config.resolver_splits is.before is.entry entries-here in
      let above = after.0 in let linked = after.1 in
      let prev : sent.message.prev ≡ is.entry.prev = ap (λ (m : LogMsg). m.prev) is.message_is in
      let version : sent.message.version ≡ is.entry.version = ap (λ (m : LogMsg). m.version) is.message_is in
      omega (arith, above, linked, prev, version)

  -- a log at the front that has one entry less is there once it took it
  pub log-there : (own : List Entry) → HasOneMore own sent.front → (old new : Log)
      → IsLogAt config own old.log old → sent.message.log ≡ old.log → HasTaken old sent.message new
      → old.log < config.logs → IsLogThere config sent.front new
  log-there own more old new at mine taken within =
      let at_before : IsLogAt config is.before old.log old =
      subst (λ (front : List Entry). IsLogAt config front old.log old)
      (sym (same-front is.before own is.entry more.0 (sym is.front_is ∙ more.1))) at in
      let its : sent.message
      ≡ log_message config.resolver_splits config.shard_splits config.logs old.log (length is.before)
      (seen_of is.before) is.entry =
      is.message_is ∙ ap (λ (l : ℕ). log_message config.resolver_splits config.shard_splits config.logs l
      (length is.before) (seen_of is.before) is.entry) mine in
      let next = log_goes_on config is.before is.entry old.log old sent.message entries-here at_before its in (
        subst (λ (l : ℕ). l < config.logs) (sym taken.same.log) within,
        λ works. subst (λ (front : List Entry). IsLogAt config front new.log new) (sym is.front_is)
            (subst (λ (l : ℕ). IsLogAt config (is.before ++ is.entry ∷ []) l new) (sym taken.same.log)
            (next.1 new taken)),
      )

  -- and what it acknowledges then is of the front's last entry
  pub acknowledges : (own : List Entry) → HasOneMore own sent.front → (old new : Log)
      → IsLogAt config own old.log old → sent.message.log ≡ old.log → HasTaken old sent.message new
      → old.log < config.logs → (ack : LogAck) → ack ≡ record { log = old.log; index = sent.message.index }
      → IsLastAck config (record { front = sent.front; ack = ack })
  acknowledges own more old new at mine taken within ack told =
      let there = log-there own more old new at mine taken within in
      let its : new.log ≡ ack.log = taken.same.log ∙ sym (ap (λ (a : LogAck). a.log) told) in record {
        before = is.before;
        entry = is.entry;
        front_is = is.front_is;
        index = ap (λ (a : LogAck). a.index) told ∙ ap (λ (m : LogMsg). m.index) is.message_is;
        within = subst (λ (l : ℕ). l < config.logs) its there.0;
        log = new;
        at = subst (λ (l : ℕ). IsLogAt config sent.front l new) its (there.1 taken.works);
      }

-- one that is refused a message stays there, or has failed
pub log-stays : (config : Config) (front : List Entry) (old new : Log) (fault : Option Refusal)
    → (IsSome fault → new ≡ old) → (IsNone fault → HasFailed old new) → IsLogThere config front old
    → IsLogThere config front new × ((new ≡ old) ⊎ HasFailed old new)
log-stays config front old new (Some why) same fails there =
    (subst (IsLogThere config front) (sym (same refl)) there, inl (same refl))
log-stays config front old new None same fails there =
    let failed = fails refl in (
      (
        subst (λ (l : ℕ). l < config.logs) (sym failed.same.log) there.0,
        λ works. absurd (true≢false (sym failed.fails ∙ works)),
      ),
      inr failed,
    )

-- one that isn't refused a message works, and the message is its own
pub takes-its-own : (old : Log) (message : LogMsg) → push_fault old message ≡ None
    → (message.log ≡ old.log) × (old.is_failed ≡ false)
takes-its-own old message is = by_owner (message.log == old.log) old.is_failed refl refl is
  where
    by_owner : (own failed : Bool) → (message.log == old.log) ≡ own → old.is_failed ≡ failed
        → (if not own then Some Unknown else (if failed then Some Failed else turn_fault old.last message.prev)) ≡ None
        → (message.log ≡ old.log) × (old.is_failed ≡ false)
    by_owner true false it works clear = (eqb-true message.log old.log it, works)
    by_owner true true it fails clear = cc
    by_owner false failed it works clear = cc

-- one that popped a tag, or was refused, stays there
pub log-popped : {T : Type 0} (config : Config) (front : List Entry) (tag through : ℕ) (old new : Log)
    (result : Result T Refusal) → AnswersExactly result (tag_fault old tag through) (λ _. HasPopped old tag through new)
    → OnErr result (new ≡ old) → IsLogThere config front old → IsLogThere config front new
log-popped {T} config front tag through old new (Err why) answers same there =
    subst (IsLogThere config front) (sym same) there
log-popped {T} config front tag through old new (Ok given) answers same there =
    by_fault (tag_fault old tag through) refl answers
  where
    works_by : (failed : Bool) → old.is_failed ≡ failed → tag_fault old tag through ≡ None → old.is_failed ≡ false
    works_by false is none = is
    works_by true is none = absurd (lacks (sym (rw is refl) ∙ none))
      where
        lacks : Some Failed ≡ None → ⊥
        lacks is = cc

    by_fault : (fault : Option Refusal) → tag_fault old tag through ≡ fault
        → AnswersExactly (Ok given) fault (λ _. HasPopped old tag through new) → IsLogThere config front new
    by_fault (Some why) is answered = absurd answered
    by_fault None is popped = (
      subst (λ (l : ℕ). l < config.logs) (sym popped.same.log) there.0,
      λ works. subst (λ (l : ℕ). IsLogAt config front l new) (sym popped.same.log)
          (log_pops config front old.log tag through old new (there.1 (works_by old.is_failed refl is)) is popped),
    )

-- A push in its turn, that the log refuses: what it answers, and what it leaves.
module _ (old now : LogAtFront) (same : old ≡ now) where
  pub refused-push : (sent there : LogMsgAtFront) (why : Refusal) → sent ≡ there
      → front_fault old.front sent.front ≡ None
      → Answers (Err why) (push_fault old.state sent.message) (IsAck old sent)
      → AnswersInTurn (Err why) (front_fault now.front there.front) (push_fault now.state there.message)
      (IsAckMessage now there)
  refused-push sent there why is next answers =
      subst (λ (at : LogAtFront). AnswersInTurn (Err why) (front_fault at.front there.front)
      (push_fault at.state there.message) (IsAckMessage at there)) same
      (subst (λ (message : LogMsgAtFront). AnswersInTurn (Err why) (front_fault old.front message.front)
      (push_fault old.state message.message) (IsAckMessage old message)) is
      (refused-by-role (front_fault old.front sent.front) (push_fault old.state sent.message) (IsAckMessage old sent)
      why (IsAck old sent) next answers))

  pub left-by-push : (new : Log) → ((new ≡ old.state) ⊎ HasFailed old.state new)
      → ((record { front = old.front; state = new } ≡ now) ⊎ ((old.front ≡ now.front) × HasFailed now.state new))
  left-by-push new (inl stays) = inl (ap (λ (state : Log). record { front = old.front; state = state }) stays ∙ same)
  left-by-push new (inr fails) =
      inr (ap (λ (at : LogAtFront). at.front) same, subst (λ (at : LogAtFront). HasFailed at.state new) same fails)
