-- A log that took one message more.
use Rattle.std.proofs.Common.{◌≡◌, ◌∙◌, sym, ap, refl, subst, ℕ, ◌+◌, ◌<◌, ◌≤◌, true, false, List, [], ◌∷◌, ◌++◌, take}
use Rattle.std.proofs.Common.{drop, length}
use Rattle.std.proofs.Common.{arith}
use Rattle.std.specs.List.{AllByRecursion}
use Rattle.std.proofs.lemmas.List.{length-append, append-nil, drop_all, take_all}
use Rattle.fdb_keys.proofs.Exports.{all-append, all-weaken}
use Rattle.fdb_txn.specs.declared.tag_msg.TagMsg.{TagMsg}
use Rattle.fdb_log.specs.declared.message.LogMsg.{LogMsg}
use Rattle.fdb_log.specs.Logs.{Log, IsLog, HasTaken, keeps, kept, popped_through}
use Rattle.fdb_log.specs.Messages.{tag_message}
use Rattle.fdb_log.specs.Peeks.{RiseAfter, through_after}
use Rattle.fdb_log.specs.Waiting.{Waiting, waits, waiting_of}
use Rattle.fdb_log.proofs.RisingLemmas.{rises-push, through-push}
use Rattle.fdb_log.specs.Places.{list_at}
use Rattle.fdb_log.proofs.TagSetLemmas.{few-kept}
use Rattle.fdb_log.proofs.WaitingLemmas.{waiting_from-wait, waiting_from-count}

-- the log with these queues, these mutations that wait, and this last version
abbrev pub with_taken : Log → ℕ → List (List TagMsg) → List Waiting → Log
with_taken core version queues waiting = record core { last = version; queues = queues; waiting = waiting }

-- It works, and takes a message of a version above the last one.
pub record Takes (core : Log) (message : LogMsg) (queues : List (List TagMsg)) (waiting : List Waiting) : Type 0 where
  pub is_log : IsLog core
  pub works : core.is_failed ≡ false
  pub later : core.last < message.version
  pub long : length queues ≡ length core.queues
  pub told : (tag : ℕ) → keeps core tag ≡ true
      → list_at queues tag ≡ kept core tag ++ tag_message tag message ∷ []
  pub waits : waiting ≡ core.waiting ++ waiting_of (keeps core) message
  pub elsewhere : (tag : ℕ) → keeps core tag ≡ false → list_at queues tag ≡ kept core tag

-- as many queues as there were, written over them
written-whole : (count : ℕ) (new old : List (List TagMsg)) → length new ≡ length old → count ≡ length old
    → take count (new ++ drop (length new) old) ≡ new
written-whole count new old long counted =
    ap (λ (rest : List (List TagMsg)). take count (new ++ rest)) (drop_all (length new) old (omega arith))
    ∙ ap (take count) (append-nil new)
    ∙ take_all count new (omega arith)

pub takes-written : (core : Log) (message : LogMsg) (count : ℕ) (new passed : List (List TagMsg))
    (waiting : List Waiting) → IsLog core → core.is_failed ≡ false → core.last < message.version
    → passed ≡ core.queues → length new ≡ length passed → count ≡ length core.queues
    → ((tag : ℕ) → keeps core tag ≡ true → list_at new tag ≡ list_at passed tag ++ tag_message tag message ∷ [])
    → waiting ≡ core.waiting ++ waiting_of (keeps core) message
    → ((tag : ℕ) → keeps core tag ≡ false → list_at new tag ≡ list_at passed tag)
    → Takes core message (take count (new ++ drop (length new) core.queues)) waiting
takes-written core message count new passed waiting is_log works later same long counted told waits elsewhere =
    let as_long : length new ≡ length core.queues = long ∙ ap length same in
    let whole : take count (new ++ drop (length new) core.queues) ≡ new =
    written-whole count new core.queues as_long counted in
    record {
      is_log = is_log;
      works = works;
      later = later;
      long = ap length whole ∙ as_long;
      told = λ tag here.
          ap (λ (queues : List (List TagMsg)). list_at queues tag) whole
          ∙ told tag here
          ∙ ap (λ (queues : List (List TagMsg)). list_at queues tag ++ tag_message tag message ∷ []) same;
      waits = waits;
      elsewhere = λ tag other.
          ap (λ (queues : List (List TagMsg)). list_at queues tag) whole
          ∙ elsewhere tag other
          ∙ ap (λ (queues : List (List TagMsg)). list_at queues tag) same;
    }

module _ (core : Log) (message : LogMsg) (queues : List (List TagMsg)) (waiting : List Waiting)
    (takes : Takes core message queues waiting) where
  low : (tag : ℕ) → popped_through core tag < message.version
  low tag =
      let within : popped_through core tag ≤ core.last = takes.is_log.within takes.works tag in
      let later : core.last < message.version = takes.later in
      omega arith

  new-wait : AllByRecursion (λ (one : Waiting). (one.0.0 ≡ message.version) × (waits (popped_through core) one ≡ true))
      (waiting_of (keeps core) message)
  new-wait =
      waiting_from-wait (keeps core) message.version (few-kept core.log core.logs core.tags takes.is_log.few_tags)
      (popped_through core) low 0 message.body

  own-alone : (tag : ℕ) → keeps core tag ≡ false → list_at queues tag ≡ []
  own-alone tag other = takes.elsewhere tag other ∙ takes.is_log.own_alone takes.works tag other

  -- the invariant holds of it
  pub is_log-push : IsLog (with_taken core message.version queues waiting)
  is_log-push =
      record {
        number = takes.is_log.number;
        few = takes.is_log.few;
        few_tags = takes.is_log.few_tags;
        tagged = takes.is_log.tagged;
        queued = takes.long ∙ takes.is_log.queued;
        within = λ _ tag.
            let below : popped_through core tag < message.version = low tag in
            omega arith;
        rising = λ _ tag here.
            let through : through_after (popped_through core tag) (kept core tag) ≡ core.last =
            takes.is_log.through takes.works tag here in
            let later : core.last < message.version = takes.later in
            subst (RiseAfter (popped_through core tag)) (sym (takes.told tag here))
            (rises-push (popped_through core tag) (kept core tag) (tag_message tag message)
            (takes.is_log.rising takes.works tag here) (omega arith));
        through = λ _ tag here.
            ap (through_after (popped_through core tag)) (takes.told tag here)
            ∙ through-push (popped_through core tag) (kept core tag) (tag_message tag message);
        taken = λ _.
            subst (AllByRecursion (λ (one : Waiting). one.0.0 ≤ message.version)) (sym takes.waits)
            (all-append (λ (one : Waiting). one.0.0 ≤ message.version) core.waiting (waiting_of (keeps core) message)
            (all-weaken (λ (one : Waiting). one.0.0 ≤ core.last) (λ (one : Waiting). one.0.0 ≤ message.version)
            (λ one within. let later : core.last < message.version = takes.later in omega arith) core.waiting
            (takes.is_log.taken takes.works))
            (all-weaken (λ (one : Waiting). (one.0.0 ≡ message.version) × (waits (popped_through core) one ≡ true))
            (λ (one : Waiting). one.0.0 ≤ message.version) (λ one is. omega (arith, is.0))
            (waiting_of (keeps core) message) new-wait));
        waiting = λ _.
            subst (AllByRecursion (λ (one : Waiting). waits (popped_through core) one ≡ true)) (sym takes.waits)
            (all-append (λ (one : Waiting). waits (popped_through core) one ≡ true) core.waiting
            (waiting_of (keeps core) message) (takes.is_log.waiting takes.works)
            (all-weaken (λ (one : Waiting). (one.0.0 ≡ message.version) × (waits (popped_through core) one ≡ true))
            (λ (one : Waiting). waits (popped_through core) one ≡ true) (λ one is. is.1)
            (waiting_of (keeps core) message) new-wait));
        own_alone = λ _. own-alone;
      }

  -- and it has taken the message
  pub has_taken : HasTaken core message (with_taken core message.version queues waiting)
  has_taken =
      record {
        same = record { log = refl; logs = refl; tags = refl };
        last = refl;
        works = takes.works;
        popped = λ tag. refl;
        kept = takes.told;
        waiting = takes.waits;
        held =
            ap length takes.waits
            ∙ length-append core.waiting (waiting_of (keeps core) message)
            ∙ ap (λ (n : ℕ). length core.waiting + n)
            (waiting_from-count (keeps core) message.version 0 message.body);
        own_alone = own-alone;
      }

-- also where the log is seen by its view
pub has_taken-seen : (core now : Log) (message : LogMsg) (queues : List (List TagMsg)) (waiting : List Waiting)
    → core ≡ now → Takes core message queues waiting
    → HasTaken now message (with_taken core message.version queues waiting)
has_taken-seen core now message queues waiting view takes =
    subst (λ (log : Log). HasTaken log message (with_taken core message.version queues waiting)) view
    (has_taken core message queues waiting takes)
