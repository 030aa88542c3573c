-- What follows where a log finds no fault.
use Rattle.std.proofs.Common.{◌≡◌, refl, ℕ, ◌<◌, ◌≤◌, Bool, true, false, not, ◌||◌, Option, Some, None, Ok}
use Rattle.std.proofs.Common.{if◌then◌else◌, arith}
use Rattle.std.specs.Prelude.{nat_lt, ◌==◌, ⊤}
use Rattle.std.proofs.lemmas.Bool.{and_parts, ltb-true, ltb-false, le-ltb}
use Rattle.fdb_keys.specs.Answers.{Answers, AnswersExactly}
use Rattle.fdb_keys.specs.declared.refusal.Refusal.{Refusal}
use Rattle.fdb_keys.specs.declared.refusal.Refusal.TheVariants.{NotYet, Stale, Failed, Unknown, BadConfig}
use Rattle.fdb_keys.specs.declared.refusal.Refusal.TheVariants.{TransactionTooOld}
use Rattle.fdb_log.specs.declared.message.LogMsg.{LogMsg}
use Rattle.fdb_log.specs.Logs.{Log, keeps, popped_through, tag_fault, peek_fault, push_fault}

-- a call that found no fault gave what it gives
pub faultless : {T U : Type 0} (x : T) (y : U) (fault : Option Refusal) (P : T → Type 0) (Q : U → Type 0)
    → AnswersExactly (Ok x) fault P → Q y → AnswersExactly (Ok y) fault Q
faultless x y None P Q answered holds = holds
faultless x y (Some why) P Q answered holds = absurd answered

-- a call without a fault gives what has the property
pub given : {T : Type 0} (x : T) (fault : Option Refusal) (P : T → Type 0) → fault ≡ None → P x
    → Answers (Ok x) fault P
given x fault P none holds = rw none holds

-- It works, keeps the tag, and has taken the version.
pub record Speaks (core : Log) (tag version : ℕ) : Type 0 where
  pub works : core.is_failed ≡ false
  pub here : keeps core tag ≡ true
  pub within : tag < core.tags
  pub taken : version ≤ core.last

-- the tests of a call on a tag, by what they say
free_of : (failed kept late : Bool) (x : Unit {0})
    → AnswersExactly (Ok x) (if failed then Some Failed else (if not kept || late then Some BadConfig else None))
    (λ _. ⊤)
    → (failed ≡ false) × (kept ≡ true) × (late ≡ false)
free_of true kept late x answered = absurd answered
free_of false false late x answered = absurd answered
free_of false true true x answered = absurd answered
free_of false true false x answered = (refl, refl, refl)

peek_free_of : (failed kept late early : Bool) (x : Unit {0})
    → AnswersExactly (Ok x) (if failed then Some Failed else (if not kept || late then Some BadConfig else None))
    (λ _. ⊤)
    → early ≡ false
    → (if failed then Some Failed
    else (if not kept || late then Some BadConfig else (if early then Some TransactionTooOld else None)))
    ≡ None
peek_free_of true kept late early x answered timely = absurd answered
peek_free_of false false late early x answered timely = absurd answered
peek_free_of false true true early x answered timely = absurd answered
peek_free_of false true false true x answered timely = cc
peek_free_of false true false false x answered timely = refl

pub tag_fault-none : (core : Log) (tag version : ℕ) (x : Unit {0})
    → AnswersExactly (Ok x) (tag_fault core tag version) (λ _. ⊤) → Speaks core tag version
tag_fault-none core tag version x answered =
    let free = free_of core.is_failed (keeps core tag) (nat_lt core.last version) x answered in
    record {
      works = free.0;
      here = free.1;
      within = ltb-true tag core.tags (and_parts _ _ free.1).0;
      taken = ltb-false core.last version free.2;
    }

-- nor is a peek refused that doesn't come after the tag was popped further
pub peek_fault-none : (core : Log) (tag after : ℕ) (x : Unit {0})
    → AnswersExactly (Ok x) (tag_fault core tag after) (λ _. ⊤) → popped_through core tag ≤ after
    → peek_fault core tag after ≡ None
peek_fault-none core tag after x answered unpopped =
    peek_free_of core.is_failed (keeps core tag) (nat_lt core.last after) (nat_lt after (popped_through core tag)) x
    answered (le-ltb after (popped_through core tag) unpopped)

push_free_of : (own failed stale early : Bool) (prev : ℕ) (x : Unit {0})
    → AnswersExactly (Ok x)
    (if not own then Some Unknown
    else (if failed then Some Failed
    else (if stale then Some Stale else (if early then Some (NotYet prev) else None))))
    (λ _. ⊤)
    → (failed ≡ false) × (stale ≡ false) × (early ≡ false)
push_free_of false failed stale early prev x answered = absurd answered
push_free_of true true stale early prev x answered = absurd answered
push_free_of true false true early prev x answered = absurd answered
push_free_of true false false true prev x answered = absurd answered
push_free_of true false false false prev x answered = (refl, refl, refl)

-- a message is taken where the entry before its own is the last one taken
pub push_fault-none : (core : Log) (message : LogMsg) (x : Unit {0})
    → AnswersExactly (Ok x) (push_fault core message) (λ _. ⊤)
    → (core.is_failed ≡ false) × (message.prev ≡ core.last)
push_fault-none core message x answered =
    let free = push_free_of (message.log == core.log) core.is_failed (nat_lt message.prev core.last)
    (nat_lt core.last message.prev) message.prev x answered in
    let reached : core.last ≤ message.prev = ltb-false message.prev core.last free.1 in
    let taken : message.prev ≤ core.last = ltb-false core.last message.prev free.2 in
    (free.0, omega arith)
