-- What follows where a shard finds no fault.
use Rattle.std.proofs.Common.{◌≡◌, ◌∙◌, sym, ap, subst, refl, ℕ, suc, ◌≤◌, Bool, true, false, not, List, Option, Some}
use Rattle.std.proofs.Common.{None, Result, Ok, Err, if◌then◌else◌, arith}
use Rattle.std.specs.List.{list_any}
use Rattle.std.specs.Option.{option_or}
use Rattle.std.specs.Prelude.{nat_lt, ◌==◌}
use Rattle.std.proofs.lemmas.Bool.{cond-false, false_from_ne_true, ltb-false, ltb-true}
use Rattle.fdb_keys.specs.Answers.{Answers, AnswersExactly}
use Rattle.fdb_keys.specs.declared.refusal.Refusal.{Refusal}
use Rattle.fdb_keys.specs.declared.refusal.Refusal.TheVariants.{NotYet, Stale, Failed, Unknown, BadOperand}
use Rattle.fdb_keys.specs.Ranges.{Range}
use Rattle.fdb_log.specs.declared.peek.Peek.{Peek}
use Rattle.fdb_storage.specs.Replays.{covered, messages_of, replay_fault}
use Rattle.fdb_storage.specs.Shards.{Shard, apply_fault, read_fault, part_fault}
use Rattle.fdb_storage.specs.StampedMessages.{has_stamped}

-- what passed a test of its own fault has none
pub none-of : {T : Type 0} (x : T) (fault : Option Refusal) (P : T → Type 0)
    → AnswersExactly (Ok x) fault P → fault ≡ None
none-of x None P passed = refl
none-of x (Some why) P passed = absurd passed

-- and gives what it gives
pub given : {T : Type 0} (x : T) (fault : Option Refusal) (P : T → Type 0) → fault ≡ None → P x
    → Answers (Ok x) fault P
given x fault P none holds = rw none holds

-- what a call without a fault gives has what follows of it
pub given-also : {T : Type 0} (result : Result T Refusal) (fault : Option Refusal) (P Q : T → Type 0) → fault ≡ None
    → ((x : T) → P x → Q x) → Answers result None P → Answers result fault Q
given-also {T} result fault P Q none step holds = rw none (by_result result holds)
  where
    by_result : (r : Result T Refusal) → Answers r None P → Answers r None Q
    by_result (Ok x) is = step x is
    by_result (Err why) is = is

-- a test's refusal is the one of the call that hands it on
pub refused-as : {T U : Type 0} (result : Result U Refusal) (why found : Refusal) (fault : Option Refusal)
    (P : T → Type 0) (Q : U → Type 0) → result ≡ Err why → why ≡ found → AnswersExactly (Err found) fault P
    → Answers result fault Q
refused-as result why found None P Q is same refused = absurd refused
refused-as result why found (Some fault) P Q is same refused =
    subst (λ (r : Result _ Refusal). Answers r (Some fault) Q) (sym is) (same ∙ refused)

-- who answers hasn't failed
works-of : (failed : Bool) (fault : Option Refusal) → (if failed then Some Failed else fault) ≡ None → failed ≡ false
works-of true fault none = cc
works-of false fault none = refl

pub read_fault-none : (shard : Shard) (is_held : Bool) (version : ℕ) → read_fault shard is_held version ≡ None
    → shard.is_failed ≡ false
read_fault-none shard is_held version none = works-of shard.is_failed _ none

pub part_fault-none : (shard : Shard) (range : Range) (version : ℕ) → part_fault shard range version ≡ None
    → shard.is_failed ≡ false
part_fault-none shard range version none = works-of shard.is_failed _ none

free_of : (same failed stamped late early : Bool) (after : ℕ)
    → (if not same then Some Unknown
    else (if failed then Some Failed
    else option_or (if stamped then Some BadOperand else None)
    (if late then Some Stale else (if early then Some (NotYet after) else None))))
    ≡ None
    → (failed ≡ false) × (late ≡ false) × (early ≡ false)
free_of false failed stamped late early after none = cc
free_of true true stamped late early after none = cc
free_of true false true late early after none = cc
free_of true false false true early after none = cc
free_of true false false false true after none = cc
free_of true false false false false after none = (refl, refl, refl)

-- messages are applied by a shard that works, and begin after its version
pub apply_fault-none : (shard : Shard) (peek : Peek) → apply_fault shard peek ≡ None
    → (shard.is_failed ≡ false) × (peek.after ≡ shard.version)
apply_fault-none shard peek none =
    let free = free_of (peek.tag == shard.tag) shard.is_failed (list_any has_stamped peek.messages)
    (nat_lt peek.after shard.version) (nat_lt shard.version peek.after) peek.after none in
    let reached : shard.version ≤ peek.after = ltb-false peek.after shard.version free.1 in
    let begun : peek.after ≤ shard.version = ltb-false shard.version peek.after free.2 in
    (free.0, omega arith)

-- peeks that reach a version, and in which nothing waits for a stamp, are replayed there
pub replay_fault-none : (peeks : List Peek) (version : ℕ) → list_any has_stamped (messages_of peeks) ≡ false
    → version ≤ covered peeks → replay_fault peeks version ≡ None
replay_fault-none peeks version none reached =
    ap (λ (waits : Bool). option_or (if waits then Some BadOperand else None)
    (if nat_lt (covered peeks) version then Some (NotYet (suc (covered peeks))) else None)) none
    ∙ cond-false (nat_lt (covered peeks) version) _ None
    (false_from_ne_true _ (λ short. absurd (omega (arith, ltb-true (covered peeks) version short, reached))))
