-- The mutations of the places that commit by the rule are those of the committed transactions.
use Rattle.std.proofs.Common.{◌≡◌, refl, ap, ap₂, ℕ, suc, Bool, true, false, ◌&&◌, List, [], ◌∷◌, ◌++◌, map, length}
use Rattle.std.proofs.Common.{if◌then◌else◌}
use Rattle.std.specs.List.{range_with_len}
use Rattle.fdb_keys.specs.Points.{Point}
use Rattle.fdb_txn.specs.declared.entry.Entry.{Entry}
use Rattle.fdb_txn.specs.book.Transactions.{Transaction}
use Rattle.fdb_txn.specs.book.Book.{Head, Place, Seen, head_of, placed}
use Rattle.fdb_txn.specs.rules.Admission.{is_fresh, no_conflict, admits, all_below, committed}
use Rattle.fdb_txn.specs.rules.Messages.{Body, at_place, committed_from, committed_in}
use Rattle.fdb_txn.specs.rules.Stamped.{stamped_at}
use Rattle.fdb_storage.specs.LogMessages.{tagged}
use Rattle.fdb_proxy.specs.declared.outcome.Outcome.TheVariants as outcome
use Rattle.fdb_proxy.specs.Logging.{is_commit, answers_by, written, body_by, message_with}
use Rattle.fdb_proxy.specs.MessageLaws.{MessagesHoldTheCommitted}
use Rattle.fdb_proxy.specs.Verdicts.{outcome_at, outcomes_from, outcomes_on}

-- a place's outcome is a commit just where the place is committed
pub commit-at : (splits : List Point) (earlier : List Place) (place : Place) (p : ℕ)
    → is_commit (outcome_at splits earlier place p) ≡ committed splits earlier place
commit-at splits earlier place p =
    by_cases (is_fresh place) (no_conflict splits (length splits) earlier place)
    (all_below (length splits) (λ i. admits splits i earlier place))
  where
    by_cases : (fresh free others : Bool)
        → is_commit (if fresh
        then (if fresh && free && others then outcome.Commit place.version p else outcome.Conflict)
        else outcome.Old) ≡ (fresh && free && others)
    by_cases false free others = refl
    by_cases true false others = refl
    by_cases true true false = refl
    by_cases true true true = refl

-- what a transaction writes by the rule's outcome: its stamped mutations just where its place is committed
pub written-at : (splits : List Point) (head : Head) (earlier : List Place) (p : ℕ) (t : Transaction)
    → written (outcome_at splits earlier (placed head p t) p) p t
    ≡ (if committed splits earlier (placed head p t) then at_place p (stamped_at (placed head p t)) else [])
written-at splits head earlier p t =
    by_cases (is_fresh (placed head p t)) (no_conflict splits (length splits) earlier (placed head p t))
    (all_below (length splits) (λ i. admits splits i earlier (placed head p t)))
  where
    by_cases : (fresh free others : Bool)
        → written (if fresh
        then (if fresh && free && others then outcome.Commit head.version p else outcome.Conflict)
        else outcome.Old) p t
        ≡ (if fresh && free && others then at_place p (stamped_at (placed head p t)) else [])
    by_cases false free others = refl
    by_cases true false others = refl
    by_cases true true false = refl
    by_cases true true true = refl

-- the same as `body-committed`, from place p on
body-from : (splits : List Point) (head : Head) (batch : List Transaction) (earlier : List Place) (p : ℕ)
    → body_by p batch (answers_by batch (outcomes_from splits head batch earlier p))
    ≡ committed_from splits head p batch earlier
body-from splits head [] earlier p = refl
body-from splits head (t ∷ ts) earlier p =
    ap₂ (λ (first others : Body). first ++ others)
    (written-at splits head earlier p t)
    (body-from splits head ts (placed head p t ∷ earlier) (suc p))

-- the mutations by the rule's outcomes are those of the committed transactions
pub body-committed : (splits : List Point) (before : Seen) (entry : Entry)
    → body_by 0 entry.batch (answers_by entry.batch (outcomes_on splits before entry))
    ≡ committed_in splits before entry
body-committed splits before entry = body-from splits (head_of before entry) entry.batch before.places 0

-- and so each log's message has those of which it keeps a tag
pub messages_hold_the_committed : MessagesHoldTheCommitted
messages_hold_the_committed splits shard_splits logs i before entry acknowledged =
    ap (λ (body : Body).
    map (message_with logs (record { index = i; version = entry.version; prev = entry.prev; horizon = entry.horizon })
    (map (tagged shard_splits) body)) (range_with_len 0 logs))
    (body-committed splits before entry)
