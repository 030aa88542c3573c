-- When a role takes a message: what it has seen and what it is told of are fronts of one book.
use Rattle.std.specs.Prelude.{◌≡◌, ◌++◌, suc, nat_le, nat_lt, List, [], ◌∷◌, length, Option, Some, None}
use Rattle.std.specs.Prelude.{◌⊎◌, Result, Ok, Err, if◌then◌else◌}
use Rattle.fdb_keys.specs.declared.refusal.Refusal.{Refusal}
use Rattle.fdb_keys.specs.declared.refusal.Refusal.TheVariants.{NotYet, Stale, NoMemory}
use Rattle.fdb_txn.specs.declared.entry.Entry.{Entry}
use Rattle.fdb_txn.specs.book.Book.{last_version}

-- why a role at its own front doesn't take a message that comes with another one: it took the message's entry before,
-- or it hasn't taken the one before that
abbrev pub front_fault : List Entry → List Entry → Option Refusal
front_fault own theirs =
    if nat_le (length theirs) (length own) then Some Stale
    else (if nat_lt (suc (length own)) (length theirs) then Some (NotYet (last_version own)) else None)

-- the longer front has one entry more
abbrev pub HasOneMore : List Entry → List Entry → Type 0
HasOneMore short long = (entry : Entry) × (long ≡ short ++ entry ∷ [])

-- A message with a front is refused where the front isn't the next one. Else memory may run out, and then the message
-- is taken or refused as its role takes it.
abbrev pub AnswersInTurn : {T : Type 0} → Result T Refusal → Option Refusal → Option Refusal → (T → Type 0) → Type 0
AnswersInTurn (Ok given) turn own P = (turn ≡ None) × (own ≡ None) × P given
AnswersInTurn (Err why) (Some fault) own P = why ≡ fault
AnswersInTurn (Err why) None own P = (why ≡ NoMemory) ⊎ (own ≡ Some why)
