-- What a sequencer that appends to the book itself answers.
use Rattle.std.specs.Prelude.{◌≡◌, ◌⊎◌, ◌++◌, ℕ, List, [], ◌∷◌, Option, Some, None, Result, Ok, Err}
use Rattle.fdb_keys.specs.declared.refusal.Refusal.{Refusal}
use Rattle.fdb_keys.specs.declared.refusal.Refusal.TheVariants.{NoMemory, Taken}
use Rattle.fdb_txn.specs.declared.entry.Entry.{Entry}
use Rattle.fdb_book.specs.Appending.{append_fault}

-- An append is refused with its fault where there is one, and else as memory runs out or the entry's cell is taken.
abbrev pub IsAppendRefused : Option Refusal → Refusal → Type 0
IsAppendRefused (Some fault) why = why ≡ fault
IsAppendRefused None why = (why ≡ NoMemory) ⊎ (why ≡ Taken)

-- it gives the longer book
abbrev pub AppendsToFront : ℕ → List Entry → Entry → Result (List Entry) Refusal → Type 0
AppendsToFront capacity book entry (Ok longer) =
    (append_fault capacity book entry ≡ None) × (longer ≡ book ++ entry ∷ [])
AppendsToFront capacity book entry (Err why) = IsAppendRefused (append_fault capacity book entry) why

-- An issue is refused with the fault of its plan where that has one, and else as memory runs out, or as the append of
-- the ticket's entry is.
abbrev pub IsIssueRefused : Option Refusal → Option Refusal → Refusal → Type 0
IsIssueRefused (Some fault) append why = why ≡ fault
IsIssueRefused None append why = (why ≡ NoMemory) ⊎ IsAppendRefused append why

-- Neither the plan nor the append has a fault, and what is given has the property; or the issue is refused.
abbrev pub AnswersIssue : {T : Type 0} → Result T Refusal → Option Refusal → Option Refusal → (T → Type 0) → Type 0
AnswersIssue (Ok given) plan append P = (plan ≡ None) × (append ≡ None) × P given
AnswersIssue (Err why) plan append P = IsIssueRefused plan append why
