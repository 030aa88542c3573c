-- Refusals of an append, computed.
use Rattle.std.specs.Prelude.{◌≡◌, ℕ, List, [], ◌∷◌, Some, None}
use Rattle.fdb_keys.specs.declared.refusal.Refusal.TheVariants.{Chain, Repeated, BookFull, BadConfig}
use Rattle.fdb_txn.specs.declared.entry.Entry.{Entry}
use Rattle.fdb_txn.specs.book.Transactions.{Transaction}
use Rattle.fdb_book.specs.Appending.{append_fault}
use Rattle.fdb_book.specs.Fronts.{capacity_fault}

-- the first transaction of a session, which read nothing at the version
abbrev pub first_of : ℕ → ℕ → Transaction
first_of session version =
    record { id = record { session = session; number = 0 }; read = version; reads = []; writes = []; mutations = [] }

-- the entry of a version after a previous one, where nothing is old
abbrev pub entry_of : ℕ → ℕ → List Transaction → Entry
entry_of version prev batch =
    record { version = version; prev = prev; horizon = 0; moves = []; batch = batch }

-- an entry without transactions, of a version after a previous one, with a horizon
abbrev pub empty_entry : ℕ → ℕ → ℕ → Entry
empty_entry version prev horizon = record (entry_of version prev []) { horizon = horizon }

-- the book with one entry of one transaction
abbrev pub book_of_one : List Entry
book_of_one = entry_of 100 0 (first_of 0 0 ∷ []) ∷ []

-- An entry that doesn't go on from the front comes first, then a repeated id, then that the book is full; on a book of
-- one cell each of them is tried.
abbrev pub WorkedAppends : Type 0
WorkedAppends =
    (append_fault 1 book_of_one (entry_of 200 99 (first_of 0 0 ∷ [])) ≡ Some Chain)
    × (append_fault 1 book_of_one (entry_of 100 100 (first_of 0 0 ∷ [])) ≡ Some Chain)
    × (append_fault 1 book_of_one (entry_of 200 100 (first_of 0 200 ∷ [])) ≡ Some Chain)
    × (append_fault 1 book_of_one (entry_of 200 100 (first_of 0 0 ∷ [])) ≡ Some (Repeated 0))
    × (append_fault 1 book_of_one (entry_of 200 100 (first_of 1 0 ∷ first_of 1 0 ∷ [])) ≡ Some (Repeated 1))
    × (append_fault 1 book_of_one (entry_of 200 100 (first_of 1 0 ∷ [])) ≡ Some BookFull)
    × (append_fault 1 book_of_one (entry_of 200 100 []) ≡ Some BookFull)
    × (append_fault 2 book_of_one (entry_of 200 100 (first_of 1 199 ∷ [])) ≡ None)
    × (append_fault 2 book_of_one (entry_of 101 100 []) ≡ None)
    × (append_fault 1 [] (entry_of 1 0 []) ≡ None)

-- A horizon may stay or rise, up to the version; it may not fall, nor reach the version.
abbrev pub WorkedHorizons : Type 0
WorkedHorizons =
    (append_fault 2 (empty_entry 100 0 50 ∷ []) (empty_entry 200 100 49) ≡ Some Chain)
    × (append_fault 2 (empty_entry 100 0 50 ∷ []) (empty_entry 200 100 50) ≡ None)
    × (append_fault 2 (empty_entry 100 0 50 ∷ []) (empty_entry 200 100 199) ≡ None)
    × (append_fault 2 (empty_entry 100 0 50 ∷ []) (empty_entry 200 100 200) ≡ Some Chain)
    × (append_fault 1 [] (empty_entry 1 0 1) ≡ Some Chain)

-- A book has 1 to 1,048,576 cells.
abbrev pub WorkedCapacities : Type 0
WorkedCapacities =
    (capacity_fault 0 ≡ Some BadConfig)
    × (capacity_fault 1 ≡ None)
    × (capacity_fault 1048576 ≡ None)
    × (capacity_fault 1048577 ≡ Some BadConfig)
