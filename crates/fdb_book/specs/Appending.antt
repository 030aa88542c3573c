-- When an entry may be appended, and what an append answers.
use Rattle.std.specs.Prelude.{◌≡◌, ◌≢◌, ◌++◌, ◌⊎◌, ℕ, Bool, ◌&&◌, ◌==◌, nat_lt, nat_le, List, [], ◌∷◌, length, Option}
use Rattle.std.specs.Prelude.{Some, None, Result, Ok, Err, if◌then◌else◌}
use Rattle.std.specs.List.{list_all}
use Rattle.fdb_keys.specs.declared.refusal.Refusal.{Refusal}
use Rattle.fdb_keys.specs.declared.refusal.Refusal.TheVariants.{Chain, Repeated, BookFull, NoMemory, Taken}
use Rattle.fdb_keys.specs.declared.refusal.Refused.{Refused}
use Rattle.fdb_txn.specs.declared.entry.Entry.{Entry}
use Rattle.fdb_txn.specs.book.Transactions.{Transaction}
use Rattle.fdb_txn.specs.book.Book.{last_version, last_horizon}
use Rattle.fdb_book.specs.Ids.{repeated_place}

-- the entry's horizon isn't below this one, and lies below the entry's version
abbrev pub has_next_horizon : ℕ → Entry → Bool
has_next_horizon horizon entry = nat_le horizon entry.horizon && nat_lt entry.horizon entry.version

-- The entry goes on from the version and the horizon: that version is the previous one, and the entry's is greater, and
-- above each read version; and its horizon goes on from that one.
abbrev pub goes_on : ℕ → ℕ → Entry → Bool
goes_on last horizon entry =
    (entry.prev == last) && (nat_lt last entry.version && (has_next_horizon horizon entry
    && list_all (λ (t : Transaction). nat_lt t.read entry.version) entry.batch))

-- why no transaction may stand there: an id is repeated, or else there is no cell left
abbrev pub ids_fault : Option ℕ → Bool → Option Refusal
ids_fault (Some place) is_full = Some (Repeated place)
ids_fault None is_full = if is_full then Some BookFull else None

-- why the entry may not be appended to the book of as many cells
abbrev pub append_fault : ℕ → List Entry → Entry → Option Refusal
append_fault capacity book entry =
    if goes_on (last_version book) (last_horizon book) entry
    then ids_fault (repeated_place book entry.batch) (length book == capacity)
    else Some Chain

-- the book with another entry that was found, where that one may be appended
abbrev pub with_found : ℕ → List Entry → Entry → Option (List Entry)
with_found capacity book found = with_unless (append_fault capacity book found)
  where
    with_unless : Option Refusal → Option (List Entry)
    with_unless None = Some (book ++ found ∷ [])
    with_unless (Some fault) = None

-- what is found in the cell behind a book: the book and the entry that stands there, and the front that shows both,
-- where there is one
pub record Found : Type 0 where
  pub entries : List Entry
  pub front : Option (List Entry)

-- what is found where this entry stands in the cell
abbrev pub found_behind : ℕ → List Entry → Entry → Found
found_behind capacity book found =
    record { entries = book ++ found ∷ []; front = with_found capacity book found }

-- The append is refused with its fault where there is one. Else it gives the book with the entry; or it lacked
-- memory; or another entry was found in the entry's cell, and what shows that it stands there is handed out.
abbrev pub Appends : ℕ → List Entry → Entry → Result (List Entry) (Refused (Option Found)) → Type 0
Appends capacity book entry (Ok longer) =
    (append_fault capacity book entry ≡ None) × (longer ≡ book ++ entry ∷ [])
Appends capacity book entry (Err refused) = refuses (append_fault capacity book entry)
  where
    refuses : Option Refusal → Type 0
    refuses (Some fault) = (refused.why ≡ fault) × (refused.back ≡ None)
    refuses None =
        ((refused.why ≡ NoMemory) × (refused.back ≡ None))
        ⊎ ((refused.why ≡ Taken)
        × ((found : Entry) × (found ≢ entry) × (refused.back ≡ Some (found_behind capacity book found))))
