-- The places of a book by their numbers.
use Rattle.std.specs.Prelude.{ℕ, zero, suc, List, [], ◌∷◌, take, Option, Some, None, slice_get}
use Rattle.fdb_txn.specs.declared.entry.Entry.{Entry}
use Rattle.fdb_txn.specs.book.Transactions.{Transaction}
use Rattle.fdb_txn.specs.book.Book.{Head, Place, Seen, head_of, placed, seen_of}

-- place n + p of a batch of which place n is the first that is left, with the places before it, the newest first
abbrev pub place_in : Head → ℕ → List Transaction → List Place → ℕ → Option (Place × List Place)
place_in head n [] earlier p = None
place_in head n (t ∷ ts) earlier zero = Some (placed head n t, earlier)
place_in head n (t ∷ ts) earlier (suc p) = place_in head (suc n) ts (placed head n t ∷ earlier) p

-- place p of an entry after what was seen before it
abbrev pub place_of : Seen → ℕ → Option Entry → Option (Place × List Place)
place_of before p None = None
place_of before p (Some entry) = place_in (head_of before entry) 0 entry.batch before.places p

-- place p of entry n of a book, with the places before it, of which the newest is the first
abbrev pub place_at : List Entry → ℕ → ℕ → Option (Place × List Place)
place_at book n p = place_of (seen_of (take n book)) p (slice_get book n)
