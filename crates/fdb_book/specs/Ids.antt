-- Which transactions of a batch have an id that was there before.
use Rattle.std.specs.Prelude.{◌≡◌, ◌<◌, ◌+◌, ◌++◌, ℕ, Bool, nat_lt, List, [], ◌∷◌, length, Option, Some, None, IfSome}
use Rattle.std.specs.Prelude.{if◌then◌else◌}
use Rattle.std.specs.BTreeMap.{BTreeMap, get}
use Rattle.std.specs.Ordering.{nat_cmp}
use Rattle.fdb_txn.specs.declared.entry.Entry.{Entry}
use Rattle.fdb_txn.specs.declared.txn_id.TxnId.{TxnId}
use Rattle.fdb_txn.specs.book.Transactions.{Transaction}
use Rattle.fdb_txn.specs.book.Once.{times_with_id, times_in_book}

-- the id is that of a transaction of the book, or of one of those
abbrev pub is_among : TxnId → List Entry → List Transaction → Bool
is_among id book earlier = nat_lt 0 (times_in_book id book + times_with_id id earlier)

-- of the later ones, the place of the first whose id is in the book or among those before it in its batch
abbrev pub repeated_after : List Entry → List Transaction → List Transaction → Option ℕ
repeated_after book earlier [] = None
repeated_after book earlier (t ∷ later) =
    if is_among t.id book earlier then Some (length earlier) else repeated_after book (earlier ++ t ∷ []) later

-- the first place of the batch whose id is in the book or before it in the batch
abbrev pub repeated_place : List Entry → List Transaction → Option ℕ
repeated_place book batch = repeated_after book [] batch

-- the greatest number known of each session
abbrev pub Latest : Type 0
Latest = BTreeMap ℕ ℕ

-- the id has a greater number than the greatest known of its session, or none is known
abbrev pub IsLater : Latest → TxnId → Type 0
IsLater latest id = IfSome (get nat_cmp latest id.session) (λ known. known < id.number)

-- a later id is that of no transaction of the book
abbrev pub Covers : Latest → List Entry → Type 0
Covers latest book = (id : TxnId) → IsLater latest id → times_in_book id book ≡ 0

-- after the ids were taken, only what was later before, and is none of them, is later
abbrev pub AreTaken : Latest → List Transaction → Latest → Type 0
AreTaken before batch after =
    (id : TxnId) → IsLater after id → IsLater before id × (times_with_id id batch ≡ 0)

-- in each book whose ids are covered no id of the batch was there before
abbrev pub AreNew : Latest → List Transaction → Type 0
AreNew before batch = (book : List Entry) → Covers before book → repeated_place book batch ≡ None
