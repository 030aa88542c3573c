-- A book with one entry more, and its first entries.
use Rattle.std.proofs.Common.{◌≡◌, sym, subst, ℕ, ◌<◌, ◌≤◌, List, [], ◌∷◌, ◌++◌, take, drop, fold, arith}
use Rattle.std.specs.List.{AllByRecursion}
use Rattle.std.proofs.lemmas.List.{take-append-drop}
use Rattle.std.proofs.lemmas.List.Sums.{sum_by-append}
use Rattle.fdb_txn.specs.declared.entry.Entry.{Entry}
use Rattle.fdb_txn.specs.declared.txn_id.TxnId.{TxnId}
use Rattle.fdb_txn.specs.book.History.{AreLinked, ReadsBelow, IsSealed, HorizonsRise, HasHorizonBelow}
use Rattle.fdb_txn.specs.book.Once.{times_with_id, times_in_book}
use Rattle.fdb_book.specs.Fronts.{IsLinkedBook}

-- the version of the last of these entries after the version
abbrev pub last_after : ℕ → List Entry → ℕ
last_after last book = fold (λ (last : ℕ) (entry : Entry). entry.version) last book

pub linked-append : (last : ℕ) (book : List Entry) (entry : Entry) → AreLinked last book
    → last_after last book < entry.version → entry.prev ≡ last_after last book
    → AreLinked last (book ++ entry ∷ [])
linked-append last [] entry linked rises same = (rises, same, tt)
linked-append last (first ∷ book) entry linked rises same =
    (linked.0, linked.1, linked-append first.version book entry linked.2 rises same)

linked-first : (last : ℕ) (first later : List Entry) → AreLinked last (first ++ later) → AreLinked last first
linked-first last [] later linked = tt
linked-first last (entry ∷ first) later linked =
    (linked.0, linked.1, linked-first entry.version first later linked.2)

-- the horizon of the last of these entries after the horizon
abbrev pub horizon_after : ℕ → List Entry → ℕ
horizon_after last book = fold (λ (last : ℕ) (entry : Entry). entry.horizon) last book

pub rise-append : (last : ℕ) (book : List Entry) (entry : Entry) → HorizonsRise last book
    → horizon_after last book ≤ entry.horizon → HorizonsRise last (book ++ entry ∷ [])
rise-append last [] entry rise above = (above, tt)
rise-append last (first ∷ book) entry rise above = (rise.0, rise-append first.horizon book entry rise.1 above)

rise-first : (last : ℕ) (first later : List Entry) → HorizonsRise last (first ++ later) → HorizonsRise last first
rise-first last [] later rise = tt
rise-first last (entry ∷ first) later rise = (rise.0, rise-first entry.horizon first later rise.1)

all-first : {X : Type 0} (P : X → Type 0) (first later : List X) → AllByRecursion P (first ++ later)
    → AllByRecursion P first
all-first P [] later all = tt
all-first P (x ∷ first) later all = (all.0, all-first P first later all.1)

pub all-append : {X : Type 0} (P : X → Type 0) (first : List X) (x : X) → AllByRecursion P first → P x
    → AllByRecursion P (first ++ x ∷ [])
all-append P [] x all one = (one, tt)
all-append P (y ∷ first) x all one = (all.0, all-append P first x all.1 one)

times-first : (id : TxnId) (first later : List Entry) → times_in_book id first ≤ times_in_book id (first ++ later)
times-first id first later =
    rw (sum_by-append (λ (entry : Entry). times_with_id id entry.batch) first later) (search arith)

book-first : (first later : List Entry) → IsLinkedBook (first ++ later) → IsLinkedBook first
book-first first later book = record {
  linked = linked-first 0 first later book.linked;
  reads = all-first ReadsBelow first later book.reads;
  each_sealed = all-first IsSealed first later book.each_sealed;
  ids = λ id. grind (arith, times-first id first later, book.ids id);
  horizons = rise-first 0 first later book.horizons;
  below = all-first HasHorizonBelow first later book.below;
}

-- the first entries of a book are a book
pub book-take : (count : ℕ) (book : List Entry) → IsLinkedBook book → IsLinkedBook (take count book)
book-take count book linked =
    book-first (take count book) (drop count book)
    (subst IsLinkedBook (sym (take-append-drop count book)) linked)
