-- What a front of a book is.
use Rattle.std.specs.Prelude.{◌≡◌, ◌≤◌, ◌++◌, ◌==◌, ◌||◌, ℕ, suc, Bool, true, nat_lt, List, map, take, length, Option}
use Rattle.std.specs.Prelude.{Some, None}
use Rattle.std.specs.Prelude.{if◌then◌else◌}
use Rattle.std.specs.List.{AllByRecursion}
use Rattle.fdb_keys.specs.declared.refusal.Refusal.{Refusal}
use Rattle.fdb_keys.specs.declared.refusal.Refusal.TheVariants.{BadConfig}
use Rattle.fdb_txn.specs.declared.entry.Entry.{Entry}
use Rattle.fdb_txn.specs.book.History.{AreLinked, ReadsBelow, IsSealed, HorizonsRise, HasHorizonBelow}
use Rattle.fdb_txn.specs.book.Once.{NoIdTwice}
use Rattle.fdb_txn.specs.Limits.{book_limit}
use Rattle.fdb_book.specs.Ids.{Latest, Covers}

-- A book of sealed transactions, wherever its moves go: versions rise from 0, and each previous one is that of the
-- entry before, 0 for the first; each transaction read below its entry's version, and has in its write set all that its
-- mutations name; no id is that of two places; and horizons never fall, and each lies below its entry's version.
pub record IsLinkedBook (book : List Entry) : Type 0 where
  pub linked : AreLinked 0 book
  pub reads : AllByRecursion ReadsBelow book
  pub each_sealed : AllByRecursion IsSealed book
  pub ids : NoIdTwice book
  pub horizons : HorizonsRise 0 book
  pub below : AllByRecursion HasHorizonBelow book

-- the longer list begins with the shorter one
abbrev pub IsPrefix : List Entry → List Entry → Type 0
IsPrefix shorter longer = (rest : List Entry) × (longer ≡ shorter ++ rest)

-- what is known of cells: the entry that each one, by its name, holds for good
abbrev pub Known : Type 0
Known = List (ℕ × Entry)

-- the entries that are known
abbrev pub shown : Known → List Entry
shown known = map (λ (it : ℕ × Entry). it.1) known

-- it is known of the first of these cells, of each one
pub record AreOfFirst (cells : List ℕ) (known : Known) : Type 0 where
  pub within : length known ≤ length cells
  pub first : map (λ (it : ℕ × Entry). it.0) known ≡ take (length known) cells

-- it is known of the first of these cells, up to the one with the number
pub record AreKnownUpTo (cells : List ℕ) (known : Known) (index : ℕ) : Type 0 where
  pub first : AreOfFirst cells known
  pub counted : suc index ≡ length known

-- why there is no book with room for as many entries
abbrev pub capacity_fault : ℕ → Option Refusal
capacity_fault capacity = if (capacity == 0) || nat_lt book_limit capacity then Some BadConfig else None

-- So many first cells of the book are known, and what they hold is a book. Its ids are covered where they are known.
pub record IsFront (names cells : List ℕ) (known : Known) (len : ℕ) (knows_ids : Bool) (latest : Latest) : Type 0 where
  pub same : cells ≡ names
  pub first : AreOfFirst cells known
  pub counted : len ≡ length known
  pub book : IsLinkedBook (shown known)
  pub covered : knows_ids ≡ true → Covers latest (shown known)
