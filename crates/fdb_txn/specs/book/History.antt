-- Which books, and which lists of places, there are.
use Rattle.std.specs.Prelude.{◌≡◌, ◌<◌, ◌≤◌, ◌++◌, ⊤, ℕ, List, [], ◌∷◌}
use Rattle.std.specs.List.{AllByRecursion}
use Rattle.fdb_txn.specs.declared.entry.Move.{Move}
use Rattle.fdb_txn.specs.declared.entry.Entry.{Entry}
use Rattle.fdb_txn.specs.book.Transactions.{Transaction, NamesWrites}
use Rattle.fdb_txn.specs.book.Book.{DatedMove, Place}
use Rattle.fdb_txn.specs.book.Once.{NoIdTwice}

-- the versions of entries after a version: they rise, and each previous one is that of the entry before
abbrev pub AreLinked : ℕ → List Entry → Type 0
AreLinked last [] = ⊤
AreLinked last (entry ∷ entries) = (last < entry.version) × (entry.prev ≡ last) × AreLinked entry.version entries

-- the horizons of entries after a horizon never fall
abbrev pub HorizonsRise : ℕ → List Entry → Type 0
HorizonsRise last [] = ⊤
HorizonsRise last (entry ∷ entries) = (last ≤ entry.horizon) × HorizonsRise entry.horizon entries

-- the horizon of the entry lies below its version
abbrev pub HasHorizonBelow : Entry → Type 0
HasHorizonBelow entry = entry.horizon < entry.version

-- each transaction of the entry read below the entry's version
abbrev pub ReadsBelow : Entry → Type 0
ReadsBelow entry = AllByRecursion (λ (t : Transaction). t.read < entry.version) entry.batch

-- each move of the entry goes to a resolver that exists
abbrev pub MovesExist : ℕ → Entry → Type 0
MovesExist resolvers entry = AllByRecursion (λ (move : Move). move.to < resolvers) entry.moves

-- of each transaction of the entry, as of every sealed one, the write set has all that the mutations name
abbrev pub IsSealed : Entry → Type 0
IsSealed entry = AllByRecursion NamesWrites entry.batch

-- A book. Versions rise from 0, and each previous one is that of the entry before, 0 for the first; horizons never
-- fall, and each lies below its entry's version; each transaction read below its entry's version; each move goes to a
-- resolver that exists; and no id is that of two places.
pub record IsBook (resolvers : ℕ) (book : List Entry) : Type 0 where
  pub linked : AreLinked 0 book
  pub horizons : HorizonsRise 0 book
  pub below : AllByRecursion HasHorizonBelow book
  pub reads : AllByRecursion ReadsBelow book
  pub moves : AllByRecursion (MovesExist resolvers) book
  pub ids : NoIdTwice book

-- Both are places of one book. The later one has the moves of the earlier one, and before them those of
-- greater versions.
abbrev pub Follows : Place → Place → Type 0
Follows later earlier =
    (earlier.version ≤ later.version)
    × ((newer : List DatedMove) × (later.moves ≡ newer ++ earlier.moves)
    × AllByRecursion (λ (move : DatedMove). earlier.version < move.version) newer)

-- The transaction read below the place's version, all that its mutations name is in its write set, the moves are of
-- versions up to the place's own and go to resolvers that exist, and the horizon lies below the place's version.
abbrev pub IsPlace : ℕ → Place → Type 0
IsPlace resolvers place =
    (place.transaction.read < place.version) × NamesWrites place.transaction
    × AllByRecursion (λ (move : DatedMove). (move.version ≤ place.version) × (move.target < resolvers)) place.moves
    × (place.horizon < place.version)

-- places of one book, the newest first
abbrev pub IsHistory : ℕ → List Place → Type 0
IsHistory resolvers [] = ⊤
IsHistory resolvers (place ∷ earlier) = IsPlace resolvers place × AllByRecursion (Follows place) earlier
    × IsHistory resolvers earlier

-- Entries after a version, as they are in a book of sealed transactions. A law says that from 0 on they are such a
-- book, but for the ids and that horizons never fall.
abbrev pub AreEntries : ℕ → ℕ → List Entry → Type 0
AreEntries resolvers last [] = ⊤
AreEntries resolvers last (entry ∷ entries) =
    (last < entry.version) × ((entry.prev ≡ last) × HasHorizonBelow entry)
    × AllByRecursion (λ (move : Move). move.to < resolvers) entry.moves
    × AllByRecursion (λ (t : Transaction). (t.read < entry.version) × NamesWrites t) entry.batch
    × AreEntries resolvers entry.version entries
