-- What holds of a book's places, of the run, and of a longer book.
use Rattle.std.specs.Prelude.{◌≡◌, ◌<◌, ◌↔◌, ℕ, suc, true, List, [], ◌∷◌, ◌++◌, take, fold, length, Some, slice_get}
use Rattle.std.specs.List.{AllByRecursion}
use Rattle.std.specs.FinMap.{get}
use Rattle.fdb_keys.specs.Points.{Point}
use Rattle.fdb_keys.specs.Ranges.{in_set}
use Rattle.fdb_txn.specs.declared.entry.Entry.{Entry}
use Rattle.fdb_txn.specs.book.Book.{Place, seen_of}
use Rattle.fdb_txn.specs.rules.Admission.{committed}
use Rattle.fdb_txn.specs.book.Places.{place_at}
use Rattle.fdb_txn.specs.book.Once.{NoIdTwice}
use Rattle.fdb_txn.specs.book.History.{IsBook, IsSealed, IsHistory, AreEntries, HorizonsRise}
use Rattle.fdb_txn.specs.rules.SerialMap.{serial_map, serial_map_at}

-- a book of sealed transactions is a list of entries after version 0 that has no id twice and whose horizons never fall
abbrev pub BooksAreEntries : Type 0
BooksAreEntries =
    (resolvers : ℕ) (book : List Entry)
    → (IsBook resolvers book × AllByRecursion IsSealed book) ↔ (AreEntries resolvers 0 book × NoIdTwice book
    × HorizonsRise 0 book)

-- the places of a book are a history
abbrev pub PlacesAreHistory : Type 0
PlacesAreHistory = (resolvers : ℕ) (book : List Entry) → AreEntries resolvers 0 book
    → IsHistory resolvers (seen_of book).places

-- the book right before place p of its entry n: that entry has the places before p alone, and no entry comes after it
abbrev pub before_place : List Entry → ℕ → Entry → ℕ → List Entry
before_place book n entry p = take n book ++ record entry { batch = take p entry.batch } ∷ []

-- What is found by the numbers of a place is that place, with the places that were seen before it: the transaction is
-- the entry's, the places before it are all those of the book right before it, in the whole book they and the place
-- come before newer ones, and the place has its number in the entry.
abbrev pub PlacesAreFoundInTheBook : Type 0
PlacesAreFoundInTheBook =
    (book : List Entry) (n p : ℕ) (entry : Entry) (place : Place) (earlier : List Place)
    → slice_get book n ≡ Some entry → place_at book n p ≡ Some (place, earlier)
    → (slice_get entry.batch p ≡ Some place.transaction)
    × (earlier ≡ (seen_of (before_place book n entry p)).places)
    × ((newer : List Place) × ((seen_of book).places ≡ newer ++ place ∷ earlier))
    × (place.number ≡ p)

-- Reads stand: what a committed transaction read at its read version stands there still where it commits. At
-- every point of its read set, the map at its read version is the same as the map right before its place.
abbrev pub ReadsStand : Type 0
ReadsStand =
    (splits : List Point) (earlier : List Place) (place : Place) → IsHistory (suc (length splits)) (place ∷ earlier)
    → committed splits earlier place ≡ true
    → (x : Point) → in_set place.transaction.reads x ≡ true
    → get (serial_map_at splits place.transaction.read (place ∷ earlier)) x ≡ get (serial_map splits earlier) x

-- with one more entry the earlier places stay as they were, after new ones of the entry's version
abbrev pub EarlierPlacesStay : Type 0
EarlierPlacesStay =
    (book : List Entry) (entry : Entry)
    → (newer : List Place) × ((seen_of (book ++ entry ∷ [])).places ≡ newer ++ (seen_of book).places)
    × AllByRecursion (λ (place : Place). place.version ≡ entry.version) newer

-- and so does the map at each version below the entry's
abbrev pub EarlierMapsStay : Type 0
EarlierMapsStay =
    (splits : List Point) (book : List Entry) (entry : Entry) (v : ℕ) → v < entry.version
    → serial_map_at splits v (seen_of (book ++ entry ∷ [])).places ≡ serial_map_at splits v (seen_of book).places

-- the version of the last entry, else that after which the first one would come
abbrev pub version_after : ℕ → List Entry → ℕ
version_after last book = fold (λ (before : ℕ) (entry : Entry). entry.version) last book

-- entries stay entries with one more that may stand after the last of them
abbrev pub EntriesGoOn : Type 0
EntriesGoOn =
    (resolvers last : ℕ) (book : List Entry) (entry : Entry) → AreEntries resolvers last book
    → AreEntries resolvers (version_after last book) (entry ∷ []) → AreEntries resolvers last (book ++ entry ∷ [])

-- the horizon of the last entry, else that after which the first one would come
abbrev pub horizon_after : ℕ → List Entry → ℕ
horizon_after last book = fold (λ (before : ℕ) (entry : Entry). entry.horizon) last book

-- horizons never fall exactly where they don't among the first entries, and then among those after these
abbrev pub HorizonsPart : Type 0
HorizonsPart =
    (last : ℕ) (book more : List Entry)
    → HorizonsRise last (book ++ more) ↔ (HorizonsRise last book × HorizonsRise (horizon_after last book) more)
