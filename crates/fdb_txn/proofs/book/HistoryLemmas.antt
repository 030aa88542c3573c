-- The places of a book, and one entry more.
use Rattle.std.proofs.Common.{◌≡◌, ◌∙◌, sym, ap, refl, ℕ, zero, suc, ◌<◌, ◌≤◌, le_refl, le_trans, le_of_lt, subst}
use Rattle.std.proofs.Common.{append_assoc, ◌+◌, List, [], ◌∷◌, ◌++◌, take, drop, fold, slice_get, Some, None, arith}
use Rattle.std.specs.List.{AllByRecursion}
use Rattle.std.proofs.lemmas.Bool.{cond-true, cond-false, le-leb, lt-leb}
use Rattle.std.proofs.lemmas.List.Sums.{fold-append}
use Rattle.fdb_keys.proofs.Exports.{all-append, all-weaken}
use Rattle.fdb_txn.specs.declared.entry.Move.{Move}
use Rattle.fdb_txn.specs.declared.entry.Entry.{Entry}
use Rattle.fdb_txn.specs.book.Transactions.{Transaction, NamesWrites}
use Rattle.fdb_txn.specs.book.Book.{DatedMove, Head, Place, Seen, nothing, add_moves, head_of, placed}
use Rattle.fdb_txn.specs.book.Book.{add_places, add_entry, seen_of}
use Rattle.fdb_txn.specs.book.Places.{place_in, place_of}
use Rattle.fdb_txn.specs.book.History.{AreLinked, HasHorizonBelow, ReadsBelow, MovesExist, IsSealed, IsBook}
use Rattle.fdb_txn.specs.book.History.{IsHistory, AreEntries}
use Rattle.fdb_txn.specs.rules.SerialMap.{serial_map, up_to}
use Rattle.fdb_txn.specs.laws.SerialMapLaws.{BooksAreEntries, PlacesAreHistory, PlacesAreFoundInTheBook}
use Rattle.fdb_txn.specs.laws.SerialMapLaws.{EarlierPlacesStay, EarlierMapsStay, EntriesGoOn, HorizonsPart}

-- what holds of each item, and what else does, both do
all-both : {A : Type 0} (P Q : A → Type 0) → (xs : List A) → AllByRecursion P xs → AllByRecursion Q xs
    → AllByRecursion (λ x. P x × Q x) xs
all-both P Q [] all others = tt
all-both P Q (x ∷ xs) all others = ((all.0, others.0), all-both P Q xs all.1 others.1)

-- the move is of a version up to this one and goes to a resolver that exists
abbrev IsMoveThrough : ℕ → ℕ → DatedMove → Type 0
IsMoveThrough resolvers version move = (move.version ≤ version) × (move.target < resolvers)

-- a place of this version and with these moves would follow the earlier one
abbrev IsAfter : ℕ → List DatedMove → Place → Type 0
IsAfter version moves earlier =
    (earlier.version ≤ version)
    × ((newer : List DatedMove) × (moves ≡ newer ++ earlier.moves)
    × AllByRecursion (λ (move : DatedMove). earlier.version < move.version) newer)

-- the transaction may stand at a place of this version
abbrev MayStandAt : ℕ → Transaction → Type 0
MayStandAt version t = (t.read < version) × NamesWrites t

-- the moves of an entry stand before the older ones and have its version
abbrev HasNewer : ℕ → ℕ → List DatedMove → List DatedMove → Type 0
HasNewer resolvers version moves older =
    (newer : List DatedMove) × (moves ≡ newer ++ older)
    × AllByRecursion (λ (move : DatedMove). (move.version ≡ version) × (move.target < resolvers)) newer

add_moves-newer : (resolvers version : ℕ) (moves : List Move) (older : List DatedMove)
    → AllByRecursion (λ (move : Move). move.to < resolvers) moves
    → HasNewer resolvers version (add_moves version moves older) older
add_moves-newer resolvers version [] older exist = ([], refl, tt)
add_moves-newer resolvers version (move ∷ moves) older exist =
    let rest : HasNewer resolvers version (add_moves version moves (dated ∷ older)) (dated ∷ older) =
    add_moves-newer resolvers version moves (dated ∷ older) exist.1 in (
      rest.0 ++ dated ∷ [],
      rest.1 ∙ sym (append_assoc rest.0 (dated ∷ []) older),
      all-append _ rest.0 (dated ∷ []) rest.2 ((refl, exist.0), tt),
    )
  where
    dated : DatedMove
    dated = record { version = version; range = move.range; target = move.to }

-- moves through a version, with newer ones of a greater version, are moves through that
moves-through : (resolvers last version : ℕ) (moves older : List DatedMove) → last ≤ version
    → HasNewer resolvers version moves older
    → AllByRecursion (IsMoveThrough resolvers last) older → AllByRecursion (IsMoveThrough resolvers version) moves
moves-through resolvers last version moves older later newer through =
    subst (AllByRecursion (IsMoveThrough resolvers version)) (sym newer.1)
    (all-append (IsMoveThrough resolvers version) newer.0 older
    (all-weaken _ (IsMoveThrough resolvers version) (λ (move : DatedMove) made. (omega (arith, made.0), made.1)) newer.0
    newer.2)
    (all-weaken (IsMoveThrough resolvers last) (IsMoveThrough resolvers version)
    (λ (move : DatedMove) was. (le_trans was.0 later, was.1)) older through))

-- newer moves of a greater version come before the moves of an earlier place, too
after-newer : (resolvers last version : ℕ) (moves older : List DatedMove) → last < version
    → HasNewer resolvers version moves older
    → (place : Place) → IsAfter last older place → IsAfter version moves place
after-newer resolvers last version moves older later newer place after = (
  le_trans after.0 (le_of_lt later),
  (
    newer.0 ++ after.1.0,
    newer.1 ∙ ap (λ (rest : List DatedMove). newer.0 ++ rest) after.1.1
        ∙ sym (append_assoc newer.0 after.1.0 place.moves),
    all-append (λ (move : DatedMove). place.version < move.version) newer.0 after.1.0
        (all-weaken _ (λ (move : DatedMove). place.version < move.version)
        (λ (move : DatedMove) made. omega (arith, made.0, after.0)) newer.0 newer.2)
        after.1.2,
  ),
)

-- the places of an entry go on a history that they follow
history-add_places : (resolvers : ℕ) (head : Head) (p : ℕ) (batch : List Transaction) (earlier : List Place)
    → AllByRecursion (IsMoveThrough resolvers head.version) head.moves → head.horizon < head.version
    → AllByRecursion (MayStandAt head.version) batch
    → IsHistory resolvers earlier → AllByRecursion (IsAfter head.version head.moves) earlier
    → IsHistory resolvers (add_places head p batch earlier)
    × AllByRecursion (IsAfter head.version head.moves) (add_places head p batch earlier)
history-add_places resolvers head p [] earlier through below may history after = (history, after)
history-add_places resolvers head p (t ∷ ts) earlier through below may history after =
    history-add_places resolvers head (suc p) ts (placed head p t ∷ earlier) through below may.1
    ((may.0.0, may.0.1, through, below), after, history)
    ((le_refl head.version, ([], refl, tt)), after)

-- the same as `places_are_history`, after what was seen before
history-after : (resolvers last : ℕ) (seen : Seen) (book : List Entry)
    → AllByRecursion (IsMoveThrough resolvers last) seen.moves → IsHistory resolvers seen.places
    → AllByRecursion (IsAfter last seen.moves) seen.places
    → AreEntries resolvers last book → IsHistory resolvers (fold add_entry seen book).places
history-after resolvers last seen [] through history after entries = history
history-after resolvers last seen (entry ∷ book) through history after entries =
    let newer : HasNewer resolvers entry.version moves seen.moves = add_moves-newer resolvers entry.version entry.moves
    seen.moves entries.2 in
    let now : AllByRecursion (IsMoveThrough resolvers entry.version) moves =
    moves-through resolvers last entry.version moves seen.moves (le_of_lt entries.0) newer through in
    let both = history-add_places resolvers (head_of seen entry) 0 entry.batch seen.places now entries.1.1 entries.3
    history (all-weaken (IsAfter last seen.moves) (IsAfter entry.version moves)
    (after-newer resolvers last entry.version moves seen.moves entries.0 newer)
    seen.places after) in
    history-after resolvers entry.version (add_entry seen entry) book now both.0 both.1 entries.4
  where
    moves : List DatedMove
    moves = add_moves entry.version entry.moves seen.moves

-- the places of a book are a history
pub places_are_history : PlacesAreHistory
places_are_history resolvers book entries = history-after resolvers 0 nothing book tt tt tt entries

-- the places of an entry stand before the earlier ones and have its version
pub add_places-newer : (head : Head) (p : ℕ) (batch : List Transaction) (earlier : List Place)
    → (newer : List Place) × (add_places head p batch earlier ≡ newer ++ earlier)
    × AllByRecursion (λ (place : Place). place.version ≡ head.version) newer
add_places-newer head p [] earlier = ([], refl, tt)
add_places-newer head p (t ∷ ts) earlier =
    let place = placed head p t in
    let rest = add_places-newer head (suc p) ts (place ∷ earlier) in (
      rest.0 ++ place ∷ [],
      rest.1
          ∙ sym (append_assoc rest.0 (place ∷ []) earlier),
      all-append _ rest.0 (place ∷ []) rest.2 (refl, tt),
    )

-- what was seen of a book with one more entry
pub seen_of-push : (book : List Entry) (entry : Entry) → seen_of (book ++ entry ∷ []) ≡ add_entry (seen_of book) entry
seen_of-push book entry = fold-append add_entry nothing book (entry ∷ [])

-- with one more entry the earlier places stay, after new ones of its version
pub earlier_places_stay : EarlierPlacesStay
earlier_places_stay book entry =
    let added = add_places-newer (head_of (seen_of book) entry) 0 entry.batch (seen_of book).places in
    (added.0, ap (λ (seen : Seen). seen.places) (seen_of-push book entry) ∙ added.1, added.2)

-- no place has a version above v
abbrev pub AtMost : ℕ → List Place → Type 0
AtMost v places = AllByRecursion (λ (place : Place). place.version ≤ v) places

-- places of versions at most v all stay
pub up_to-all : (v : ℕ) (places : List Place) → AtMost v places → up_to v places ≡ places
up_to-all v [] at_most = refl
up_to-all v (place ∷ places) at_most =
    cond-true _ (place ∷ up_to v places) (up_to v places) (le-leb place.version v at_most.0)
    ∙ ap (λ (rest : List Place). place ∷ rest) (up_to-all v places at_most.1)

-- places of a version above v are left out
pub up_to-above : (v version : ℕ) (newer earlier : List Place) → v < version
    → AllByRecursion (λ (place : Place). place.version ≡ version) newer
    → up_to v (newer ++ earlier) ≡ up_to v earlier
up_to-above v version [] earlier above all = refl
up_to-above v version (place ∷ newer) earlier above all =
    cond-false _ (place ∷ up_to v (newer ++ earlier)) (up_to v (newer ++ earlier))
    (lt-leb place.version v (omega (arith, all.0)))
    ∙ up_to-above v version newer earlier above all.1

-- with one more entry the maps below its version stay
pub earlier_maps_stay : EarlierMapsStay
earlier_maps_stay splits book entry v above =
    let stay = earlier_places_stay book entry in
    ap (λ (places : List Place). serial_map splits (up_to v places)) stay.1
    ∙ ap (serial_map splits) (up_to-above v entry.version stay.0 (seen_of book).places above stay.2)

-- entries stay entries with one more that may stand after them
pub entries_go_on : EntriesGoOn
entries_go_on resolvers last [] entry entries more = more
entries_go_on resolvers last (first ∷ book) entry entries more =
    (entries.0, entries.1, entries.2, entries.3, entries_go_on resolvers first.version book entry entries.4 more)

-- horizons never fall exactly where they don't among the first entries and among those after these
pub horizons_part : HorizonsPart
horizons_part last [] more = (λ rise. (tt, rise), λ parts. parts.1)
horizons_part last (entry ∷ book) more =
    let rest = horizons_part entry.horizon book more in (
      λ rise. let parts = rest.0 rise.1 in ((rise.0, parts.0), parts.1),
      λ parts. (parts.0.0, rest.1 (parts.0.1, parts.1)),
    )

-- the parts of a book of sealed transactions, after a version, are those of entries
module _ (resolvers : ℕ) where
  entries-from : (last : ℕ) (book : List Entry) → AreLinked last book → AllByRecursion HasHorizonBelow book
      → AllByRecursion ReadsBelow book → AllByRecursion (MovesExist resolvers) book → AllByRecursion IsSealed book
      → AreEntries resolvers last book
  entries-from last [] linked below reads moves are_sealed = tt
  entries-from last (entry ∷ book) linked below reads moves are_sealed = (
    linked.0,
    (linked.1, below.0),
    moves.0,
    all-both (λ (t : Transaction). t.read < entry.version) NamesWrites entry.batch reads.0 are_sealed.0,
    entries-from entry.version book linked.2 below.1 reads.1 moves.1 are_sealed.1,
  )

  linked-of : (last : ℕ) (book : List Entry) → AreEntries resolvers last book → AreLinked last book
  linked-of last [] entries = tt
  linked-of last (entry ∷ book) entries = (entries.0, entries.1.0, linked-of entry.version book entries.4)

  below-of : (last : ℕ) (book : List Entry) → AreEntries resolvers last book → AllByRecursion HasHorizonBelow book
  below-of last [] entries = tt
  below-of last (entry ∷ book) entries = (entries.1.1, below-of entry.version book entries.4)

  reads-of : (last : ℕ) (book : List Entry) → AreEntries resolvers last book → AllByRecursion ReadsBelow book
  reads-of last [] entries = tt
  reads-of last (entry ∷ book) entries = (
    all-weaken _ (λ (t : Transaction). t.read < entry.version) (λ t may. may.0) entry.batch entries.3,
    reads-of entry.version book entries.4,
  )

  moves-of : (last : ℕ) (book : List Entry) → AreEntries resolvers last book
      → AllByRecursion (MovesExist resolvers) book
  moves-of last [] entries = tt
  moves-of last (entry ∷ book) entries = (entries.2, moves-of entry.version book entries.4)

  sealed-of : (last : ℕ) (book : List Entry) → AreEntries resolvers last book → AllByRecursion IsSealed book
  sealed-of last [] entries = tt
  sealed-of last (entry ∷ book) entries = (
    all-weaken _ NamesWrites (λ t may. may.1) entry.batch entries.3,
    sealed-of entry.version book entries.4,
  )

-- a book of sealed transactions is a list of entries that has no id twice and whose horizons never fall
pub books_are_entries : BooksAreEntries
books_are_entries resolvers book = (
  λ given.
      let is : IsBook resolvers book = given.0 in
      (entries-from resolvers 0 book is.linked is.below is.reads is.moves given.1, is.ids, is.horizons),
  λ given. (
    record {
      linked = linked-of resolvers 0 book given.0;
      horizons = given.2;
      below = below-of resolvers 0 book given.0;
      reads = reads-of resolvers 0 book given.0;
      moves = moves-of resolvers 0 book given.0;
      ids = given.1;
    },
    sealed-of resolvers 0 book given.0,
  ),
)

-- what is found in a batch is a place of it, after the places before it
abbrev IsFoundIn : Head → ℕ → List Transaction → List Place → ℕ → Place × List Place → Type 0
IsFoundIn head n batch earlier p found =
    (slice_get batch p ≡ Some found.0.transaction)
    × (found.1 ≡ add_places head n (take p batch) earlier)
    × ((newer : List Place) × (add_places head n batch earlier ≡ newer ++ found.0 ∷ found.1))
    × (found.0.number ≡ n + p)

place_in-found : (head : Head) (n : ℕ) (batch : List Transaction) (earlier : List Place) (p : ℕ)
    (found : Place × List Place)
    → place_in head n batch earlier p ≡ Some found → IsFoundIn head n batch earlier p found
place_in-found head n [] earlier p found is = absurd (let wrong : None ≡ Some found = is in cc)
place_in-found head n (t ∷ ts) earlier zero found is =
    let same : (placed head n t, earlier) ≡ found = cc in
    let added = add_places-newer head (suc n) ts (placed head n t ∷ earlier) in
    let number : n ≡ n + 0 = omega arith in
    subst (IsFoundIn head n (t ∷ ts) earlier zero) same (refl, refl, (added.0, added.1), number)
place_in-found head n (t ∷ ts) earlier (suc p) found is =
    let rest = place_in-found head (suc n) ts (placed head n t ∷ earlier) p found is in
    (rest.0, rest.1, rest.2, omega (arith, rest.3))

-- the places of later entries come before those that were seen
later-newer : (seen : Seen) (book : List Entry)
    → (newer : List Place) × ((fold add_entry seen book).places ≡ newer ++ seen.places)
later-newer seen [] = ([], refl)
later-newer seen (entry ∷ book) =
    let rest = later-newer (add_entry seen entry) book in
    let added = add_places-newer (head_of seen entry) 0 entry.batch seen.places in (
      rest.0 ++ added.0,
      rest.1 ∙ ap (λ (places : List Place). rest.0 ++ places) added.1 ∙ sym (append_assoc rest.0 added.0 seen.places),
    )

-- a book at an entry
book-at : (book : List Entry) (n : ℕ) (entry : Entry) → slice_get book n ≡ Some entry
    → book ≡ take n book ++ entry ∷ drop (suc n) book
book-at [] n entry there = absurd (let wrong : None ≡ Some entry = there in cc)
book-at (first ∷ book) zero entry there = let same : first ≡ entry = cc in ap (λ (e : Entry). e ∷ book) same
book-at (first ∷ book) (suc n) entry there = ap (λ (es : List Entry). first ∷ es) (book-at book n entry there)

pub places_are_found_in_the_book : PlacesAreFoundInTheBook
places_are_found_in_the_book book n p entry place earlier there is =
    let before = seen_of (take n book) in
    let found = place_in-found (head_of before entry) 0 entry.batch before.places p (place, earlier)
    (sym (ap (place_of before p) there) ∙ is) in
    let rest = later-newer (add_entry before entry) (drop (suc n) book) in
    let whole : (seen_of book).places ≡ (fold add_entry (add_entry before entry) (drop (suc n) book)).places =
    ap (λ (es : List Entry). (seen_of es).places) (book-at book n entry there)
    ∙ ap (λ (seen : Seen). seen.places)
    (fold-append add_entry nothing (take n book) (entry ∷ drop (suc n) book)) in (
      found.0,
      found.1
          ∙ sym (ap (λ (seen : Seen). seen.places)
          (seen_of-push (take n book) (record entry { batch = take p entry.batch }))),
      (
        rest.0 ++ found.2.0,
        whole ∙ rest.1 ∙ ap (λ (places : List Place). rest.0 ++ places) found.2.1
            ∙ sym (append_assoc rest.0 found.2.0 (place ∷ earlier)),
      ),
      omega (arith, found.3),
    )
