-- What is made of the entries of a book, and the run of its committed transactions.
use Rattle.std.proofs.Common.{◌≡◌, ◌∙◌, sym, ap, refl, ℕ, zero, suc, ◌<◌, ◌≤◌, take-append-drop, le_refl, le_of_lt}
use Rattle.std.proofs.Common.{subst, List, [], ◌∷◌, ◌++◌, take, drop, fold, length, slice_get, Some, arith}
use Rattle.std.specs.List.{AllByRecursion}
use Rattle.std.proofs.lemmas.List.{length-append, take_all}
use Rattle.std.proofs.lemmas.List.Sums.{fold-append}
use Rattle.std.proofs.Math.Seq.{take-append_seam}
use Rattle.fdb_keys.specs.Points.{Point}
use Rattle.fdb_keys.proofs.Exports.{all-weaken}
use Rattle.fdb_txn.specs.declared.entry.Entry.{Entry}
use Rattle.fdb_txn.specs.book.Transactions.{Transaction}
use Rattle.fdb_txn.specs.book.Book.{Head, Place, Seen, nothing, head_of, placed, add_places, add_entry, seen_of}
use Rattle.fdb_txn.specs.book.Book.{last_version, seen_before}
use Rattle.fdb_txn.specs.rules.SerialMap.{serial_map, up_to, serial_map_at}
use Rattle.fdb_txn.specs.book.History.{AreLinked, AreEntries, ReadsBelow}
use Rattle.fdb_txn.proofs.Exports.{AtMost, add_places-newer, up_to-above, up_to-all, at_most-more}
use Rattle.fdb_roles.specs.Entries.{IsRising}

-- each entry's version is greater than that of the entry before it, and the first one's greater than the least
abbrev RisesFrom : ℕ → List Entry → Type 0
RisesFrom least [] = Unit
RisesFrom least (entry ∷ book) = (least < entry.version) × RisesFrom entry.version book

-- the version of the last entry, else the least
abbrev last_from : ℕ → List Entry → ℕ
last_from least book = fold (λ (last : ℕ) (entry : Entry). entry.version) least book

-- a rising book in this form
rises : (least : ℕ) (book : List Entry)
    → ((i : ℕ) (entry : Entry) → slice_get book i ≡ Some entry → last_from least (take i book) < entry.version)
    → RisesFrom least book
rises least [] rising = tt
rises least (entry ∷ book) rising =
    (rising 0 entry refl, rises entry.version book (λ i other there. rising (suc i) other there))

-- its first entries rise
rises-take : (least n : ℕ) (book : List Entry) → RisesFrom least book → RisesFrom least (take n book)
rises-take least zero book rising = tt
rises-take least (suc n) [] rising = tt
rises-take least (suc n) (entry ∷ book) rising = (rising.0, rises-take entry.version n book rising.1)

-- its other entries rise from the last one of those
rises-drop : (least n : ℕ) (book : List Entry) → RisesFrom least book
    → RisesFrom (last_from least (take n book)) (drop n book)
rises-drop least zero book rising = rising
rises-drop least (suc n) [] rising = tt
rises-drop least (suc n) (entry ∷ book) rising = rises-drop entry.version n book rising.1

-- back to the form by number
rises-at : (least : ℕ) (book : List Entry) → RisesFrom least book
    → (i : ℕ) (entry : Entry) → slice_get book i ≡ Some entry → last_from least (take i book) < entry.version
rises-at least [] rising i entry there = cc
rises-at least (first ∷ book) rising zero entry there =
    let same : first ≡ entry = cc in subst (λ (e : Entry). least < e.version) same rising.0
rises-at least (first ∷ book) rising (suc i) entry there = rises-at first.version book rising.1 i entry there

-- the last of more entries has a version that isn't below
ordered-from : (least n m : ℕ) (book : List Entry) → RisesFrom least book → n ≤ m
    → last_from least (take n book) ≤ last_from least (take m book)
ordered-from least zero zero book rising ordered = le_refl least
ordered-from least zero (suc m) [] rising ordered = le_refl least
ordered-from least zero (suc m) (entry ∷ book) rising ordered =
    let further = ordered-from entry.version 0 m book rising.1 (omega arith) in
    omega (arith, further, rising.0)
ordered-from least (suc n) zero book rising ordered = absurd (omega (arith, ordered))
ordered-from least (suc n) (suc m) [] rising ordered = le_refl least
ordered-from least (suc n) (suc m) (entry ∷ book) rising ordered =
    ordered-from entry.version n m book rising.1 (omega (arith, ordered))

-- and of entries that are more, one above
apart-from : (least n m : ℕ) (book : List Entry) → RisesFrom least book → n < m → m ≤ length book
    → last_from least (take n book) < last_from least (take m book)
apart-from least n zero book rising before within = absurd (omega (arith, before))
apart-from least n (suc m) [] rising before within = absurd (omega (arith, within))
apart-from least zero (suc m) (entry ∷ book) rising before within =
    let further = ordered-from entry.version 0 m book rising.1 (omega arith) in
    omega (arith, further, rising.0)
apart-from least (suc n) (suc m) (entry ∷ book) rising before within =
    apart-from entry.version n m book rising.1 (omega (arith, before)) (omega (arith, within))

-- linked entries rise
linked-rise : (least : ℕ) (book : List Entry) → AreLinked least book → RisesFrom least book
linked-rise least [] linked = tt
linked-rise least (entry ∷ book) linked = (linked.0, linked-rise entry.version book linked.2)

linked-rising : (book : List Entry) → AreLinked 0 book → IsRising book
linked-rising book linked = rises-at 0 book (linked-rise 0 book linked)

-- entries are linked, and so they rise
pub entries-linked : (resolvers least : ℕ) (book : List Entry) → AreEntries resolvers least book → AreLinked least book
entries-linked resolvers least [] entries = tt
entries-linked resolvers least (entry ∷ book) entries =
    (entries.0, entries.1.0, entries-linked resolvers entry.version book entries.4)

pub entries-rising : (resolvers : ℕ) (book : List Entry) → AreEntries resolvers 0 book → IsRising book
entries-rising resolvers book entries = linked-rising book (entries-linked resolvers 0 book entries)

-- and their transactions read below their versions
pub entries-below : (resolvers least : ℕ) (book : List Entry) → AreEntries resolvers least book
    → AllByRecursion ReadsBelow book
entries-below resolvers least [] entries = tt
entries-below resolvers least (entry ∷ book) entries = (
  all-weaken _ (λ (t : Transaction). t.read < entry.version) (λ (t : Transaction) may. may.0) entry.batch entries.3,
  entries-below resolvers entry.version book entries.4,
)

-- places of a version at most v come in
at_most-places : (v : ℕ) (head : Head) (p : ℕ) (batch : List Transaction) (earlier : List Place) → head.version ≤ v
    → AtMost v earlier
    → AtMost v (add_places head p batch earlier)
at_most-places v head p [] earlier reached at_most = at_most
at_most-places v head p (t ∷ ts) earlier reached at_most =
    at_most-places v head (suc p) ts (placed head p t ∷ earlier) reached (reached, at_most)

-- the places of an entry of a greater version are left out
up_to-entry : (v : ℕ) (seen : Seen) (entry : Entry) → v < entry.version
    → up_to v (add_entry seen entry).places ≡ up_to v seen.places
up_to-entry v seen entry above =
    let added = add_places-newer (head_of seen entry) 0 entry.batch seen.places in
    ap (up_to v) added.1 ∙ up_to-above v entry.version added.0 seen.places above added.2

-- and so are all after a version that v doesn't pass
up_to-after : (v least : ℕ) (seen : Seen) (book : List Entry) → v ≤ least → RisesFrom least book
    → up_to v (fold add_entry seen book).places ≡ up_to v seen.places
up_to-after v least seen [] reached rising = refl
up_to-after v least seen (entry ∷ book) reached rising =
    up_to-after v entry.version (add_entry seen entry) book (omega (arith, rising.0)) rising.1
    ∙ up_to-entry v seen entry (omega (arith, rising.0))

-- up to the version of the last of the first entries, the map is that of these alone
pub serial-front : (splits : List Point) (book : List Entry) → IsRising book → (n v : ℕ)
    → v ≤ last_version (take n book)
    → serial_map_at splits v (seen_of book).places ≡ serial_map_at splits v (seen_before book n).places
serial-front splits book rising n v reached =
    let parts : seen_of book ≡ fold add_entry (seen_of (take n book)) (drop n book) =
    ap seen_of (sym (take-append-drop n book)) ∙ fold-append add_entry nothing (take n book) (drop n book) in
    ap (λ (now : List Place). serial_map splits now)
    (ap (λ (seen : Seen). up_to v seen.places) parts
    ∙ up_to-after v (last_version (take n book)) (seen_of (take n book)) (drop n book) reached
    (rises-drop 0 n book (rises 0 book rising)))

-- later entries have later versions
pub versions-ordered : (book : List Entry) → IsRising book → (n m : ℕ) → n ≤ m
    → last_version (take n book) ≤ last_version (take m book)
versions-ordered book rising n m ordered = ordered-from 0 n m book (rises 0 book rising) ordered

pub versions-apart : (book : List Entry) → IsRising book → (n m : ℕ) → n < m → m ≤ length book
    → last_version (take n book) < last_version (take m book)
versions-apart book rising n m before within = apart-from 0 n m book (rises 0 book rising) before within

-- The entries of a linked book up to one of them.
module _ (front more : List Entry) (linked : AreLinked 0 (front ++ more)) where
  -- up to their last version, the map is that of the book
  pub front-run : (splits : List Point) (v : ℕ) → v ≤ last_version front
      → serial_map_at splits v (seen_of front).places ≡ serial_map_at splits v (seen_of (front ++ more)).places
  front-run splits v reached =
      sym (serial-front splits (front ++ more) (linked-rising (front ++ more) linked) (length front) v
      (subst (λ (all : List Entry). v ≤ last_version all) (sym (take-append_seam front more)) reached)
      ∙ ap (λ (all : List Entry). serial_map_at splits v (seen_of all).places) (take-append_seam front more))

  -- and that isn't above the book's
  pub front-version : last_version front ≤ last_version (front ++ more)
  front-version =
      subst (λ (all : List Entry). last_version all ≤ last_version (front ++ more)) (take-append_seam front more)
      (subst (λ (all : List Entry). last_version (take (length front) (front ++ more)) ≤ last_version all)
      (take_all (length (front ++ more)) (front ++ more) (le_refl (length (front ++ more))))
      (versions-ordered (front ++ more) (linked-rising (front ++ more) linked) (length front) (length (front ++ more))
      (omega (arith, length-append front more))))

-- with the places of a rising book none is above its last version
at_most-book : (least : ℕ) (seen : Seen) (book : List Entry) → AtMost least seen.places → RisesFrom least book
    → AtMost (last_from least book) (fold add_entry seen book).places
at_most-book least seen [] at_most rising = at_most
at_most-book least seen (entry ∷ book) at_most rising =
    at_most-book entry.version (add_entry seen entry) book
    (at_most-places entry.version (head_of seen entry) 0 entry.batch seen.places (le_refl entry.version)
    (at_most-more least entry.version seen.places (le_of_lt rising.0) at_most)) rising.1

-- the entries of a rising book of which the first is above v are left out
up_to-later : (v least : ℕ) (seen : Seen) (book : List Entry)
    → ((entry : Entry) → slice_get book 0 ≡ Some entry → v < entry.version) → RisesFrom least book
    → up_to v (fold add_entry seen book).places ≡ up_to v seen.places
up_to-later v least seen [] later rising = refl
up_to-later v least seen (entry ∷ book) later rising =
    let above : v < entry.version = later entry refl in
    up_to-after v entry.version (add_entry seen entry) book (le_of_lt above) rising.1
    ∙ up_to-entry v seen entry above

-- the first one after a front
first-drop : (n : ℕ) (book : List Entry) → slice_get (drop n book) 0 ≡ slice_get book n
first-drop zero book = refl
first-drop (suc n) [] = refl
first-drop (suc n) (entry ∷ book) = first-drop n book

-- from the version of the last of the first n entries on, and below that of the next one, the map is that after those
-- entries
pub map-between : (splits : List Point) (book : List Entry) → IsRising book → (n v : ℕ) → last_version (take n book) ≤ v
    → ((entry : Entry) → slice_get book n ≡ Some entry → v < entry.version)
    → serial_map_at splits v (seen_of book).places ≡ serial_map splits (seen_before book n).places
map-between splits book rising n v reached next =
    let whole : RisesFrom 0 book = rises 0 book rising in
    let parts : seen_of book ≡ fold add_entry (seen_of (take n book)) (drop n book) =
    ap seen_of (sym (take-append-drop n book)) ∙ fold-append add_entry nothing (take n book) (drop n book) in
    ap (λ (now : List Place). serial_map splits now)
    (ap (λ (seen : Seen). up_to v seen.places) parts
    ∙ up_to-later v (last_version (take n book)) (seen_of (take n book)) (drop n book)
    (λ entry there. next entry (sym (first-drop n book) ∙ there)) (rises-drop 0 n book whole)
    ∙ up_to-all v (seen_before book n).places
    (at_most-more (last_version (take n book)) v (seen_before book n).places reached
    (at_most-book 0 nothing (take n book) tt (rises-take 0 n book whole))))
