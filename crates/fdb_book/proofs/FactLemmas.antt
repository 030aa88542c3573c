-- What is known of a book's first cells.
use Rattle.std.proofs.Common.{◌≡◌, ◌∙◌, sym, ap, refl, subst, ℕ, zero, suc, ◌<◌, ◌≤◌, ◌+◌, List, [], ◌∷◌, ◌++◌, map}
use Rattle.std.proofs.Common.{fold, take, drop, length, get_or, slice_get, Some, Bool, false, arith, rules}
use Rattle.std.specs.declared.alloc.Global.{Global}
use Rattle.std.proofs.lemmas.List.{get_or-map, get_or-take, length-map, length-append, length-take-le, map-append}
use Rattle.std.proofs.lemmas.List.{take-map, take-append-drop}
use Rattle.std.proofs.lemmas.Option.{slice_get-get_or}
use Rattle.std.proofs.Math.Seq.{take-suc}
use Rattle.once_cell.specs.Once.{cell_name}
use Rattle.fdb_txn.specs.declared.entry.Entry.{Entry}
use Rattle.fdb_book.specs.Fronts.{IsLinkedBook, IsFront, Known, AreOfFirst, AreKnownUpTo, IsPrefix, shown}
use Rattle.fdb_book.specs.Ids.{Latest}
use Rattle.fdb_book.proofs.BookLemmas.{book-take}

abbrev pub cell_of : ℕ × Entry → ℕ
cell_of it = it.0

abbrev pub value_of : ℕ × Entry → Entry
value_of it = it.1

some-same : {X : Type 0} (a b : X) → Some a ≡ Some b → a ≡ b
some-same a b equal = cc

-- each number below the length is that of an item
some-at : {X : Type 0} (xs : List X) (i : ℕ) → i < length xs → (x : X) × (slice_get xs i ≡ Some x)
some-at [] i within = absurd (search (arith, within))
some-at (x ∷ xs) zero within = (x, refl)
some-at (x ∷ xs) (suc i) within = some-at xs i (search (arith, within))

-- the item after these has their number
pub last-at : {X : Type 0} (xs : List X) (x : X) → slice_get (xs ++ x ∷ []) (length xs) ≡ Some x
last-at [] x = refl
last-at (first ∷ xs) x = last-at xs x

-- the first of the first are the first
pub take-take-le : {X : Type 0} (n m : ℕ) (xs : List X) → n ≤ m → take n (take m xs) ≡ take n xs
take-take-le zero m xs within = refl
take-take-le (suc n) zero xs within = absurd (search (arith, within))
take-take-le (suc n) (suc m) [] within = refl
take-take-le (suc n) (suc m) (x ∷ xs) within = ap (λ rest. x ∷ rest) (take-take-le n m xs (search (arith, within)))

-- no more is known than there are cells
pub within-cells : (cells : List (Global × ℕ)) (known : Known) → AreOfFirst (map cell_name cells) known
    → length known ≤ length cells
within-cells cells known first = rw (← length-map cells cell_name) first.within

-- there are as many entries as are known
pub shown-count : (known : Known) → length (shown known) ≡ length known
shown-count known = length-map known value_of

pub counted-view : (known : Known) (len : ℕ) (book : List Entry) → len ≡ length known → shown known ≡ book
    → len ≡ length book
counted-view known len book counted view = counted ∙ sym (shown-count known) ∙ ap length view

-- what is known of a number is of its cell
cell-at : (cells : List (Global × ℕ)) (known : Known) (i : ℕ) (cell : Global × ℕ) (it : ℕ × Entry)
    → AreOfFirst (map cell_name cells) known → i < length known → cell ≡ get_or cells i cell
    → slice_get known i ≡ Some it → it.0 ≡ cell_name cell
cell-at cells known i cell it first within is_cell found =
    let inside : i < length cells = search (arith, within, within-cells cells known first) in
    let is : it ≡ get_or known i it = some-same it (get_or known i it)
    (sym found ∙ slice_get-get_or known i it within) in
    ap cell_of is ∙ sym (get_or-map cell_of known i it 0 within)
    ∙ ap (λ (names : List ℕ). get_or names i 0) first.first
    ∙ get_or-take (length known) (map cell_name cells) i 0 within
    ∙ get_or-map cell_name cells i cell 0 inside
    ∙ sym (ap cell_name is_cell)

-- something is known of the cell of each number
pub known-at : (cells : List (Global × ℕ)) (known : Known) (i : ℕ) (cell : Global × ℕ)
    → AreOfFirst (map cell_name cells) known → i < length known → cell ≡ get_or cells i cell
    → (entry : Entry) × (slice_get known i ≡ Some (cell_name cell, entry))
known-at cells known i cell first within is_cell =
    let it = some-at known i within in
    (it.0.1, it.1 ∙ ap (λ (name : ℕ). Some (name, it.0.1)) (cell-at cells known i cell it.0 first within is_cell it.1))

-- the same of the cell of another list that has the same names
pub known-of : (names : List ℕ) (own cells : List (Global × ℕ)) (known : Known) (book : List Entry) (i : ℕ)
    (cell : Global × ℕ) → map cell_name own ≡ names → map cell_name cells ≡ names
    → AreOfFirst (map cell_name own) known → shown known ≡ book → i < length book → cell ≡ get_or cells i cell
    → (entry : Entry) × (slice_get known i ≡ Some (cell_name cell, entry))
known-of names own cells known book i cell own_names same first view within is_cell =
    known-at cells known i cell (rw (same, ← own_names) first) (rw (← shown-count known, view) within) is_cell

-- the entry that is known of a number stands there
pub shown-at : (known : Known) (i name : ℕ) (entry : Entry) → slice_get known i ≡ Some (name, entry)
    → slice_get (shown known) i ≡ Some entry
shown-at [] i name entry found = absurd (search (rules, found))
shown-at (it ∷ known) zero name entry found = ap (λ (that : ℕ × Entry). Some that.1) (some-same it (name, entry) found)
shown-at (it ∷ known) (suc i) name entry found = shown-at known i name entry found

one_more : (n : ℕ) → n + 1 ≡ suc n
one_more n = search arith

-- what is known with the next cell
pub next-first : (cells : List (Global × ℕ)) (known : Known) (cell : Global × ℕ) (entry : Entry)
    → AreOfFirst (map cell_name cells) known → length known < length cells
    → cell ≡ get_or cells (length known) cell
    → AreOfFirst (map cell_name cells) (known ++ (cell_name cell, entry) ∷ [])
next-first cells known cell entry first within is_cell = record {
  within = rw (length-map cells cell_name, sym counted) (search (arith, within));
  first =
      map-append cell_of known ((cell_name cell, entry) ∷ [])
      ∙ ap (λ (names : List ℕ). names ++ cell_name cell ∷ []) first.first
      ∙ ap (λ (name : ℕ). take (length known) (map cell_name cells) ++ name ∷ []) is_name
      ∙ sym (take-suc (map cell_name cells) (length known) 0 (rw (length-map cells cell_name) within))
      ∙ ap (λ (n : ℕ). take n (map cell_name cells)) counted;
}
  where
    is_name : cell_name cell ≡ get_or (map cell_name cells) (length known) 0
    is_name = ap cell_name is_cell ∙ sym (get_or-map cell_name cells (length known) cell 0 within)

    counted : suc (length known) ≡ length (known ++ (cell_name cell, entry) ∷ [])
    counted = sym (length-append known ((cell_name cell, entry) ∷ []) ∙ one_more (length known))

-- the same, read with what the parts are
pub next-first-of : (names : List ℕ) (cells : List (Global × ℕ)) (known next : Known) (book : List Entry) (len : ℕ)
    (cell : Global × ℕ) (entry : Entry) → map cell_name cells ≡ names → AreOfFirst (map cell_name cells) known
    → len ≡ length known → shown known ≡ book → length book < length names → cell ≡ get_or cells len cell
    → next ≡ known ++ (cell_name cell, entry) ∷ [] → AreOfFirst names next
next-first-of names cells known next book len cell entry same first counted view room is_cell more =
    rw (more, ← same) (next-first cells known cell entry first within (rw counted at is_cell))
  where
    within : length known < length cells
    within = rw (← shown-count known, view, ← length-map cells cell_name, same) room

-- what is known of the first cells
pub take-first : (names : List ℕ) (known : Known) (count : ℕ) → count ≤ length known
    → AreOfFirst names known → AreOfFirst names (take count known)
take-first names known count within first = record {
  within = search (rules, arith, within, first.within);
  first = sym (take-map cell_of count known) ∙ ap (take count) first.first ∙ taken;
}
  where
    taken : take count (take (length known) names) ≡ take (length (take count known)) names
    taken = take-take-le count (length known) names within
        ∙ ap (λ (n : ℕ). take n names) (sym (length-take-le count known within))

-- one cell more shows one entry more
pub next-shown : (known : Known) (name : ℕ) (entry : Entry)
    → shown (known ++ (name, entry) ∷ []) ≡ shown known ++ entry ∷ []
next-shown known name entry = map-append value_of known ((name, entry) ∷ [])

-- the entry of the next cell, once it is known
pub next-at : (known next : Known) (len name : ℕ) (entry : Entry) → len ≡ length known
    → next ≡ known ++ (name, entry) ∷ [] → slice_get next len ≡ Some (name, entry)
next-at known next len name entry counted more = rw (counted, more) (last-at known (name, entry))

-- what is read of the next cell is shown after what was known
pub read-shown : (known next : Known) (len name : ℕ) (entry value : Entry) (book : List Entry) → len ≡ length known
    → shown known ≡ book → next ≡ known ++ (name, entry) ∷ [] → slice_get next len ≡ Some (name, value)
    → shown next ≡ book ++ value ∷ []
read-shown known next len name entry value book counted view more read =
    ap shown more ∙ next-shown known name entry
    ∙ ap (λ (it : ℕ × Entry). shown known ++ it.1 ∷ [])
    (some-same (name, entry) (name, value) (sym (next-at known next len name entry counted more) ∙ read))
    ∙ ap (λ (them : List Entry). them ++ value ∷ []) view

-- a number of the last entry is that of the one whose place is one less than there are
last-number : (of : Entry → ℕ) (last : ℕ) (book : List Entry) (n : ℕ) (entry : Entry) → length book ≡ suc n
    → slice_get book n ≡ Some entry → fold (λ (last : ℕ) (entry : Entry). of entry) last book ≡ of entry
last-number of last [] n entry counted found = absurd (search (arith, counted))
last-number of last (first ∷ []) zero entry counted found = ap of (some-same first entry found)
last-number of last (first ∷ second ∷ book) zero entry counted found = absurd (search (arith, counted))
last-number of last (first ∷ book) (suc n) entry counted found =
    last-number of (of first) book n entry (search (arith, counted)) found

-- so its version is, and its horizon
pub last-version : (last : ℕ) (book : List Entry) (n : ℕ) (entry : Entry) → length book ≡ suc n
    → slice_get book n ≡ Some entry → fold (λ (last : ℕ) (entry : Entry). entry.version) last book ≡ entry.version
last-version = last-number (λ (entry : Entry). entry.version)

pub last-horizon : (last : ℕ) (book : List Entry) (n : ℕ) (entry : Entry) → length book ≡ suc n
    → slice_get book n ≡ Some entry → fold (λ (last : ℕ) (entry : Entry). entry.horizon) last book ≡ entry.horizon
last-horizon = last-number (λ (entry : Entry). entry.horizon)

take-past : (count : ℕ) (xs : List Entry) → length xs ≤ count → take count xs ≡ xs
take-past zero [] within = refl
take-past zero (x ∷ xs) within = absurd (search (arith, within))
take-past (suc count) [] within = refl
take-past (suc count) (x ∷ xs) within = ap (λ rest. x ∷ rest) (take-past count xs (search (arith, within)))

-- where the first entries of two lists are the same, as many as the shorter one has, that one begins the other
pub prefix-of-takes : (count : ℕ) (shorter longer : List Entry) → length shorter ≤ count
    → take count shorter ≡ take count longer → IsPrefix shorter longer
prefix-of-takes count shorter longer within same = (
  drop count longer,
  sym (take-append-drop count longer)
      ∙ ap (λ (front : List Entry). front ++ drop count longer) (sym same ∙ take-past count shorter within),
)

-- what is known of the first of a front's cells is a front's
pub front-take : (names own cells : List ℕ) (known : Known) (len : ℕ) (knows_ids : Bool) (latest other : Latest)
    (count : ℕ)
    → count ≤ length known → IsFront names own known len knows_ids latest → cells ≡ names
    → IsFront names cells (take count known) count false other
front-take names own cells known len knows_ids latest other count within front same = record {
  same = same;
  first = subst (λ (list : List ℕ). AreOfFirst list (take count known)) (front.same ∙ sym same)
      (take-first own known count within front.first);
  counted = sym (length-take-le count known within);
  book = subst IsLinkedBook (take-map value_of count known) (book-take count (shown known) front.book);
  covered = λ no. cc;
}

take-next : (book : List Entry) (i : ℕ) (entry : Entry) → slice_get book i ≡ Some entry
    → take (suc i) book ≡ take i book ++ entry ∷ []
take-next [] i entry found = absurd (search (rules, found))
take-next (first ∷ book) zero entry found = ap (λ (it : Entry). it ∷ []) (some-same first entry found)
take-next (first ∷ book) (suc i) entry found = ap (λ rest. first ∷ rest) (take-next book i entry found)

-- one entry more of those that stand at their numbers
pub take-found : (book : List Entry) (i : ℕ) (entry : Entry) → slice_get book i ≡ Some entry
    → take (i + 1) book ≡ take i book ++ entry ∷ []
take-found book i entry found = ap (λ (n : ℕ). take n book) (one_more i) ∙ take-next book i entry found

-- where the same is known of a number, the entries there are the same
pub same-shown : (known others : Known) (book other : List Entry) (i : ℕ) → shown known ≡ book → shown others ≡ other
    → i < length book → slice_get known i ≡ slice_get others i
    → take i book ≡ take i other → take (i + 1) book ≡ take (i + 1) other
same-shown known others book other i view other_view within same before =
    take-found book i it.0.1 here ∙ ap (λ (them : List Entry). them ++ it.0.1 ∷ []) before
    ∙ sym (take-found other i it.0.1 there)
  where
    it : (it : ℕ × Entry) × (slice_get known i ≡ Some it)
    it = some-at known i (rw (← shown-count known, view) within)

    here : slice_get book i ≡ Some it.0.1
    here = rw (← view) (shown-at known i it.0.0 it.0.1 it.1)

    there : slice_get other i ≡ Some it.0.1
    there = rw (← other_view) (shown-at others i it.0.0 it.0.1 (sym same ∙ it.1))

-- the entry of the last cell that is known stands behind the others
pub last-shown : (names : List ℕ) (known : Known) (book : List Entry) (index name : ℕ) (entry : Entry)
    → AreKnownUpTo names known index → shown known ≡ book → slice_get known index ≡ Some (name, entry)
    → (before : List Entry) × (book ≡ before ++ entry ∷ [])
last-shown names known book index name entry upto view found = (
  take index book,
  sym view
      ∙ sym (take-past (index + 1) (shown known) (omega (arith, shown-count known, upto.counted)))
      ∙ take-found (shown known) index entry (shown-at known index name entry found)
      ∙ ap (λ (them : List Entry). take index them ++ entry ∷ []) view,
)
