-- Fronts of a book, and the versions of its entries.
use Rattle.std.proofs.Common.{◌≡◌, ◌∙◌, refl, ap, ℕ, zero, suc, ◌+◌, ◌-◌, ◌≤◌, List, [], ◌∷◌, ◌++◌, length, take, Some}
use Rattle.std.proofs.Common.{arith, le_refl, le_trans, le_of_lt}
use Rattle.std.specs.List.{slice_get}
use Rattle.std.proofs.lemmas.Grind.{fold-append}
use Rattle.std.proofs.lemmas.List.{take_all, take-append-le}
use Rattle.std.proofs.lemmas.Option.{slice_get_within}
use Rattle.fdb_txn.specs.declared.entry.Entry.{Entry}
use Rattle.fdb_txn.specs.book.Book.{add_entry, seen_of, last_version, last_horizon, seen_before}
use Rattle.fdb_txn.specs.book.History.{AreEntries, HorizonsRise}
use Rattle.fdb_txn.specs.laws.SerialMapLaws.{version_after, horizon_after}
use Rattle.fdb_txn.proofs.Exports.{horizons_part, seen_of-push}
use Rattle.fdb_roles.specs.Entries.{IsRising}
use Rattle.fdb_roles.proofs.AllLemmas.{within-item}

-- a front of a list with the next item
pub take-next : {A : Type 0} (xs : List A) (i : ℕ) (x : A) → slice_get xs i ≡ Some x
    → take (suc i) xs ≡ take i xs ++ x ∷ []
take-next [] i x there = cc
take-next (y ∷ ys) zero x there = let same : y ≡ x = cc in ap (λ z. z ∷ []) same
take-next (y ∷ ys) (suc i) x there = ap (λ zs. y ∷ zs) (take-next ys i x there)

-- what was seen before the next entry
pub seen_before-next : (book : List Entry) (i : ℕ) (entry : Entry) → slice_get book i ≡ Some entry
    → seen_before book (suc i) ≡ add_entry (seen_before book i) entry
seen_before-next book i entry there = ap seen_of (take-next book i entry there) ∙ seen_of-push (take i book) entry

-- what was seen before an entry stays so where others come after it
pub seen-front : (front more : List Entry) (i : ℕ) → i ≤ length front
    → seen_before (front ++ more) i ≡ seen_before front i
seen-front front more i within = ap seen_of (take-append-le i front more within)

-- before the last entry all others were
pub seen-before-last : (book : List Entry) (entry : Entry)
    → seen_before (book ++ entry ∷ []) (length book) ≡ seen_of book
seen-before-last book entry =
    seen-front book (entry ∷ []) (length book) (omega arith) ∙ ap seen_of (take_all (length book) book (omega arith))

-- a front of entries
pub entries-take : (resolvers last n : ℕ) (book : List Entry) → AreEntries resolvers last book
    → AreEntries resolvers last (take n book)
entries-take resolvers last zero book entries = tt
entries-take resolvers last (suc n) [] entries = tt
entries-take resolvers last (suc n) (entry ∷ book) entries =
    (entries.0, entries.1, entries.2, entries.3, entries-take resolvers entry.version n book entries.4)

-- a front of a front
pub take-take : {A : Type 0} (xs : List A) (p t : ℕ) → p ≤ t → take p (take t xs) ≡ take p xs
take-take [] zero zero h = refl
take-take [] (suc p) zero h = refl
take-take [] zero (suc t) h = refl
take-take [] (suc p) (suc t) h = refl
take-take (x ∷ xs) zero zero h = refl
take-take (x ∷ xs) (suc p) zero h = absurd (omega (arith, h))
take-take (x ∷ xs) zero (suc t) h = refl
take-take (x ∷ xs) (suc p) (suc t) h = ap (λ ys. x ∷ ys) (take-take xs p t (omega (arith, h)))

-- the last version of a book that grows
pub last-push : (book : List Entry) (entry : Entry) → last_version (book ++ entry ∷ []) ≡ entry.version
last-push book entry = fold-append (λ (last : ℕ) (e : Entry). e.version) 0 book (entry ∷ [])

-- the last horizon of a book that grows
pub last_horizon-push : (book : List Entry) (entry : Entry) → last_horizon (book ++ entry ∷ []) ≡ entry.horizon
last_horizon-push book entry = fold-append (λ (last : ℕ) (e : Entry). e.horizon) 0 book (entry ∷ [])

-- where horizons never fall, one more entry's is no less than the last one
pub last-risen : (book : List Entry) (entry : Entry) → HorizonsRise 0 (book ++ entry ∷ [])
    → last_horizon book ≤ entry.horizon
last-risen book entry rise = ((horizons_part 0 book (entry ∷ [])).0 rise).1.0

-- the last horizon is no greater than the last version
pub horizon-within : (resolvers floor last : ℕ) (book : List Entry) → floor ≤ last → AreEntries resolvers last book
    → horizon_after floor book ≤ version_after last book
horizon-within resolvers floor last [] within entries = within
horizon-within resolvers floor last (entry ∷ book) within entries =
    horizon-within resolvers entry.horizon entry.version book (le_of_lt entries.1.1) entries.4

-- Where horizons never fall, they don't among the first entries,
pub rise-take : (last n : ℕ) (book : List Entry) → HorizonsRise last book → HorizonsRise last (take n book)
rise-take last zero book rise = tt
rise-take last (suc n) [] rise = tt
rise-take last (suc n) (entry ∷ book) rise = (rise.0, rise-take entry.horizon n book rise.1)

-- nor after a lesser horizon
pub rise-lower : (low last : ℕ) (book : List Entry) → low ≤ last → HorizonsRise last book → HorizonsRise low book
rise-lower low last [] lower rise = tt
rise-lower low last (entry ∷ book) lower rise = (le_trans lower rise.0, rise.1)

-- no entry's version is above the last
module _ (book : List Entry) (rising : IsRising book) (i : ℕ) (entry : Entry) (there : slice_get book i ≡ Some entry)
  where
    below-later : (d : ℕ) → i + suc d ≤ length book → entry.version ≤ last_version (take (i + suc d) book)
    below-later zero within =
        let last : last_version (take (suc i) book) ≡ entry.version = ap last_version (take-next book i entry there)
        ∙ last-push (take i book) entry in
        let next : i + 1 ≡ suc i = omega arith in
        rw (next, last) (omega arith)
    below-later (suc d) within =
        let later = within-item book (i + suc d) (omega (arith, within)) in
        let last : last_version (take (suc (i + suc d)) book) ≡ later.0.version = ap last_version
        (take-next book (i + suc d) later.0 later.1) ∙ last-push (take (i + suc d) book) later.0 in
        let next : i + suc (suc d) ≡ suc (i + suc d) = omega arith in
        let before = below-later d (omega (arith, within)) in
        let above = rising (i + suc d) later.0 later.1 in
        rw (next, last) (omega (arith, before, above))

    pub below-last : entry.version ≤ last_version book
    below-last =
        let within = slice_get_within book i entry there in
        let count : i + suc (length book - suc i) ≡ length book = omega (arith, within) in
        let before = below-later (length book - suc i) (omega (arith, count)) in
        rw (count, take_all (length book) book (omega arith)) at before

-- no entry has a version above that of the last one
pub last-above : (resolvers last : ℕ) (book : List Entry) → AreEntries resolvers last book → last
    ≤ version_after last book
last-above resolvers last [] entries = le_refl last
last-above resolvers last (entry ∷ book) entries =
    let rest = last-above resolvers entry.version book entries.4 in
    omega (arith, entries.0, rest)
