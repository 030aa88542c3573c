-- Where a request can't stand.
use Rattle.std.proofs.Common.{◌≡◌, sym, ap, subst, ◌<◌, ◌≤◌, ℕ, zero, suc, List, [], ◌∷◌, take, drop, Some, None}
use Rattle.std.proofs.Common.{slice_get, arith}
use Rattle.std.specs.List.{AllByRecursion}
use Rattle.std.proofs.lemmas.List.{take-append-drop}
use Rattle.fdb_keys.proofs.Exports.{all-append}
use Rattle.fdb_txn.specs.declared.entry.Entry.{Entry}
use Rattle.fdb_txn.specs.book.History.{AreEntries}
use Rattle.fdb_txn.specs.book.Transactions.{Transaction, NamesWrites}
use Rattle.fdb_sections.specs.Absent.{IsNotAmong, IsNowhere}

-- who read at a version or above it is none of those who read below it
not-among : (t : Transaction) (version : ℕ) → version ≤ t.read → (batch : List Transaction)
    → AllByRecursion (λ (other : Transaction). (other.read < version) × NamesWrites other) batch → IsNotAmong t batch
not-among t version within [] reads = tt
not-among t version within (other ∷ batch) reads = (
  λ same. let at : other.read ≡ t.read = ap (λ (it : Transaction). it.read) same in
      omega (arith, at, within, reads.0.0),
  not-among t version within batch reads.1,
)

-- it stands in no entry up to one that isn't above the version that it read at
up-to : (resolvers last : ℕ) (t : Transaction) (book : List Entry) → AreEntries resolvers last book
    → (k : ℕ) (entry : Entry) → slice_get book k ≡ Some entry → entry.version ≤ t.read
    → IsNowhere t (take (suc k) book) × (last < entry.version)
up-to resolvers last t [] entries k entry is within = absurd (let wrong : None ≡ Some entry = is in cc)
up-to resolvers last t (first ∷ book) entries zero entry is within =
    let same : first ≡ entry = cc (is) in
    let version = ap (λ (it : Entry). it.version) same in (
      (not-among t first.version (omega (arith, version, within)) first.batch entries.3, tt),
      omega (arith, entries.0, version),
    )
up-to resolvers last t (first ∷ book) entries (suc k) entry is within =
    let rest = up-to resolvers first.version t book entries.4 k entry is within in (
      (not-among t first.version (omega (arith, rest.1, within)) first.batch entries.3, rest.0),
      omega (arith, entries.0, rest.1),
    )

-- so it stands nowhere if it stands in none after that entry
pub nowhere-below : (resolvers : ℕ) (t : Transaction) (book : List Entry) → AreEntries resolvers 0 book
    → (k : ℕ) (entry : Entry) → slice_get book k ≡ Some entry → entry.version ≤ t.read
    → IsNowhere t (drop (suc k) book) → IsNowhere t book
nowhere-below resolvers t book entries k entry is within later =
    subst (IsNowhere t) (take-append-drop (suc k) book)
    (all-append (λ (it : Entry). IsNotAmong t it.batch) (take (suc k) book) (drop (suc k) book)
    (up-to resolvers 0 t book entries k entry is within).0 later)

-- it stands in none from an entry on that it isn't in, if it stands in none after that entry
pub nowhere-from : (t : Transaction) (book : List Entry) (k : ℕ) (entry : Entry) → slice_get book k ≡ Some entry
    → IsNotAmong t entry.batch → IsNowhere t (drop (suc k) book) → IsNowhere t (drop k book)
nowhere-from t [] k entry is none later = absurd (let wrong : None ≡ Some entry = is in cc)
nowhere-from t (first ∷ book) zero entry is none later =
    let same : first ≡ entry = cc (is) in
    (subst (λ (it : Entry). IsNotAmong t it.batch) (sym same) none, later)
nowhere-from t (first ∷ book) (suc k) entry is none later = nowhere-from t book k entry is none later
