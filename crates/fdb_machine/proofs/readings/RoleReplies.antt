-- What resolvers say of the places of an entry, and proxies of their batches, is by the rule.
use Rattle.std.proofs.Common.{◌≡◌, ◌∙◌, ◌↔◌, ◌<◌, ◌≤◌, le_refl, refl, sym, ap, arith, ℕ, zero, suc, ◌+◌, Bool, true}
use Rattle.std.proofs.Common.{false, cond, List, [], ◌∷◌, length, take, Some, None, if◌then◌else◌}
use Rattle.std.specs.Prelude.{nat_le, not, ◌&&◌, ◌||◌}
use Rattle.std.specs.List.{slice_get, count_by}
use Rattle.std.proofs.lemmas.Bool.{lt-leb, le-leb}
use Rattle.std.proofs.lemmas.List.Sums.{sum_by-cons}
use Rattle.fdb_keys.specs.Points.{Point}
use Rattle.fdb_txn.specs.declared.entry.Entry.{Entry}
use Rattle.fdb_txn.specs.book.Book.{Head, Place, placed}
use Rattle.fdb_txn.specs.book.History.{AreEntries}
use Rattle.fdb_txn.specs.book.Places.{place_in}
use Rattle.fdb_txn.specs.book.Transactions.{Transaction}
use Rattle.fdb_txn.specs.laws.SerialMapLaws.{version_after}
use Rattle.fdb_txn.specs.rules.Admission.{is_fresh, admits}
use Rattle.fdb_txn.specs.rules.Owners.{is_asked}
use Rattle.fdb_resolver.specs.declared.verdict.Verdict.{Verdict}
use Rattle.fdb_resolver.specs.declared.verdict.Verdict.TheVariants as verdict
use Rattle.fdb_proxy.specs.Verdicts.{verdict_at, verdicts_from, asks_about}
use Rattle.fdb_roles.proofs.Exports.{last-above}
use Rattle.fdb_machine.specs.headline.Answers.{IsVerdictByRule}
use Rattle.fdb_machine.specs.machine.Machine.{is_set, first_missing}

-- a verdict is the rule's
pub verdict-by-rule : (splits : List Point) (resolver : ℕ) (earlier : List Place) (place : Place)
    → IsVerdictByRule splits resolver (place, earlier) (verdict_at splits resolver earlier place)
verdict-by-rule splits resolver earlier place =
    let by = by_cases (is_fresh place) (admits splits resolver earlier place) in
    record { is_old = by.0; admits_it = by.1; conflicts = by.2 }
  where
    by_cases : (fresh free : Bool)
        → let said = if fresh then (if free then verdict.Yes else verdict.Conflict) else verdict.Old in
        ((said ≡ verdict.Old) ↔ (fresh ≡ false))
        × ((said ≡ verdict.Yes) ↔ ((fresh ≡ true) × (free ≡ true)))
        × ((said ≡ verdict.Conflict) ↔ ((fresh ≡ true) × (free ≡ false)))
    by_cases false free =
        ((λ is. refl, λ is. refl), (λ is. cc, λ is. let fresh = is.0 in cc), (λ is. cc, λ is. let fresh = is.0 in cc))
    by_cases true true =
        ((λ is. cc, λ is. cc), (λ is. (refl, refl), λ is. refl), (λ is. cc, λ is. let free = is.1 in cc))
    by_cases true false =
        ((λ is. cc, λ is. cc), (λ is. cc, λ is. let free = is.1 in cc), (λ is. (refl, refl), λ is. refl))

module _ (splits : List Point) (head : Head) (resolver : ℕ) where
  abbrev said_from : List Transaction → List Place → ℕ → List (ℕ × Verdict)
  said_from batch earlier n = verdicts_from splits head resolver batch earlier n

  -- a place about which the resolver is asked, with what it says there
  abbrev SaidAt : List Transaction → List Place → (n p : ℕ) → Verdict → Type 0
  SaidAt batch earlier n p said =
      (q : ℕ) × (p ≡ n + q) × (there : Place × List Place)
      × (place_in head n batch earlier q ≡ Some there) × (is_asked splits resolver there.0 ≡ true)
      × (said ≡ verdict_at splits resolver there.1 there.0)

  -- what is said is said of a place about which the resolver is asked
  pub said-at : (batch : List Transaction) (earlier : List Place) (n k p : ℕ) (said : Verdict)
      → slice_get (said_from batch earlier n) k ≡ Some (p, said) → SaidAt batch earlier n p said
  said-at [] earlier n k p said at = cc
  said-at (t ∷ batch) earlier n k p said at =
      by_asked (is_asked splits resolver place) refl
      (λ k there.
      let found = said-at batch (place ∷ earlier) (suc n) k p said there in
      let number : suc n + found.0 ≡ n + suc found.0 = omega arith in
      (suc found.0, found.1 ∙ number, found.2, found.3, found.4, found.5))
      k at
    where
      place : Place
      place = placed head n t

      own : ℕ × Verdict
      own = (n, verdict_at splits resolver earlier place)

      rest : List (ℕ × Verdict)
      rest = said_from batch (place ∷ earlier) (suc n)

      by_asked : (asked : Bool) → is_asked splits resolver place ≡ asked
          → ((k : ℕ) → slice_get rest k ≡ Some (p, said) → SaidAt (t ∷ batch) earlier n p said) → (k : ℕ)
          → slice_get (if asked then own ∷ rest else rest) k ≡ Some (p, said) → SaidAt (t ∷ batch) earlier n p said
      by_asked true asked later zero there =
          let same : Path (ℕ × Verdict) own (p, said) = cc in
          let number : n ≡ n + 0 = omega arith in (
            0,
            sym (ap (λ (it : ℕ × Verdict). it.0) same) ∙ number,
            (place, earlier),
            refl,
            asked,
            sym (ap (λ (it : ℕ × Verdict). it.1) same),
          )
      by_asked true asked later (suc k) there = later k there
      by_asked false asked later k there = later k there

  -- and something is said of each of them
  pub said-of : (batch : List Transaction) (earlier : List Place) (n q : ℕ) (there : Place × List Place)
      → place_in head n batch earlier q ≡ Some there → is_asked splits resolver there.0 ≡ true
      → (k : ℕ) × (slice_get (said_from batch earlier n) k
      ≡ Some (n + q, verdict_at splits resolver there.1 there.0))
  said-of [] earlier n q there at asked = cc
  said-of (t ∷ batch) earlier n zero there at asked =
      let same : Path (Place × List Place) (placed head n t, earlier) there = cc in
      let number : n + 0 ≡ n = omega arith in
      let own : is_asked splits resolver (placed head n t) ≡ true =
      ap (λ (it : Place × List Place). is_asked splits resolver it.0) same ∙ asked in (
        0,
        rw own (λ i. Some (sym number i, verdict_at splits resolver (same i).1 (same i).0)),
      )
  said-of (t ∷ batch) earlier n (suc q) there at asked =
      let found = said-of batch (placed head n t ∷ earlier) (suc n) q there at asked in
      let number : suc n + q ≡ n + suc q = omega arith in
      by_asked (is_asked splits resolver (placed head n t)) found.0
      (found.1 ∙ ap (λ (p : ℕ). Some (p, verdict_at splits resolver there.1 there.0)) number)
    where
      own : ℕ × Verdict
      own = (n, verdict_at splits resolver earlier (placed head n t))

      rest : List (ℕ × Verdict)
      rest = said_from batch (placed head n t ∷ earlier) (suc n)

      by_asked : (asked : Bool) (k : ℕ)
          → slice_get rest k ≡ Some (n + suc q, verdict_at splits resolver there.1 there.0)
          → (k : ℕ) × (slice_get (if asked then own ∷ rest else rest) k
          ≡ Some (n + suc q, verdict_at splits resolver there.1 there.0))
      by_asked true k is = (suc k, is)
      by_asked false k is = (k, is)

  -- one after another, by place
  pub said-rises : (batch : List Transaction) (earlier : List Place) (n i j : ℕ) (one other : ℕ × Verdict)
      → i < j → slice_get (said_from batch earlier n) i ≡ Some one → slice_get (said_from batch earlier n) j
      ≡ Some other
      → one.0 < other.0
  said-rises [] earlier n i j one other before at_one at_other = cc
  said-rises (t ∷ batch) earlier n i j one other before at_one at_other =
      by_asked (is_asked splits resolver place)
      (λ i j. said-rises batch (place ∷ earlier) (suc n) i j one other) i j before at_one at_other
    where
      place : Place
      place = placed head n t

      rest : List (ℕ × Verdict)
      rest = said_from batch (place ∷ earlier) (suc n)

      own : ℕ × Verdict
      own = (n, verdict_at splits resolver earlier place)

      by_asked : (asked : Bool)
          → ((i j : ℕ) → i < j → slice_get rest i ≡ Some one → slice_get rest j ≡ Some other → one.0 < other.0)
          → (i j : ℕ) → i < j → slice_get (if asked then own ∷ rest else rest) i ≡ Some one
          → slice_get (if asked then own ∷ rest else rest) j ≡ Some other → one.0 < other.0
      by_asked true rises zero zero before at_one at_other = absurd (omega (arith, before))
      by_asked true rises zero (suc j) before at_one at_other =
          let same : Path (ℕ × Verdict) own one = cc in
          let number : n ≡ one.0 = ap (λ (it : ℕ × Verdict). it.0) same in
          let found = said-at batch (place ∷ earlier) (suc n) j other.0 other.1 at_other in
          omega (arith, number, found.1)
      by_asked true rises (suc i) zero before at_one at_other = absurd (omega (arith, before))
      by_asked true rises (suc i) (suc j) before at_one at_other = rises i j (omega (arith, before)) at_one at_other
      by_asked false rises i j before at_one at_other = rises i j before at_one at_other

  -- who is asked about a place is asked
  pub asked-about : (batch : List Transaction) (earlier : List Place) (n q : ℕ) (there : Place × List Place)
      → place_in head n batch earlier q ≡ Some there → is_asked splits resolver there.0 ≡ true
      → asks_about splits head resolver n batch ≡ true
  asked-about [] earlier n q there at asked = cc
  asked-about (t ∷ batch) earlier n zero there at asked =
      let same : Path (Place × List Place) (placed head n t, earlier) there = cc in
      let own : is_asked splits resolver (placed head n t) ≡ true =
      ap (λ (it : Place × List Place). is_asked splits resolver it.0) same ∙ asked in rw own refl
  asked-about (t ∷ batch) earlier n (suc q) there at asked =
      either (is_asked splits resolver (placed head n t))
      (asked-about batch (placed head n t ∷ earlier) (suc n) q there at asked)
    where
      either : (own : Bool) → asks_about splits head resolver (suc n) batch ≡ true
          → (own || asks_about splits head resolver (suc n) batch) ≡ true
      either true rest = refl
      either false rest = rest

-- where none is missing, what is needed is there
pub none-missing : (needed : ℕ → Bool) (n : ℕ) (flags : List Bool) (k : ℕ) → first_missing needed n flags ≡ None
    → k < length flags → needed (n + k) ≡ true → is_set flags k ≡ true
none-missing needed n [] k none within asked = absurd (omega (arith, within))
none-missing needed n (flag ∷ flags) zero none within asked =
    let number : n + 0 ≡ n = omega arith in
    first flag (ap needed (sym number) ∙ asked) none
  where
    first : (flag : Bool) → needed n ≡ true
        → (if needed n && not flag then Some n else first_missing needed (suc n) flags) ≡ None → flag ≡ true
    first true is none = refl
    first false is none =
        let some : Some n ≡ None = sym (rw is refl) ∙ none in cc
none-missing needed n (flag ∷ flags) (suc k) none within asked =
    let number : suc n + k ≡ n + suc k = omega arith in
    none-missing needed (suc n) flags k (rest (needed n && not flag) none) (omega (arith, within))
    (ap needed number ∙ asked)
  where
    rest : (missing : Bool) → (if missing then Some n else first_missing needed (suc n) flags) ≡ None
        → first_missing needed (suc n) flags ≡ None
    rest true none = cc
    rest false none = none

-- ---- how many entries are of versions up to one

-- 1 where the entry is of a version up to it, else 0
abbrev counted : ℕ → Entry → ℕ
counted v entry = cond (nat_le entry.version v) 1 0

none-up-to : (resolvers last v : ℕ) (book : List Entry) → AreEntries resolvers last book → v ≤ last
    → count_by (λ (entry : Entry). nat_le entry.version v) book ≡ 0
none-up-to resolvers last v [] entries low = refl
none-up-to resolvers last v (entry ∷ book) entries low =
    let above : last < entry.version = entries.0 in
    let later : v < entry.version = omega (arith, low, above) in
    let first : counted v entry ≡ 0 = rw (lt-leb entry.version v later) refl in
    let rest = none-up-to resolvers entry.version v book entries.4 (omega (arith, low, above)) in
    omega (arith, sum_by-cons (counted v) entry book, first, rest)

pub count-up-to : (resolvers last : ℕ) (book : List Entry) (n : ℕ) → AreEntries resolvers last book → n ≤ length book
    → count_by (λ (entry : Entry). nat_le entry.version (version_after last (take n book))) book ≡ n
count-up-to resolvers last [] zero entries within = refl
count-up-to resolvers last [] (suc n) entries within = absurd (omega (arith, within))
count-up-to resolvers last (entry ∷ book) zero entries within =
    none-up-to resolvers last last (entry ∷ book) entries (le_refl last)
count-up-to resolvers last (entry ∷ book) (suc n) entries within =
    let there : entry.version ≤ version_after entry.version (take n book) =
    last-above resolvers entry.version (take n book) (first-entries resolvers entry.version n book entries.4) in
    let v : ℕ = version_after entry.version (take n book) in
    let first : counted v entry ≡ 1 = rw (le-leb entry.version v there) refl in
    let rest = count-up-to resolvers entry.version book n entries.4 (omega (arith, within)) in
    omega (arith, sum_by-cons (counted v) entry book, first, rest)
  where
    first-entries : (resolvers last n : ℕ) (book : List Entry) → AreEntries resolvers last book
        → AreEntries resolvers last (take n book)
    first-entries resolvers last zero book entries = tt
    first-entries resolvers last (suc n) [] entries = tt
    first-entries resolvers last (suc n) (e ∷ book) entries =
        (entries.0, entries.1, entries.2, entries.3, first-entries resolvers e.version n book entries.4)
