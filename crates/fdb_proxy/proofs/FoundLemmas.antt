-- What a resolver finds of its part of a batch is what the rule finds at it.
use Rattle.std.proofs.Common.{◌≡◌, ◌∙◌, sym, ap, ap₂, subst, refl, ℕ, zero, suc, ◌+◌, ◌<◌, ◌≤◌, Bool, true, false, ◌&&◌}
use Rattle.std.proofs.Common.{◌||◌, ◌==◌, nat_lt, List, [], ◌∷◌, length, Some, if◌then◌else◌, ⊎_elim, arith}
use Rattle.std.proofs.Math.Bool.{or-false}
use Rattle.std.proofs.lemmas.Bool.{cases_Bool, both_ways, and_parts, and_left, and_right, or_parts, false_from_ne_true}
use Rattle.std.proofs.lemmas.Bool.{ltb-true, eq-eqb}
use Rattle.fdb_keys.specs.Points.{Point}
use Rattle.fdb_keys.specs.Ranges.{Range, in_set}
use Rattle.fdb_txn.specs.book.Transactions.{Transaction}
use Rattle.fdb_txn.specs.book.Book.{Head, Place, placed, add_places}
use Rattle.fdb_txn.specs.book.History.{IsHistory}
use Rattle.fdb_txn.specs.book.Places.{place_in}
use Rattle.fdb_txn.specs.rules.Owners.{is_asked}
use Rattle.fdb_txn.specs.rules.Admission.{is_fresh, admits}
use Rattle.fdb_txn.specs.rules.Conflicts.{in_conflict_of}
use Rattle.fdb_txn.specs.rules.Resolvers.{IsStateOf}
use Rattle.fdb_txn.proofs.Exports.{finder_is_asked}
use Rattle.fdb_resolver.specs.declared.part.Item.{Item}
use Rattle.fdb_resolver.specs.declared.verdict.Verdict.{Verdict}
use Rattle.fdb_resolver.specs.declared.verdict.Verdict.TheVariants as verdict
use Rattle.fdb_resolver.specs.Rule.{Found, HasNoNewer, IsVerdict, AreVerdicts, IsNewerSet, AreConflicts, finds}
use Rattle.fdb_resolver.specs.Rule.{versions_with}
use Rattle.fdb_resolver.specs.RuleLaws.{IsItemOf}
use Rattle.fdb_resolver.proofs.Exports.{found_by_the_book, verdicts_are_by_the_book, places_keep_state}
use Rattle.fdb_proxy.specs.Parting.{AreItems}
use Rattle.fdb_proxy.specs.Verdicts.{asks_about, found_at}
use Rattle.fdb_proxy.specs.VerdictLaws.{BatchesAreFoundByTheRule, UnaskedFindNothing}
use Rattle.fdb_proxy.proofs.OutcomeLemmas.{apart}
use Rattle.fdb_proxy.proofs.VerdictLemmas.{history-before, keeps-unasked}

nothing-here : (same later : Bool) → ((same && false) || later) ≡ later
nothing-here true later = refl
nothing-here false later = refl

-- which places are fresh, by what is said of them
old-by_book : (fresh admitted : Bool)
    → verdict.Old ≡ (if fresh then (if admitted then verdict.Yes else verdict.Conflict) else verdict.Old)
    → fresh ≡ false
old-by_book true true is = cc
old-by_book true false is = cc
old-by_book false admitted is = refl

conflict-by_book : (fresh admitted : Bool)
    → verdict.Conflict ≡ (if fresh then (if admitted then verdict.Yes else verdict.Conflict) else verdict.Old)
    → fresh ≡ true
conflict-by_book true admitted is = refl
conflict-by_book false admitted is = cc

none-newer : (f : Point → ℕ) (reads : List Range) (version : ℕ) → HasNoNewer f reads version
    → (x : Point) → (in_set reads x && nat_lt version (f x)) ≡ false
none-newer f reads version none x = false_from_ne_true _ (λ both.
    let parts = and_parts (in_set reads x) (nat_lt version (f x)) both in
    let bounded = none x parts.0 in let newer = ltb-true version (f x) parts.1 in absurd
    (omega (arith, bounded, newer)))

-- what resolver i finds of a batch
module _ (splits : List Point) (head : Head) (i : ℕ) where
  -- Of the places from number n on just those points were found that the rule finds, and of those before it none.
  abbrev pub AreFoundFrom : ℕ → List Transaction → List Place → Found → Type 0
  AreFoundFrom n batch earlier found =
      ((q : ℕ) (x : Point) → q < n → finds q found x ≡ false)
      × ((k : ℕ) (x : Point) → finds (n + k) found x ≡ found_at splits i (place_in head n batch earlier k) x)

  -- one more place in front, of which just what the rule finds was found
  found-step : (n : ℕ) (t : Transaction) (ts : List Transaction) (earlier : List Place) (found next : Found)
      → ((q : ℕ) (x : Point) → finds q next x
      ≡ (((n == q) && found_at splits i (Some (placed head n t, earlier)) x) || finds q found x))
      → AreFoundFrom (suc n) ts (placed head n t ∷ earlier) found → AreFoundFrom n (t ∷ ts) earlier next
  found-step n t ts earlier found next more rest = (before, onward)
    where
      here : Point → Bool
      here x = found_at splits i (Some (placed head n t, earlier)) x

      before : (q : ℕ) (x : Point) → q < n → finds q next x ≡ false
      before q x below =
          more q x
          ∙ ap₂ (λ (same later : Bool). (same && here x) || later)
          (apart n q (λ same. absurd (omega (arith, same))))
          (rest.0 q x (omega arith))

      onward : (k : ℕ) (x : Point)
          → finds (n + k) next x ≡ found_at splits i (place_in head n (t ∷ ts) earlier k) x
      onward zero x =
          more (n + 0) x
          ∙ ap₂ (λ (same later : Bool). (same && here x) || later) (eq-eqb n (n + 0) (omega arith))
          (rest.0 (n + 0) x (omega arith))
          ∙ or-false (here x)
      onward (suc k) x =
          let behind : n + suc k ≡ suc n + k = omega arith in
          more (n + suc k) x
          ∙ ap₂ (λ (same later : Bool). (same && here x) || later)
          (apart n (n + suc k) (λ same. absurd (omega (arith, same))))
          (ap (λ (q : ℕ). finds q found x) behind ∙ rest.1 k x)

  -- nothing was found of it, where the rule finds nothing
  found-none : (n : ℕ) (t : Transaction) (ts : List Transaction) (earlier : List Place) (found : Found)
      → ((x : Point) → found_at splits i (Some (placed head n t, earlier)) x ≡ false)
      → AreFoundFrom (suc n) ts (placed head n t ∷ earlier) found → AreFoundFrom n (t ∷ ts) earlier found
  found-none n t ts earlier found none rest =
      found-step n t ts earlier found found
      (λ q x. sym (ap (λ (here : Bool). ((n == q) && here) || finds q found x) (none x)
      ∙ nothing-here (n == q) (finds q found x)))
      rest

  -- what was found of it is one set
  found-one : (n : ℕ) (t : Transaction) (ts : List Transaction) (earlier : List Place) (one : ℕ × List Range)
      (found : Found)
      → one.0 ≡ n → ((x : Point) → in_set one.1 x ≡ found_at splits i (Some (placed head n t, earlier)) x)
      → AreFoundFrom (suc n) ts (placed head n t ∷ earlier) found → AreFoundFrom n (t ∷ ts) earlier (one ∷ found)
  found-one n t ts earlier one found number is rest =
      found-step n t ts earlier found (one ∷ found)
      (λ q x. ap₂ (λ (p : ℕ) (inside : Bool). ((p == q) && inside) || finds q found x) number (is x))
      rest

  -- a place about which it isn't asked
  unasked-nothing : (place : Place) (earlier : List Place) → IsHistory (suc (length splits)) (place ∷ earlier)
      → is_asked splits i place ≡ false → (x : Point) → found_at splits i (Some (place, earlier)) x ≡ false
  unasked-nothing place earlier history unasked x = false_from_ne_true _ (λ both.
      let parts = and_parts (is_fresh place) (in_conflict_of splits i earlier place x) both in
      both_ways _ unasked (finder_is_asked splits i earlier place x history parts.0 parts.1).1)

  unasked-batch : (batch : List Transaction) (earlier : List Place) (n : ℕ)
      → IsHistory (suc (length splits)) (add_places head n batch earlier)
      → asks_about splits head i n batch ≡ false → AreFoundFrom n batch earlier []
  unasked-batch [] earlier n history unasked = ((λ q x below. refl), (λ k x. refl))
  unasked-batch (t ∷ ts) earlier n history unasked =
      let place = placed head n t in
      let parts = or_parts (is_asked splits i place) (asks_about splits head i (suc n) ts) unasked in
      found-none n t ts earlier []
      (unasked-nothing place earlier
      (history-before (suc (length splits)) head (suc n) ts (place ∷ earlier) history) parts.0)
      (unasked-batch ts (place ∷ earlier) (suc n) history parts.1)

  -- by a state that answers from a floor on
  module _ (floor : ℕ) (reached_back : floor ≤ head.horizon) where
    -- Of such items after the earlier places, just what the rule finds is found.
    abbrev Finds : ℕ → List Transaction → List Place → List Item → Type 0
    Finds n batch earlier items =
        (f : Point → ℕ) (answers : List (ℕ × Verdict)) (found : Found) → IsStateOf splits i earlier floor f
        → AreVerdicts head.version head.horizon f items answers → AreConflicts head.version f items answers found
        → AreFoundFrom n batch earlier found

    -- one more place, with its item, by the versions f
    module _ (t : Transaction) (earlier : List Place) (n : ℕ) (item : Item)
        (history : IsHistory (suc (length splits)) (placed head n t ∷ earlier))
        (of_place : IsItemOf splits i (placed head n t) item) (f : Point → ℕ)
        (state : IsStateOf splits i earlier floor f) where
      is_newer : is_fresh (placed head n t) ≡ true → (x : Point)
          → (in_set item.reads x && nat_lt item.read_version (f x))
          ≡ in_conflict_of splits i earlier (placed head n t) x
      is_newer fresh x =
          found_by_the_book splits i (placed head n t) earlier floor f item history state reached_back of_place fresh x

      yes-nothing : IsVerdict head.horizon f item verdict.Yes
          → (x : Point) → found_at splits i (Some (placed head n t, earlier)) x ≡ false
      yes-nothing is x = ⊎_elim
          (λ fresh. and_right (is_fresh (placed head n t)) _
          (sym (is_newer fresh x) ∙ none-newer f item.reads item.read_version is.1 x))
          (λ old. and_left (is_fresh (placed head n t)) _ old)
          (cases_Bool (is_fresh (placed head n t)))

      old-nothing : IsVerdict head.horizon f item verdict.Old
          → (x : Point) → found_at splits i (Some (placed head n t, earlier)) x ≡ false
      old-nothing is x = and_left (is_fresh (placed head n t)) _
          (old-by_book _ _ (verdicts_are_by_the_book splits i (placed head n t) earlier floor f item verdict.Old history
          state reached_back of_place is))

      conflict-found : IsVerdict head.horizon f item verdict.Conflict → (set : List Range) → IsNewerSet f item set
          → (x : Point) → in_set set x ≡ found_at splits i (Some (placed head n t, earlier)) x
      conflict-found is set newer x =
          let fresh = conflict-by_book (is_fresh (placed head n t)) (admits splits i earlier (placed head n t))
          (verdicts_are_by_the_book splits i (placed head n t) earlier floor f item verdict.Conflict history
          state reached_back of_place is) in
          newer x ∙ is_newer fresh x
          ∙ sym (ap (λ (b : Bool). b && in_conflict_of splits i earlier (placed head n t) x) fresh)

      keeps : (v : Verdict) → IsVerdict head.horizon f item v
          → IsStateOf splits i (placed head n t ∷ earlier) floor (versions_with head.version item v f)
      keeps v is =
          places_keep_state splits i (placed head n t) earlier floor f item v history state reached_back of_place is

    finds-more : (t : Transaction) (ts : List Transaction) (earlier : List Place) (n : ℕ) (item : Item)
        (items : List Item)
        → IsHistory (suc (length splits)) (placed head n t ∷ earlier) → item.place ≡ n
        → IsItemOf splits i (placed head n t) item → Finds (suc n) ts (placed head n t ∷ earlier) items
        → Finds n (t ∷ ts) earlier (item ∷ items)
    finds-more t ts earlier n item items history number of_place rest f [] found state are conflicts = absurd are
    finds-more t ts earlier n item items history number of_place rest f ((p, verdict.Yes) ∷ answers) found state are
        conflicts =
        found-none n t ts earlier found (yes-nothing t earlier n item history of_place f state are.1)
        (rest (versions_with head.version item verdict.Yes f) answers found
        (keeps t earlier n item history of_place f state verdict.Yes are.1) are.2 conflicts)
    finds-more t ts earlier n item items history number of_place rest f ((p, verdict.Old) ∷ answers) found state are
        conflicts =
        found-none n t ts earlier found (old-nothing t earlier n item history of_place f state are.1)
        (rest (versions_with head.version item verdict.Old f) answers found
        (keeps t earlier n item history of_place f state verdict.Old are.1) are.2 conflicts)
    finds-more t ts earlier n item items history number of_place rest f ((p, verdict.Conflict) ∷ answers) [] state are
        conflicts = absurd conflicts
    finds-more t ts earlier n item items history number of_place rest f ((p, verdict.Conflict) ∷ answers)
        (one ∷ found) state are conflicts =
        found-one n t ts earlier one found (conflicts.0 ∙ number)
        (conflict-found t earlier n item history of_place f state are.1 one.1 conflicts.1)
        (rest (versions_with head.version item verdict.Conflict f) answers found
        (keeps t earlier n item history of_place f state verdict.Conflict are.1) are.2 conflicts.2)

    finds-batch : (batch : List Transaction) (earlier : List Place) (n : ℕ) (items : List Item)
        → IsHistory (suc (length splits)) (add_places head n batch earlier)
        → AreItems splits head i n batch items → Finds n batch earlier items
    finds-batch [] earlier n items history are = λ f answers found state verdicts conflicts.
        let none : found ≡ [] =
        subst (λ (its : List Item). AreConflicts head.version f its answers found) are conflicts in (
          (λ q x below. ap (λ (all : Found). finds q all x) none),
          (λ k x. ap (λ (all : Found). finds (n + k) all x) none),
        )
    finds-batch (t ∷ ts) earlier n items history are =
        let place = placed head n t in
        let now = history-before (suc (length splits)) head (suc n) ts (place ∷ earlier) history in
        ⊎_elim
        (λ asked.
        let its = asked.1 in
        subst (λ (all : List Item). Finds n (t ∷ ts) earlier all) (sym its.2)
        (finds-more t ts earlier n its.0 its.1 now its.3 its.4
        (finds-batch ts (place ∷ earlier) (suc n) its.1 history its.5)))
        (λ unasked.
        λ f answers found state verdicts conflicts.
        found-none n t ts earlier found (unasked-nothing place earlier now unasked.0)
        (finds-batch ts (place ∷ earlier) (suc n) items history unasked.1 f answers found
        (keeps-unasked splits i place earlier floor f now unasked.0 state) verdicts conflicts))
        are

pub batches_are_found_by_the_rule : BatchesAreFoundByTheRule
batches_are_found_by_the_rule splits head i batch earlier items answers found floor f history state reached_back its
    verdicts conflicts p x =
    let are = finds-batch splits head i floor reached_back batch earlier 0 items history its f answers found state
    verdicts conflicts in
    let same : p ≡ 0 + p = omega arith in
    ap (λ (q : ℕ). finds q found x) same ∙ are.1 p x

-- who isn't asked finds nothing by the rule
pub unasked_find_nothing : UnaskedFindNothing
unasked_find_nothing splits head i batch earlier history unasked p x =
    let are = unasked-batch splits head i batch earlier 0 history unasked in
    let same : p ≡ 0 + p = omega arith in
    ap (λ (q : ℕ). finds q [] x) same ∙ are.1 p x
