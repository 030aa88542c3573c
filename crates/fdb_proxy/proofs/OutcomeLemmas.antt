-- Verdicts by the rule decide each place as the rule does.
use Rattle.std.proofs.Common.{◌≡◌, ◌∙◌, ◌↔◌, refl, sym, ap, ap₂, subst, ℕ, suc, ◌<◌, ◌≤◌, Bool, true, false, not, ◌&&◌}
use Rattle.std.proofs.Common.{◌||◌, ◌==◌, List, [], ◌∷◌, length, map, slice_get, Option, Some, None, if◌then◌else◌}
use Rattle.std.proofs.Common.{⊎_elim, arith, add-one}
use Rattle.std.specs.List.{list_any, range_with_len}
use Rattle.std.proofs.Math.Bool.{or-false}
use Rattle.std.proofs.lemmas.Bool.{cases_Bool, both_ways, and_parts, and_from, or_cases, or_parts, not-true}
use Rattle.std.proofs.lemmas.Bool.{not_from_false, false_from_ne_true, eqb-true, eq-eqb}
use Rattle.std.proofs.lemmas.Option.{slice_get_within, slice_get_cases}
use Rattle.std.proofs.lemmas.Map.Keys.{any_passes_from_place}
use Rattle.fdb_keys.specs.Points.{Point}
use Rattle.fdb_txn.specs.book.Transactions.{Transaction}
use Rattle.fdb_txn.specs.book.Book.{Head, Place, head_of, placed, add_places}
use Rattle.fdb_txn.specs.book.History.{IsHistory}
use Rattle.fdb_txn.specs.laws.AdmissionLaws.{IsAmongAsked}
use Rattle.fdb_txn.specs.rules.Owners.{is_asked}
use Rattle.fdb_txn.specs.rules.Admission.{is_fresh, admits, committed}
use Rattle.fdb_txn.proofs.Exports.{committed_by_the_asked, old_is_asked}
use Rattle.fdb_resolver.specs.declared.verdict.Verdict.{Verdict}
use Rattle.fdb_resolver.specs.declared.verdict.Verdict.TheVariants as verdict
use Rattle.fdb_proxy.specs.declared.outcome.Outcome.{Outcome}
use Rattle.fdb_proxy.specs.declared.outcome.Outcome.TheVariants as outcome
use Rattle.fdb_proxy.specs.Deciding.{Said, heard_of, is_said, is_old, is_conflict, outcome_by}
use Rattle.fdb_proxy.specs.Verdicts.{verdict_at, verdicts_from, asks_about, outcome_at, outcomes_from}
use Rattle.fdb_proxy.specs.VerdictLaws.{AreByTheRule, BatchesAreDecidedByTheRule, EntriesAreDecidedByTheRule}
use Rattle.fdb_proxy.proofs.VerdictLemmas.{history-before}

-- what passes a test stands somewhere in the list
pub place_of-any : {A : Type 0} (test : A → Bool) (xs : List A) → list_any test xs ≡ true
    → (i : ℕ) × (x : A) × (slice_get xs i ≡ Some x) × (test x ≡ true)
place_of-any test [] some = cc
place_of-any test (x ∷ xs) some = ⊎_elim
    (λ here. (0, x, refl, here))
    (λ later. let found = place_of-any test xs later in (suc found.0, found.1, found.2, found.3))
    (or_cases (test x) (list_any test xs) some)

-- the verdict by whether the place is fresh and admitted
abbrev by_rule : Bool → Bool → Verdict
by_rule fresh admitted = if fresh then (if admitted then verdict.Yes else verdict.Conflict) else verdict.Old

old-by_rule : (fresh admitted : Bool) → is_old (by_rule fresh admitted) ≡ not fresh
old-by_rule true true = refl
old-by_rule true false = refl
old-by_rule false admitted = refl

conflict-by_rule : (fresh admitted : Bool) → is_conflict (by_rule fresh admitted) ≡ fresh && not admitted
conflict-by_rule true true = refl
conflict-by_rule true false = refl
conflict-by_rule false admitted = refl

-- the outcome of what is said, and that of the rule, by the tests of which they speak
same-outcome : (version p : ℕ) (old conflict fresh all : Bool) → old ≡ not fresh
    → (fresh ≡ true → conflict ≡ not all)
    → (if old then outcome.Old else (if conflict then outcome.Conflict else outcome.Commit version p))
    ≡ (if fresh then (if all then outcome.Commit version p else outcome.Conflict) else outcome.Old)
same-outcome version p old conflict false all is_old_where conflicts =
    ap (λ (o : Bool). if o then outcome.Old else (if conflict then outcome.Conflict else outcome.Commit version p))
    is_old_where
same-outcome version p old conflict true true is_old_where conflicts =
    ap₂ (λ (o c : Bool). if o then outcome.Old else (if c then outcome.Conflict else outcome.Commit version p))
    is_old_where (conflicts refl)
same-outcome version p old conflict true false is_old_where conflicts =
    ap₂ (λ (o c : Bool). if o then outcome.Old else (if c then outcome.Conflict else outcome.Commit version p))
    is_old_where (conflicts refl)

-- a resolver says this of place q
abbrev mentions : (Verdict → Bool) → ℕ → Said → Bool
mentions test q said = list_any (λ (one : ℕ × Verdict). (one.0 == q) && test one.1) said

mentions-front : (test : Verdict → Bool) (q p : ℕ) (v : Verdict) (asked : Bool) (said : Said)
    → mentions test q (if asked then (p, v) ∷ said else said)
    ≡ ((asked && ((p == q) && test v)) || mentions test q said)
mentions-front test q p v true said = refl
mentions-front test q p v false said = refl

pub apart : (p q : ℕ) → (p ≡ q → ⊥) → p == q ≡ false
apart p q differs = false_from_ne_true _ (λ same. differs (eqb-true p q same))

nothing-here : (asked holds : Bool) → (asked && (false && holds)) ≡ false
nothing-here true holds = refl
nothing-here false holds = refl

-- the rule's verdicts on a batch, from resolver to resolver
module _ (splits : List Point) (head : Head) (test : Verdict → Bool) (i : ℕ) where
  -- those on later places say nothing of an earlier one
  mentions-later_places : (ts : List Transaction) (earlier : List Place) (p q : ℕ) → q < p
      → mentions test q (verdicts_from splits head i ts earlier p) ≡ false
  mentions-later_places [] earlier p q before = refl
  mentions-later_places (t ∷ ts) earlier p q before =
      let place = placed head p t in
      let said = verdicts_from splits head i ts (place ∷ earlier) (suc p) in
      let asked = is_asked splits i place in
      let v = verdict_at splits i earlier place in
      mentions-front test q p v asked said
      ∙ ap₂ (λ (here later : Bool). here || later)
      (ap (λ (same : Bool). asked && (same && test v)) (apart p q (λ same. absurd (omega (arith, same))))
      ∙ nothing-here asked (test v))
      (mentions-later_places ts (place ∷ earlier) (suc p) q (omega arith))

  -- of the first place they say what is said of it
  mentions-first : (t : Transaction) (ts : List Transaction) (earlier : List Place) (p : ℕ)
      → mentions test p (verdicts_from splits head i (t ∷ ts) earlier p)
      ≡ (is_asked splits i (placed head p t) && test (verdict_at splits i earlier (placed head p t)))
  mentions-first t ts earlier p =
      let place = placed head p t in
      let said = verdicts_from splits head i ts (place ∷ earlier) (suc p) in
      let asked = is_asked splits i place in
      let v = verdict_at splits i earlier place in
      mentions-front test p p v asked said
      ∙ ap₂ (λ (same later : Bool). (asked && (same && test v)) || later) (eq-eqb p p refl)
      (mentions-later_places ts (place ∷ earlier) (suc p) p (omega arith))
      ∙ or-false (asked && test v)

  -- of a later place those on the rest do
  mentions-rest : (t : Transaction) (ts : List Transaction) (earlier : List Place) (p q : ℕ) → p < q
      → mentions test q (verdicts_from splits head i (t ∷ ts) earlier p)
      ≡ mentions test q (verdicts_from splits head i ts (placed head p t ∷ earlier) (suc p))
  mentions-rest t ts earlier p q before =
      let place = placed head p t in
      let said = verdicts_from splits head i ts (place ∷ earlier) (suc p) in
      let asked = is_asked splits i place in
      let v = verdict_at splits i earlier place in
      mentions-front test q p v asked said
      ∙ ap (λ (here : Bool). here || mentions test q said)
      (ap (λ (same : Bool). asked && (same && test v)) (apart p q (λ same. absurd (omega (arith, same))))
      ∙ nothing-here asked (test v))

-- who is asked about no place says nothing
silent-unasked : (splits : List Point) (head : Head) (i : ℕ) (ts : List Transaction)
    (earlier : List Place) (p : ℕ) → asks_about splits head i p ts ≡ false
    → verdicts_from splits head i ts earlier p ≡ []
silent-unasked splits head i [] earlier p unasked = refl
silent-unasked splits head i (t ∷ ts) earlier p unasked =
    let place = placed head p t in
    let none = or_parts (is_asked splits i place) (asks_about splits head i (suc p) ts) unasked in
    let said = verdicts_from splits head i ts (place ∷ earlier) (suc p) in
    ap (λ (asked : Bool). if asked then (p, verdict_at splits i earlier place) ∷ said else said) none.0
    ∙ silent-unasked splits head i ts (place ∷ earlier) (suc p) none.1

-- verdicts that came decide the places of a batch
module _ (splits : List Point) (head : Head) (verdicts : List (Option Said)) where
  -- of place p just that is said which resolvers that are asked say of it
  abbrev IsHeard : List Place → Place → ℕ → Type 0
  IsHeard earlier place p =
      (test : Verdict → Bool)
      → (is_said test p verdicts ≡ true) ↔ ((i : ℕ) × IsAmongAsked splits place i
      × (test (verdict_at splits i earlier place) ≡ true))

  -- so it is of each place from number p on
  abbrev AreHeard : List Transaction → List Place → ℕ → Type 0
  AreHeard ts earlier p =
      (test : Verdict → Bool) (q : ℕ) → p ≤ q
      → (is_said test q verdicts ≡ true) ↔ ((i : ℕ) × (i < suc (length splits))
      × (mentions test q (verdicts_from splits head i ts earlier p) ≡ true))

  -- a place of which just that is said is decided by the rule
  module _ (earlier : List Place) (place : Place) (p : ℕ) (history : IsHistory (suc (length splits)) (place ∷ earlier))
      (heard : IsHeard earlier place p) where
    old-where_not_fresh : is_said is_old p verdicts ≡ not (is_fresh place)
    old-where_not_fresh = ⊎_elim
        (λ fresh.
        false_from_ne_true _ (λ said.
        let found = (heard is_old).0 said in
        let isnt : not (is_fresh place) ≡ true = sym (old-by_rule _ _) ∙ found.2 in
        both_ways _ (not-true _ isnt) fresh)
        ∙ sym (ap not fresh))
        (λ old.
        let asked = old_is_asked splits earlier place history old in
        (heard is_old).1 (
          asked.0,
          asked.1,
          old-by_rule (is_fresh place) (admits splits asked.0 earlier place)
              ∙ ap not old,
        )
        ∙ sym (ap not old))
        (cases_Bool (is_fresh place))

    conflict-where_not_committed : is_fresh place ≡ true
        → is_said is_conflict p verdicts ≡ not (committed splits earlier place)
    conflict-where_not_committed fresh = ⊎_elim
        (λ said.
        let found = (heard is_conflict).0 said in
        let isnt = (and_parts (is_fresh place) (not (admits splits found.0 earlier place))
        (sym (conflict-by_rule (is_fresh place) (admits splits found.0 earlier place)) ∙ found.2)).1 in
        said
        ∙ sym (not_from_false _ (false_from_ne_true _ (λ all.
        both_ways _ (not-true _ isnt) ((committed_by_the_asked splits earlier place history).0 all found.0 found.1)))))
        (λ unsaid.
        unsaid
        ∙ sym (ap not ((committed_by_the_asked splits earlier place history).1 (λ i asked. ⊎_elim
        (λ admitted. admitted)
        (λ refused. absurd (both_ways _ unsaid ((heard is_conflict).1 (
          i,
          asked,
          conflict-by_rule (is_fresh place) (admits splits i earlier place)
              ∙ and_from _ _ fresh (not_from_false _ refused),
        ))))
        (cases_Bool (admits splits i earlier place))))))
        (cases_Bool (is_said is_conflict p verdicts))

    outcome-by_rule : outcome_by place.version verdicts p ≡ outcome_at splits earlier place p
    outcome-by_rule = same-outcome place.version p (is_said is_old p verdicts) (is_said is_conflict p verdicts)
        (is_fresh place) (committed splits earlier place) old-where_not_fresh conflict-where_not_committed

  first-heard : (t : Transaction) (ts : List Transaction) (earlier : List Place) (p : ℕ) → AreHeard (t ∷ ts) earlier p
      → IsHeard earlier (placed head p t) p
  first-heard t ts earlier p heard test = (
    λ said.
        let found = (heard test p (omega arith)).0 said in
        let parts = and_parts _ _ (sym (mentions-first splits head test found.0 t ts earlier p) ∙ found.2) in
        (found.0, (found.1, parts.0), parts.1),
    λ given. (heard test p (omega arith)).1 (
      given.0,
      given.1.0,
      mentions-first splits head test given.0 t ts earlier p
          ∙ and_from _ _ given.1.1 given.2,
    ),
  )

  rest-heard : (t : Transaction) (ts : List Transaction) (earlier : List Place) (p : ℕ) → AreHeard (t ∷ ts) earlier p
      → AreHeard ts (placed head p t ∷ earlier) (suc p)
  rest-heard t ts earlier p heard test q later = (
    λ said.
        let found = (heard test q (omega arith)).0 said in
        (found.0, found.1, sym (mentions-rest splits head test found.0 t ts earlier p q later) ∙ found.2),
    λ given. (heard test q (omega arith)).1
        (given.0, given.1, mentions-rest splits head test given.0 t ts earlier p q later ∙ given.2),
  )

  outcomes-by_rule : (ts : List Transaction) (earlier : List Place) (p : ℕ)
      → IsHistory (suc (length splits)) (add_places head p ts earlier) → AreHeard ts earlier p
      → map (outcome_by head.version verdicts) (range_with_len p (length ts))
      ≡ outcomes_from splits head ts earlier p
  outcomes-by_rule [] earlier p history heard = refl
  outcomes-by_rule (t ∷ ts) earlier p history heard =
      let place = placed head p t in
      ap₂ (λ (first : Outcome) (others : List Outcome). first ∷ others)
      (outcome-by_rule earlier place p
      (history-before (suc (length splits)) head (suc p) ts (place ∷ earlier) history)
      (first-heard t ts earlier p heard))
      (ap (λ (q : ℕ). map (outcome_by head.version verdicts) (range_with_len q (length ts))) (add-one p)
      ∙ outcomes-by_rule ts (place ∷ earlier) (suc p) history (rest-heard t ts earlier p heard))

  -- of verdicts by the rule all is heard that the resolvers say
  module _ (batch : List Transaction) (earlier : List Place)
      (are : AreByTheRule splits head batch earlier verdicts) where
    heard-is : (i : ℕ) (of : Option Said) → slice_get verdicts i ≡ Some of
        → heard_of of ≡ verdicts_from splits head i batch earlier 0
    heard-is i None there = sym (silent-unasked splits head i batch earlier 0 (are.silent i there))
    heard-is i (Some said) there = are.came i said there

    all-heard : AreHeard batch earlier 0
    all-heard test q from = (
      λ said.
          let found = place_of-any (λ (of : Option Said). mentions test q (heard_of of)) verdicts said in (
            found.0,
            subst (λ (n : ℕ). found.0 < n) are.count (slice_get_within verdicts found.0 found.1 found.2),
            sym (ap (mentions test q) (heard-is found.0 found.1 found.2)) ∙ found.3,
          ),
      λ given. ⊎_elim
          (λ here.
          any_passes_from_place (λ (of : Option Said). mentions test q (heard_of of)) verdicts given.0 here.0 here.2
          (ap (mentions test q) (heard-is given.0 here.0 here.2) ∙ given.2))
          (λ past. let count = are.count in absurd (omega (arith, count, past.0, given.1)))
          (slice_get_cases verdicts given.0).1,
    )

pub batches_are_decided_by_the_rule : BatchesAreDecidedByTheRule
batches_are_decided_by_the_rule splits head batch earlier verdicts history are =
    outcomes-by_rule splits head verdicts batch earlier 0 history
    (all-heard splits head verdicts batch earlier are)

pub entries_are_decided_by_the_rule : EntriesAreDecidedByTheRule
entries_are_decided_by_the_rule splits before entry verdicts history are =
    batches_are_decided_by_the_rule splits (head_of before entry) entry.batch before.places verdicts history are
