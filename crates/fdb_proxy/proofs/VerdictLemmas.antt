-- What a resolver says of its part of a batch is what the rule over the book says.
use Rattle.std.proofs.Common.{◌≡◌, ◌∙◌, sym, ap, subst, refl, ℕ, suc, ◌≤◌, Bool, false, not, ◌||◌, ◌==◌, nat_lt}
use Rattle.std.proofs.Common.{List, [], ◌∷◌, length, ⊎_elim, arith}
use Rattle.std.proofs.lemmas.Bool.{both_ways, and_right, or_left, false_from_ne_true, eqb-true, cond-true, cond-false}
use Rattle.fdb_keys.specs.Points.{Point}
use Rattle.fdb_txn.specs.book.Transactions.{Transaction}
use Rattle.fdb_txn.specs.book.Book.{Head, Place, head_of, placed, add_places}
use Rattle.fdb_txn.specs.book.History.{IsHistory}
use Rattle.fdb_txn.specs.rules.Owners.{is_asked}
use Rattle.fdb_txn.specs.rules.Admission.{admits}
use Rattle.fdb_txn.specs.rules.Resolvers.{part_writes, IsStateOf}
use Rattle.fdb_txn.proofs.Exports.{asked_at_some_point, state_takes_place}
use Rattle.fdb_resolver.specs.declared.part.Item.{Item}
use Rattle.fdb_resolver.specs.declared.verdict.Verdict.{Verdict}
use Rattle.fdb_resolver.specs.Rule.{AreVerdicts, versions_with, versions_after}
use Rattle.fdb_resolver.specs.RuleLaws.{IsItemOf}
use Rattle.fdb_resolver.proofs.Exports.{verdicts_are_by_the_book, places_keep_state}
use Rattle.fdb_proxy.specs.Parting.{AreItems}
use Rattle.fdb_proxy.specs.Verdicts.{verdict_at, verdicts_from, asks_about}
use Rattle.fdb_proxy.specs.VerdictLaws.{BatchesAreJudgedByTheRule, EntriesAreJudgedByTheRule, ItemsWhereAsked}

-- the places of a history with a batch after them are one
pub history-before : (resolvers : ℕ) (head : Head) (p : ℕ) (batch : List Transaction) (earlier : List Place)
    → IsHistory resolvers (add_places head p batch earlier) → IsHistory resolvers earlier
history-before resolvers head p [] earlier history = history
history-before resolvers head p (t ∷ ts) earlier history =
    (history-before resolvers head (suc p) ts (placed head p t ∷ earlier) history).2

-- a place that a resolver isn't asked about leaves its state as it is
pub keeps-unasked : (splits : List Point) (i : ℕ) (place : Place) (earlier : List Place) (floor : ℕ) (f : Point → ℕ)
    → IsHistory (suc (length splits)) (place ∷ earlier) → is_asked splits i place ≡ false
    → IsStateOf splits i earlier floor f → IsStateOf splits i (place ∷ earlier) floor f
keeps-unasked splits i place earlier floor f history unasked state x v reached =
    ap (λ (n : ℕ). nat_lt v n)
    (sym (cond-false _ place.version (f x) (and_right (admits splits i earlier place) _ unwritten)))
    ∙ state_takes_place splits i place earlier floor f history state x v reached
  where
    unwritten : part_writes splits i place x ≡ false
    unwritten = false_from_ne_true _
        (λ written. both_ways _ unasked ((asked_at_some_point splits i place).1 (x, or_left _ _ written)))

-- what resolver i says of a batch, by a state that answers from a floor on
module _ (splits : List Point) (head : Head) (i : ℕ) (floor : ℕ) (reached_back : floor ≤ head.horizon) where
  -- Of such items after the earlier places, these verdicts are given; the versions then are a state of the later
  -- places.
  abbrev Judges : List Place → List Item → List (ℕ × Verdict) → List Place → Type 0
  Judges earlier items said later =
      (f : Point → ℕ) (answers : List (ℕ × Verdict)) → IsStateOf splits i earlier floor f
      → AreVerdicts head.version head.horizon f items answers
      → (answers ≡ said) × IsStateOf splits i later floor (versions_after head.version f items answers)

  judges-none : (places : List Place) → Judges places [] [] places
  judges-none places f [] state are = (refl, state)
  judges-none places f (answer ∷ answers) state are = absurd are

  -- one more place in front, of which the resolver is asked
  judges-more : (t : Transaction) (earlier : List Place) (p : ℕ) (item : Item) (items : List Item)
      (said : List (ℕ × Verdict)) (later : List Place)
      → IsHistory (suc (length splits)) (placed head p t ∷ earlier) → item.place ≡ p
      → IsItemOf splits i (placed head p t) item → Judges (placed head p t ∷ earlier) items said later
      → Judges earlier (item ∷ items) ((p, verdict_at splits i earlier (placed head p t)) ∷ said) later
  judges-more t earlier p item items said later history number of_place rest f [] state are = absurd are
  judges-more t earlier p item items said later history number of_place rest f (answer ∷ answers) state are =
      let place = placed head p t in
      let verdict_is = verdicts_are_by_the_book splits i place earlier floor f item answer.1 history state
      reached_back of_place are.1 in
      let numbered : answer.0 ≡ p = are.0 ∙ number in
      let next = places_keep_state splits i place earlier floor f item answer.1 history state reached_back of_place
      are.1 in
      let others = rest (versions_with head.version item answer.1 f) answers next are.2 in
      ((λ k. (numbered k, verdict_is k) ∷ others.0 k), others.1)

  judges-batch : (batch : List Transaction) (earlier : List Place) (p : ℕ) (items : List Item)
      → IsHistory (suc (length splits)) (add_places head p batch earlier)
      → AreItems splits head i p batch items
      → Judges earlier items (verdicts_from splits head i batch earlier p)
      (add_places head p batch earlier)
  judges-batch [] earlier p items history are =
      subst (λ (its : List Item). Judges earlier its [] earlier) (sym are) (judges-none earlier)
  judges-batch (t ∷ ts) earlier p items history are =
      let place = placed head p t in
      let later = add_places head (suc p) ts (place ∷ earlier) in
      let now = history-before (suc (length splits)) head (suc p) ts (place ∷ earlier) history in
      let said = verdicts_from splits head i ts (place ∷ earlier) (suc p) in
      let here : ℕ × Verdict = (p, verdict_at splits i earlier place) in
      ⊎_elim
      (λ asked.
      let its = asked.1 in
      subst (λ (all : List Item). Judges earlier all (verdicts_from splits head i (t ∷ ts) earlier p) later)
      (sym its.2)
      (subst (λ (vs : List (ℕ × Verdict)). Judges earlier (its.0 ∷ its.1) vs later)
      (sym (cond-true _ (here ∷ said) said asked.0))
      (judges-more t earlier p its.0 its.1 said later now its.3 its.4
      (judges-batch ts (place ∷ earlier) (suc p) its.1 history its.5))))
      (λ unasked.
      subst (λ (vs : List (ℕ × Verdict)). Judges earlier items vs later)
      (sym (cond-false _ (here ∷ said) said unasked.0))
      (λ f answers state verdicts_are.
      judges-batch ts (place ∷ earlier) (suc p) items history unasked.1 f answers
      (keeps-unasked splits i place earlier floor f now unasked.0 state) verdicts_are))
      are

pub batches_are_judged_by_the_rule : BatchesAreJudgedByTheRule
batches_are_judged_by_the_rule splits head i batch earlier p items answers floor f history state reached_back its are =
    judges-batch splits head i floor reached_back batch earlier p items history its f answers state are

pub entries_are_judged_by_the_rule : EntriesAreJudgedByTheRule
entries_are_judged_by_the_rule splits i before entry items answers floor f history state reached_back its are =
    batches_are_judged_by_the_rule splits (head_of before entry) i entry.batch before.places 0 items answers floor f
    history state reached_back its are

-- a resolver has items exactly where it is asked about some place
pub items_where_asked : ItemsWhereAsked
items_where_asked splits head i p [] items are =
    ap (λ (its : List Item). not (length its == 0)) are
items_where_asked splits head i p (t ∷ ts) items are = ⊎_elim
    (λ asked.
    let its = asked.1 in
    ap (λ (all : List Item). not (length all == 0)) its.2
    ∙ ap not (false_from_ne_true (suc (length its.1) == 0)
    (λ none. let no : suc (length its.1) ≡ 0 = eqb-true _ _ none in omega (arith, no)))
    ∙ sym (or_left _ _ asked.0))
    (λ unasked.
    items_where_asked splits head i (suc p) ts items unasked.1
    ∙ sym (ap (λ (here : Bool). here || asks_about splits head i (suc p) ts) unasked.0))
    are
