-- A batch that is run anew by its outcomes, beside the run of the book.
use Rattle.std.proofs.Common.{◌≡◌, ◌∙◌, sym, ap, ap₂, refl, ℕ, zero, suc, ◌+◌, ◌<◌, add-one, arith, Bool, true, false}
use Rattle.std.proofs.Common.{List, [], ◌∷◌, ◌++◌, map, take, length, get_or, if◌then◌else◌, append_assoc, append-nil}
use Rattle.std.proofs.Common.{Some}
use Rattle.std.specs.List.{slice_get}
use Rattle.std.proofs.lemmas.List.{map-append}
use Rattle.std.proofs.lemmas.List.Sums.{fold-append}
use Rattle.std.proofs.lemmas.Option.{slice_get-get_or}
use Rattle.fdb_keys.specs.Points.{Point}
use Rattle.fdb_mutations.specs.declared.mutation.Mutation.{Mutation}
use Rattle.fdb_mutations.specs.Maps.{Map}
use Rattle.fdb_mutations.specs.Mutations.{effect, effects}
use Rattle.fdb_mutations.specs.Stamping.{stamped}
use Rattle.fdb_txn.specs.book.Transactions.{Transaction}
use Rattle.fdb_txn.specs.book.Book.{Head, Place, placed}
use Rattle.fdb_txn.specs.book.Places.{place_in}
use Rattle.fdb_txn.specs.rules.Admission.{committed}
use Rattle.fdb_txn.specs.rules.Messages.{mutations_in}
use Rattle.fdb_txn.specs.rules.SerialMap.{serial_map}
use Rattle.fdb_txn.specs.rules.Stamped.{stamped_at, stamped_by}
use Rattle.fdb_txn.proofs.Exports.{mutations-if}
use Rattle.fdb_proxy.specs.declared.outcome.Outcome.{Outcome}
use Rattle.fdb_proxy.specs.declared.outcome.Outcome.TheVariants as outcome
use Rattle.fdb_proxy.specs.Logging.{written}
use Rattle.fdb_proxy.specs.Verdicts.{outcome_at, outcomes_from}
use Rattle.fdb_proxy.proofs.Exports.{written-at}
use Rattle.fdb_roles.specs.Bodies.{body_by}
use Rattle.fdb_roles.proofs.Exports.{take-next}
use Rattle.fdb_check.specs.Running.{runs, map_after}

-- mutations one after another
effects-append : (map : Map) (first later : List Mutation)
    → effects map (first ++ later) ≡ effects (effects map first) later
effects-append map first later = fold-append effect map first later

-- one mutation more, with the stamp
pub effects-next : (stamp : List ℕ) (old : Map) (mutations : List Mutation) (i : ℕ) (mutation : Mutation)
    → slice_get mutations i ≡ Some mutation
    → effects old (map (stamped stamp) (take (i + 1) mutations))
    ≡ effect (effects old (map (stamped stamp) (take i mutations))) (stamped stamp mutation)
effects-next stamp old mutations i mutation there =
    ap (λ (some : List Mutation). effects old (map (stamped stamp) some))
    (ap (λ (n : ℕ). take n mutations) (add-one i) ∙ take-next mutations i mutation there)
    ∙ ap (effects old) (map-append (stamped stamp) (take i mutations) (mutation ∷ []))
    ∙ fold-append effect old (map (stamped stamp) (take i mutations)) (stamped stamp mutation ∷ [])

-- the mutations of a batch by its outcomes, which are the same whatever number its first place has
writes_by : List Transaction → List Outcome → List Mutation
writes_by [] outcomes = []
writes_by (t ∷ ts) [] = []
writes_by (t ∷ ts) (outcome ∷ outcomes) = runs outcome t ++ writes_by ts outcomes

written-runs : (p : ℕ) (outcome : Outcome) (t : Transaction) → mutations_in (written outcome p t) ≡ runs outcome t
written-runs p (outcome.Commit version place) t = mutations-if p true (stamped_by version place t.mutations)
written-runs p outcome.Conflict t = refl
written-runs p outcome.Old t = refl

body-writes : (p : ℕ) (batch : List Transaction) (outcomes : List Outcome)
    → mutations_in (body_by p batch outcomes) ≡ writes_by batch outcomes
unfolding writes_by
body-writes p [] outcomes = refl
body-writes p (t ∷ ts) [] = refl
body-writes p (t ∷ ts) (outcome ∷ outcomes) =
    map-append (λ (sent : ℕ × Mutation). sent.1) (written outcome p t) (body_by (suc p) ts outcomes)
    ∙ ap₂ (λ (here others : List Mutation). here ++ others) (written-runs p outcome t) (body-writes (suc p) ts outcomes)

after-writes : (map : Map) (batch : List Transaction) (outcomes : List Outcome) (count : ℕ)
    → map_after map batch outcomes count ≡ effects map (writes_by (take count batch) (take count outcomes))
after-writes map batch outcomes count = ap (effects map) (body-writes 0 (take count batch) (take count outcomes))

-- the mutations of one place more of a batch
writes-next : (batch : List Transaction) (outcomes : List Outcome) (p : ℕ) (t : Transaction) (outcome : Outcome)
    → slice_get batch p ≡ Some t → slice_get outcomes p ≡ Some outcome
    → writes_by (take (suc p) batch) (take (suc p) outcomes)
    ≡ writes_by (take p batch) (take p outcomes) ++ runs outcome t
unfolding writes_by
writes-next [] outcomes p t outcome there at = cc
writes-next (first ∷ batch) [] p t outcome there at = cc
writes-next (first ∷ batch) (o ∷ outcomes) zero t outcome there at =
    let same : first ≡ t = cc in
    let same_outcome : o ≡ outcome = cc in
    append-nil (runs o first) ∙ ap₂ runs same_outcome same
writes-next (first ∷ batch) (o ∷ outcomes) (suc p) t outcome there at =
    ap (λ others. runs o first ++ others) (writes-next batch outcomes p t outcome there at)
    ∙ sym (append_assoc (runs o first) (writes_by (take p batch) (take p outcomes)) (runs outcome t))

-- the map after one place more
pub after-next : (map old new : Map) (batch : List Transaction) (outcomes : List Outcome) (p : ℕ) (t : Transaction)
    (other : Outcome)
    → slice_get batch p ≡ Some t → p < length outcomes → old ≡ map_after map batch outcomes p
    → new ≡ effects old (runs (get_or outcomes p other) t)
    → new ≡ map_after map batch outcomes (p + 1)
after-next map old new batch outcomes p t other there within before after =
    let outcome = get_or outcomes p other in
    after
    ∙ ap (λ (at : Map). effects at (runs outcome t)) (before ∙ after-writes map batch outcomes p)
    ∙ sym (effects-append map (writes_by (take p batch) (take p outcomes)) (runs outcome t))
    ∙ ap (effects map) (sym (writes-next batch outcomes p t outcome there (slice_get-get_or outcomes p other within)))
    ∙ sym (after-writes map batch outcomes (suc p))
    ∙ ap (map_after map batch outcomes) (sym (add-one p))

-- the run goes on by a place just as by its outcome
serial_map-place : (splits : List Point) (head : Head) (earlier : List Place) (p : ℕ) (t : Transaction)
    → serial_map splits (placed head p t ∷ earlier)
    ≡ effects (serial_map splits earlier) (runs (outcome_at splits earlier (placed head p t) p) t)
serial_map-place splits head earlier p t =
    by_cases (committed splits earlier (placed head p t))
    ∙ ap (effects (serial_map splits earlier))
    (sym (mutations-if p (committed splits earlier (placed head p t)) (stamped_at (placed head p t)))
    ∙ ap mutations_in (sym (written-at splits head earlier p t))
    ∙ written-runs p (outcome_at splits earlier (placed head p t) p) t)
  where
    by_cases : (commits : Bool)
        → (if commits then effects (serial_map splits earlier) (stamped_at (placed head p t))
        else serial_map splits earlier)
        ≡ effects (serial_map splits earlier) (if commits then stamped_at (placed head p t) else [])
    by_cases true = refl
    by_cases false = refl

-- the serial map right before a place of a batch
pub place-map : (splits : List Point) (head : Head) (batch : List Transaction) (earlier : List Place) (n p : ℕ)
    (there : Place × List Place)
    → place_in head n batch earlier p ≡ Some there
    → serial_map splits there.1 ≡ map_after (serial_map splits earlier) batch
    (outcomes_from splits head batch earlier n) p
unfolding writes_by
place-map splits head [] earlier n p there at = cc
place-map splits head (t ∷ ts) earlier n zero there at =
    let same : there ≡ (placed head n t, earlier) = cc in
    ap (λ (one : Place × List Place). serial_map splits one.1) same
place-map splits head (t ∷ ts) earlier n (suc p) there at =
    place-map splits head ts (place ∷ earlier) (suc n) p there at
    ∙ after-writes (serial_map splits (place ∷ earlier)) ts
    (outcomes_from splits head ts (place ∷ earlier) (suc n)) p
    ∙ ap (λ (map : Map). effects map others) (serial_map-place splits head earlier n t)
    ∙ sym (effects-append (serial_map splits earlier) (runs (outcome_at splits earlier place n) t) others)
    ∙ sym (after-writes (serial_map splits earlier) (t ∷ ts) (outcomes_from splits head (t ∷ ts) earlier n)
    (suc p))
  where
    place : Place
    place = placed head n t

    others : List Mutation
    others = writes_by (take p ts) (take p (outcomes_from splits head ts (place ∷ earlier) (suc n)))

pub place-within : (head : Head) (n : ℕ) (batch : List Transaction) (earlier : List Place) (p : ℕ)
    (there : Place × List Place)
    → place_in head n batch earlier p ≡ Some there → p < length batch
place-within head n [] earlier p there at = cc
place-within head n (t ∷ ts) earlier zero there at = omega arith
place-within head n (t ∷ ts) earlier (suc p) there at =
    let within = place-within head (suc n) ts (placed head n t ∷ earlier) p there at in omega (arith, within)
