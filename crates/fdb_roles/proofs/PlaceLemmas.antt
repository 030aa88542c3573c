-- The places of an entry, and what becomes of each by the rule.
use Rattle.std.proofs.Common.{◌≡◌, refl, ℕ, zero, suc, List, [], ◌∷◌, Some, ◌∙◌, ap, ◌+◌, arith, slice_get, ◌<◌, length}
use Rattle.std.proofs.Common.{◌↔◌, Bool, true, false, ◌&&◌, if◌then◌else◌, sym, subst}
use Rattle.std.specs.List.{slice_get}
use Rattle.std.proofs.lemmas.Option.{same_Some}
use Rattle.fdb_keys.specs.Points.{Point}
use Rattle.fdb_txn.specs.book.Book.{Head, Place, Seen, head_of, placed}
use Rattle.fdb_txn.specs.book.Places.{place_in, place_of}
use Rattle.fdb_txn.specs.book.Transactions.{Transaction}
use Rattle.fdb_txn.specs.rules.Admission.{is_fresh, no_conflict, admits, all_below}
use Rattle.fdb_txn.specs.declared.entry.Entry.{Entry}
use Rattle.fdb_proxy.specs.Verdicts.{outcomes_from, outcome_at, outcomes_on}
use Rattle.fdb_proxy.specs.declared.outcome.Outcome.TheVariants as outcome
use Rattle.fdb_proxy.specs.declared.outcome.Outcome.{Outcome}
use Rattle.fdb_roles.specs.Outcomes.{IsByRule}

-- a place of a batch is that of a transaction
pub in-batch : (head : Head) (n : ℕ) (batch : List Transaction) (earlier : List Place) (p : ℕ)
    (there : Place × List Place)
    → place_in head n batch earlier p ≡ Some there → (t : Transaction) × (slice_get batch p ≡ Some t)
in-batch head n [] earlier p there at = cc
in-batch head n (t ∷ batch) earlier zero there at = (t, refl)
in-batch head n (t ∷ batch) earlier (suc p) there at =
    in-batch head (suc n) batch (placed head n t ∷ earlier) p there at

-- the place of a transaction of a batch, with its outcome
pub place-found : (splits : List Point) (head : Head) (batch : List Transaction) (earlier : List Place)
    (n p : ℕ) (t : Transaction) → slice_get batch p ≡ Some t
    → (before : List Place) × (place_in head n batch earlier p ≡ Some (placed head (n + p) t, before))
    × (slice_get (outcomes_from splits head batch earlier n) p
    ≡ Some (outcome_at splits before (placed head (n + p) t) (n + p)))
place-found splits head [] earlier n p t there = cc
place-found splits head (first ∷ batch) earlier n zero t there =
    let same : first ≡ t = cc in
    let number : n ≡ n + 0 = omega arith in (
      earlier,
      ap (λ (one : Transaction). Some (placed head n one, earlier)) same
          ∙ ap (λ (k : ℕ). Some (placed head k t, earlier)) number,
      ap (λ (one : Transaction). Some (outcome_at splits earlier (placed head n one) n)) same
          ∙ ap (λ (k : ℕ). Some (outcome_at splits earlier (placed head k t) k)) number,
    )
place-found splits head (first ∷ batch) earlier n (suc p) t there =
    let number : suc n + p ≡ n + suc p = omega arith in
    let found = place-found splits head batch (placed head n first ∷ earlier) (suc n) p t there in (
      found.0,
      found.1 ∙ ap (λ (k : ℕ). Some (placed head k t, found.0)) number,
      found.2 ∙ ap (λ (k : ℕ). Some (outcome_at splits found.0 (placed head k t) k)) number,
    )

-- there is a place for each transaction of a batch, and no other
pub place-there : (head : Head) (n : ℕ) (batch : List Transaction) (earlier : List Place) (p : ℕ)
    → p < length batch
    → (there : Place × List Place) × (place_in head n batch earlier p ≡ Some there)
place-there head n [] earlier p within = absurd (omega (arith, within))
place-there head n (t ∷ ts) earlier zero within = ((placed head n t, earlier), refl)
place-there head n (t ∷ ts) earlier (suc p) within =
    place-there head (suc n) ts (placed head n t ∷ earlier) p (omega (arith, within))

-- the outcome at a place is the rule's
pub outcome-by-rule : (splits : List Point) (earlier : List Place) (place : Place) (p : ℕ)
    → IsByRule splits (place, earlier) p (outcome_at splits earlier place p)
outcome-by-rule splits earlier place p =
    let by = by_cases (is_fresh place) (no_conflict splits (length splits) earlier place)
    (all_below (length splits) (λ i. admits splits i earlier place)) in
    record { commits = by.0; is_old = by.1; conflicts = by.2 }
  where
    by_cases : (fresh free others : Bool)
        → let became = if fresh
        then (if fresh && free && others then outcome.Commit place.version p else outcome.Conflict) else outcome.Old in
        ((became ≡ outcome.Commit place.version p) ↔ (fresh && free && others ≡ true))
        × ((became ≡ outcome.Old) ↔ (fresh ≡ false))
        × ((became ≡ outcome.Conflict) ↔ ((fresh ≡ true) × (fresh && free && others ≡ false)))
    by_cases false free others =
        ((λ is. cc, λ is. cc), (λ is. refl, λ is. refl), (λ is. cc, λ is. let fresh = is.0 in cc))
    by_cases true false others = ((λ is. cc, λ is. cc), (λ is. cc, λ is. cc), (λ is. (refl, refl), λ is. refl))
    by_cases true true false = ((λ is. cc, λ is. cc), (λ is. cc, λ is. cc), (λ is. (refl, refl), λ is. refl))
    by_cases true true true =
        ((λ is. refl, λ is. refl), (λ is. cc, λ is. cc), (λ is. cc, λ is. let free = is.1 in cc))

-- and so is what becomes of each place of an entry
pub place-by-rule : (splits : List Point) (before : Seen) (entry : Entry) (p : ℕ) (there : Place × List Place)
    → place_of before p (Some entry) ≡ Some there
    → (became : Outcome) × (slice_get (outcomes_on splits before entry) p ≡ Some became)
    × (slice_get entry.batch p ≡ Some there.0.transaction) × IsByRule splits there p became
place-by-rule splits before entry p there at =
    let head = head_of before entry in
    let transaction = in-batch head 0 entry.batch before.places p there at in
    let found = place-found splits head entry.batch before.places 0 p transaction.0 transaction.1 in
    let place : Place = placed head (0 + p) transaction.0 in
    let same : (place, found.0) ≡ there = same_Some (place, found.0) there (sym found.1 ∙ at) in
    let number : 0 + p ≡ p = omega arith in (
      outcome_at splits found.0 place p,
      found.2 ∙ ap (λ (k : ℕ). Some (outcome_at splits found.0 place k)) number,
      transaction.1 ∙ ap (λ (it : Place × List Place). Some it.0.transaction) same,
      subst (λ (it : Place × List Place). IsByRule splits it p (outcome_at splits found.0 place p)) same
          (outcome-by-rule splits found.0 place p),
    )
