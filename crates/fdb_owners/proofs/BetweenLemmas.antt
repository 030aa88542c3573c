-- Whether some version between two passes a test.
use Rattle.std.proofs.Common.{◌≡◌, ◌∙◌, ap, refl, ℕ, zero, suc, ◌<◌, ◌≤◌, Bool, true, ◌&&◌, ◌==◌, nat_le, ⊎_elim, arith}
use Rattle.std.proofs.lemmas.Bool.{both_ways, and_parts, and_from, or_cases, or_left, or_right, cases_lt}
use Rattle.std.proofs.lemmas.Bool.{leb-true, le-leb, eqb-true, eq-eqb}
use Rattle.fdb_owners.specs.Histories.{any_between}
use Rattle.fdb_owners.specs.Ownership.{owner_at}
use Rattle.fdb_owners.specs.OwnersLaws.{OwnedAtSomeVersion}

-- a version that passes it, if there is one
passing : (test : ℕ → Bool) (low high : ℕ) → any_between test low high ≡ true
    → (v : ℕ) × (low < v) × (v ≤ high) × (test v ≡ true)
passing test low zero is = absurd (both_ways _ refl is)
passing test low (suc v) is = ⊎_elim
    (λ here.
    let parts = and_parts (nat_le low v) (test (suc v)) here in
    let reached = leb-true low v parts.0 in
    (suc v, omega (arith, reached), omega arith, parts.1))
    (λ sooner.
    let found = passing test low v sooner in
    (found.0, found.1, omega (arith, found.2), found.3))
    (or_cases (nat_le low v && test (suc v)) (any_between test low v) is)

-- and there is one where one passes it
passes-one : (test : ℕ → Bool) (low high v : ℕ) → low < v → v ≤ high → test v ≡ true → any_between test low high ≡ true
passes-one test low zero v above within is = absurd (omega arith)
passes-one test low (suc high) v above within is = ⊎_elim
    (λ (sooner : v < suc high).
    or_right (nat_le low high && test (suc high)) (any_between test low high)
    (passes-one test low high v above (omega arith) is))
    (λ (last : suc high ≤ v).
    or_left (nat_le low high && test (suc high)) (any_between test low high)
    (and_from (nat_le low high) (test (suc high)) (le-leb low high (omega arith)) (ap test (suc_is last) ∙ is)))
    (cases_lt v (suc high))
  where
    suc_is : suc high ≤ v → suc high ≡ v
    suc_is last = omega (arith, last, within)

-- so a resolver owned a point between two versions exactly where it was the owner at one of them
pub owned_where_at_some_version : OwnedAtSomeVersion
owned_where_at_some_version owners i x low high = (
  λ held.
      let some = passing (λ v. owner_at owners x v == i) low high held in
      (some.0, some.1, some.2, eqb-true (owner_at owners x some.0) i some.3),
  λ some. passes-one (λ v. owner_at owners x v == i) low high some.0 some.1 some.2
      (eq-eqb (owner_at owners x some.0) i some.3),
)
