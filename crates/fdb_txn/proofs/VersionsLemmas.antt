-- How many versions between two pass a test, and at how many of them something changes.
use Rattle.std.proofs.Common.{◌≡◌, ◌∙◌, sym, ap, ap₂, refl, ℕ, zero, suc, ◌+◌, ◌<◌, ◌≤◌, Bool, true, false, ◌&&◌, not}
use Rattle.std.proofs.Common.{nat_le, if◌then◌else◌, arith, ⊎_elim}
use Rattle.std.proofs.lemmas.Bool.{cases_lt, le-leb, leb-true}
use Rattle.fdb_txn.specs.Versions.{count_between, changes_by}

abbrev pub one_if : Bool → ℕ
one_if test = if test then 1 else 0

-- ---- counting by a test
-- tests that agree between the versions count alike
count-same : (test other : ℕ → Bool) (low high : ℕ)
    → ((v : ℕ) → low ≤ v → v < high → test (suc v) ≡ other (suc v))
    → count_between test low high ≡ count_between other low high
count-same test other low zero same = refl
count-same test other low (suc v) same =
    ap (λ (n : ℕ). n + one_if (nat_le low v && test (suc v)))
    (count-same test other low v (λ w from below. same w from (omega arith)))
    ∙ ap (λ (n : ℕ). count_between other low v + n)
    (last (nat_le low v) (λ reached. same v (leb-true low v reached) (omega arith)))
  where
    last : (reached : Bool) → (reached ≡ true → test (suc v) ≡ other (suc v))
        → one_if (reached && test (suc v)) ≡ one_if (reached && other (suc v))
    last true same_there = ap one_if (same_there refl)
    last false same_there = refl

-- where no test passes there is none
count-none : (test : ℕ → Bool) (low high : ℕ) → ((v : ℕ) → low ≤ v → v < high → test (suc v) ≡ false)
    → count_between test low high ≡ 0
count-none test low high none = count-same test (λ v. false) low high none ∙ nowhere low high
  where
    none_there : (reached : Bool) → 0 + one_if (reached && false) ≡ 0
    none_there true = refl
    none_there false = refl

    nowhere : (low high : ℕ) → count_between (λ v. false) low high ≡ 0
    nowhere low zero = refl
    nowhere low (suc v) = ap (λ (n : ℕ). n + one_if (nat_le low v && false)) (nowhere low v) ∙ none_there (nat_le low v)

-- those below a version, that one, and those above it
count-at : (test : ℕ → Bool) (low v high : ℕ) → low ≤ v → v < high
    → count_between test low high
    ≡ count_between test low v + (one_if (test (suc v)) + count_between test (suc v) high)
count-at test low v zero from below = absurd (omega arith)
count-at test low v (suc high) from below =
    ⊎_elim
    (λ (above : v < high).
    ap₂ (λ (n : ℕ) (reached : Bool). n + one_if (reached && test (suc high)))
    (count-at test low v high from above) (le-leb low high (omega (arith, from, above)))
    ∙ regrouped (count_between test low v) (one_if (test (suc v))) (count_between test (suc v) high)
    (one_if (test (suc high)))
    ∙ ap (λ (reached : Bool). count_between test low v
    + (one_if (test (suc v)) + (count_between test (suc v) high + one_if (reached && test (suc high)))))
    (sym (le-leb (suc v) high (omega (arith, above)))))
    (λ (reached : high ≤ v). last (omega (arith, reached, below)))
    (cases_lt v high)
  where
    regrouped : (a b c d : ℕ) → (a + (b + c)) + d ≡ a + (b + (c + d))
    regrouped a b c d = omega arith

    nothing : (n m : ℕ) → count_between test (suc v) (suc v) ≡ 0 → n + m ≡ n + (m + count_between test (suc v) (suc v))
    nothing n m none = omega (arith, none)

    last : high ≡ v → count_between test low (suc high)
        ≡ count_between test low v + (one_if (test (suc v)) + count_between test (suc v) (suc high))
    last is =
        ap (λ (n : ℕ). count_between test low (suc n)) is
        ∙ ap (λ (reached : Bool). count_between test low v + one_if (reached && test (suc v))) (le-leb low v from)
        ∙ nothing (count_between test low v) (one_if (test (suc v)))
        (count-none test (suc v) (suc v) (λ w above under. absurd (omega (arith, above, under))))
        ∙ ap (λ (n : ℕ). count_between test low v + (one_if (test (suc v)) + count_between test (suc v) (suc n)))
        (sym is)

-- ---- counting changes
module _ {V : Type 0} (same : V → V → Bool) where
  -- what stands alike at the versions changes at as many of them
  pub count-alike : (value_of other_of : ℕ → V) (low high : ℕ)
      → ((v : ℕ) → low ≤ v → v ≤ high → value_of v ≡ other_of v)
      → count_between (changes_by same value_of) low high ≡ count_between (changes_by same other_of) low high
  count-alike value_of other_of low high alike =
      count-same (changes_by same value_of) (changes_by same other_of) low high
      (λ v from below.
      ap₂ (λ (after before : V). not (same after before)) (alike (suc v) (omega arith) (omega arith))
      (alike v from (omega arith)))

  -- where it stays what it is there is no change
  pub count-steady : ((value : V) → same value value ≡ true) → (value_of : ℕ → V) (value : V) (low high : ℕ)
      → ((v : ℕ) → low ≤ v → v ≤ high → value_of v ≡ value)
      → count_between (changes_by same value_of) low high ≡ 0
  count-steady itself value_of value low high stays =
      count-alike value_of (λ v. value) low high stays
      ∙ count-none (changes_by same (λ v. value)) low high (λ v from below. ap not (itself value))

  -- the changes below a version, one there if another value stands there, and those above it
  pub count-around : (value_of : ℕ → V) (low v high : ℕ) → low ≤ v → v < high
      → count_between (changes_by same value_of) low high
      ≡ count_between (changes_by same value_of) low v
      + (one_if (not (same (value_of (suc v)) (value_of v))) + count_between (changes_by same value_of) (suc v) high)
  count-around value_of = count-at (changes_by same value_of)
