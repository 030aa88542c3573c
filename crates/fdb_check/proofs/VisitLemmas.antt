-- The acknowledged, visited in the order of the run.
use Rattle.std.proofs.Common.{◌≡◌, ◌∙◌, sym, ap, subst, refl, ℕ, zero, suc, ◌+◌, ◌-◌, ◌<◌, ◌≤◌, arith, true, false}
use Rattle.std.proofs.Common.{◌&&◌, ◌||◌, ◌==◌, nat_lt, List, [], ◌∷◌, ◌++◌, take, length, Some, slice_get, get_or, inl}
use Rattle.std.proofs.Common.{inr, ⊎_elim, Ordering}
use Rattle.std.specs.List.{All, AllByRecursion}
use Rattle.std.specs.List.Sorted.{IsPermutation, IsSortedBy}
use Rattle.std.specs.Ordering.{nat_cmp, ordering_then, is_lt}
use Rattle.std.specs.declared.cmp.Ordering.TheVariants.{Less, Equal}
use Rattle.std.specs.Cmp.{IsTotalOrder, nat_cmp_is}
use Rattle.std.proofs.lemmas.Cmp.{then_total, on_total, nat_cmp_total}
use Rattle.std.proofs.lemmas.List.MinMax.{ranks_by}
use Rattle.std.proofs.lemmas.Bool.{cases_Bool, both_ways, or_left, or_right, and_from, or_cases, and_parts, ltb-false}
use Rattle.std.proofs.lemmas.Bool.{ltb-true, eqb-true, eq-eqb}
use Rattle.std.proofs.lemmas.List.Sorted.{IsPermutation-sym, Contains-permutation, sorted_far}
use Rattle.std.proofs.lemmas.Option.{slice_get_within, get_or_from_slice_get}
use Rattle.fdb_keys.specs.Points.{Point}
use Rattle.fdb_txn.specs.declared.entry.Entry.{Entry}
use Rattle.fdb_roles.specs.declared.placed.Placed.{Placed}
use Rattle.fdb_roles.proofs.Exports.{contains-item, item-contained}
use Rattle.fdb_check.specs.Running.{IsRunAt, IsNotPast, HasComeTo, moment, visits_from, IsInOrder, IsTrueOf}
use Rattle.fdb_check.specs.Spots.{moment_of, comes_before, IsFirstOther}
use Rattle.fdb_check.specs.declared.run.Run.{Run}
use Rattle.fdb_check.specs.declared.visits.Visit.{Visit}
use Rattle.fdb_check.specs.declared.fault.CheckFault.TheVariants.{Txn}

-- what is true of each item by its number is true of each
pub all-from : {A : Type 0} (P : A → Type 0) (xs : List A)
    → ((k : ℕ) (x : A) → slice_get xs k ≡ Some x → P x) → AllByRecursion P xs
all-from P [] each = tt
all-from P (x ∷ xs) each = (each 0 x refl, all-from P xs (λ k y there. each (suc k) y there))

-- what one that comes no earlier has
order-known : (a b c d : ℕ) → (nat_lt a c || (a == c && nat_lt b d)) ≡ false → (c ≤ a) × (a ≡ c → d ≤ b)
order-known a b c d later = (
  ⊎_elim (λ yes. absurd (both_ways _ later (or_left (nat_lt a c) (a == c && nat_lt b d) yes)))
      (λ not. ltb-false a c not) (cases_Bool (nat_lt a c)),
  λ same. ⊎_elim
      (λ yes. absurd (both_ways _ later (or_right (nat_lt a c) (a == c && nat_lt b d)
      (and_from _ _ (eq-eqb a c same) yes)))) (λ not. ltb-false b d not) (cases_Bool (nat_lt b d)),
)

-- a run at a moment isn't past a later one
not-past : (run : Run) (e p entry place : ℕ) → run.entry ≡ e → run.place ≡ p - 1 → e ≤ entry → (entry ≡ e → p ≤ place)
    → IsNotPast run entry (place - 1)
not-past run e p entry place at here later further = ⊎_elim
    (λ before. inl (subst (λ (n : ℕ). n < entry) (sym at) (ltb-true e entry before)))
    (λ not.
    let ended = ltb-false e entry not in
    let same : entry ≡ e = omega (arith, ended, later) in
    let more = further same in
    inr (at ∙ sym same, subst (λ (n : ℕ). n ≤ place - 1) (sym here) (omega (arith, more))))
    (cases_Bool (nat_lt e entry))

-- the visit of the one with a number
abbrev pub visit : List Entry → ℕ → Placed → Visit
visit book k one = record
    { entries = (moment_of book one.spot).0; places = (moment_of book one.spot).1; index = k }

visit-there : (book : List Entry) (i k : ℕ) (placed : List Placed) (one : Placed) → slice_get placed k ≡ Some one
    → slice_get (visits_from book i placed) k ≡ Some (visit book (i + k) one)
visit-there book i k [] one there = cc
visit-there book i zero (first ∷ placed) one there =
    let same : first ≡ one = cc in
    let number : i ≡ i + 0 = omega arith in
    ap (λ (p : Placed). Some (visit book i p)) same ∙ ap (λ (n : ℕ). Some (visit book n one)) number
visit-there book i (suc k) (first ∷ placed) one there =
    let number : suc i + k ≡ i + suc k = omega arith in
    visit-there book (suc i) k placed one there ∙ ap (λ (n : ℕ). Some (visit book n one)) number

-- one visit more
pub visits-next : (book : List Entry) (i n : ℕ) (placed : List Placed) (one : Placed) → slice_get placed n ≡ Some one
    → visits_from book i (take (suc n) placed) ≡ visits_from book i (take n placed) ++ visit book (i + n) one ∷ []
visits-next book i n [] one there = cc
visits-next book i zero (first ∷ placed) one there =
    let same : first ≡ one = cc in
    let number : i ≡ i + 0 = omega arith in
    ap (λ (p : Placed). visit book i p ∷ []) same ∙ ap (λ (k : ℕ). visit book k one ∷ []) number
visits-next book i (suc n) (first ∷ placed) one there =
    let number : suc i + n ≡ i + suc n = omega arith in
    ap (λ (others : List Visit). visit book i first ∷ others)
    (visits-next book (suc i) n placed one there
    ∙ ap (λ (k : ℕ). visits_from book (suc i) (take n placed) ++ visit book k one ∷ []) number)

there-visit : (book : List Entry) (i k : ℕ) (placed : List Placed) (v : Visit)
    → slice_get (visits_from book i placed) k ≡ Some v
    → (one : Placed) × (slice_get placed k ≡ Some one) × (v ≡ visit book (i + k) one)
there-visit book i k [] v there = cc
there-visit book i zero (first ∷ placed) v there =
    let same : visit book i first ≡ v = cc in
    let number : i ≡ i + 0 = omega arith in
    (first, refl, sym same ∙ ap (λ (n : ℕ). visit book n first) number)
there-visit book i (suc k) (first ∷ placed) v there =
    let number : suc i + k ≡ i + suc k = omega arith in
    let found = there-visit book (suc i) k placed v there in
    (found.0, found.1, found.2 ∙ ap (λ (n : ℕ). visit book n found.0) number)

-- The run has come to visit i: it isn't past any later one, and the claim is true of those before.
pub record IsSoFar (splits : List Point) (book : List Entry) (Claim : Placed → Type 0) (placed : List Placed)
    (visits : List Visit) (i : ℕ) (run : Run) : Type 0 where
  pub at : IsRunAt splits book run
  pub later : (j : ℕ) (v : Visit) → i ≤ j → slice_get visits j ≡ Some v → IsNotPast run v.entries (v.places - 1)
  pub before : (j : ℕ) (v : Visit) → j < i → slice_get visits j ≡ Some v → IsTrueOf Claim placed v

module _ (book : List Entry) (placed : List Placed) (visits : List Visit) (ordered : IsInOrder visits)
    (same : IsPermutation (visits_from book 0 placed) visits) where
  -- a visit has the moment of the one that it is of
  pub moment-is : (i : ℕ) (v : Visit) (one : Placed) → slice_get visits i ≡ Some v
      → slice_get placed v.index ≡ Some one → moment v ≡ moment_of book one.spot
  moment-is i v one there at =
      let found = item-contained (visits_from book 0 placed) v
      (Contains-permutation visits (visits_from book 0 placed) v
      (IsPermutation-sym (visits_from book 0 placed) visits same) (contains-item visits i v there)) in
      let its = there-visit book 0 found.0 placed v found.1 in
      let none : 0 + found.0 ≡ found.0 = omega arith in
      let number : v.index ≡ found.0 = ap (λ (w : Visit). w.index) its.2 ∙ none in
      let one_is : its.0 ≡ one = some-same its.0 one (sym its.1 ∙ ap (slice_get placed) (sym number) ∙ at) in
      ap moment its.2 ∙ ap (λ (p : Placed). moment_of book p.spot) one_is
    where
      some-same : (a b : Placed) → Some a ≡ Some b → a ≡ b
      some-same a b equal = cc

  -- each of them is visited
  visited : (k : ℕ) (one : Placed) → slice_get placed k ≡ Some one
      → (j : ℕ) × (slice_get visits j ≡ Some (visit book k one))
  visited k one there =
      let none : 0 + k ≡ k = omega arith in
      item-contained visits (visit book k one)
      (Contains-permutation (visits_from book 0 placed) visits (visit book k one) same
      (contains-item (visits_from book 0 placed) k (visit book k one)
      (visit-there book 0 k placed one there ∙ ap (λ (n : ℕ). Some (visit book n one)) none)))

  module _ (splits : List Point) (Claim : Placed → Type 0) where
    pub so_far-start : (run : Run) → HasComeTo splits book 0 0 run
        → IsSoFar splits book Claim placed visits 0 run
    so_far-start run come = record {
      at = come.0;
      later = λ j v from there. not-past run 0 0 v.entries v.places come.1 come.2 (omega arith) (λ first. omega arith);
      before = λ j v never there. absurd (omega (arith, never));
    }

    pub so_far-next : (i : ℕ) (old new : Run) (v : Visit) (one : Placed) → IsSoFar splits book Claim placed visits i old
        → slice_get visits i ≡ Some v → slice_get placed v.index ≡ Some one → Claim one
        → HasComeTo splits book v.entries (v.places - 1) new → IsSoFar splits book Claim placed visits (i + 1) new
    so_far-next i old new v one so_far there at claim come = record {
      at = come.0;
      later = λ j w from its.
          let known = order-known w.entries w.places v.entries v.places
          (ordered i j v w (omega (arith, from)) there its) in
          not-past new v.entries v.places w.entries w.places come.1 come.2 known.0 known.1;
      before = λ j w within its. ⊎_elim (λ (earlier : nat_lt j i ≡ true). so_far.before j w (ltb-true j i earlier) its)
          (λ (not : nat_lt j i ≡ false).
          let ended = ltb-false j i not in
          let number : j ≡ i = omega (arith, ended, within) in
          let is : v ≡ w = some-same v w (sym there ∙ ap (slice_get visits) (sym number) ∙ its) in
          subst (IsTrueOf Claim placed) is
          (λ other found. subst Claim (some-placed one other (sym at ∙ found)) claim))
          (cases_Bool (nat_lt j i));
    }
      where
        some-same : (a b : Visit) → Some a ≡ Some b → a ≡ b
        some-same a b equal = cc

        some-placed : (a b : Placed) → Some a ≡ Some b → a ≡ b
        some-placed a b equal = cc

    pub so_far-all : (i : ℕ) (run : Run) → length visits ≤ i
        → IsSoFar splits book Claim placed visits i run → AllByRecursion Claim placed
    so_far-all i run ended so_far = all-from Claim placed (λ k one there.
        let found = visited k one there in
        let within = slice_get_within visits found.0 (visit book k one) found.1 in
        so_far.before found.0 (visit book k one) (omega (arith, within, ended)) found.1 one there)

    pub so_far-stops : (i : ℕ) (run : Run) (v : Visit) (one : Placed) → IsSoFar splits book Claim placed visits i run
        → slice_get visits i ≡ Some v
        → slice_get placed v.index ≡ Some one → ¬ Claim one
        → IsFirstOther book Claim placed (Txn one.transcript.id)
    so_far-stops i run v one so_far there at other = (
      v.index,
      one,
      at,
      refl,
      other,
      all-from _ placed (λ k it its earlier.
          let found = visited k it its in
          ⊎_elim (λ (passed : nat_lt found.0 i ≡ true). so_far.before found.0 (visit book k it)
          (ltb-true found.0 i passed) found.1 it its)
          (λ (not : nat_lt found.0 i ≡ false).
          absurd (both_ways _
          (ap (comes_before (moment_of book it.spot)) (sym (moment-is i v one there at))
          ∙ ordered i found.0 v (visit book k it) (ltb-false found.0 i not) there found.1)
          earlier))
          (cases_Bool (nat_lt found.0 i))),
    )

-- how two visits compare
abbrev visit_cmp : Visit → Visit → Ordering
visit_cmp x y = ordering_then (nat_cmp x.entries y.entries)
    (ordering_then (nat_cmp x.places y.places) (nat_cmp x.index y.index))

visits_total : IsTotalOrder visit_cmp
visits_total = then_total (on_total (λ (v : Visit). v.entries) nat_cmp_total)
    (then_total (on_total (λ (v : Visit). v.places) nat_cmp_total) (on_total (λ (v : Visit). v.index) nat_cmp_total))

-- one whose moment comes before is less
before-less : (a b : Visit) → comes_before (moment a) (moment b) ≡ true → is_lt (visit_cmp a b) ≡ true
before-less a b before = ⊎_elim
    (λ (first : nat_lt a.entries b.entries ≡ true).
    ap (λ (r : Ordering). is_lt (ordering_then r (ordering_then (nat_cmp a.places b.places) (nat_cmp a.index b.index))))
    (sym (nat_cmp_is a.entries b.entries Less (ltb-true a.entries b.entries first))))
    (λ (tied : (a.entries == b.entries && nat_lt a.places b.places) ≡ true).
    let parts = and_parts _ _ tied in
    ap (λ (r : Ordering). is_lt (ordering_then r (ordering_then (nat_cmp a.places b.places) (nat_cmp a.index b.index))))
    (sym (nat_cmp_is a.entries b.entries Equal (eqb-true a.entries b.entries parts.0)))
    ∙ ap (λ (r : Ordering). is_lt (ordering_then r (nat_cmp a.index b.index)))
    (sym (nat_cmp_is a.places b.places Less (ltb-true a.places b.places parts.1))))
    (or_cases (nat_lt a.entries b.entries) (a.entries == b.entries && nat_lt a.places b.places) before)

-- sorted visits are in the order of the run
pub sorted-ordered : (visits : List Visit) → IsSortedBy (λ (x y : Visit). is_lt (visit_cmp x y)) visits
    → IsInOrder visits
sorted-ordered visits up i j one other ordered there its =
    let within = slice_get_within visits j other its in
    let far = sorted_far (λ (x y : Visit). is_lt (visit_cmp x y)) (ranks_by visits_total (λ (v : Visit). v)) visits up
    i j one ordered within in
    let known : is_lt (visit_cmp other one) ≡ false =
    ap (λ (v : Visit). is_lt (visit_cmp v one)) (sym (get_or_from_slice_get visits j other one its))
    ∙ ap (λ (v : Visit). is_lt (visit_cmp (get_or visits j one) v)) (sym (get_or_from_slice_get visits i one one there))
    ∙ far in
    ⊎_elim (λ before. absurd (both_ways _ known (before-less other one before))) (λ not. not)
    (cases_Bool (comes_before (moment other) (moment one)))

-- the number of a visit lies within the list
pub index-within : (visits : List Visit) (placed : List Placed) (i : ℕ) (v : Visit) → slice_get visits i ≡ Some v
    → All (λ (of : Visit). of.index < length placed) visits → v.index < length placed
index-within visits placed i v there all = subst (λ (of : Visit). of.index < length placed)
    (get_or_from_slice_get visits i v v there) (all i v (slice_get_within visits i v there))
