-- The first pair that a range has in the order in which it is read, and a range without a pair.
use Rattle.std.proofs.Common.{◌≡◌, ◌∙◌, sym, ap, refl, subst, ℕ, Bool, true, false, not, List, [], ◌∷◌, ◌++◌, reverse}
use Rattle.std.proofs.Common.{Option, Some, None}
use Rattle.std.specs.Ordering.{nat_cmp}
use Rattle.std.specs.Cmp.Lexicographic.{slice_cmp}
use Rattle.std.specs.List.{AllByRecursion}
use Rattle.std.specs.FinMap.{get, entries, find}
use Rattle.std.proofs.lemmas.Bool.{both_ways, cond-true, not_from_true}
use Rattle.std.proofs.lemmas.List.{reverse-reverse}
use Rattle.fdb_keys.specs.Cutting.{range_behind}
use Rattle.fdb_keys.specs.Points.{Point, point_lt}
use Rattle.fdb_keys.specs.Ranges.{Range, in_range, single_range}
use Rattle.fdb_keys.proofs.Exports.{not_behind-itself, lt_one_way, le_chain, in_range_parts, next_after, below_next}
use Rattle.fdb_mutations.specs.Maps.{Map}
use Rattle.fdb_mutations.specs.Pairs.{pairs_within, pairs_in}
use Rattle.fdb_mutations.specs.PairLaws.{pair_of}
use Rattle.fdb_mutations.proofs.PairsLemmas.{all_in-pairs_in, find-within, pairs_of_parts, pairs_from_a_key_on}

-- a range without a pair has no value
pub no_pairs : (map : Map) (range : Range) (is_reverse : Bool) → pairs_in map range is_reverse ≡ []
    → (x : Point) → in_range range x ≡ true → get map x ≡ None
no_pairs map range is_reverse none x inside =
    sym (cond-true _ (get map x) None inside)
    ∙ sym (find-within map range x)
    ∙ ap (find (slice_cmp nat_cmp) x) (forward is_reverse none)
  where
    forward : (way : Bool) → pairs_in map range way ≡ [] → pairs_within range (entries map) ≡ []
    forward false empty = empty
    forward true empty = sym (reverse-reverse (pairs_within range (entries map))) ∙ ap reverse empty

-- what comes first of two lists, where it isn't in the first one
first_elsewhere : {A : Type 0} (P : A → Type 0) (x : A) (rest xs ys : List A) → AllByRecursion P xs → (P x → ⊥)
    → xs ++ ys ≡ x ∷ rest → xs ≡ []
first_elsewhere P x rest [] ys all fails same = refl
first_elsewhere P x rest (first ∷ xs) ys all fails same =
    let is : first ≡ x = cc in
    absurd (fails (subst P is all.0))

module _ (map : Map) (range : Range) (key : Point) (value : List ℕ) (rest : List (Point × List ℕ)) where
  outside : (is_reverse : Bool) → in_range (range_behind range is_reverse key) key ≡ true → ⊥
  outside is_reverse inside = both_ways _ (not_behind-itself range is_reverse key) inside

  -- it lies in the range
  pub first-inside : (is_reverse : Bool) → pairs_in map range is_reverse ≡ (key, value) ∷ rest
      → in_range range key ≡ true
  first-inside is_reverse first =
      (subst (AllByRecursion (λ pair. in_range range pair.0 ≡ true)) first (all_in-pairs_in map range is_reverse)).0

  -- no pair comes before it
  pub none-before : (is_reverse : Bool) → pairs_in map range is_reverse ≡ (key, value) ∷ rest
      → pairs_in map (range_behind range (not is_reverse) key) is_reverse ≡ []
  none-before false first =
      let parts = in_range_parts range key (first-inside false first) in
      let cut = pairs_of_parts map range key parts.0 (lt_one_way key range.end parts.1) in
      first_elsewhere (λ pair. in_range (range_behind range true key) pair.0 ≡ true) (key, value) rest
      (pairs_in map (range_behind range true key) false) _ (all_in-pairs_in map (range_behind range true key) false)
      (outside true) (sym cut.0 ∙ first)
  none-before true first =
      let parts = in_range_parts range key (first-inside true first) in
      let next = (single_range key).end in
      let cut = pairs_of_parts map range next (begins parts.0) (ends parts.1) in
      first_elsewhere (λ pair. in_range (range_behind range false key) pair.0 ≡ true) (key, value) rest
      (pairs_in map (range_behind range false key) true) _ (all_in-pairs_in map (range_behind range false key) true)
      (outside false) (sym cut.1 ∙ first)
    where
      begins : point_lt key range.begin ≡ false → point_lt (single_range key).end range.begin ≡ false
      begins from = le_chain range.begin key (single_range key).end from
          (lt_one_way key (single_range key).end (next_after key))

      ends : point_lt key range.end ≡ true → point_lt range.end (single_range key).end ≡ false
      ends until = below_next key range.end ∙ not_from_true _ until

  -- it is the pair of its key, and the others lie behind it
  pub first-is : (is_reverse : Bool) → pairs_in map range is_reverse ≡ (key, value) ∷ rest
      → (get map key ≡ Some value) × (pairs_in map (range_behind range is_reverse key) is_reverse ≡ rest)
  first-is is_reverse first =
      by_value (get map key)
      (sym (pairs_from_a_key_on map range is_reverse key (first-inside is_reverse first) (none-before is_reverse first))
      ∙ first)
    where
      behind : Range
      behind = range_behind range is_reverse key

      by_value : (found : Option (List ℕ)) → pair_of key found ++ pairs_in map behind is_reverse ≡ (key, value) ∷ rest
          → (found ≡ Some value) × (pairs_in map behind is_reverse ≡ rest)
      by_value None same = absurd (outside is_reverse
          (subst (AllByRecursion (λ pair. in_range behind pair.0 ≡ true)) same
          (all_in-pairs_in map behind is_reverse)).0)
      by_value (Some found) same =
          let others : pairs_in map behind is_reverse ≡ rest = cc in
          let pair : (key, found) ≡ (key, value) = cc in
          (ap (λ (p : Point × List ℕ). Some p.1) pair, others)
