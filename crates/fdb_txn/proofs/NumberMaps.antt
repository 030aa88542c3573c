-- A map by numbers, made of pairs: what is looked up in it, and what one pair more or less makes of it.
use Rattle.std.proofs.Common.{◌≡◌, ◌∙◌, sym, ap, refl, ℕ, cond, List, [], ◌∷◌, Option, Some, None}
use Rattle.std.specs.Ordering.{nat_cmp}
use Rattle.std.specs.Cmp.{eq_by_cmp_equiv}
use Rattle.std.specs.FinMap.{FinMap, get, insert, remove, from_entries, find, same_map, get-insert, get-remove}
use Rattle.std.specs.FinMap.{get-from_entries, nat_cmp-IsAntisymmetric}
use Rattle.std.specs.BTreeMap.{is_at}
use Rattle.std.specs.Map.{lookup}
use Rattle.std.proofs.lemmas.Cmp.{nat_cmp_total}

module _ {X : Type 0} where
  -- what the list of pairs has at a number
  abbrev pub at_number : List (ℕ × X) → ℕ → Option X
  at_number pairs number = lookup (is_at (nat_cmp number)) pairs

  found-at_number : (pairs : List (ℕ × X)) (number : ℕ) → find nat_cmp number pairs ≡ at_number pairs number
  found-at_number [] number = refl
  found-at_number (pair ∷ pairs) number =
      ap (cond (is_at (nat_cmp number) pair.0) (Some pair.1)) (found-at_number pairs number)

  -- what the map that the pairs make has there
  pub get-pairs : (pairs : List (ℕ × X)) (number : ℕ) → get (from_entries {R = nat_cmp} pairs) number
      ≡ at_number pairs number
  get-pairs pairs number = get-from_entries nat_cmp_total pairs number ∙ found-at_number pairs number

  -- maps that have the same at each number are one
  pub same_maps : (m n : FinMap nat_cmp X) → ((number : ℕ) → get m number ≡ get n number) → m ≡ n
  same_maps = same_map nat_cmp_total nat_cmp-IsAntisymmetric

  -- pairs with one more
  pub one_put : (pairs after : List (ℕ × X)) (number : ℕ) (item : X)
      → ((other : ℕ) → at_number after other ≡ cond (is_at (nat_cmp number) other) (Some item) (at_number pairs other))
      → from_entries {R = nat_cmp} after ≡ insert (from_entries pairs) number item
  one_put pairs after number item there = same_maps _ _ (λ other.
      get-pairs after other ∙ there other
      ∙ ap (λ b. cond b (Some item) (at_number pairs other)) ((eq_by_cmp_equiv nat_cmp_total).symm number other)
      ∙ sym (get-insert nat_cmp_total (from_entries pairs) number item other
      ∙ ap (cond (is_at (nat_cmp other) number) (Some item)) (get-pairs pairs other)))

  -- pairs with one less
  pub one_taken : (pairs after : List (ℕ × X)) (number : ℕ)
      → ((other : ℕ) → at_number after other ≡ cond (is_at (nat_cmp number) other) None (at_number pairs other))
      → from_entries {R = nat_cmp} after ≡ remove (from_entries pairs) number
  one_taken pairs after number there = same_maps _ _ (λ other.
      get-pairs after other ∙ there other
      ∙ ap (λ b. cond b None (at_number pairs other)) ((eq_by_cmp_equiv nat_cmp_total).symm number other)
      ∙ sym (get-remove nat_cmp_total (from_entries pairs) number other
      ∙ ap (cond (is_at (nat_cmp other) number) None) (get-pairs pairs other)))
