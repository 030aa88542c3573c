-- One more set that was found, and what it makes of the sets of all places.
use Rattle.std.proofs.Common.{◌≡◌, ◌∙◌, sym, ap, subst, refl, ℕ, ◌<◌, ◌≤◌, true, false, ◌==◌, List, [], ◌∷◌, ◌++◌}
use Rattle.std.proofs.Common.{length, get_or, slice_set, replicate, if◌then◌else◌, ⊎_elim, arith}
use Rattle.std.proofs.lemmas.Bool.{cases_Bool, eqb-true, eq-eqb, cond-true, cond-false}
use Rattle.std.proofs.lemmas.List.{get_or-set_same, get_or-set_other, length-set, get_or-replicate, length-replicate}
use Rattle.std.proofs.lemmas.List.FromFn.{length-map-range_with_len, get_or-map-range_with_len, fill_by_all}
use Rattle.std.proofs.lemmas.List.Sums.{fold-append}
use Rattle.fdb_keys.specs.Insertion.{with_ranges}
use Rattle.fdb_keys.specs.Ranges.{Range}
use Rattle.fdb_resolver.specs.Rule.{Found}
use Rattle.fdb_proxy.specs.Conflicts.{with_found, conflict_by, joined_by}
use Rattle.fdb_proxy.proofs.OutcomeLemmas.{apart}

with_found-append : (p : ℕ) (found more : Found) (set : List Range)
    → with_found p (found ++ more) set ≡ with_found p more (with_found p found set)
with_found-append p [] more set = refl
with_found-append p (one ∷ found) more set =
    with_found-append p found more (if one.0 == p then with_ranges one.1 set else set)

abbrev step : ℕ → List Range → Found → List Range
step p set found = with_found p found set

-- one more set that a resolver found at a place is joined to the set of that place
conflict-more : (p : ℕ) (all : List Found) (before : Found) (one : ℕ × List Range)
    → conflict_by (all ++ (before ++ one ∷ []) ∷ []) p
    ≡ (if one.0 == p then with_ranges one.1 (conflict_by (all ++ before ∷ []) p)
    else conflict_by (all ++ before ∷ []) p)
conflict-more p all before one =
    fold-append (step p) [] all ((before ++ one ∷ []) ∷ [])
    ∙ with_found-append p before (one ∷ []) (conflict_by all p)
    ∙ sym (ap (λ (set : List Range). if one.0 == p then with_ranges one.1 set else set)
    (fold-append (step p) [] all (before ∷ [])))

-- whoever has found nothing yet changes nothing
conflict-silent : (p : ℕ) (all : List Found) → conflict_by (all ++ [] ∷ []) p ≡ conflict_by all p
conflict-silent p all = fold-append (step p) [] all ([] ∷ [])

count-sets : (all : List Found) (count : ℕ) → length (joined_by all count) ≡ count
count-sets all count = length-map-range_with_len (conflict_by all) 0 count

set-here : (all : List Found) (count k : ℕ) (d : List Range) → k < count
    → get_or (joined_by all count) k d ≡ conflict_by all k
set-here all count k d within = get_or-map-range_with_len (conflict_by all) 0 count k k d within (omega arith)

-- one set of all is changed
sets-more : (before after : List Found) (count place : ℕ) (changed : List Range) → place < count
    → conflict_by after place ≡ changed
    → ((k : ℕ) → (k ≡ place → ⊥) → conflict_by after k ≡ conflict_by before k)
    → slice_set (joined_by before count) place changed ≡ joined_by after count
sets-more before after count place changed within is others =
    fill_by_all (conflict_by after) (slice_set (joined_by before count) place changed) count []
    (length-set (joined_by before count) place changed ∙ count-sets before count)
    (λ k here. ⊎_elim
    (λ same.
    let at : k ≡ place = eqb-true k place same in
    ap (λ (n : ℕ). get_or (slice_set (joined_by before count) place changed) n []) at
    ∙ get_or-set_same (joined_by before count) place changed []
    (subst (λ (n : ℕ). place < n) (sym (count-sets before count)) within)
    ∙ sym is
    ∙ ap (conflict_by after) (sym at))
    (λ differs.
    let isnt : k ≡ place → ⊥ = λ at. apart-from k place differs at in
    get_or-set_other (joined_by before count) place k changed [] isnt
    ∙ set-here before count k [] here
    ∙ sym (others k isnt))
    (cases_Bool (k == place)))
  where
    apart-from : (k n : ℕ) → k == n ≡ false → k ≡ n → ⊥
    apart-from k n differs at = let is : k == n ≡ true = eq-eqb k n at in cc

-- no set is changed
sets-same : (before after : List Found) (count : ℕ)
    → ((k : ℕ) → k < count → conflict_by before k ≡ conflict_by after k)
    → joined_by before count ≡ joined_by after count
sets-same before after count same =
    fill_by_all (conflict_by after) (joined_by before count) count [] (count-sets before count)
    (λ k here. set-here before count k [] here ∙ same k here)

-- a set that was found at one of the places is joined
pub set-joined : (count : ℕ) (all : List Found) (before : Found) (place : ℕ) (found : List Range)
    (old new : List (List Range)) (d changed : List Range)
    → old ≡ joined_by (all ++ before ∷ []) count → place < length old
    → changed ≡ with_ranges found (get_or old place d) → new ≡ slice_set old place changed
    → new ≡ joined_by (all ++ (before ++ (place, found) ∷ []) ∷ []) count
set-joined count all before place found old new d changed is inside made set =
    let within : place < count = subst (λ (n : ℕ). place < n)
    (ap (λ (sets : List (List Range)). length sets) is ∙ count-sets (all ++ before ∷ []) count) inside in
    set
    ∙ ap (λ (sets : List (List Range)). slice_set sets place changed) is
    ∙ sets-more (all ++ before ∷ []) (all ++ (before ++ (place, found) ∷ []) ∷ []) count place changed within
    (conflict-more place all before (place, found)
    ∙ cond-true (place == place) _ _ (eq-eqb place place refl)
    ∙ ap (with_ranges found) (sym (set-here (all ++ before ∷ []) count place d within)
    ∙ sym (ap (λ (sets : List (List Range)). get_or sets place d) is))
    ∙ sym made)
    (λ k isnt.
    conflict-more k all before (place, found)
    ∙ cond-false (place == k) _ _ (apart place k (λ at. isnt (sym at))))

-- one at no place is left out
pub set-past : (count : ℕ) (all : List Found) (before : Found) (place : ℕ) (found : List Range)
    (old : List (List Range))
    → old ≡ joined_by (all ++ before ∷ []) count → length old ≤ place
    → old ≡ joined_by (all ++ (before ++ (place, found) ∷ []) ∷ []) count
set-past count all before place found old is beyond =
    let past : count ≤ place = subst (λ (n : ℕ). n ≤ place)
    (ap (λ (sets : List (List Range)). length sets) is ∙ count-sets (all ++ before ∷ []) count) beyond in
    is
    ∙ sets-same (all ++ before ∷ []) (all ++ (before ++ (place, found) ∷ []) ∷ []) count
    (λ k here. sym (conflict-more k all before (place, found)
    ∙ cond-false (place == k) _ _ (apart place k (λ at. absurd (omega (arith, at))))))

-- a resolver of which nothing was joined yet
pub sets-silent : (all : List Found) (count : ℕ) → joined_by all count ≡ joined_by (all ++ [] ∷ []) count
sets-silent all count = sets-same all (all ++ [] ∷ []) count (λ k here. sym (conflict-silent k all))

-- empty sets, of which nothing was joined yet
pub sets-none : (count : ℕ) → replicate count [] ≡ joined_by [] count
sets-none count = fill_by_all (conflict_by []) (replicate count []) count [] (length-replicate count [])
    (λ k here. get_or-replicate count k [] [] here)
