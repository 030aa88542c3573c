-- One more verdict, and what it makes of the outcomes.
use Rattle.std.proofs.Common.{◌≡◌, ◌∙◌, refl, sym, ap, subst, ℕ, ◌<◌, ◌≤◌, Bool, true, false, ◌&&◌, ◌||◌, ◌==◌, List}
use Rattle.std.proofs.Common.{[], ◌∷◌, ◌++◌, length, slice_set, get_or, Option, Some, if◌then◌else◌, ⊎_elim, arith}
use Rattle.std.specs.List.{list_any}
use Rattle.std.proofs.lemmas.Bool.{cases_Bool, eqb-true, eq-eqb}
use Rattle.std.proofs.lemmas.List.{same_lists, get_or-set_same, get_or-set_other, length-set}
use Rattle.std.proofs.lemmas.List.Folds.{list_any-append}
use Rattle.std.proofs.lemmas.List.FromFn.{length-map-range_with_len, get_or-map-range_with_len}
use Rattle.fdb_resolver.specs.declared.verdict.Verdict.{Verdict}
use Rattle.fdb_resolver.specs.declared.verdict.Verdict.TheVariants as verdict
use Rattle.fdb_proxy.specs.declared.outcome.Outcome.{Outcome}
use Rattle.fdb_proxy.specs.declared.outcome.Outcome.TheVariants as outcome
use Rattle.fdb_proxy.specs.Deciding.{Said, heard_of, is_said, is_old, is_conflict, outcome_by, outcomes_by, worse}

regroup : (a b c : Bool) → (a || ((b || (c || false)) || false)) ≡ ((a || (b || false)) || c)
regroup true b c = refl
regroup false true c = refl
regroup false false true = refl
regroup false false false = refl

-- it is said of a place where it was said before, or the one more is on the place and says so
said-more : (test : Verdict → Bool) (p : ℕ) (verdicts : List (Option Said)) (said : Said) (one : ℕ × Verdict)
    → is_said test p (verdicts ++ Some (said ++ one ∷ []) ∷ [])
    ≡ (is_said test p (verdicts ++ Some said ∷ []) || ((one.0 == p) && test one.1))
said-more test p verdicts said one =
    let says : ℕ × Verdict → Bool = λ (of : ℕ × Verdict). (of.0 == p) && test of.1 in
    let by : Option Said → Bool = λ (of : Option Said). list_any says (heard_of of) in
    list_any-append by verdicts (Some (said ++ one ∷ []) ∷ [])
    ∙ ap (λ (b : Bool). list_any by verdicts || (b || false)) (list_any-append says said (one ∷ []))
    ∙ regroup (list_any by verdicts) (list_any says said) (says one)
    ∙ ap (λ (b : Bool). b || says one) (sym (list_any-append by verdicts (Some said ∷ [])))

-- what is old, and what conflicts, decide
abbrev by_flags : ℕ → ℕ → Bool → Bool → Outcome
by_flags version p old conflict =
    if old then outcome.Old else (if conflict then outcome.Conflict else outcome.Commit version p)

flags-more : (version p : ℕ) (old conflict same : Bool) (v : Verdict)
    → by_flags version p (old || (same && is_old v)) (conflict || (same && is_conflict v))
    ≡ (if same then worse (by_flags version p old conflict) v else by_flags version p old conflict)
flags-more version p true conflict false v = refl
flags-more version p false true false v = refl
flags-more version p false false false v = refl
flags-more version p true conflict true verdict.Yes = refl
flags-more version p true conflict true verdict.Conflict = refl
flags-more version p true conflict true verdict.Old = refl
flags-more version p false true true verdict.Yes = refl
flags-more version p false true true verdict.Conflict = refl
flags-more version p false true true verdict.Old = refl
flags-more version p false false true verdict.Yes = refl
flags-more version p false false true verdict.Conflict = refl
flags-more version p false false true verdict.Old = refl

-- one more verdict makes the outcome of its place worse, and no other's
outcome-more : (version p : ℕ) (verdicts : List (Option Said)) (said : Said) (one : ℕ × Verdict)
    → outcome_by version (verdicts ++ Some (said ++ one ∷ []) ∷ []) p
    ≡ (if one.0 == p then worse (outcome_by version (verdicts ++ Some said ∷ []) p) one.1
    else outcome_by version (verdicts ++ Some said ∷ []) p)
outcome-more version p verdicts said one =
    ap (λ (b : Bool). by_flags version p b (is_said is_conflict p (verdicts ++ Some (said ++ one ∷ []) ∷ [])))
    (said-more is_old p verdicts said one)
    ∙ ap (by_flags version p (is_said is_old p (verdicts ++ Some said ∷ []) || ((one.0 == p) && is_old one.1)))
    (said-more is_conflict p verdicts said one)
    ∙ flags-more version p (is_said is_old p (verdicts ++ Some said ∷ []))
    (is_said is_conflict p (verdicts ++ Some said ∷ [])) (one.0 == p) one.1

-- as many outcomes as places
pub count-outcomes : (version : ℕ) (verdicts : List (Option Said)) (count : ℕ)
    → length (outcomes_by version verdicts count) ≡ count
count-outcomes version verdicts count = length-map-range_with_len (outcome_by version verdicts) 0 count

outcome-at : (version : ℕ) (verdicts : List (Option Said)) (count k : ℕ) (d : Outcome) → k < count
    → get_or (outcomes_by version verdicts count) k d ≡ outcome_by version verdicts k
outcome-at version verdicts count k d within =
    get_or-map-range_with_len (outcome_by version verdicts) 0 count k k d within (omega arith)

apart-eqb : (n k : ℕ) → k < n → n == k ≡ false
apart-eqb n k below = ⊎_elim (λ is. absurd (neq (eqb-true n k is))) (λ isnt. isnt) (cases_Bool (n == k))
  where
    neq : n ≡ k → ⊥
    neq same = omega arith

-- one more verdict on one of the places
outcomes-more : (version count : ℕ) (verdicts : List (Option Said)) (said : Said) (place : ℕ) (v : Verdict)
    (d : Outcome) → place < count
    → slice_set (outcomes_by version (verdicts ++ Some said ∷ []) count) place
    (worse (get_or (outcomes_by version (verdicts ++ Some said ∷ []) count) place d) v)
    ≡ outcomes_by version (verdicts ++ Some (said ++ (place, v) ∷ []) ∷ []) count
outcomes-more version count verdicts said place v d within =
    same_lists _ _ lengths each
  where
    before : List (Option Said)
    before = verdicts ++ Some said ∷ []

    after : List (Option Said)
    after = verdicts ++ Some (said ++ (place, v) ∷ []) ∷ []

    old : List Outcome
    old = outcomes_by version before count

    changed : List Outcome
    changed = slice_set old place (worse (get_or old place d) v)

    long : length changed ≡ count
    long = length-set old place (worse (get_or old place d) v) ∙ count-outcomes version before count

    lengths : length changed ≡ length (outcomes_by version after count)
    lengths = long ∙ sym (count-outcomes version after count)

    more : (k : ℕ) → outcome_by version after k
        ≡ (if place == k then worse (outcome_by version before k) v else outcome_by version before k)
    more k = outcome-more version k verdicts said (place, v)

    each : (k : ℕ) (e : Outcome) → k < length changed
        → get_or changed k e ≡ get_or (outcomes_by version after count) k e
    each k e inside = ⊎_elim same other (cases_Bool (place == k))
      where
        here : k < count
        here = subst (λ (n : ℕ). k < n) long inside

        same : place == k ≡ true → get_or changed k e ≡ get_or (outcomes_by version after count) k e
        same is =
            let at : place ≡ k = eqb-true place k is in
            ap (λ (i : ℕ). get_or changed i e) (sym at)
            ∙ get_or-set_same old place (worse (get_or old place d) v) e
            (subst (λ (n : ℕ). place < n) (sym (count-outcomes version before count)) within)
            ∙ ap (λ (o : Outcome). worse o v) (outcome-at version before count place d within
            ∙ ap (outcome_by version before) at)
            ∙ sym (ap (λ (b : Bool). if b then worse (outcome_by version before k) v else outcome_by version before k)
            is)
            ∙ sym (more k)
            ∙ sym (outcome-at version after count k e here)

        other : place == k ≡ false → get_or changed k e ≡ get_or (outcomes_by version after count) k e
        other isnt =
            get_or-set_other old place k (worse (get_or old place d) v) e
            (λ (at : k ≡ place). absurd (differs at))
            ∙ outcome-at version before count k e here
            ∙ sym (ap (λ (b : Bool). if b then worse (outcome_by version before k) v else outcome_by version before k)
            isnt)
            ∙ sym (more k)
            ∙ sym (outcome-at version after count k e here)
          where
            differs : k ≡ place → ⊥
            differs at = let is : place == k ≡ true = eq-eqb place k (sym at) in cc

-- outcomes that are the same at each place
same-outcomes : (version count : ℕ) (before after : List (Option Said))
    → ((k : ℕ) → k < count → outcome_by version before k ≡ outcome_by version after k)
    → outcomes_by version before count ≡ outcomes_by version after count
same-outcomes version count before after same =
    same_lists _ _ (count-outcomes version before count ∙ sym (count-outcomes version after count)) each
  where
    each : (k : ℕ) (e : Outcome) → k < length (outcomes_by version before count)
        → get_or (outcomes_by version before count) k e ≡ get_or (outcomes_by version after count) k e
    each k e inside =
        let here : k < count = subst (λ (n : ℕ). k < n) (count-outcomes version before count) inside in
        outcome-at version before count k e here ∙ same k here ∙ sym (outcome-at version after count k e here)

-- a verdict on none of the places changes nothing
outcomes-same : (version count : ℕ) (verdicts : List (Option Said)) (said : Said) (place : ℕ) (v : Verdict)
    → count ≤ place
    → outcomes_by version (verdicts ++ Some said ∷ []) count
    ≡ outcomes_by version (verdicts ++ Some (said ++ (place, v) ∷ []) ∷ []) count
outcomes-same version count verdicts said place v beyond =
    same-outcomes version count (verdicts ++ Some said ∷ []) (verdicts ++ Some (said ++ (place, v) ∷ []) ∷ []) each
  where
    each : (k : ℕ) → k < count → outcome_by version (verdicts ++ Some said ∷ []) k
        ≡ outcome_by version (verdicts ++ Some (said ++ (place, v) ∷ []) ∷ []) k
    each k here =
        let isnt : place == k ≡ false = apart-eqb place k (omega arith) in
        sym (ap (λ (b : Bool). if b then worse (outcome_by version (verdicts ++ Some said ∷ []) k) v
        else outcome_by version (verdicts ++ Some said ∷ []) k) isnt)
        ∙ sym (outcome-more version k verdicts said (place, v))

-- one more verdict that was taken in
pub verdict-taken : (version count : ℕ) (verdicts : List (Option Said)) (said : Said) (place : ℕ) (v : Verdict)
    (d : Outcome) (old read new : List Outcome) (changed : Outcome)
    → old ≡ outcomes_by version (verdicts ++ Some said ∷ []) count → read ≡ old → place < length old
    → changed ≡ worse (get_or read place d) v → new ≡ slice_set old place changed
    → new ≡ outcomes_by version (verdicts ++ Some (said ++ (place, v) ∷ []) ∷ []) count
verdict-taken version count verdicts said place v d old read new changed is same inside made set =
    set
    ∙ ap (slice_set old place) (made ∙ ap (λ (os : List Outcome). worse (get_or os place d) v) same)
    ∙ ap (λ (os : List Outcome). slice_set os place (worse (get_or os place d) v)) is
    ∙ outcomes-more version count verdicts said place v d
    (subst (λ (n : ℕ). place < n) (ap (λ (os : List Outcome). length os) is
    ∙ count-outcomes version (verdicts ++ Some said ∷ []) count) inside)

-- one on no place
pub verdict-past : (version count : ℕ) (verdicts : List (Option Said)) (said : Said) (place : ℕ) (v : Verdict)
    (old : List Outcome) → old ≡ outcomes_by version (verdicts ++ Some said ∷ []) count → length old ≤ place
    → old ≡ outcomes_by version (verdicts ++ Some (said ++ (place, v) ∷ []) ∷ []) count
verdict-past version count verdicts said place v old is beyond =
    is
    ∙ outcomes-same version count verdicts said place v
    (subst (λ (n : ℕ). n ≤ place) (ap (λ (os : List Outcome). length os) is
    ∙ count-outcomes version (verdicts ++ Some said ∷ []) count) beyond)

or-nothing : (a : Bool) → (a || (false || false)) ≡ a
or-nothing true = refl
or-nothing false = refl

-- whoever has said nothing changes nothing
pub outcomes-silent : (version count : ℕ) (verdicts : List (Option Said)) (of : Option Said) → heard_of of ≡ []
    → outcomes_by version verdicts count ≡ outcomes_by version (verdicts ++ of ∷ []) count
outcomes-silent version count verdicts of nothing =
    same-outcomes version count verdicts (verdicts ++ of ∷ []) each
  where
    said-same : (test : Verdict → Bool) (p : ℕ) → is_said test p (verdicts ++ of ∷ []) ≡ is_said test p verdicts
    said-same test p =
        let says : ℕ × Verdict → Bool = λ (one : ℕ × Verdict). (one.0 == p) && test one.1 in
        let by : Option Said → Bool = λ (one : Option Said). list_any says (heard_of one) in
        list_any-append by verdicts (of ∷ [])
        ∙ ap (λ (heard : Said). list_any by verdicts || (list_any says heard || false)) nothing
        ∙ or-nothing (list_any by verdicts)

    each : (k : ℕ) → k < count → outcome_by version verdicts k ≡ outcome_by version (verdicts ++ of ∷ []) k
    each k here =
        sym (ap (λ (b : Bool). by_flags version k b (is_said is_conflict k (verdicts ++ of ∷ []))) (said-same is_old k)
        ∙ ap (by_flags version k (is_said is_old k verdicts)) (said-same is_conflict k))
