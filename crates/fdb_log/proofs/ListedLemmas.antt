-- Mutations that stand in the lists of their tags.
use Rattle.std.proofs.Common.{◌≡◌, ◌∙◌, refl, sym, ap, subst, ℕ, ◌<◌, ◌≤◌, max, Bool, true, false, not, ◌||◌, List, []}
use Rattle.std.proofs.Common.{◌∷◌, ◌++◌}
use Rattle.std.proofs.Common.{length, ⊎_elim, arith}
use Rattle.std.specs.Prelude.{◌==◌, filter, slice_set}
use Rattle.std.specs.List.{AllByRecursion}
use Rattle.std.proofs.lemmas.Bool.{cases_Bool, cond-true, cond-false, eqb-true, eq-eqb, and_parts, and_from, both_ways}
use Rattle.std.proofs.lemmas.Bool.{not-true}
use Rattle.fdb_keys.proofs.Exports.{all-append, all-weaken}
use Rattle.fdb_log.specs.Places.{Holding, AreAdded, AreListed, AreRising, StartsAbove, has_place, is_place}
use Rattle.fdb_log.specs.Places.{list_at, places_above}
use Rattle.fdb_log.specs.TagSets.{is_among}
use Rattle.fdb_log.specs.Waiting.{Waiting, kept_among, waits}
use Rattle.fdb_log.proofs.PlacesLemmas.{rising-later, rising-push, rising-above, all-above}
use Rattle.fdb_log.proofs.PlacesLemmas.{has-above, has-still, has-before, has-last}
use Rattle.fdb_log.proofs.TagSetLemmas.{among-of_kept}
use Rattle.fdb_log.proofs.ToldLemmas.{set-same, set-other}
use Rattle.fdb_log.proofs.WaitingLemmas.{all-passing, filter-all, leaves-for}

-- a later version is the last one
pub listed-later : (kept : ℕ → Bool) (popped : ℕ → ℕ) (last later : ℕ) (holding : Holding) → last ≤ later
    → AreListed kept popped last holding → AreListed kept popped later holding
listed-later kept popped last later holding more are =
    record {
      rising = λ tag here. rising-later last later (list_at holding.places tag) more (are.rising tag here);
      listed = are.listed;
    }

-- one mutation more, with its place in the lists of its tags
module _ (kept : ℕ → Bool) (popped : ℕ → ℕ) (place : ℕ × ℕ) (tags : List ℕ) (old new : Holding)
    (are : AreListed kept popped place.0 old) (added : AreAdded kept place tags old.places new.places)
    (waiting : new.waiting ≡ old.waiting ++ (place, kept_among kept tags) ∷ []) where
  still-has : (tag : ℕ) (other : ℕ × ℕ) → kept tag ≡ true → has_place (list_at old.places tag) other ≡ true
      → has_place (list_at new.places tag) other ≡ true
  still-has tag other here has =
      ⊎_elim
      (λ among.
      ap (λ (list : List (ℕ × ℕ)). has_place list other) (added tag here ∙ cond-true (is_among tags tag) _ _ among)
      ∙ has-before (list_at old.places tag) (place ∷ []) other has)
      (λ none.
      ap (λ (list : List (ℕ × ℕ)). has_place list other) (added tag here ∙ cond-false (is_among tags tag) _ _ none)
      ∙ has)
      (cases_Bool (is_among tags tag))

  pub listed-more : AreListed kept popped place.0 new
  listed-more =
      record {
        rising = λ tag here.
            ⊎_elim
            (λ among.
            subst (AreRising place.0) (sym (added tag here ∙ cond-true (is_among tags tag) _ _ among))
            (rising-push place.0 (list_at old.places tag) place refl (are.rising tag here)))
            (λ none.
            subst (AreRising place.0) (sym (added tag here ∙ cond-false (is_among tags tag) _ _ none))
            (are.rising tag here))
            (cases_Bool (is_among tags tag));
        listed =
            subst
            (AllByRecursion (λ (one : Waiting). (tag : ℕ) → kept tag ≡ true → is_among one.1 tag ≡ true
            → popped tag < one.0.0 → has_place (list_at new.places tag) one.0 ≡ true))
            (sym waiting)
            (all-append (λ (one : Waiting). (tag : ℕ) → kept tag ≡ true → is_among one.1 tag ≡ true
            → popped tag < one.0.0 → has_place (list_at new.places tag) one.0 ≡ true)
            old.waiting ((place, kept_among kept tags) ∷ [])
            (all-weaken (λ (one : Waiting). (tag : ℕ) → kept tag ≡ true → is_among one.1 tag ≡ true
            → popped tag < one.0.0 → has_place (list_at old.places tag) one.0 ≡ true)
            (λ (one : Waiting). (tag : ℕ) → kept tag ≡ true → is_among one.1 tag ≡ true
            → popped tag < one.0.0 → has_place (list_at new.places tag) one.0 ≡ true)
            (λ one has tag here among low. still-has tag one.0 here (has tag here among low)) old.waiting are.listed) (
              (λ tag here among low.
                  let sent : is_among tags tag ≡ true = among-of_kept kept tags tag among in
                  ap (λ (list : List (ℕ × ℕ)). has_place list place)
                  (added tag here ∙ cond-true (is_among tags tag) _ _ sent)
                  ∙ has-last (list_at old.places tag) place),
              tt,
            ));
      }

-- ---- what is dropped, place by place

-- what waits no longer is of a version up to this one, and stands at one of the places
abbrev pub LeaveThrough : (Waiting → Bool) → ℕ → List (ℕ × ℕ) → List Waiting → Type 0
LeaveThrough test through places items =
    AllByRecursion (λ (one : Waiting). test one ≡ false → (one.0.0 ≤ through) × (has_place places one.0 ≡ true)) items

module _ (test : Waiting → Bool) (through : ℕ) where
  -- the first place is taken
  pub leave-next : (place : ℕ × ℕ) (places : List (ℕ × ℕ)) (items : List Waiting)
      → LeaveThrough test through (place ∷ places) items
      → LeaveThrough test through places
      (filter (λ (one : Waiting). test one || not (is_place place one.0)) items)
  leave-next place places items leave =
      all-passing
      (λ (one : Waiting). test one ≡ false → (one.0.0 ≤ through) × (has_place (place ∷ places) one.0 ≡ true))
      (λ (one : Waiting). test one ≡ false → (one.0.0 ≤ through) × (has_place places one.0 ≡ true))
      (λ (one : Waiting). test one || not (is_place place one.0)) items
      (λ one stays leaves fails.
      let both = leaves fails in
      let apart : is_place place one.0 ≡ false =
      not-true (is_place place one.0)
      (sym (ap (λ (b : Bool). b || not (is_place place one.0)) fails) ∙ stays) in
      let other : is_place one.0 place ≡ false = other-way place one.0 apart in
      (both.0, sym (ap (λ (b : Bool). b || has_place places one.0) other) ∙ both.1)) leave
    where
      other-way : (a b : ℕ × ℕ) → is_place a b ≡ false → is_place b a ≡ false
      other-way a b apart =
          ⊎_elim
          (λ same.
          let parts = and_parts (b.0 == a.0) (b.1 == a.1) same in
          absurd (both_ways (is_place a b) apart
          (and_from (a.0 == b.0) (a.1 == b.1) (eq-eqb a.0 b.0 (sym (eqb-true b.0 a.0 parts.0)))
          (eq-eqb a.1 b.1 (sym (eqb-true b.1 a.1 parts.1))))))
          (λ differs. differs)
          (cases_Bool (is_place b a))

  -- and at the end all that are left wait
  pub left-wait : (last : ℕ) (places : List (ℕ × ℕ)) (items : List Waiting) → AreRising last places
      → StartsAbove through places → LeaveThrough test through places items → filter test items ≡ items
  left-wait last places items rising starts leave =
      filter-all test items
      (all-weaken
      (λ (one : Waiting). test one ≡ false → (one.0.0 ≤ through) × (has_place places one.0 ≡ true))
      (λ (one : Waiting). test one ≡ true)
      (λ one leaves.
      ⊎_elim (λ passes. passes)
      (λ fails.
      let both = leaves fails in
      let later : through < one.0.0 =
      has-above through places one.0 (all-above last through places rising starts) both.1 in
      let within : one.0.0 ≤ through = both.0 in
      absurd (omega arith))
      (cases_Bool (test one)))
      items leave)

-- ---- a tag that is popped

module _ (kept : ℕ → Bool) (before after : ℕ → ℕ) (last tag through : ℕ) (holding : Holding)
    (here : after tag ≡ max (before tag) through)
    (others : (other : ℕ) → (other == tag) ≡ false → after other ≡ before other) (kept_here : kept tag ≡ true)
    (waited : AllByRecursion (λ (one : Waiting). waits before one ≡ true) holding.waiting)
    (are : AreListed kept before last holding) where
  both : (items : List Waiting) → AllByRecursion (λ (one : Waiting). waits before one ≡ true) items
      → AllByRecursion (λ (one : Waiting). (other : ℕ) → kept other ≡ true → is_among one.1 other ≡ true
      → before other < one.0.0 → has_place (list_at holding.places other) one.0 ≡ true) items
      → LeaveThrough (waits after) through (list_at holding.places tag) items
  both [] all listed = tt
  both (one ∷ items) all listed = (
    (λ fails.
        let leaves = leaves-for before after tag through here others one all.0 fails in
        (leaves.0, listed.0 tag kept_here leaves.1 leaves.2)),
    both items all.1 listed.1,
  )

  -- what waits no longer stands at one of its places
  pub leave-popped : LeaveThrough (waits after) through (list_at holding.places tag) holding.waiting
  leave-popped = both holding.waiting waited are.listed

  -- those that are left are listed
  pub listed-popped : tag < length holding.places
      → AreListed kept after last
      (record {
        places = slice_set holding.places tag (places_above through (list_at holding.places tag));
        waiting = filter (waits after) holding.waiting;
      })
  listed-popped within =
      let new = slice_set holding.places tag (places_above through (list_at holding.places tag)) in
      record {
        rising = λ other is_kept.
            ⊎_elim
            (λ same.
            subst (AreRising last)
            (sym (ap (list_at new) (eqb-true other tag same)
            ∙ set-same holding.places tag (places_above through (list_at holding.places tag)) within))
            (rising-above last through (list_at holding.places tag) (are.rising tag kept_here)))
            (λ apart.
            subst (AreRising last)
            (sym (set-other holding.places tag other (places_above through (list_at holding.places tag)) apart))
            (are.rising other is_kept))
            (cases_Bool (other == tag));
        listed =
            all-passing (λ (one : Waiting). (other : ℕ) → kept other ≡ true → is_among one.1 other ≡ true
            → before other < one.0.0 → has_place (list_at holding.places other) one.0 ≡ true)
            (λ (one : Waiting). (other : ℕ) → kept other ≡ true → is_among one.1 other ≡ true
            → after other < one.0.0 → has_place (list_at new other) one.0 ≡ true)
            (waits after) holding.waiting
            (λ one passes has other is_kept among low.
            ⊎_elim
            (λ same.
            let it : other ≡ tag = eqb-true other tag same in
            let low_here : after tag < one.0.0 = subst (λ (t : ℕ). after t < one.0.0) it low in
            let above : through < one.0.0 = omega (arith, here) in
            let below : before tag < one.0.0 = omega (arith, here) in
            ap (λ (list : List (ℕ × ℕ)). has_place list one.0)
            (ap (list_at new) it
            ∙ set-same holding.places tag (places_above through (list_at holding.places tag)) within)
            ∙ has-still through (list_at holding.places tag) one.0 above
            (has tag kept_here (subst (λ (t : ℕ). is_among one.1 t ≡ true) it among) below))
            (λ apart.
            let low_there : before other < one.0.0 = subst (λ (v : ℕ). v < one.0.0) (others other apart) low in
            ap (λ (list : List (ℕ × ℕ)). has_place list one.0)
            (set-other holding.places tag other (places_above through (list_at holding.places tag)) apart)
            ∙ has other is_kept among low_there)
            (cases_Bool (other == tag)))
            are.listed;
      }
