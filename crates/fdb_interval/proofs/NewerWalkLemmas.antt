-- What a walk over all breakpoints has seen of newer versions.
use Rattle.std.proofs.Common.{◌≡◌, ◌∙◌, sym, ap, refl, ℕ, Bool, true, false, ◌&&◌, ◌||◌, nat_lt, ◌∷◌, ⊎_elim, ◌⊎◌}
use Rattle.std.proofs.lemmas.Bool.{cases_Bool, cond-true, cond-false, or_left, or_right}
use Rattle.fdb_keys.specs.Points.{Point, point_lt}
use Rattle.fdb_keys.specs.Ranges.{Range}
use Rattle.fdb_interval.specs.Breakpoints.{Breaks, value_from}
use Rattle.fdb_interval.proofs.BreaksLemmas.{sift, sift-true, sift-false, inside, inside-is}
use Rattle.fdb_interval.proofs.VersionsLemmas.{any_newer}

abbrev any_inside : ℕ → Range → Breaks ℕ → Bool
any_inside bar range es = any_newer bar (sift (inside range.begin range.end) es)

-- the version at the range's begin by what was seen, and whether a newer breakpoint inside it was
pub record IsWalked (bar : ℕ) (range : Range) (es rest : Breaks ℕ) (at_begin : ℕ) (is_inside : Bool) : Type 0 where
  pub value : value_from at_begin rest range.begin ≡ value_from 0 es range.begin
  pub within : (is_inside || any_newer bar (sift (inside range.begin range.end) rest))
      ≡ any_newer bar (sift (inside range.begin range.end) es)

pub walked-begins : (bar : ℕ) (range : Range) (es : Breaks ℕ) → IsWalked bar range es es 0 false
walked-begins bar range es = record { value = refl; within = refl }

module _ (bar : ℕ) (range : Range) (es rest left : Breaks ℕ) (e : Point × ℕ) (at_begin : ℕ) (is_inside : Bool)
    (walked : IsWalked bar range es rest at_begin is_inside) (steps : rest ≡ e ∷ left) where
  value_is : value_from at_begin (e ∷ left) range.begin ≡ value_from 0 es range.begin
  value_is = ap (λ (l : Breaks ℕ). value_from at_begin l range.begin) (sym steps) ∙ walked.value

  within_is : (is_inside || any_inside bar range (e ∷ left)) ≡ any_inside bar range es
  within_is = ap (λ (l : Breaks ℕ). is_inside || any_inside bar range l) (sym steps) ∙ walked.within

  passed : any_inside bar range (e ∷ left) ≡ any_inside bar range left
      → (is_inside || any_inside bar range left) ≡ any_inside bar range es
  passed same = ap (λ (t : Bool). is_inside || t) (sym same) ∙ within_is

  -- one up to the begin
  pub walked-up_to : point_lt range.begin e.0 ≡ false → IsWalked bar range es left e.1 is_inside
  walked-up_to up_to =
      let outside : inside range.begin range.end e.0 ≡ false =
      inside-is range.begin range.end e.0 ∙ ap (λ (t : Bool). t && point_lt e.0 range.end) up_to in
      record {
        value = sym (ap (λ (n : ℕ). value_from n left range.begin) (cond-false _ _ _ up_to)) ∙ value_is;
        within = passed (ap (any_newer bar) (sift-false (inside range.begin range.end) e left outside));
      }

  -- a newer one inside the range
  pub walked-newer : point_lt range.begin e.0 ≡ true → nat_lt bar e.1 ≡ true → point_lt e.0 range.end ≡ true
      → IsWalked bar range es left at_begin true
  walked-newer after newer before_end =
      let kept : inside range.begin range.end e.0 ≡ true =
      inside-is range.begin range.end e.0 ∙ (λ i. after i && before_end i) in
      record {
        value = sym (ap (λ (n : ℕ). value_from n left range.begin) (cond-true _ _ _ after)) ∙ value_is;
        within = sym (or_right is_inside _ (ap (any_newer bar) (sift-true (inside range.begin range.end) e left kept)
            ∙ or_left (nat_lt bar e.1) _ newer)) ∙ within_is;
      }

  -- one after the begin that isn't newer, or isn't inside
  pub walked-older : point_lt range.begin e.0 ≡ true
      → (nat_lt bar e.1 ≡ false) ⊎ (point_lt e.0 range.end ≡ false) → IsWalked bar range es left at_begin is_inside
  walked-older after which = record {
    value = sym (ap (λ (n : ℕ). value_from n left range.begin) (cond-true _ _ _ after)) ∙ value_is;
    within = passed (⊎_elim
        (λ older. ⊎_elim
        (λ kept.
        ap (any_newer bar) (sift-true (inside range.begin range.end) e left kept)
        ∙ ap (λ (t : Bool). t || any_inside bar range left) older)
        (λ dropped. ap (any_newer bar) (sift-false (inside range.begin range.end) e left dropped))
        (cases_Bool (inside range.begin range.end e.0)))
        (λ past.
        let outside : inside range.begin range.end e.0 ≡ false =
        inside-is range.begin range.end e.0 ∙ (λ i. after i && past i) in
        ap (any_newer bar) (sift-false (inside range.begin range.end) e left outside))
        which);
  }
