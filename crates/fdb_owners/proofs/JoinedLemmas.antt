-- The joined breakpoints decide the history of each point.
use Rattle.std.proofs.Common.{◌≡◌, ◌∙◌, sym, ap, subst, refl, ◌≤◌, true, false, [], ◌∷◌, ◌⊎◌, inl, inr}
use Rattle.std.proofs.Common.{length, suc, arith}
use Rattle.std.specs.List.{AllByRecursion}
use Rattle.std.proofs.lemmas.Bool.{cases_Bool, cond-true, cond-false, cond_both}
use Rattle.fdb_keys.specs.Points.{Point, point_lt}
use Rattle.fdb_keys.proofs.Exports.{lt_chain}
use Rattle.fdb_interval.specs.Breakpoints.{Breaks, value_from, AreRising}
use Rattle.fdb_interval.proofs.Exports.{all_imply, value-after}
use Rattle.fdb_owners.specs.declared.history.History.{History}
use Rattle.fdb_owners.specs.declared.pieces.Pieces.{Pieces}
use Rattle.fdb_owners.specs.Histories.{same_history}
use Rattle.fdb_owners.specs.Pieces.{history_at, joined, joined_after}
use Rattle.fdb_owners.proofs.SameHistoryLemmas.{same_history-true}

pub all-joined : (P : Point × History → Type 0) (before : History) (es : Breaks History) → AllByRecursion P es
    → AllByRecursion P (joined_after before es)
all-joined P before [] all = tt
all-joined P before (e ∷ es) all =
    either (cases_Bool (same_history e.1 before)) (all-joined P before es all.1) (all-joined P e.1 es all.1)
  where
    either : (same_history e.1 before ≡ true) ⊎ (same_history e.1 before ≡ false)
        → AllByRecursion P (joined_after before es) → AllByRecursion P (joined_after e.1 es)
        → AllByRecursion P (joined_after before (e ∷ es))
    either (inl same) left _ = subst (AllByRecursion P) (sym (cond-true _ _ _ same)) left
    either (inr other) _ left = subst (AllByRecursion P) (sym (cond-false _ _ _ other)) (all.0, left)

-- what is left has the history of each point
pub value-joined : (before : History) (es : Breaks History) (x : Point) → AreRising es
    → value_from before (joined_after before es) x ≡ value_from before es x
value-joined before [] x rising = refl
value-joined before (e ∷ es) x rising =
    by_case (cases_Bool (point_lt x e.0)) (cases_Bool (same_history e.1 before))
    (λ start. value-joined start es x rising.1)
  where
    by_case : (point_lt x e.0 ≡ true) ⊎ (point_lt x e.0 ≡ false)
        → (same_history e.1 before ≡ true) ⊎ (same_history e.1 before ≡ false)
        → ((start : History) → value_from start (joined_after start es) x ≡ value_from start es x)
        → value_from before (joined_after before (e ∷ es)) x ≡ value_from before (e ∷ es) x
    by_case (inl sooner) either others =
        let later : AllByRecursion (λ (f : Point × History). point_lt x f.0 ≡ true) (e ∷ es) = (
          sooner,
          all_imply (λ f. point_lt e.0 f.0 ≡ true) (λ f. point_lt x f.0 ≡ true)
              (λ f after. lt_chain x e.0 f.0 sooner after) es rising.0,
        ) in
        value-after before (joined_after before (e ∷ es)) x
        (all-joined (λ f. point_lt x f.0 ≡ true) before (e ∷ es) later)
        ∙ sym (value-after before (e ∷ es) x later)
    by_case (inr reached) (inl same) others =
        ap (λ (l : Breaks History). value_from before l x) (cond-true _ _ _ same)
        ∙ others before
        ∙ sym (ap (λ (h : History). value_from h es x)
        (cond-false _ _ _ reached ∙ same_history-true e.1 before same))
    by_case (inr reached) (inr other) others =
        ap (λ (l : Breaks History). value_from before l x) (cond-false _ _ _ other)
        ∙ ap (λ (h : History). value_from h (joined_after e.1 es) x) (cond-false _ _ _ reached)
        ∙ others e.1
        ∙ sym (ap (λ (h : History). value_from h es x) (cond-false _ _ _ reached))

pub joined-decides : (pieces others : Pieces) → AreRising pieces.breaks.entries → AreRising others.breaks.entries
    → others.lowest ≡ pieces.lowest → joined others ≡ joined pieces → (x : Point)
    → history_at others x ≡ history_at pieces x
joined-decides pieces others rising others_rising front same x =
    sym (value-joined others.lowest others.breaks.entries x others_rising)
    ∙ (λ i. value_from (front i) (same i) x)
    ∙ value-joined pieces.lowest pieces.breaks.entries x rising

-- no more breakpoints are left than there were
pub joined-fewer : (before : History) (es : Breaks History) → length (joined_after before es) ≤ length es
joined-fewer before [] = omega arith
joined-fewer before (e ∷ es) =
    let same = joined-fewer before es in
    let other = joined-fewer e.1 es in
    cond_both (same_history e.1 before) (joined_after before es) (e ∷ joined_after e.1 es)
    (λ (left : Breaks History). length left ≤ suc (length es)) (λ _. omega (arith, same)) (λ _. omega (arith, other))
