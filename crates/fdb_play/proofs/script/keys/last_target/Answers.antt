use Rattle.std.proofs.Common.{◌≡◌, ℕ, List, [], ◌∷◌, ap₂, sym, ◌∙◌}
use Rattle.std.proofs.lemmas.Result.{err_from_is_err_and}
use Rattle.fdb_keys.specs.Texts.{range_fault}
use Rattle.fdb_play.specs.declared.script.keys.RangeTarget.{RangeTarget}
use Rattle.fdb_play.specs.script.Grammar.{WritesOne, WritesTarget, WritesText}
use Rattle.fdb_play.proofs.lemmas.Faults.{MatchFault-bad_alone, Reads-refused}
use Rattle.fdb_play.proofs.lemmas.Words.{after_first}
use Rattle.fdb_play.proofs.script.keys.last_target.Goals as goal

-- the words lack the begin
no_begin : (words : List (List ℕ))
    → ((word : List ℕ) (rest : List (List ℕ)) (bytes : List ℕ) → words ≡ word ∷ rest → ¬ WritesText word bytes)
    → (target : RangeTarget) → ¬ WritesTarget words target
no_begin words none target written =
    none written.0 (written.1 ∷ written.2 ∷ []) target.range.begin written.3 written.4

module _ (words after : List (List ℕ)) (begin : List ℕ)
    (first : (x : List ℕ) × (words ≡ x ∷ after) × WritesText x begin) where
  -- or the end
  no_end : ((word : List ℕ) (rest : List (List ℕ)) (bytes : List ℕ) → after ≡ word ∷ rest → ¬ WritesText word bytes)
      → (target : RangeTarget) → ¬ WritesTarget words target
  no_end none target written =
      none written.1 (written.2 ∷ []) target.range.end (after_first (sym first.1 ∙ written.3)) written.5

  -- or what they end with is no number
  no_number : (later : List (List ℕ)) (end : List ℕ) → ((x : List ℕ) × (after ≡ x ∷ later) × WritesText x end)
      → ((value : ℕ) → ¬ WritesOne later value) → (target : RangeTarget) → ¬ WritesTarget words target
  no_number later end second none target written =
      none target.to
      (written.2, after_first (sym second.1 ∙ after_first (sym first.1 ∙ written.3)), written.6)

pub returns-in_err-begin : goal.returns-in_err-begin
returns-in_err-begin c =
    let p = err_from_is_err_and c.from_residual.result c.from_residual.ensures.1 in
    rw (p.1, p.2) (MatchFault-bad_alone _ _ _ _ c.in_err-begin.ensures.bad (no_begin _))

pub returns-in_err-end : goal.returns-in_err-end
returns-in_err-end c =
    let p = err_from_is_err_and c.from_residual-in_err-end.result c.from_residual-in_err-end.ensures.1 in
    rw (p.1, p.2) (MatchFault-bad_alone _ _ _ _ c.in_err-end.ensures.bad (no_end _ _ _ c.in_ok-begin.ensures.ok))

pub returns-in_err-to : goal.returns-in_err-to
returns-in_err-to c =
    let p = err_from_is_err_and c.from_residual-in_err-to.result c.from_residual-in_err-to.ensures.1 in
    let bad = c.in_err-to.ensures.bad in
    rw (p.1, p.2, bad.0) (no_number _ _ _ c.in_ok-begin.ensures.ok _ _ c.in_ok-end.ensures.ok bad.1)

pub returns-in_err-range : goal.returns-in_err-range
returns-in_err-range c =
    let p = err_from_is_err_and c.from_residual-in_err-range.result c.from_residual-in_err-range.ensures.1 in
    let first = c.in_ok-begin.ensures.ok in
    let second = c.in_ok-end.ensures.ok in
    let third = c.in_ok-to.ensures.ok in
    rw (p.1, p.2)
    (Reads-refused _ (range_fault c.as_slice.result.now c.as_slice-2.result.now) _ _ c.in_err-range.ensures.refused
    (record {
      range = record { begin = c.in_ok-begin.begin.items; end = c.in_ok-end.end.items };
      to = c.in_ok-to.to;
    })
    (first.0, second.0, third.0, (cc), first.2, second.2, third.2)
    (ap₂ range_fault (sym c.as_slice.ensures.value) (sym c.as_slice-2.ensures.value)))
