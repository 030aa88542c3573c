use Rattle.std.proofs.Common.{◌≡◌, ℕ, List, [], ◌∷◌, ap₂, sym, ◌∙◌}
use Rattle.std.proofs.lemmas.Result.{err_from_is_err_and}
use Rattle.fdb_keys.specs.Ranges.{Range}
use Rattle.fdb_keys.specs.Texts.{range_fault}
use Rattle.fdb_play.specs.script.Grammar.{WritesBounds, WritesText}
use Rattle.fdb_play.proofs.lemmas.Faults.{MatchFault-bad_alone, Reads-refused}
use Rattle.fdb_play.proofs.lemmas.Words.{after_first}
use Rattle.fdb_play.proofs.script.keys.last_range.Goals as goal

no_begin : (words : List (List ℕ))
    → ((word : List ℕ) (rest : List (List ℕ)) (bytes : List ℕ) → words ≡ word ∷ rest → ¬ WritesText word bytes)
    → (range : Range) → ¬ WritesBounds words range
no_begin words none range two = none two.0 (two.1 ∷ []) range.begin two.2 two.3

no_end : (words after : List (List ℕ)) (begin : List ℕ)
    → ((x : List ℕ) × (words ≡ x ∷ after) × WritesText x begin)
    → ((word : List ℕ) (bytes : List ℕ) → after ≡ word ∷ [] → ¬ WritesText word bytes)
    → (range : Range) → ¬ WritesBounds words range
no_end words after begin first none range two =
    none two.1 range.end (after_first (sym first.1 ∙ two.2)) two.4

pub returns-in_err-begin : goal.returns-in_err-begin
returns-in_err-begin c =
    let p = err_from_is_err_and c.from_residual.result c.from_residual.ensures.1 in
    rw (p.1, p.2) (MatchFault-bad_alone _ _ _ _ c.in_err-begin.ensures.bad (no_begin _))

pub returns-in_err-end : goal.returns-in_err-end
returns-in_err-end c =
    let p = err_from_is_err_and c.from_residual-in_err-end.result c.from_residual-in_err-end.ensures.1 in
    rw (p.1, p.2) (MatchFault-bad_alone _ _ _ _ c.in_err-end.ensures.bad (no_end _ _ _ c.in_ok-begin.ensures.ok))

pub returns-in_err-range : goal.returns-in_err-range
returns-in_err-range c =
    let p = err_from_is_err_and c.from_residual-in_err-range.result c.from_residual-in_err-range.ensures.1 in
    let first = c.in_ok-begin.ensures.ok in
    let second = c.in_ok-end.ensures.ok in
    rw (p.1, p.2)
    (Reads-refused _ (range_fault c.as_slice.result.now c.as_slice-2.result.now) _ _ c.in_err-range.ensures.refused
    (record { begin = c.in_ok-begin.begin.items; end = c.in_ok-end.end.items })
    (first.0, second.0, (cc), first.2, second.2)
    (ap₂ range_fault (sym c.as_slice.ensures.value) (sym c.as_slice-2.ensures.value)))
