use Rattle.std.proofs.Common.{◌≡◌, ℕ, Bool, List, ◌∷◌, ap₂, sym, subst, ◌∙◌}
use Rattle.std.proofs.lemmas.Result.{err_from_is_err_and}
use Rattle.fdb_keys.specs.Texts.{range_fault}
use Rattle.fdb_play.specs.declared.script.keys.RangeRead.{RangeRead}
use Rattle.fdb_play.specs.script.Grammar.{WritesOrder, WritesRangeRead, WritesSmall, WritesText}
use Rattle.fdb_play.proofs.lemmas.Faults.{MatchFault-bad_alone, Reads-refused}
use Rattle.fdb_play.proofs.lemmas.Words.{after_first}
use Rattle.fdb_play.proofs.script.keys.last_range_read.Goals as goal

-- the words lack the begin
no_begin : (words : List (List ℕ))
    → ((word : List ℕ) (rest : List (List ℕ)) (bytes : List ℕ) → words ≡ word ∷ rest → ¬ WritesText word bytes)
    → (read : RangeRead) → ¬ WritesRangeRead words read
no_begin words none read written =
    none written.0 (written.1 ∷ written.2 ∷ written.3) read.range.begin written.4 written.5

module _ (words after : List (List ℕ)) (begin : List ℕ)
    (first : (x : List ℕ) × (words ≡ x ∷ after) × WritesText x begin) where
  -- or the end
  no_end : ((word : List ℕ) (rest : List (List ℕ)) (bytes : List ℕ) → after ≡ word ∷ rest → ¬ WritesText word bytes)
      → (read : RangeRead) → ¬ WritesRangeRead words read
  no_end none read written =
      none written.1 (written.2 ∷ written.3) read.range.end (after_first (sym first.1 ∙ written.4)) written.6

  module _ (later : List (List ℕ)) (end : List ℕ)
      (second : (x : List ℕ) × (after ≡ x ∷ later) × WritesText x end) where
    -- or the limit
    no_limit : ((word : List ℕ) (rest : List (List ℕ)) (value : ℕ) → later ≡ word ∷ rest → ¬ WritesSmall word value)
        → (read : RangeRead) → ¬ WritesRangeRead words read
    no_limit none read written =
        none written.2 written.3 read.limit (after_first (sym second.1 ∙ after_first (sym first.1 ∙ written.4)))
        written.7

    -- or what they end with is no word for an order
    no_order : (last : List (List ℕ)) (limit : ℕ) → ((x : List ℕ) × (later ≡ x ∷ last) × WritesSmall x limit)
        → ((is_reverse : Bool) → ¬ WritesOrder last is_reverse) → (read : RangeRead) → ¬ WritesRangeRead words read
    no_order last limit third none read written =
        let rest : last ≡ written.3 =
        after_first (sym third.1 ∙ after_first (sym second.1 ∙ after_first (sym first.1 ∙ written.4))) in
        none read.reverse (subst (λ words. WritesOrder words read.reverse) (sym rest) written.8)

pub returns-in_err-begin : goal.returns-in_err-begin
returns-in_err-begin c =
    let p = err_from_is_err_and c.from_residual.result c.from_residual.ensures.1 in
    rw (p.1, p.2) (MatchFault-bad_alone _ _ _ _ c.in_err-begin.ensures.bad (no_begin _))

pub returns-in_err-end : goal.returns-in_err-end
returns-in_err-end c =
    let p = err_from_is_err_and c.from_residual-in_err-end.result c.from_residual-in_err-end.ensures.1 in
    rw (p.1, p.2) (MatchFault-bad_alone _ _ _ _ c.in_err-end.ensures.bad (no_end _ _ _ c.in_ok-begin.ensures.ok))

pub returns-in_err-limit : goal.returns-in_err-limit
returns-in_err-limit c =
    let p = err_from_is_err_and c.from_residual-in_err-limit.result c.from_residual-in_err-limit.ensures.1 in
    let bad = c.in_err-limit.ensures.bad in
    rw (p.1, p.2, bad.0) (no_limit _ _ _ c.in_ok-begin.ensures.ok _ _ c.in_ok-end.ensures.ok bad.1)

pub returns-in_err-reverse : goal.returns-in_err-reverse
returns-in_err-reverse c =
    let p = err_from_is_err_and c.from_residual-in_err-reverse.result c.from_residual-in_err-reverse.ensures.1 in
    let bad = c.in_err-reverse.ensures.bad in
    rw (p.1, p.2, bad.0)
    (no_order _ _ _ c.in_ok-begin.ensures.ok _ _ c.in_ok-end.ensures.ok _ _ c.in_ok-limit.ensures.ok bad.1)

pub returns-in_err-range : goal.returns-in_err-range
returns-in_err-range c =
    let p = err_from_is_err_and c.from_residual-in_err-range.result c.from_residual-in_err-range.ensures.1 in
    let first = c.in_ok-begin.ensures.ok in
    let second = c.in_ok-end.ensures.ok in
    let third = c.in_ok-limit.ensures.ok in
    rw (p.1, p.2)
    (Reads-refused _ (range_fault c.as_slice.result.now c.as_slice-2.result.now) _ _ c.in_err-range.ensures.refused
    (record {
      range = record { begin = c.in_ok-begin.begin.items; end = c.in_ok-end.end.items };
      limit = c.in_ok-limit.limit;
      reverse = c.in_ok-reverse.reverse;
    })
    (first.0, second.0, third.0, _, (cc), first.2, second.2, third.2, c.in_ok-reverse.ensures.ok)
    (ap₂ range_fault (sym c.as_slice.ensures.value) (sym c.as_slice-2.ensures.value)))
