use Rattle.std.proofs.Common.{◌≡◌, ℕ, List, [], ◌∷◌}
use Rattle.std.proofs.lemmas.Result.{err_from_is_err_and}
use Rattle.fdb_play.specs.script.Grammar.{WritesText}
use Rattle.fdb_play.proofs.lemmas.Faults.{MatchFault-bad_alone}
use Rattle.fdb_play.proofs.script.words.Words.last_text.Goals as goal

no_text : (words : List (List ℕ))
    → ((word : List ℕ) (rest : List (List ℕ)) (bytes : List ℕ) → words ≡ word ∷ rest → ¬ WritesText word bytes)
    → (word : List ℕ) (bytes : List ℕ) → words ≡ word ∷ [] → ¬ WritesText word bytes
no_text words none word bytes is = none word [] bytes is

pub returns-in_err-text-clause-bad : goal.returns-in_err-text-clause-bad
returns-in_err-text-clause-bad c =
    let p = err_from_is_err_and c.from_residual.result c.from_residual.ensures.1 in
    rw (p.1, p.2) (MatchFault-bad_alone _ _ _ _ c.in_err-text.ensures.bad (no_text _))
