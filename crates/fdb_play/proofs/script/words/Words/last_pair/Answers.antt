use Rattle.std.proofs.Common.{◌≡◌, ℕ, List, [], ◌∷◌, drop, ap, sym, ◌∙◌}
use Rattle.std.proofs.lemmas.Result.{err_from_is_err_and}
use Rattle.fdb_play.proofs.script.words.Words.last_pair.Goals as goal

pub returns-in_err-second-clause-bad : goal.returns-in_err-second-clause-bad
returns-in_err-second-clause-bad c =
    let p = err_from_is_err_and c.from_residual-in_err-second.result c.from_residual-in_err-second.ensures.1 in
    rw (p.1, p.2) (
      c.in_err-second.ensures.bad.0,
      λ first second two.
          let after : c.small_number.new.self ≡ two.1 ∷ [] = ap (λ (words : List (List ℕ)). drop 1 words)
          (sym c.in_ok-first.ensures.ok.1 ∙ two.2) in
          c.in_err-second.ensures.bad.1 second (two.1, after, two.4),
    )
