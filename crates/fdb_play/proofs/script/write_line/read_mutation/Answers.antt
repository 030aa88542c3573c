use Rattle.std.proofs.Common.{◌≢◌, subst, List, ℕ, codes, arith}
use Rattle.std.proofs.lemmas.Result.{err_from_is_err_and}
use Rattle.std.proofs.lemmas.Grind.{common_steps}
use Rattle.fdb_play.specs.script.Grammar.{WritesMutation}
use Rattle.fdb_play.proofs.lemmas.WriteLines.{no_mutation}
use Rattle.fdb_play.proofs.script.write_line.read_mutation.Goals as goal

pub returns-in_err-operation : goal.returns-in_err-operation
returns-in_err-operation c =
    let p = err_from_is_err_and c.from_residual-in_err-operation.result c.from_residual-in_err-operation.ensures.1 in
    let no_clear : c.in_ok-word.word.now ≢ codes "clear" = grind (arith, common_steps) in
    let no_range : c.in_ok-word.word.now ≢ codes "clearrange" = grind (arith, common_steps) in
    let no_stamped : c.in_ok-word.word.now ≢ codes "stamped" = grind (arith, common_steps) in
    rw (p.1, p.2, c.in_err-operation.ensures.0)
    (λ mutation written. no_mutation c.in_ok-word.word.now c.word.new.self no_clear no_range no_stamped
    c.in_err-operation.ensures.1 mutation
    (subst (λ (words : List (List ℕ)). WritesMutation words mutation) c.in_ok-word.ensures written))
