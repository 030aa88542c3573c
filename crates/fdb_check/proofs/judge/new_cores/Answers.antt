use Rattle.std.proofs.Common.{ℕ, ◌+◌, ◌∙◌, sym, ap, subst}
use Rattle.std.proofs.lemmas.List.{length_push}
use Rattle.fdb_resolver.specs.Resolvers.{IsNew}
use Rattle.fdb_roles.proofs.Exports.{each-push}
use Rattle.fdb_check.proofs.judge.new_cores.Goals as goal

pub loop-index-preserved : goal.loop-index-preserved
loop-index-preserved c =
    let cores = c.loop-index.resolvers.items in
    let counted = c.loop-index.invariant.0 in
    rw c.in_ok-push.ensures.items (
      length_push cores c.new.result ∙ ap (λ (n : ℕ). n + 1) counted,
      each-push IsNew cores c.new.result c.loop-index.invariant.1
          (subst (λ (n : ℕ). IsNew n c.new.result) (sym counted) c.new.ensures),
    )
