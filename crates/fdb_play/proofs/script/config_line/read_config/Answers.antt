use Rattle.std.proofs.Common.{◌≡◌, ℕ, List, ◌++◌, Some, ap, sym, ◌∙◌}
use Rattle.std.proofs.lemmas.Result.{err_from_is_err_and}
use Rattle.fdb_play.specs.script.Configs.{splits_fault}
use Rattle.fdb_play.proofs.lemmas.Configs.{no_resolvers, no_shards, config_refused}
use Rattle.fdb_play.proofs.lemmas.Faults.{MatchFault-bad_alone, MatchFault-refused_alone}
use Rattle.fdb_play.proofs.script.config_line.read_config.Goals as goal

pub returns-in_err-outline : goal.returns-in_err-outline
returns-in_err-outline c =
    let p = err_from_is_err_and c.from_residual.result c.from_residual.ensures.1 in
    let bad = c.in_err-outline.ensures.bad in
    rw (p.1, p.2, bad.0) (λ config written. bad.1 config.proxies config.logs config.book written.0 written.1 written.2)

pub returns-in_err-resolvers : goal.returns-in_err-resolvers
returns-in_err-resolvers c =
    let p = err_from_is_err_and c.from_residual-in_err-resolvers.result c.from_residual-in_err-resolvers.ensures.1 in
    rw (p.1, p.2)
    (MatchFault-bad_alone _ _ _ _ c.in_err-resolvers.ensures.bad
    (no_resolvers c.args.line.now _ _ _ _ _ c.in_ok-outline.ensures.ok))

pub returns-in_err-shards : goal.returns-in_err-shards
returns-in_err-shards c =
    let p = err_from_is_err_and c.from_residual-in_err-shards.result c.from_residual-in_err-shards.ensures.1 in
    rw (p.1, p.2)
    (MatchFault-bad_alone _ _ _ _ c.in_err-shards.ensures.bad
    (no_shards c.args.line.now _ _ _ _ _ c.in_ok-outline.ensures.ok))

pub returns-in_err-resolver_splits : goal.returns-in_err-resolver_splits
returns-in_err-resolver_splits c =
    let p = err_from_is_err_and c.from_residual-in_err-resolver_splits.result
    c.from_residual-in_err-resolver_splits.ensures.1 in
    let splits = ap (λ (texts : List (List ℕ)). texts ++ c.as_slice-2.result.now) c.as_slice.ensures
    ∙ ap (λ (texts : List (List ℕ)). c.in_ok-resolvers.resolvers ++ texts) c.as_slice-2.ensures in
    rw (p.1, p.2)
    (MatchFault-refused_alone _ _ (λ why. splits_fault (c.as_slice.result.now ++ c.as_slice-2.result.now) ≡ Some why) _
    c.in_err-resolver_splits.ensures.refused
    (λ why is. config_refused c.args.line.now _ _ _ _ _ c.in_ok-outline.ensures.ok _ _ c.in_ok-resolvers.ensures.ok
    c.in_ok-shards.ensures.ok why (ap splits_fault (sym splits) ∙ is)))
