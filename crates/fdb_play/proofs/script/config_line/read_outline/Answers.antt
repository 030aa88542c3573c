use Rattle.std.proofs.Common.{[], ◌∷◌, codes, sym, ◌∙◌}
use Rattle.std.proofs.lemmas.Result.{err_from_is_err_and}
use Rattle.fdb_play.proofs.lemmas.Configs.{after_logs, after_resolvers}
use Rattle.fdb_play.proofs.script.config_line.read_outline.Goals as goal

pub returns-in_err-resolvers-clause-bad : goal.returns-in_err-resolvers-clause-bad
returns-in_err-resolvers-clause-bad c =
    let p = err_from_is_err_and c.from_residual-in_err-resolvers.result c.from_residual-in_err-resolvers.ensures.1 in
    let bad = c.in_err-resolvers.ensures.bad in
    rw (p.1, p.2) (
      bad.0,
      λ a b d x y written. bad.1 x (codes "shards" ∷ y ∷ codes "book" ∷ written.2 ∷ [])
          (after_logs _ _ _ _ _ _ a b d x y (sym c.new-words.ensures ∙ c.in_ok-keyword.ensures.ok)
          c.in_ok-proxies.ensures.ok.1 c.in_ok-logs.ensures.ok.1 written),
    )

pub returns-in_err-shards-clause-bad : goal.returns-in_err-shards-clause-bad
returns-in_err-shards-clause-bad c =
    let p = err_from_is_err_and c.from_residual-in_err-shards.result c.from_residual-in_err-shards.ensures.1 in
    let bad = c.in_err-shards.ensures.bad in
    rw (p.1, p.2) (
      bad.0,
      λ a b d x y written. bad.1 y (codes "book" ∷ written.2 ∷ [])
          (after_resolvers _ _ _ _ _ _ _ _ a b d x y (sym c.new-words.ensures ∙ c.in_ok-keyword.ensures.ok)
          c.in_ok-proxies.ensures.ok.1 c.in_ok-logs.ensures.ok.1 c.in_ok-resolvers.ensures.ok written),
    )
