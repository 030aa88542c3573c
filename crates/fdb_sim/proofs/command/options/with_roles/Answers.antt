use Rattle.std.proofs.Common.{rules, ap₂, codes, refl, ◌≡◌, ◌∙◌}
use Rattle.std.proofs.lemmas.Result.{IfOk-weaker}
use Rattle.clap.specs.Words.{rule_of, with_rule}
use Rattle.fdb_sim.specs.command.Options.{option, up_to}
use Rattle.fdb_sim.proofs.command.options.with_roles.Goals as goal

pub returns-clause-ok : goal.returns-clause-ok
returns-clause-ok c =
    let resolvers : rule_of c.help-resolvers.result ≡ option (codes "resolvers") (codes "2")
    (up_to 64) = search rules in
    let proxies : rule_of c.help-proxies.result ≡ option (codes "proxies") (codes "2") (up_to 16) = search rules in
    let first = c.in_ok-command.ensures.ok ∙ ap₂ with_rule refl resolvers in
    IfOk-weaker c.with_argument-2.result _ _ (λ _ last. last ∙ ap₂ with_rule first proxies) c.with_argument-2.ensures.ok
