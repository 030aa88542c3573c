use Rattle.std.proofs.Common.{rules, ap, ap₂, codes, refl, ◌≡◌, ◌∙◌}
use Rattle.std.proofs.lemmas.Result.{IfOk-weaker}
use Rattle.clap.specs.Words.{rule_of, with_rule}
use Rattle.fdb_sim.specs.command.Options.{option, up_to, with_roles}
use Rattle.fdb_sim.proofs.command.options.with_sizes.Goals as goal

pub returns-clause-ok : goal.returns-clause-ok
returns-clause-ok c =
    let clients : rule_of c.help-clients.result ≡ option (codes "clients") (codes "4") (up_to 64) = search rules in
    let txns : rule_of c.help-txns.result ≡ option (codes "txns") (codes "100") (up_to 10000) = search rules in
    let first = c.in_ok-command.ensures.ok ∙ ap₂ with_rule refl clients in
    let second = c.in_ok-command-2.ensures.ok ∙ ap₂ with_rule first txns in
    IfOk-weaker c.with_roles.result _ _ (λ _ last. last ∙ ap with_roles second) c.with_roles.ensures.ok
