use Rattle.std.proofs.Common.{rules, ap, ap₂, codes, ◌≡◌, ◌∙◌}
use Rattle.std.proofs.lemmas.Result.{IfOk-weaker}
use Rattle.clap.specs.Words.{app_of, new_app, rule_of, with_rule}
use Rattle.fdb_sim.specs.command.Options.{option, up_to, with_roles, with_schedule}
use Rattle.fdb_sim.proofs.command.options.simulate_command.Goals as goal

pub returns-clause-ok : goal.returns-clause-ok
returns-clause-ok c =
    let named : app_of c.after_help-command.result ≡ new_app (codes "simulate") = search rules in
    let clients : rule_of c.help-clients.result ≡ option (codes "clients") (codes "8") (up_to 64) = search rules in
    let drawn = c.in_ok-command.ensures.ok ∙ ap with_schedule named in
    let sized = c.in_ok-command-2.ensures.ok ∙ ap₂ with_rule drawn clients in
    IfOk-weaker c.with_roles.result _ _ (λ _ last. last ∙ ap with_roles sized) c.with_roles.ensures.ok
