use Rattle.std.proofs.Common.{rules, ap, ap₂, codes, ◌≡◌, ◌∙◌}
use Rattle.std.proofs.lemmas.Result.{IfOk-weaker}
use Rattle.clap.specs.Words.{app_of, new_app, rule_of, with_rule}
use Rattle.fdb_sim.specs.command.Options.{flag, option, with_sizes}
use Rattle.fdb_sim.proofs.command.options.threads_command.Goals as goal

pub returns-clause-ok : goal.returns-clause-ok
returns-clause-ok c =
    let parser = c.workload_parser.result in
    let named : app_of c.after_help-command.result ≡ new_app (codes "threads") = search rules in
    let workload : rule_of c.help-workload.result ≡ option (codes "workload") (codes "ring") parser = search rules in
    let told : rule_of c.progress.result ≡ flag (codes "progress") = search rules in
    let sized = c.in_ok-command.ensures.ok ∙ ap with_sizes named in
    let worked = c.in_ok-command-2.ensures.ok ∙ ap₂ with_rule sized workload in
    IfOk-weaker c.with_argument-2.result _ _
    (λ _ last. (parser, c.workload_parser.ensures, last ∙ ap₂ with_rule worked told)) c.with_argument-2.ensures.ok
