use Rattle.std.proofs.Common.{rules, ap₂, codes, refl, ◌≡◌, ◌∙◌}
use Rattle.std.proofs.lemmas.Result.{IfOk-weaker}
use Rattle.clap.specs.Words.{rule_of, with_rule}
use Rattle.clap.specs.declared.builder.value_parser.ValueParser.TheVariants.{Unsigned}
use Rattle.fdb_sim.specs.command.Options.{option, up_to}
use Rattle.fdb_sim.proofs.command.options.with_schedule.Goals as goal

pub returns-clause-ok : goal.returns-clause-ok
returns-clause-ok c =
    let seed : rule_of c.help-seed.result ≡ option (codes "seed") (codes "1")
    (Unsigned 0 18446744073709551615) = search rules in
    let steps : rule_of c.help-steps.result ≡ option (codes "steps") (codes "10000") (up_to 1000000) = search rules in
    let first = c.in_ok-command.ensures.ok ∙ ap₂ with_rule refl seed in
    IfOk-weaker c.with_argument-2.result _ _ (λ _ last. last ∙ ap₂ with_rule first steps) c.with_argument-2.ensures.ok
