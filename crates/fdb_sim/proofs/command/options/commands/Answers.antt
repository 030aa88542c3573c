use Rattle.std.proofs.Common.{rules, ap₂, ◌≡◌, ◌∙◌}
use Rattle.std.proofs.lemmas.Result.{IfOk-weaker}
use Rattle.clap.specs.Words.{App, app_of, with_subcommand}
use Rattle.fdb_sim.specs.command.Options.{named}
use Rattle.fdb_sim.proofs.command.options.commands.Goals as goal

-- a command with one below it
abbrev joined : App → App → App
joined app below = with_subcommand app below.top

pub returns-clause-ok : goal.returns-clause-ok
returns-clause-ok c =
    let plain : app_of c.subcommand_required-command.result ≡ named = search rules in
    let threads = c.in_ok-threads_command.ensures.ok in
    let runs = c.in_ok-command.ensures.ok ∙ ap₂ joined plain c.run_command.ensures in
    let pictures = c.in_ok-command-2.ensures.ok ∙ ap₂ joined runs c.draw_command.ensures in
    let draws = c.in_ok-command-3.ensures.ok ∙ ap₂ joined pictures c.in_ok-random_command.ensures.ok in
    let loads = c.in_ok-command-4.ensures.ok ∙ ap₂ joined draws threads.2 in
    IfOk-weaker c.with_command-5.result _ _
    (λ _ last. (threads.0, threads.1, last ∙ ap₂ joined loads c.in_ok-simulate_command.ensures.ok))
    c.with_command-5.ensures.ok
