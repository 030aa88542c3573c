use Rattle.std.proofs.Common.{refl, subst, sym, true, ap, inl, inr, map, ◌≡◌, ◌∙◌}
use Rattle.std.proofs.lemmas.Result.{err_from_is_err_and}
use Rattle.clap.specs.Words.{HasKind, fault_of, is_simple, is_simple_and_free, subcommand_of}
use Rattle.clap.specs.declared.builder.value_parser.ValueParser.{ValueParser}
use Rattle.clap.proofs.OnLiterals.{clap_on_literals}
use Rattle.fdb_sim.specs.command.Options.{commands}
use Rattle.fdb_sim.specs.command.Tasks.{IsAsked}
use Rattle.fdb_sim.proofs.command.task.read_task.Goals as goal

is_free : (workloads : ValueParser) → is_simple_and_free (commands workloads) ≡ true
unfolding clap_on_literals
is_free workloads = refl

is_plain : (workloads : ValueParser) → is_simple (commands workloads) ≡ true
unfolding clap_on_literals
is_plain workloads = refl

pub returns : goal.returns
returns c =
    let app = c.in_ok-command.ensures.ok in
    let words = map (λ word. word.now) c.args.words.now in
    let faults = c.in_ok-matches.ensures.kinds (ap is_simple_and_free app.2 ∙ is_free app.0) in
    let rows = (c.in_ok-matches.ensures.matches (ap is_simple app.2 ∙ is_plain app.0)).1 in
    inr (
      app.0,
      app.1,
      (
        ap (λ a. fault_of a words) (sym app.2) ∙ faults,
        subst (λ found. IsAsked found c.task_of.result) (rows
            ∙ ap (λ a. subcommand_of a words) app.2) c.task_of.ensures,
      ),
    )

pub returns-in_err-command : goal.returns-in_err-command
returns-in_err-command c =
    let p = err_from_is_err_and c.from_residual.result c.from_residual.ensures.1 in
    inl (rw p.1 (rw p.2 c.in_err-command.ensures.err))

pub returns-in_err-matches : goal.returns-in_err-matches
returns-in_err-matches c =
    let app = c.in_ok-command.ensures.ok in
    let words = map (λ word. word.now) c.args.words.now in
    let kinds = c.in_err-matches.ensures.kinds (ap is_simple_and_free app.2 ∙ is_free app.0) in
    let p = err_from_is_err_and c.from_residual-in_err-matches.result c.from_residual-in_err-matches.ensures.1 in
    let failed = subst (λ a. HasKind (fault_of a words) c.in_err-matches.field-0.0) app.2 kinds in
    inr (app.0, app.1, rw p.1 (rw p.2 (failed, record {})))
