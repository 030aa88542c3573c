use Rattle.std.proofs.Common.{map, subst, Result, Ok, Err}
use Rattle.std.specs.Prelude.{IfOk}
use Rattle.std.proofs.lemmas.Result.{IfOk-weaker}
use Rattle.fdb_sim.specs.command.Tasks.{Asks}
use Rattle.fdb_sim.specs.declared.command.task.Task.{Task}
use Rattle.fdb_sim.proofs.lemmas.Obeying.{draws, draws_run, ends, plays, runs, simulates}
use Rattle.fdb_sim.proofs.command.run_words.Goals as goal

-- what follows from two things that hold of an answer holds of it
both : {T E : Type 0} (r : Result T E) (P Q R : T → Type 0) → ((x : T) → P x → Q x → R x) → IfOk r P → IfOk r Q
    → IfOk r R
both (Ok x) P Q R follows p q = follows x p q
both (Err e) P Q R follows p q = tt

-- what holds of each value holds of an answer
always : {T E : Type 0} (r : Result T E) (P : T → Type 0) → ((x : T) → P x) → IfOk r P
always (Ok x) P follows = follows x
always (Err e) P follows = tt

pub returns-in-Ok-Run-clause-obeys : goal.returns-in-Ok-Run-clause-obeys
returns-in-Ok-Run-clause-obeys g c =
    let given = c.in-Ok-Run in
    let asked = subst (λ (task : Task). Asks (map (λ word. word.now) c.args.words.now) (Ok task)) given.field-0-is
    given.ensures in
    IfOk-weaker c.run_script_with_hints.result _ _ (λ status played. plays (map (λ word. word.now) c.args.words.now)
    (g.I.Source.remaining c.args.reader.now) (g.O.Sink.contents c.args.out.now)
    (g.O.Sink.contents c.run_script_with_hints.new.writer) (g.E.Sink.contents c.args.err.now)
    (g.E.Sink.contents c.run_script_with_hints.new.hints) status asked played) c.run_script_with_hints.ensures.printed

pub returns-in-Ok-Draw-clause-obeys : goal.returns-in-Ok-Draw-clause-obeys
returns-in-Ok-Draw-clause-obeys g c =
    let given = c.in-Ok-Draw in
    let asked = subst (λ (task : Task). Asks (map (λ word. word.now) c.args.words.now) (Ok task)) given.field-0-is
    given.ensures in
    always c.draw_run.result _ (λ status. draws_run (map (λ word. word.now) c.args.words.now)
    (g.I.Source.remaining c.args.reader.now) (g.O.Sink.contents c.args.out.now)
    (g.O.Sink.contents c.draw_run.new.out) (g.E.Sink.contents c.args.err.now)
    (g.E.Sink.contents c.draw_run.new.err) status asked)

pub returns-in-Ok-Random-clause-obeys : goal.returns-in-Ok-Random-clause-obeys
returns-in-Ok-Random-clause-obeys g c =
    let given = c.in-Ok-Random in
    let asked = subst (λ (task : Task). Asks (map (λ word. word.now) c.args.words.now) (Ok task)) given.field-0-is
    given.ensures in
    IfOk-weaker c.run_drawn.result _ _ (λ status printed. draws (map (λ word. word.now) c.args.words.now)
    (g.I.Source.remaining c.args.reader.now) (g.O.Sink.contents c.args.out.now)
    (g.O.Sink.contents c.run_drawn.new.out) (g.E.Sink.contents c.args.err.now)
    (g.E.Sink.contents c.run_drawn.new.err) status given.schedule asked printed)
    c.run_drawn.ensures.printed

pub returns-in-Ok-Threads-clause-obeys : goal.returns-in-Ok-Threads-clause-obeys
returns-in-Ok-Threads-clause-obeys g c =
    let given = c.in-Ok-Threads in
    let asked = subst (λ (task : Task). Asks (map (λ word. word.now) c.args.words.now) (Ok task)) given.field-0-is
    given.ensures in
    IfOk-weaker c.run_threads.result _ _ (λ status ended. runs (map (λ word. word.now) c.args.words.now)
    (g.I.Source.remaining c.args.reader.now) (g.O.Sink.contents c.args.out.now)
    (g.O.Sink.contents c.run_threads.new.out) (g.E.Sink.contents c.args.err.now)
    (g.E.Sink.contents c.run_threads.new.err) status given.load asked (ended.0, ended.2, ended.1))
    c.run_threads.ensures.printed

pub returns-in-Ok-Simulate-clause-obeys : goal.returns-in-Ok-Simulate-clause-obeys
returns-in-Ok-Simulate-clause-obeys g c =
    let given = c.in-Ok-Simulate in
    let asked = subst (λ (task : Task). Asks (map (λ word. word.now) c.args.words.now) (Ok task)) given.field-0-is
    given.ensures in
    IfOk-weaker c.run_simulation.result _ _ (λ status ended. simulates (map (λ word. word.now) c.args.words.now)
    (g.I.Source.remaining c.args.reader.now) (g.O.Sink.contents c.args.out.now)
    (g.O.Sink.contents c.run_simulation.new.out) (g.E.Sink.contents c.args.err.now)
    (g.E.Sink.contents c.args.err.now) status given.asked asked (ended.0, ended.2, ended.1))
    c.run_simulation.ensures.printed

pub returns-in-Err-clause-obeys : goal.returns-in-Err-clause-obeys
returns-in-Err-clause-obeys g c =
    let given = c.in-Err in
    both c.print_fault.result _ _ _ (λ status ended lacks. ends (map (λ word. word.now) c.args.words.now)
    (g.I.Source.remaining c.args.reader.now) (g.O.Sink.contents c.args.out.now)
    (g.O.Sink.contents c.print_fault.new.out) (g.E.Sink.contents c.args.err.now)
    (g.E.Sink.contents c.print_fault.new.err) status given.fault given.ensures ended lacks) c.print_fault.ensures.ends
    c.print_fault.ensures.memory
