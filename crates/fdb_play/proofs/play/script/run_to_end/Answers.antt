use Rattle.std.proofs.Common.{◌∙◌, ap}
use Rattle.std.proofs.lemmas.Result.{err_from_is_err_and}
use Rattle.fdb_machine.specs.headline.Serving.{System}
use Rattle.fdb_play.proofs.lemmas.Script.{if_ok_map, if_err_map, run_out_at_once, run_unconfigured, run_refused}
use Rattle.fdb_play.proofs.lemmas.Script.{run_played, run_stopped}
use Rattle.fdb_play.proofs.play.script.run_to_end.Goals as goal

pub returns-in_err-lines-clause-stops : goal.returns-in_err-lines-clause-stops
returns-in_err-lines-clause-stops g c =
    let p = err_from_is_err_and c.from_residual.result c.from_residual.ensures.1 in
    rw p.1 (run_out_at_once (g.R.Source.remaining c.args.reader.now) (g.W.Sink.contents c.args.writer.now) _ p.2)

pub returns-in_err-config-clause-stops : goal.returns-in_err-config-clause-stops
returns-in_err-config-clause-stops g c =
    let p = err_from_is_err_and c.from_residual-in_err-config.result c.from_residual-in_err-config.ensures.1 in
    let made = c.in_ok-lines.ensures in
    rw p.1 (rw p.2
    (run_unconfigured (g.R.Source.remaining c.args.reader.now) _ (g.W.Sink.contents c.args.writer.now) _ _ made.left
    made.number c.in_err-config.ensures.stops))

pub returns-in_err-make_world-clause-stops : goal.returns-in_err-make_world-clause-stops
returns-in_err-make_world-clause-stops g c =
    let p = err_from_is_err_and c.from_residual-in_err-make_world.result c.from_residual-in_err-make_world.ensures.1 in
    let made = c.in_ok-lines.ensures in
    rw p.1 (rw p.2
    (run_refused (g.R.Source.remaining c.args.reader.now) _ _ (g.W.Sink.contents c.args.writer.now) _ _
    c.in_ok-config.config _ made.left made.number c.in_ok-config.ensures.ok c.in_err-make_world.ensures.stops))

pub returns-clause-printed : goal.returns-clause-printed
returns-clause-printed g c =
    let made = c.in_ok-lines.ensures in
    let world = c.in_ok-make_world.ensures.ok in
    let same = ap (λ (of : System). of.state) c.in_ok-world.ensures.ok in
    if_ok_map c.play_on.result _ _
    (λ status played. run_played _ _ _ _ _ _ _ _ status c.in_ok-config.config c.in_ok-world.world.state made.left
    made.number c.in_ok-config.ensures.ok (world.0, same ∙ world.1) c.in_ok-world.ensures.printed played)
    c.play_on.ensures.printed

pub returns-clause-stops : goal.returns-clause-stops
returns-clause-stops g c =
    let made = c.in_ok-lines.ensures in
    let world = c.in_ok-make_world.ensures.ok in
    let same = ap (λ (of : System). of.state) c.in_ok-world.ensures.ok in
    if_err_map c.play_on.result _ _
    (λ stopped played. run_stopped _ _ _ _ _ _ _ _ c.in_ok-config.config c.in_ok-world.world.state stopped made.left
    made.number c.in_ok-config.ensures.ok (world.0, same ∙ world.1) c.in_ok-world.ensures.printed played)
    c.play_on.ensures.stops
