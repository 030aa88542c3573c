use Rattle.fdb_play.proofs.lemmas.Script.{run_answered}
use Rattle.fdb_play.proofs.play.script.play.Goals as goal

pub returns-in-Err-clause-printed : goal.returns-in-Err-clause-printed
returns-in-Err-clause-printed g c =
    run_answered c.print_stop.result (g.R.Source.remaining c.args.reader.now) (g.W.Sink.contents c.args.writer.now)
    (g.W.Sink.contents c.run_to_end.new.writer) (g.W.Sink.contents c.print_stop.new.writer) c.in-Err.stop
    c.in-Err.ensures.stops c.print_stop.ensures.status c.print_stop.ensures.printed
