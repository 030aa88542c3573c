use Rattle.fdb_runtime.proofs.WritingLemmas.{written}
use Rattle.fdb_runtime.proofs.session.Session.write_made.Goals as goal

pub returns-in-Ok-clause-answers : goal.returns-in-Ok-clause-answers
returns-in-Ok-clause-answers g c = λ mutation told.
    written c.args.self.now mutation c.in-Ok.mutation c.args.made c.write-answer.result c.write-answer.new.self
    c.in-Ok.is told c.write-answer.ensures.answers
