use Rattle.fdb_check.proofs.JudgingLemmas.{learns, learns-known}
use Rattle.fdb_check.proofs.judge.learn_some.Goals as goal

pub returns-clause-answers : goal.returns-clause-answers
returns-clause-answers c =
    learns c.learn.result c.args.owners.now c.learn.new.self c.args.version c.args.moves.now c.requires.later
    c.learn.ensures.answers

pub returns-clause-known : goal.returns-clause-known
returns-clause-known c =
    learns-known c.learn.result c.args.owners.now c.learn.new.self c.args.version c.args.moves.now c.requires.later
    c.learn.ensures.answers c.learn.ensures.refused
