use Rattle.fdb_client.specs.OwnWalk.{left_of, past, to_come}
use Rattle.fdb_client.proofs.OwnWalkLemmas.{at-passed, key-past}
use Rattle.fdb_client.proofs.range_read.RangeRead.take_pair.Goals as goal

pub returns-clause-at : goal.returns-clause-at
returns-clause-at c =
    let own = c.args.self.now.own.now in
    let reverse = c.args.self.now.reverse in
    let walk = c.args.walk.now in
    let key = c.args.key.now in
    at-passed own reverse walk c.pass.new.self key (past key (to_come reverse walk)) c.requires.at c.text.ensures.legal
    c.requires.inside c.pass.ensures.range c.pass.ensures.last (c.pass.ensures.to_come)
    (key-past own (left_of reverse walk) reverse key c.requires.inside c.requires.first (to_come reverse walk)
    c.requires.at.entries)
