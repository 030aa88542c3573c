use Rattle.fdb_roles.proofs.Exports.{answers-fault}
use Rattle.fdb_sections.specs.Gathering.{Gathering, HasTakenPart, gathered_of, part_fault}
use Rattle.fdb_sections.specs.ShardViews.{run_of}
use Rattle.fdb_sections.proofs.GatheringLemmas.{taken}
use Rattle.fdb_sections.proofs.roles.shard.gathering.Gathering.take_from.Goals as goal

pub invariant_of-self-2 : goal.invariant_of-self-2
invariant_of-self-2 g c =
    let inside = c.self.inside in
    let it : Gathering = record {
      version = inside.reader.version;
      front = inside.reader.front.now;
      range = inside.range.now;
      limit = inside.limit;
      is_reverse = inside.reverse;
      rest = inside.rest;
    } in
    let config = g.B.DatabaseName.config in
    let part = c.in-Some.rest in
    let at = c.args.at.now in
    let pairs = inside.pairs.items in
    let more = c.take_part.new.pairs.items in
    taken config it pairs part at more c.in_ok-left.left c.self.invariant c.in-Some.is
    (answers-fault (part_fault inside.reader.version inside.reverse part at) c.in_ok-left.left
    (λ left. HasTakenPart (run_of config inside.reader.version inside.reader.front.now) (gathered_of inside.limit)
    inside.reverse part at pairs more left) c.in_ok-left.ensures.answers).1
