use Rattle.std.proofs.Common.{◌≡◌, ap, rules, Option, Err}
use Rattle.fdb_keys.specs.Ranges.{Range}
use Rattle.fdb_roles.proofs.Exports.{hands-on}
use Rattle.fdb_sections.specs.Gathering.{HasTakenPart, gathered_of, part_behind, part_fault}
use Rattle.fdb_sections.specs.ShardViews.{run_of}
use Rattle.fdb_sections.proofs.roles.shard.gathering.take_part.Goals as goal

pub returns-in_err-behind-clause-answers : goal.returns-in_err-behind-clause-answers
returns-in_err-behind-clause-answers g c =
    let reader = c.args.reader.now in
    let part = c.args.part.now in
    let at = c.args.at.now in
    let reverse = c.args.reverse in
    let pairs = c.args.pairs.now.items in
    let same : c.from_residual.result ≡ Err c.in_err-behind.field-0.0 = search rules in
    rw same (hands-on {T = Option Range} {U = Option Range} c.in_err-behind.field-0.0
    (part_fault c.version.result reverse part at) (part_fault reader.version reverse part at)
    (λ behind. behind ≡ part_behind reverse part at.shard.range)
    (λ left. HasTakenPart (run_of g.B.DatabaseName.config reader.version reader.front.now) (gathered_of c.args.limit)
    reverse part at pairs pairs left) (ap (λ version. part_fault version reverse part at) c.version.ensures)
    c.in_err-behind.ensures)
