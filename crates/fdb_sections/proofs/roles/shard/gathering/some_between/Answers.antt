use Rattle.std.proofs.Common.{◌≡◌, rules, true, None, Option, Err}
use Rattle.fdb_keys.specs.Points.{point_lt}
use Rattle.fdb_keys.specs.Ranges.{Range}
use Rattle.fdb_keys.specs.Texts.{range_fault}
use Rattle.fdb_keys.proofs.Exports.{lt_one_way}
use Rattle.fdb_roles.proofs.Exports.{hands-on}
use Rattle.fdb_txn.proofs.Exports.{range-made}
use Rattle.fdb_sections.specs.Gathering.{some_between}
use Rattle.fdb_sections.proofs.roles.shard.gathering.some_between.Goals as goal

pub returns-in_err-new : goal.returns-in_err-new
returns-in_err-new c =
    let begin = c.args.begin.now in
    let end = c.args.end.now in
    let before : point_lt begin end ≡ true = search rules in
    let same : c.from_residual.result ≡ Err c.in_err-new.field-0.0 = search rules in
    rw same (hands-on {T = Range} {U = Option Range} c.in_err-new.field-0.0 (range_fault begin end) None
    (λ range. range ≡ record { begin = begin; end = end }) (λ part. part ≡ some_between begin end)
    (range-made begin end c.requires.begin c.requires.end (lt_one_way begin end before)) c.in_err-new.ensures)
