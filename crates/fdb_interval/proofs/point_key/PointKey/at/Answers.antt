use Rattle.std.proofs.Common.{◌∙◌, ap}
use Rattle.fdb_keys.specs.Texts.{is_bound}
use Rattle.fdb_keys.proofs.Exports.{is_bound-key}
use Rattle.fdb_interval.proofs.point_key.PointKey.at.Goals as goal

pub new-requires : goal.new-requires
new-requires c = ap is_bound c.text.ensures.value ∙ is_bound-key c.args.key.now c.text.ensures.legal
