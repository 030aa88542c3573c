use Rattle.std.proofs.Common.{refl}
use Rattle.fdb_keys.specs.Points.{point_lt}
use Rattle.fdb_interval.proofs.laws.worked_newer.Goals as goal

pub returns : goal.returns
unfolding point_lt
returns c = (refl, refl, refl, refl, refl, refl, refl, refl)
