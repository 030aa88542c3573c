use Rattle.std.proofs.Common.{refl}
use Rattle.fdb_keys.specs.Points.{point_lt}
use Rattle.fdb_proxy.proofs.laws.worked_stamps.Goals as goal

pub returns : goal.returns
unfolding point_lt
returns c = (refl, refl, refl, refl)
