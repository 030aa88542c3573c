use Rattle.std.proofs.Common.{refl}
use Rattle.fdb_keys.specs.Insertion.{inserted}
use Rattle.fdb_keys.specs.Points.{point_lt}
use Rattle.fdb_client.proofs.KeyExamplesLemmas.{worked_key_reads}
use Rattle.fdb_client.proofs.ReadExamplesLemmas.{worked_range_reads}
use Rattle.fdb_client.proofs.laws.worked_programs.Goals as goal

pub returns-clause-ranges : goal.returns-clause-ranges
returns-clause-ranges c = worked_range_reads

pub returns-clause-keys : goal.returns-clause-keys
returns-clause-keys c = worked_key_reads

pub returns-clause-writes : goal.returns-clause-writes
unfolding point_lt inserted
returns-clause-writes c = (
  refl,
  refl,
  refl,
  refl,
  refl,
  refl,
  refl,
  refl,
  refl,
  refl,
  refl,
  refl,
  refl,
  refl,
  refl,
  refl,
  refl,
  refl,
  refl,
  refl,
  refl,
  refl,
  refl,
  refl,
  refl,
  refl,
  refl,
  refl,
)
