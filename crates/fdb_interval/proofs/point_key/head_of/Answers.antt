use Rattle.fdb_interval.proofs.HeadsLemmas.{are_bytes}
use Rattle.fdb_interval.proofs.point_key.head_of.Goals as goal

pub returns-in-Some-clause-bytes : goal.returns-in-Some-clause-bytes
returns-in-Some-clause-bytes c = are_bytes c.args.text.now (λ k. (c.type_inv.text k).fits)
