use Rattle.std.proofs.Common.{◌∙◌, ap, List}
use Rattle.fdb_keys.specs.Ranges.{Range, in_set}
use Rattle.fdb_client.specs.declared.program.Transcript.{Transcript}
use Rattle.fdb_client.specs.Programs.{program, write_set}
use Rattle.fdb_client.proofs.WriteSetLemmas.{in_write_ranges}
use Rattle.fdb_client.proofs.txn.Txn.write_conflicts.Goals as goal

pub returns-clause-points : goal.returns-clause-points
returns-clause-points c = λ x.
    ap (λ (set : List Range). in_set set x) c.self.invariant.written.are_written
    ∙ in_write_ranges (program c.self.inside.state.transcript.ops) x
    ∙ ap (λ (t : Transcript). write_set (program t.ops) x) c.self.view_is
