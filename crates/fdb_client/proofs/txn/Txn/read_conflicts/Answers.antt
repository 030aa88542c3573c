use Rattle.std.proofs.Common.{◌∙◌, ap, List}
use Rattle.fdb_keys.specs.Ranges.{Range, in_set}
use Rattle.fdb_client.specs.declared.program.Transcript.{Transcript}
use Rattle.fdb_client.specs.Programs.{program, read_set}
use Rattle.fdb_client.proofs.ReadSetLemmas.{in_executed_ranges}
use Rattle.fdb_client.proofs.txn.Txn.read_conflicts.Goals as goal

pub returns-clause-points : goal.returns-clause-points
returns-clause-points c = λ map executed x.
    ap (λ (set : List Range). in_set set x) c.self.invariant.are_read
    ∙ in_executed_ranges map c.self.inside.state.transcript.ops
    (rw c.self.view_is executed) x
    ∙ ap (λ (t : Transcript). read_set map (program t.ops) x) c.self.view_is
