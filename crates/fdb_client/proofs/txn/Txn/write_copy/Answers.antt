use Rattle.std.proofs.Common.{◌≡◌, rules, Err, None}
use Rattle.fdb_mutations.specs.Mutations.{mutation_fault}
use Rattle.fdb_client.proofs.FaultLemmas.{checked, faultless}
use Rattle.fdb_client.proofs.txn.Txn.write_copy.Goals as goal

pub returns-in_err-check-clause-answers : goal.returns-in_err-check-clause-answers
returns-in_err-check-clause-answers c =
    let same : c.from_residual.result ≡ Err c.in_err-check.field-0.0 = search rules in
    rw same (checked c.in_err-check.field-0.0 _ _ _ c.in_err-check.ensures)

pub returns-clause-answers : goal.returns-clause-answers
returns-clause-answers c =
    let none : mutation_fault c.args.mutation.now ≡ None = faultless c.in_ok-check.field-0 _ _ c.in_ok-check.ensures in
    let view = c.self.view_is in
    rw none (rw view at c.write.ensures.answers)
