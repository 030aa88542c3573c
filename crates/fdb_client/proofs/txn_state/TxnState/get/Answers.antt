use Rattle.std.proofs.Common.{◌≡◌, rules, Err, ℕ, Bool, List, Option}
use Rattle.std.specs.FinMap.{get}
use Rattle.fdb_client.specs.Programs.{program, copy}
use Rattle.fdb_client.specs.Unreadable.{get_fault}
use Rattle.fdb_client.proofs.FaultLemmas.{given, part_given, refused, out_of_memory}
use Rattle.fdb_client.proofs.txn_state.TxnState.get.Goals as goal

pub returns-in_err-value-clause-answers : goal.returns-in_err-value-clause-answers
returns-in_err-value-clause-answers g c =
    let same : c.from_residual.result ≡ Err c.in_err-value.field-0.0 = search rules in
    rw same (refused c.in_err-value.field-0.0 _ _ _ c.in_err-value.ensures.value)

pub returns-in_err-note_get-clause-answers : goal.returns-in_err-note_get-clause-answers
returns-in_err-note_get-clause-answers g c =
    let same : c.from_residual-in_err-note_get.result ≡ Err c.in_err-note_get.field-0.0 = search rules in
    rw same (out_of_memory c.in_err-note_get.field-0.0 _ _ (given _ _ _ c.in_ok-value.ensures.value).0
    c.in_err-note_get.ensures.answers)

pub returns-clause-answers : goal.returns-clause-answers
returns-clause-answers g c =
    let key = c.args.key.now in
    let ops = program c.args.self.now.transcript.ops in
    let value = get (copy (g.S.Snapshot.map c.args.snapshot.now) ops) key in
    let fault = get_fault ops key (g.S.Snapshot.key_fault c.args.snapshot.now key) in
    part_given (c.in_ok-value.value, c.in_ok-value.is_decided) c.in_ok-value.value fault
    (λ (read : Option (List ℕ) × Bool). read.0 ≡ value) (λ (read : Option (List ℕ)). read ≡ value)
    (λ read. read) c.in_ok-value.ensures.value
