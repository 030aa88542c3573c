use Rattle.std.proofs.Common.{◌∙◌, sym, ap, List, length}
use Rattle.fdb_txn.specs.declared.txn_id.TxnId.{TxnId}
use Rattle.fdb_proxy.specs.declared.outcome.Outcome.{Outcome}
use Rattle.fdb_proxy.proofs.LoggingLemmas.{count-answers}
use Rattle.fdb_proxy.proofs.logging.Logging.new.Goals as goal

pub returns-clause-each : goal.returns-clause-each
returns-clause-each c =
    count-answers c.args.batch.now c.args.outcomes.now c.requires
    ∙ ap (λ (answers : List (TxnId × Outcome)). length answers) (sym c.in_ok-answers_by.ensures)
