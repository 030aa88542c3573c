-- What the transactions of a batch write that commit.
use Rattle.std.specs.Prelude.{ℕ, List}
use Rattle.fdb_txn.specs.book.Transactions.{Transaction}
use Rattle.fdb_txn.specs.rules.Messages.{Body}
use Rattle.fdb_proxy.specs.Logging.{answers_by, body_by as told_by}
use Rattle.fdb_proxy.specs.declared.outcome.Outcome.{Outcome}

-- the stamped mutations of those transactions, from place p on, whose outcome is a commit: by place, and then in the
-- transaction's order
abbrev pub body_by : ℕ → List Transaction → List Outcome → Body
body_by p batch outcomes = told_by p batch (answers_by batch outcomes)
