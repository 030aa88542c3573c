-- What a report says where all checks held, of the clauses of the judgement.
use Rattle.std.proofs.Common.{◌≡◌, ℕ, suc, List, length, true, sym, Result, Ok, Err, IfOk}
use Rattle.fdb_keys.specs.Points.{Point}
use Rattle.fdb_keys.specs.declared.refusal.Refusal.{Refusal}
use Rattle.fdb_txn.specs.book.History.{IsBook}
use Rattle.fdb_txn.specs.declared.entry.Entry.{Entry}
use Rattle.fdb_roles.specs.declared.placed.Placed.{Placed}
use Rattle.fdb_load.specs.declared.judging.Asked.{Asked}
use Rattle.fdb_load.specs.declared.report.Report.{Report}
use Rattle.fdb_load.specs.Judging.{AreHeldAt, ArePairsOf, IsSerial}
use Rattle.fdb_load.specs.Reports.{IsReportOf}

-- the book, the pairs and the receipts that were judged show the run
pub shown : (splits : List Point) (entries : List Entry) (version : ℕ) (pairs : List (Point × List ℕ)) (asked : Asked)
    (placed : List Placed) (judged : Result Report Refusal)
    → IsBook (suc (length splits)) entries → AreHeldAt splits entries version pairs
    → IfOk judged (λ report. report.ok ≡ true → IsSerial splits entries placed asked.txns report)
    → IfOk judged (λ report. report.ok ≡ true → ArePairsOf splits entries version asked placed pairs)
    → IfOk judged (λ report. report.acknowledged ≡ length placed)
    → IfOk judged (λ report. report.entries ≡ length entries)
    → IfOk judged (λ report. report.workload ≡ asked.workload)
    → IfOk judged (IsReportOf asked.workload asked.txns)
shown splits entries version pairs asked placed (Ok report) book held serial are acknowledged count workload = (
  workload,
  (λ ok.
      let all = serial ok in (
        (all.0, all.1),
        all.2,
        (
          splits,
          entries,
          version,
          pairs,
          asked.first,
          placed,
          book,
          held,
          sym count,
          sym acknowledged,
          all.3,
          are ok,
        ),
      )),
)
shown splits entries version pairs asked placed (Err why) book held serial are acknowledged count workload = tt
