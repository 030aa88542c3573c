-- What becomes of the places of a batch by the book.
use Rattle.std.proofs.Common.{◌≡◌, ap, refl, ℕ, suc, List, [], ◌∷◌, length}
use Rattle.std.proofs.Common.{arith}
use Rattle.fdb_keys.specs.Points.{Point}
use Rattle.fdb_txn.specs.declared.entry.Entry.{Entry}
use Rattle.fdb_txn.specs.book.Transactions.{Transaction}
use Rattle.fdb_txn.specs.book.Book.{Head, Place, Seen, head_of, placed}
use Rattle.fdb_proxy.specs.Logging.{answers_by}
use Rattle.fdb_proxy.specs.declared.outcome.Outcome.{Outcome}
use Rattle.fdb_proxy.specs.Verdicts.{outcomes_from, outcomes_on}

-- the same as `length-outcomes_on`, from place p on
length-outcomes_from : (splits : List Point) (head : Head) (batch : List Transaction) (earlier : List Place) (p : ℕ)
    → length (outcomes_from splits head batch earlier p) ≡ length batch
length-outcomes_from splits head [] earlier p = refl
length-outcomes_from splits head (t ∷ ts) earlier p =
    ap suc (length-outcomes_from splits head ts (placed head p t ∷ earlier) (suc p))

-- each place has one outcome
pub length-outcomes_on : (splits : List Point) (before : Seen) (entry : Entry)
    → length (outcomes_on splits before entry) ≡ length entry.batch
length-outcomes_on splits before entry =
    length-outcomes_from splits (head_of before entry) entry.batch before.places 0

-- there is an answer for each transaction that has an outcome
pub length-answers : (batch : List Transaction) (outcomes : List Outcome) → length outcomes ≡ length batch
    → length (answers_by batch outcomes) ≡ length batch
length-answers [] outcomes count = refl
length-answers (t ∷ ts) [] count = absurd (omega (arith, count))
length-answers (t ∷ ts) (outcome ∷ outcomes) count =
    ap suc (length-answers ts outcomes (omega (arith, count)))
