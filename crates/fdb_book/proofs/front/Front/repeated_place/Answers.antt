use Rattle.std.proofs.Common.{◌≡◌, ◌∙◌, sym, ap, subst, take, length, true, false, Some, arith, rules}
use Rattle.fdb_txn.specs.declared.txn_id.TxnId.{TxnId}
use Rattle.fdb_book.specs.Ids.{is_among}
use Rattle.fdb_book.proofs.IdLemmas.{among-book, among-batch, among-none, repeated-here, repeated-past}
use Rattle.fdb_book.proofs.front.Front.repeated_place.Goals as goal
use Rattle.fdb_book.proofs.front.Front.repeated_place.Goals.{then-has_txn-via-then-has_txn}
use Rattle.fdb_book.proofs.front.Front.repeated_place.Goals.{then-has_txn-via-else-has_txn+then-has_id}

pub returns-then-has_txn : goal.returns-then-has_txn
returns-then-has_txn g c =
    let i = c.loop-place.place in
    let is : is_among c.id-id.result c.args.self.now (take i c.args.batch.now) ≡ true = elim c.then-has_txn.branch [
      | then-has_txn-via-then-has_txn w ↦
          among-book c.id-id.result c.args.self.now (take i c.args.batch.now)
          (sym c.has_txn.ensures ∙ w.if-has_txn.true)
      | then-has_txn-via-else-has_txn+then-has_id w ↦
          among-batch c.id-id.result c.args.self.now (take i c.args.batch.now)
          (sym w.has_id.ensures ∙ w.if-has_id.true)
    ] in
    let counted : length (take i c.args.batch.now) ≡ i = search (rules, arith) in
    sym (c.loop-place.invariant
    ∙ repeated-here c.args.self.now c.args.batch.now i c.index-batch-place.result c.loop-place-test.true
    c.index-batch-place.is
    (subst (λ (name : TxnId). is_among name c.args.self.now (take i c.args.batch.now) ≡ true) c.id-id.ensures is)
    ∙ ap Some counted)

pub loop-place-preserved : goal.loop-place-preserved
loop-place-preserved g c =
    let i = c.loop-place.place in
    c.loop-place.invariant
    ∙ repeated-past c.args.self.now c.args.batch.now i c.index-batch-place.result c.loop-place-test.true
    c.index-batch-place.is
    (subst (λ (name : TxnId). is_among name c.args.self.now (take i c.args.batch.now) ≡ false) c.id-id.ensures
    (among-none c.id-id.result c.args.self.now (take i c.args.batch.now) (sym c.has_txn.ensures ∙ c.if-has_txn.false)
    (sym c.has_id.ensures ∙ c.if-has_id.false)))
