use Rattle.std.proofs.Common.{◌∙◌, sym, ap, List, [], ◌∷◌, ◌++◌, take}
use Rattle.fdb_txn.specs.declared.entry.Entry.{Entry}
use Rattle.fdb_txn.proofs.Exports.{same_entry}
use Rattle.fdb_book.proofs.FactLemmas.{take-found}
use Rattle.fdb_book.proofs.front.Front.entries.Goals as goal

pub loop-index-preserved : goal.loop-index-preserved
loop-index-preserved g c =
    c.in_ok-push.ensures.items ∙ ap (λ (done : List Entry). done ++ c.in_ok-clone.field-0 ∷ []) c.loop-index.invariant
    ∙ ap (λ (entry : Entry). take c.loop-index.index c.args.self.now ++ entry ∷ [])
    (same_entry c.entry_at.result.now c.in_ok-clone.field-0 c.in_ok-clone.ensures.cases)
    ∙ sym (take-found c.args.self.now c.loop-index.index c.entry_at.result.now c.entry_at.ensures)
