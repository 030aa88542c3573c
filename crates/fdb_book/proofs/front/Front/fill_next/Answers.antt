use Rattle.std.proofs.Common.{◌≡◌, ◌∙◌, sym, subst, slice_get, Some, rules}
use Rattle.once_cell.specs.Once.{cell_name}
use Rattle.fdb_txn.proofs.Exports.{entry_eq_decides}
use Rattle.fdb_book.proofs.FactLemmas.{next-first-of, next-at, read-shown}
use Rattle.fdb_book.proofs.FoundLemmas.{decided-false}
use Rattle.fdb_book.proofs.front.Front.fill_next.Goals as goal

pub returns-in-Ok-clause-first : goal.returns-in-Ok-clause-first
returns-in-Ok-clause-first g c =
    next-first-of _ _ _ _ _ _ _ _ c.self.invariant.same c.self.invariant.first c.self.invariant.counted
    c.self.view_is c.requires (rw c.deref.ensures at c.index-cell.ensures) c.in-Ok.ensures

pub value-found-requires : goal.value-found-requires
value-found-requires g c =
    (c.in-Err.ensures.1.0, next-at _ _ _ _ _ c.self.invariant.counted c.in-Err.ensures.1.1)

pub returns-then-eq-clause-first : goal.returns-then-eq-clause-first
returns-then-eq-clause-first g c =
    next-first-of _ _ _ _ _ _ _ _ c.self.invariant.same c.self.invariant.first c.self.invariant.counted
    c.self.view_is c.requires (rw c.deref.ensures at c.index-cell.ensures) c.in-Err.ensures.1.1

pub returns-then-eq-clause-entry : goal.returns-then-eq-clause-entry
returns-then-eq-clause-entry g c =
    let boxed : c.deref-in-Err.result.now ≡ c.args.entry.value = search rules in
    read-shown _ _ _ _ _ _ _ c.self.invariant.counted c.self.view_is c.in-Err.ensures.1.1
    (subst (λ entry. slice_get c.in-Err.facts.known c.self.inside.len
    ≡ Some (cell_name c.index-cell.result.now, entry))
    ((entry_eq_decides c.value-found.result.now c.deref-in-Err.result.now).0 (sym c.eq.ensures ∙ c.if-eq.true) ∙ boxed)
    c.value-found.ensures)

pub returns-clause-first : goal.returns-clause-first
returns-clause-first g c =
    next-first-of _ _ _ _ _ _ _ _ c.self.invariant.same c.self.invariant.first c.self.invariant.counted
    c.self.view_is c.requires (rw c.deref.ensures at c.index-cell.ensures) c.in-Err.ensures.1.1

pub returns-clause-entry : goal.returns-clause-entry
returns-clause-entry g c =
    let boxed : c.deref-in-Err.result.now ≡ c.args.entry.value = search rules in (
      read-shown _ _ _ _ _ _ _ c.self.invariant.counted c.self.view_is c.in-Err.ensures.1.1 c.value-found.ensures,
      λ same.
          decided-false (sym c.eq.ensures ∙ c.if-eq.false)
          (entry_eq_decides c.value-found.result.now c.deref-in-Err.result.now) (same ∙ sym boxed),
    )
