use Rattle.std.proofs.Common.{◌≡◌, sym, subst, List, rules}
use Rattle.std.specs.Option.{option_copied}
use Rattle.fdb_keys.specs.Ranges.{Range}
use Rattle.fdb_txn.specs.declared.entry.Entry.{Entry}
use Rattle.fdb_machine.specs.machine.Conflicts.{IsConflictOf}
use Rattle.fdb_machine.specs.machine.Machine.{Machine}
use Rattle.fdb_core.specs.refinement.Conflicts.{IsFound}
use Rattle.fdb_core.proofs.refinement.ConflictLemmas.{found-conflict, untold}
use Rattle.fdb_core.proofs.refinement.RestoringLemmas.{restored, same-machine}
use Rattle.fdb_core.proofs.cluster.Cluster.conflict.Goals as goal

-- the session's last transaction has no id, or isn't told
pub returns-in-None : goal.returns-in-None
returns-in-None c = untold c.args.self.now c.args.session (sym c.in-None.ensures)

pub returns-in-Some : goal.returns-in-Some
returns-in-Some c =
    let k = c.args.self.now in
    let id = c.in-Some.id in
    let entries : c.as_slice.result.now ≡ k.book.items = search rules in
    let sets : c.as_slice-in-Some.result.now ≡ k.conflicts.items = search rules in
    subst (λ (m : Machine). IsConflictOf m c.args.session (option_copied c.find.result))
    (same-machine k c.requires)
    (found-conflict (restored k c.requires) c.requires.refines c.args.session id (sym c.in-Some.ensures)
    (option_copied c.find.result)
    (subst (λ (all : List (List (List Range))). IsFound k.book.items all id (option_copied c.find.result)) sets
    (subst (λ (book : List Entry). IsFound book c.as_slice-in-Some.result.now id (option_copied c.find.result))
    entries c.find.ensures)))
