use Rattle.std.proofs.Common.{sym, subst, suc, length}
use Rattle.fdb_owners.specs.declared.history.History.{History}
use Rattle.fdb_owners.specs.Histories.{AreFalling}
use Rattle.fdb_owners.proofs.OwnersLemmas.{history-is, changes-answers}
use Rattle.fdb_owners.proofs.owners.Owners.changes.Goals as goal

pub changes_above-requires : goal.changes_above-requires
changes_above-requires c =
    subst (λ (history : History). AreFalling history.changes) (sym c.history_of.ensures)
    (history-is (suc (length c.self.inside.splits)) c.self.inside.last c.self.inside.pieces c.self.invariant.1
    c.args.key.now).falling

pub returns : goal.returns
returns c =
    changes-answers c.self.inside.splits c.self.inside.pieces c.self.inside.last c.self.inside.floor c.self.invariant.1
    c.self.invariant.2 c.args.self.now c.self.view_is c.args.key.now c.history_of.result.now c.changes_above.result
    c.history_of.ensures c.changes_above.ensures
