use Rattle.std.proofs.Common.{◌∙◌, sym, ap}
use Rattle.std.specs.FinMap.{get, remove}
use Rattle.fdb_txn.proofs.NumberMaps.{get-pairs, one_taken}
use Rattle.fdb_txn.proofs.room.Room.ready.Goals as goal

pub returns-clause-given : goal.returns-clause-given
returns-clause-given g c =
    c.remove.ensures.value ∙ sym (get-pairs c.self.inside.waiting.entries c.args.last)
    ∙ ap (λ waiting. get waiting c.args.last) c.self.view_is

pub returns-clause-others : goal.returns-clause-others
returns-clause-others g c =
    one_taken c.self.inside.waiting.entries c.remove.new.self.entries c.args.last c.remove.ensures.updates.0
    ∙ ap (λ waiting. remove waiting c.args.last) c.self.view_is
