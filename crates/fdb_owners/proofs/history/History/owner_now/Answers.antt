use Rattle.std.proofs.Common.{◌∙◌, sym, ap}
use Rattle.fdb_owners.specs.Histories.{latest_of}
use Rattle.fdb_owners.proofs.HistoryLemmas.{owner-through}
use Rattle.fdb_owners.proofs.history.History.owner_now.Goals as goal

pub returns : goal.returns
returns c last through =
    c.latest_of.ensures
    ∙ ap (latest_of c.args.self.now.first) c.as_slice.ensures
    ∙ sym (owner-through c.args.self.now.first c.args.self.now.changes last through)
