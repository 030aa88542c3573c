use Rattle.std.proofs.Common.{◌∙◌, sym, ap, List}
use Rattle.fdb_owners.specs.declared.history.Change.{Change}
use Rattle.fdb_owners.specs.Histories.{owner_by}
use Rattle.fdb_owners.proofs.HistoryLemmas.{owner-above, owner-through}
use Rattle.fdb_owners.proofs.history.History.owner_at.Goals as goal

pub returns : goal.returns
returns c =
    c.latest_of.ensures
    ∙ sym (ap (λ (changes : List Change). owner_by c.args.self.now.first changes c.args.version) (sym c.as_slice.ensures
    ∙ c.split_by.ensures.parts)
    ∙ owner-above c.args.self.now.first c.split_by.result.0.now c.split_by.result.1.now c.args.version
    c.split_by.ensures.above
    ∙ owner-through c.args.self.now.first c.split_by.result.1.now c.args.version c.split_by.ensures.through)
