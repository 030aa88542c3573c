use Rattle.std.proofs.Common.{◌∙◌, sym, ap, subst, ℕ, ◌≤◌, List}
use Rattle.fdb_keys.proofs.Exports.{all-parts, ordered-front}
use Rattle.fdb_owners.specs.declared.history.Change.{Change}
use Rattle.fdb_txn.specs.Versions.{count_between}
use Rattle.fdb_owners.specs.Histories.{owner_by, differing, changes_at, AreFalling, AreUpTo}
use Rattle.fdb_owners.proofs.HistoryLemmas.{comes_before}
use Rattle.fdb_owners.proofs.CountLemmas.{count-above}
use Rattle.fdb_owners.proofs.history.History.changes_above.Goals as goal

pub returns : goal.returns
returns c last within =
    let above = c.split_by.result.0.now in
    let through = c.split_by.result.1.now in
    let first = c.args.self.now.first in
    c.count_differing.ensures
    ∙ ap (λ (owner : ℕ). differing owner above) c.latest_of.ensures
    ∙ count-above first above through c.args.floor last
    (ordered-front comes_before above through (subst AreFalling (sym c.as_slice.ensures
    ∙ c.split_by.ensures.parts) c.requires)) c.split_by.ensures.above
    (all-parts (λ (change : Change). change.version ≤ last) above through
    (subst (AreUpTo last) (sym c.as_slice.ensures ∙ c.split_by.ensures.parts) within)).0
    c.split_by.ensures.through
    ∙ ap (λ (changes : List Change). count_between (changes_at (owner_by first changes)) c.args.floor last)
    (sym (sym c.as_slice.ensures ∙ c.split_by.ensures.parts))
