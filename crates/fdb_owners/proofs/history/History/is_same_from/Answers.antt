use Rattle.std.proofs.Common.{◌∙◌, sym, ap, List}
use Rattle.fdb_owners.specs.declared.history.Change.{Change}
use Rattle.fdb_owners.specs.Histories.{owner_by}
use Rattle.fdb_owners.proofs.HistoryLemmas.{owner-cut, changes-same}
use Rattle.fdb_owners.proofs.history.History.is_same_from.Goals as goal

pub returns-then-latest_of : goal.returns-then-latest_of
returns-then-latest_of c is v from =
    let above = c.split_by.result.0.now in
    let through = c.split_by.result.1.now in
    let other_above = c.split_by-2.result.0.now in
    let other_through = c.split_by-2.result.1.now in
    let first = c.args.self.now.first in
    let other_first = c.args.other.now.first in
    ap (λ (changes : List Change). owner_by first changes v) (sym c.as_slice.ensures ∙ c.split_by.ensures.parts)
    ∙ sym (owner-cut first above through c.args.floor v c.split_by.ensures.through from)
    ∙ (λ i. owner_by ((sym c.latest_of.ensures ∙ c.if-latest_of.true ∙ c.latest_of-2.ensures) i)
    (changes-same above other_above (sym c.eq.ensures ∙ is) i) v)
    ∙ owner-cut other_first other_above other_through c.args.floor v c.split_by-2.ensures.through from
    ∙ sym (ap (λ (changes : List Change). owner_by other_first changes v) (sym c.as_slice-2.ensures
    ∙ c.split_by-2.ensures.parts))
