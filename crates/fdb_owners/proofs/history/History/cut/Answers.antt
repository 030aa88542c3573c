use Rattle.std.proofs.Common.{◌≡◌, ◌∙◌, sym, ap, subst, List, take, length}
use Rattle.std.proofs.Math.Seq.{take-append_seam}
use Rattle.fdb_owners.specs.declared.history.Change.{Change}
use Rattle.fdb_owners.specs.Histories.{owner_by, IsHistory}
use Rattle.fdb_owners.proofs.HistoryLemmas.{owner-cut, cut-is_history}
use Rattle.fdb_owners.proofs.history.History.cut.Goals as goal

pub returns-clause-kept : goal.returns-clause-kept
returns-clause-kept c v from =
    let above = c.split_by.result.0.now in
    let through = c.split_by.result.1.now in
    let left : c.truncate.new.self ≡ above =
    c.truncate.ensures
    ∙ ap (λ (changes : List Change). take (length above) changes) (sym c.as_slice.ensures ∙ c.split_by.ensures.parts)
    ∙ take-append_seam above through in
    (λ i. owner_by (c.latest_of-first.ensures i) (left i) v)
    ∙ owner-cut c.args.self.now.first above through c.args.floor v c.split_by.ensures.through from
    ∙ sym (ap (λ (changes : List Change). owner_by c.args.self.now.first changes v) (sym c.as_slice.ensures
    ∙ c.split_by.ensures.parts))

pub returns-clause-history : goal.returns-clause-history
returns-clause-history c resolvers last kept =
    let above = c.split_by.result.0.now in
    let through = c.split_by.result.1.now in
    let left : c.truncate.new.self ≡ above =
    c.truncate.ensures
    ∙ ap (λ (changes : List Change). take (length above) changes) (sym c.as_slice.ensures ∙ c.split_by.ensures.parts)
    ∙ take-append_seam above through in
    subst (IsHistory resolvers last) (λ i. record { first = sym c.latest_of-first.ensures i; changes = sym left i })
    (cut-is_history resolvers last c.args.self.now.first above through
    (subst (λ (changes : List Change). IsHistory resolvers last
    (record { first = c.args.self.now.first; changes = changes }))
    (sym c.as_slice.ensures ∙ c.split_by.ensures.parts) kept))
