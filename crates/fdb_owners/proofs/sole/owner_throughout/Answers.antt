use Rattle.std.proofs.Common.{◌≡◌, ◌∙◌, sym, ap, [], ◌==◌, ℕ, length, rules}
use Rattle.std.proofs.lemmas.Bool.{eqb-true}
use Rattle.std.proofs.lemmas.List.{nil_from_length}
use Rattle.fdb_owners.specs.Parts.{changes_within}
use Rattle.fdb_owners.proofs.SoleLemmas.{owned-throughout}
use Rattle.fdb_owners.proofs.sole.owner_throughout.Goals as goal

pub returns-then-is_empty-clause-alone : goal.returns-then-is_empty-clause-alone
returns-then-is_empty-clause-alone c i =
    let span = c.args.span in
    let none : changes_within span.since span.through c.args.history.now.changes ≡ [] =
    sym (c.changes_within.ensures ∙ ap (changes_within span.since span.through) c.as_slice.ensures)
    ∙ nil_from_length c.changes_within.result.now
    (eqb-true (length c.changes_within.result.now) 0 (sym c.is_empty.ensures ∙ c.if-is_empty.true)) in
    owned-throughout c.args.history.now i span.since span.through none
    ∙ ap (λ (owner : ℕ). owner == i) (sym c.owner_at.ensures)

pub returns-clause-none : goal.returns-clause-none
returns-clause-none c none =
    let within : c.changes_within.result.now ≡ [] =
    c.changes_within.ensures ∙ ap (changes_within c.args.span.since c.args.span.through) c.as_slice.ensures ∙ none in
    search rules
