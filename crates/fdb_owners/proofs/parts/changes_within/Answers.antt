use Rattle.std.proofs.Common.{◌∙◌, sym, ap, subst, List, ◌++◌}
use Rattle.fdb_keys.proofs.Exports.{ordered-back}
use Rattle.fdb_owners.specs.declared.history.Change.{Change}
use Rattle.fdb_owners.specs.Histories.{AreFalling, AreUpTo}
use Rattle.fdb_owners.specs.Parts.{changes_within}
use Rattle.fdb_owners.proofs.ChangesLemmas.{within-parted}
use Rattle.fdb_owners.proofs.HistoryLemmas.{comes_before}
use Rattle.fdb_owners.proofs.parts.changes_within.Goals as goal

pub split_by-requires-2 : goal.split_by-requires-2
split_by-requires-2 c =
    ordered-back comes_before c.split_by.result.0.now c.split_by.result.1.now
    (subst AreFalling c.split_by.ensures.parts c.requires)

pub returns : goal.returns
returns c =
    let above = c.split_by.result.0.now in
    let within = c.split_by-2.result.0.now in
    let before = c.split_by-2.result.1.now in
    within-parted c.args.span.since c.args.span.through above within before c.split_by.ensures.above
    (subst (AreUpTo c.args.span.through) c.split_by-2.ensures.parts c.split_by.ensures.through)
    c.split_by-2.ensures.above c.split_by-2.ensures.through
    ∙ sym (ap (changes_within c.args.span.since c.args.span.through)
    (c.split_by.ensures.parts ∙ ap (λ (changes : List Change). above ++ changes) c.split_by-2.ensures.parts))
