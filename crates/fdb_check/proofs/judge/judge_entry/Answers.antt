use Rattle.std.proofs.Common.{◌∙◌, ap, sym, List, length, Option}
use Rattle.std.proofs.lemmas.Result.{err_from_is_err_and}
use Rattle.fdb_txn.specs.book.Book.{seen_of}
use Rattle.fdb_proxy.specs.Deciding.{Said, outcomes_by}
use Rattle.fdb_proxy.specs.Verdicts.{moves_through}
use Rattle.fdb_proxy.proofs.Exports.{count-outcomes}
use Rattle.fdb_check.proofs.JudgingLemmas.{may-take-all, decided, all-at-next}
use Rattle.fdb_roles.proofs.Exports.{same-parts, are-parts}
use Rattle.fdb_check.proofs.judge.judge_entry.Goals as goal

pub take_parts-requires-clause-count : goal.take_parts-requires-clause-count
take_parts-requires-clause-count c =
    let entry = c.args.entry.now in
    let owners = c.args.owners.now in
    let parts = same-parts owners.splits c.requires.known.0 _ entry.batch c.as_slice-batch.result.now
    c.in_ok-parts.parts
    c.as_slice.result.now c.as_slice-batch.ensures.places c.as_slice.ensures
    (c.in_ok-parts.ensures c.requires.known.0 c.requires.known.1) in
    c.requires.count ∙ sym parts.count

pub take_parts-requires-clause-parts : goal.take_parts-requires-clause-parts
take_parts-requires-clause-parts c =
    let entry = c.args.entry.now in
    let owners = c.args.owners.now in
    are-parts owners.splits c.requires.known.0 _ entry.batch c.as_slice.result.now c.requires.later
    (same-parts owners.splits c.requires.known.0 _ entry.batch c.as_slice-batch.result.now c.in_ok-parts.parts
    c.as_slice.result.now c.as_slice-batch.ensures.places c.as_slice.ensures
    (c.in_ok-parts.ensures c.requires.known.0 c.requires.known.1))

pub returns-in_err-verdicts-clause-outcomes : goal.returns-in_err-verdicts-clause-outcomes
returns-in_err-verdicts-clause-outcomes c before agrees at entries =
    let entry = c.args.entry.now in
    let splits = c.args.owners.now.splits in
    let moves = moves_through (seen_of before) entry in
    let parts = same-parts splits moves _ entry.batch c.as_slice-batch.result.now c.in_ok-parts.parts
    c.as_slice.result.now c.as_slice-batch.ensures.places c.as_slice.ensures (c.in_ok-parts.ensures moves agrees) in
    let left = err_from_is_err_and c.from_residual-in_err-verdicts.result
    c.from_residual-in_err-verdicts.ensures.1 in
    rw (left.1, left.2)
    (c.in_err-verdicts.ensures.err
    (may-take-all splits before entry entries 0 c.args.resolvers.now.items c.as_slice.result.now
    c.requires.count at parts))

pub returns-clause-count : goal.returns-clause-count
returns-clause-count c =
    ap length c.in_ok-outcomes.ensures
    ∙ count-outcomes c.args.entry.now.version c.as_slice-2.result.now _ ∙ ap length c.as_slice-batch.ensures.places

pub returns-clause-outcomes : goal.returns-clause-outcomes
returns-clause-outcomes c before agrees at entries =
    let entry = c.args.entry.now in
    let splits = c.args.owners.now.splits in
    let moves = moves_through (seen_of before) entry in
    let parts = same-parts splits moves _ entry.batch c.as_slice-batch.result.now c.in_ok-parts.parts
    c.as_slice.result.now c.as_slice-batch.ensures.places c.as_slice.ensures (c.in_ok-parts.ensures moves agrees) in
    let old = c.args.resolvers.now.items in
    let new = c.take_parts.new.resolvers.items in
    let said = c.in_ok-verdicts.verdicts in
    let have = c.in_ok-verdicts.ensures.said in (
      c.in_ok-outcomes.ensures
          ∙ ap (outcomes_by entry.version c.as_slice-2.result.now) (ap length c.as_slice-batch.ensures.places)
          ∙ ap (λ (of : List (Option Said)). outcomes_by entry.version of (length entry.batch)) c.as_slice-2.ensures
          ∙ decided splits before entry entries 0 old c.as_slice.result.now c.requires.count at parts new
          said have,
      all-at-next splits before entry entries 0 old
          c.as_slice.result.now c.requires.count at parts new said have,
    )
