use Rattle.std.proofs.Common.{◌∙◌, sym, ap, subst, ◌≤◌, length, Option}
use Rattle.fdb_txn.specs.declared.entry.Entry.{Entry}
use Rattle.fdb_txn.specs.book.Book.{seen_before}
use Rattle.fdb_txn.specs.rules.SerialMap.{serial_map}
use Rattle.fdb_proxy.specs.Verdicts.{outcomes_on}
use Rattle.fdb_check.specs.Running.{batch_of, map_within}
use Rattle.fdb_roles.proofs.Exports.{length-outcomes_on}
use Rattle.fdb_check.proofs.RunningLemmas.{moves-on}
use Rattle.fdb_check.proofs.run.go_within.Goals as goal

pub returns-clause-ok : goal.returns-clause-ok
returns-clause-ok c splits book at there from =
    let run = c.args.run.now in
    let entry = c.args.entry.now in
    let place = c.args.place in
    let before = seen_before book run.entry in
    let known = c.outcomes_at-outcomes.ensures (outcomes_on splits before entry)
    (at.judged.each run.entry entry there) in
    let runs = rw (c.as_slice-batch.ensures.places, known) at c.in_ok-run_places.ensures.ok in
    let map = runs (serial_map splits before.places) (sym (length-outcomes_on splits before entry)) from
    (at.map ∙ ap (λ (next : Option Entry). map_within splits before next run.place) there) in
    moves-on splits book run place c.run_places.new.map at
    (subst (λ (next : Option Entry). place ≤ length (batch_of next)) (sym there) c.requires)
    (map ∙ ap (λ (next : Option Entry). map_within splits before next place) (sym there))
