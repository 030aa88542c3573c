use Rattle.std.proofs.Common.{◌∙◌, sym, ap, subst, ◌≤◌, ℕ, length, Option, slice_get}
use Rattle.std.specs.Prelude.{OnOk}
use Rattle.std.proofs.lemmas.Bool.{ltb-false}
use Rattle.fdb_txn.specs.declared.entry.Entry.{Entry}
use Rattle.fdb_check.specs.Running.{batch_of, HasComeTo}
use Rattle.fdb_check.proofs.RunningLemmas.{item-there, nothing-after, not-later, goes-from, comes-out}
use Rattle.fdb_check.proofs.run.go_to.Goals as goal

pub go_within-requires : goal.go_within-requires
go_within-requires c =
    let there = item-there c.args.book.now c.args.entry c.in-Some.next.now
    (c.in-Some.ensures.lookup.0, c.in-Some.ensures.lookup.1) in
    subst (λ (next : Option Entry). c.args.place ≤ length (batch_of next)) there c.requires

pub returns-in-Some-clause-ok : goal.returns-in-Some-clause-ok
returns-in-Some-clause-ok c splits entries at within not_past =
    let book = c.args.book.now in
    let mid = c.run_entries.new.run in
    let there = item-there book c.args.entry c.in-Some.next.now
    (c.in-Some.ensures.lookup.0, c.in-Some.ensures.lookup.1) in
    let come = c.in_ok-run_entries.ensures.ok splits entries at within
    (not-later c.args.run.now c.args.entry c.args.place not_past) in
    subst (λ (n : ℕ). OnOk c.go_within.result (HasComeTo splits book n c.args.place c.go_within.new.run)) come.1
    (c.go_within.ensures.ok splits book come.0 (ap (slice_get book) come.1 ∙ there)
    (goes-from c.args.run.now mid c.args.entry c.args.place not_past come.2))

pub returns-in-None-clause-ok : goal.returns-in-None-clause-ok
returns-in-None-clause-ok c splits entries at within not_past =
    let book = c.args.book.now in
    let come = c.in_ok-run_entries.ensures.ok splits entries at within
    (not-later c.args.run.now c.args.entry c.args.place not_past) in
    comes-out splits book c.args.entry c.args.place c.run_entries.new.run come.0 come.1
    (nothing-after book c.args.entry (ltb-false c.args.entry (length book) (sym c.in-None.ensures.lookup.0)))
    c.requires
