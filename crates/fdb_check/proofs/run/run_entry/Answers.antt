use Rattle.std.proofs.Common.{◌∙◌, sym, ap, subst, refl, ◌≤◌, suc, add-one, length, Option, arith}
use Rattle.std.proofs.lemmas.Bool.{ltb-true}
use Rattle.std.proofs.lemmas.Result.{err_from_is_err_and}
use Rattle.fdb_txn.specs.declared.entry.Entry.{Entry}
use Rattle.fdb_check.specs.Running.{batch_of}
use Rattle.fdb_check.proofs.RunningLemmas.{item-there, comes-in, map-come, map-whole}
use Rattle.fdb_check.proofs.run.run_entry.Goals as goal

pub returns-in_err-go_within-clause-err : goal.returns-in_err-go_within-clause-err
returns-in_err-go_within-clause-err c =
    let left = err_from_is_err_and c.from_residual.result c.from_residual.ensures.1 in
    rw (left.1, left.2) (
      c.in_err-go_within.ensures.err,
      ltb-true c.args.run.now.entry (length c.args.book.now) (sym c.in-Some.ensures.lookup.0),
    )

pub returns-clause-end : goal.returns-clause-end
returns-clause-end c ended =
    let within = ltb-true c.args.run.now.entry (length c.args.book.now) (sym c.in-Some.ensures.lookup.0) in
    absurd (omega (arith, ended, within))

pub returns-clause-ok : goal.returns-clause-ok
returns-clause-ok c splits entries at within =
    let book = c.args.book.now in
    let old = c.args.run.now in
    let mid = c.go_within.new.run in
    let entry = c.in-Some.entry.now in
    let there = item-there book old.entry entry (c.in-Some.ensures.lookup.0, c.in-Some.ensures.lookup.1) in
    let goes = rw c.as_slice-batch.ensures.places at c.in_ok-go_within.ensures.ok in
    let come = goes splits book at there
    (subst (λ (next : Option Entry). old.place ≤ length (batch_of next)) there at.within) in
    comes-in splits book (suc old.entry) _ (add-one mid.entry ∙ ap suc come.1) refl come.0.judged
    (map-come splits book old.entry (length entry.batch) mid come entry there
    ∙ map-whole splits book entries old.entry entry there)
