use Rattle.std.proofs.Common.{◌≡◌, ◌≤◌, ◌<◌, ◌∙◌, subst, sym, refl, true, nat_lt, get_or, length, ℕ, List, Option, None}
use Rattle.std.proofs.Common.{Some, slice_get, arith}
use Rattle.std.proofs.lemmas.Bool.{both_ways, ltb-false}
use Rattle.std.proofs.lemmas.Option.{slice_get_within}
use Rattle.fdb_txn.specs.declared.entry.Entry.{Entry}
use Rattle.fdb_txn.specs.book.Transactions.{Transaction}
use Rattle.fdb_proxy.specs.declared.outcome.Outcome.{Outcome}
use Rattle.fdb_check.specs.Running.{batch_of}
use Rattle.fdb_check.proofs.RunningLemmas.{item-there, nothing-after, map-come}
use Rattle.fdb_check.proofs.StandingLemmas.{answers-not, no-place, version-is, commits-there, outcome-there}
use Rattle.fdb_check.proofs.StandingLemmas.{stands-there, found-means}
use Rattle.fdb_check.proofs.standing.is_serialized_at.Goals as goal

-- a transaction that a look-up gave
txn-there : (batch : List Transaction) (same : List Transaction) (p : ℕ) (t : Transaction) → same ≡ batch
    → (true ≡ nat_lt p (length same)) × (t ≡ get_or same p t) → slice_get batch p ≡ Some t
txn-there batch same p t are is =
    subst (λ (of : List Transaction). slice_get of p ≡ Some t) are (item-there same p t is)

pub returns-in_default-get-clause-ok : goal.returns-in_default-get-clause-ok
returns-in_default-get-clause-ok c splits entries at not_past =
    let book = c.args.book.now in
    let entry = c.in-Some.entry.now in
    let there = item-there book c.args.index entry (c.in-Some.ensures.lookup.0, c.in-Some.ensures.lookup.1) in
    let batch = c.as_slice.result.now in
    let none : slice_get batch c.args.place ≡ None = nothing-after batch c.args.place
    (ltb-false c.args.place (length batch) (sym c.in_default-get.ensures.lookup.0)) in (
      answers-not (no-place splits book c.args.index c.args.place c.args.version c.args.transcript.now entry there
          (subst (λ (of : List Transaction). slice_get of c.args.place ≡ None) c.as_slice.ensures.places none)),
      λ never. absurd (both_ways _ refl never),
    )

pub returns-then-entry-version-clause-ok : goal.returns-then-entry-version-clause-ok
returns-then-entry-version-clause-ok c splits entries at not_past =
    let book = c.args.book.now in
    let entry = c.in-Some.entry.now in
    let there = item-there book c.args.index entry (c.in-Some.ensures.lookup.0, c.in-Some.ensures.lookup.1) in
    let txn = c.in-Some-get.txn.now in
    let its = txn-there entry.batch c.as_slice.result.now c.args.place txn c.as_slice.ensures.places
    (c.in-Some-get.ensures.lookup.0, c.in-Some-get.ensures.lookup.1) in (
      answers-not (λ stands. c.if-entry-version.true
          (version-is splits book c.args.index c.args.place c.args.version c.args.transcript.now entry there txn its
          stands)),
      λ never. absurd (both_ways _ refl never),
    )

pub go_to-requires : goal.go_to-requires
go_to-requires c =
    let entry = c.in-Some.entry.now in
    let there = item-there c.args.book.now c.args.index entry (c.in-Some.ensures.lookup.0, c.in-Some.ensures.lookup.1)
    in
    let its = txn-there entry.batch c.as_slice.result.now c.args.place c.in-Some-get.txn.now c.as_slice.ensures.places
    (c.in-Some-get.ensures.lookup.0, c.in-Some-get.ensures.lookup.1) in
    let within : c.args.place < length entry.batch = slice_get_within entry.batch c.args.place c.in-Some-get.txn.now
    its in
    subst (λ (next : Option Entry). c.args.place ≤ length (batch_of next)) (sym there) (omega (arith, within))

pub returns-then-not-commits-clause-ok : goal.returns-then-not-commits-clause-ok
returns-then-not-commits-clause-ok c splits entries at not_past =
    let book = c.args.book.now in
    let n = c.args.index in
    let p = c.args.place in
    let entry = c.in-Some.entry.now in
    let there = item-there book n entry (c.in-Some.ensures.lookup.0, c.in-Some.ensures.lookup.1) in
    let txn = c.in-Some-get.txn.now in
    let its = txn-there entry.batch c.as_slice.result.now p txn c.as_slice.ensures.places
    (c.in-Some-get.ensures.lookup.0, c.in-Some-get.ensures.lookup.1) in
    let inside = slice_get_within book n entry there in
    let come = c.in_ok-go_to.ensures.ok splits entries at (omega (arith, inside)) not_past in
    let run = c.go_to.new.run in
    let outcome = outcome-there splits book n p c.args.version c.args.transcript.now entry there txn its in
    let said = c.commits.ensures outcome.0
    (subst (λ (os : List Outcome). slice_get os p ≡ Some outcome.0)
    (sym (c.outcomes_at.ensures _ (come.0.judged.each n entry there))) outcome.1) in (
      answers-not (λ stands. absurd (both_ways _ c.if-not-commits.true
          (said
          ∙ commits-there splits book n p c.args.version c.args.transcript.now entry there txn its outcome.0 outcome.1
          stands))),
      λ never. absurd (both_ways _ refl never),
    )

pub returns-clause-ok : goal.returns-clause-ok
returns-clause-ok c splits entries at not_past =
    let book = c.args.book.now in
    let n = c.args.index in
    let p = c.args.place in
    let entry = c.in-Some.entry.now in
    let there = item-there book n entry (c.in-Some.ensures.lookup.0, c.in-Some.ensures.lookup.1) in
    let txn = c.in-Some-get.txn.now in
    let its = txn-there entry.batch c.as_slice.result.now p txn c.as_slice.ensures.places
    (c.in-Some-get.ensures.lookup.0, c.in-Some-get.ensures.lookup.1) in
    let inside = slice_get_within book n entry there in
    let come = c.in_ok-go_to.ensures.ok splits entries at (omega (arith, inside)) not_past in
    let run = c.go_to.new.run in
    let outcome = outcome-there splits book n p c.args.version c.args.transcript.now entry there txn its in
    let said = c.commits.ensures outcome.0
    (subst (λ (os : List Outcome). slice_get os p ≡ Some outcome.0)
    (sym (c.outcomes_at.ensures _ (come.0.judged.each n entry there))) outcome.1) in
    found-means c.is_run_on.result c.found.result _ _ c.found.ensures.ok c.found.ensures.err c.is_run_on.ensures
    (λ same answers. (
      stands-there splits book n p c.args.version c.args.transcript.now entry there txn its outcome.0 run.map same
          outcome.1 (sym said ∙ c.if-not-commits.false) c.if-entry-version.false
          (map-come splits book n p run come entry there) answers,
      λ yes. come,
    ))
