use Rattle.std.proofs.Common.{◌≡◌, ◌∙◌, ◌+◌, ◌<◌, le_trans, sym, ap, subst, refl, ℕ, suc, take, length, List}
use Rattle.std.proofs.Common.{Some, slice_get, rules}
use Rattle.std.proofs.Common.{arith}
use Rattle.std.proofs.lemmas.List.{length_push}
use Rattle.std.proofs.lemmas.Option.{slice_get_read}
use Rattle.std.proofs.lemmas.Result.{err_from_is_err_and}
use Rattle.fdb_keys.specs.Points.{Point}
use Rattle.fdb_roles.specs.Judging.{MayFollow}
use Rattle.fdb_roles.proofs.Exports.{last-risen, may-follow}
use Rattle.fdb_check.proofs.JudgedLemmas.{front-follows, judged-next, judged-all}
use Rattle.fdb_check.proofs.judged.judge_entries.Goals as goal

pub take-requires : goal.take-requires
take-requires c =
    let splits = c.args.judge.now.owners.splits in
    let book = c.args.book.now in
    let i = c.loop-entry.entry-index in
    let entry = c.entry-item.result in
    let within : i < length book = search rules in
    let there : slice_get book i ≡ Some entry = slice_get_read book (length book) i entry refl within c.entry-item.is in
    let judge = c.loop-entry.judge in
    let at = c.loop-entry.invariant.1.at in
    let follow = front-follows splits book c.requires.entries i entry there in
    subst (λ (n : ℕ). MayFollow judge.last judge.owners.floor n entry)
    (sym (ap (λ (by : List Point). suc (length by)) at.splits_are))
    (may-follow splits (take i book) entry follow.0 judge.last judge.owners.floor at.last
    (le_trans at.floor (last-risen (take i book) entry follow.1)))

pub returns-in_err-outcomes : goal.returns-in_err-outcomes
returns-in_err-outcomes c =
    let splits = c.args.judge.now.owners.splits in
    let book = c.args.book.now in
    let i = c.loop-entry.entry-index in
    let entry = c.entry-item.result in
    let within : i < length book = search rules in
    let there : slice_get book i ≡ Some entry = slice_get_read book (length book) i entry refl within c.entry-item.is in
    let left = err_from_is_err_and c.from_residual.result c.from_residual.ensures.1 in
    rw (left.1, left.2)
    (c.in_err-outcomes.ensures.outcomes splits (take i book) c.loop-entry.invariant.1.at
    (front-follows splits book c.requires.entries i entry there))

pub loop-entry-preserved : goal.loop-entry-preserved
loop-entry-preserved c =
    let splits = c.args.judge.now.owners.splits in
    let book = c.args.book.now in
    let i = c.loop-entry.entry-index in
    let entry = c.entry-item.result in
    let within : i < length book = search rules in
    let there : slice_get book i ≡ Some entry = slice_get_read book (length book) i entry refl within c.entry-item.is in
    let old = c.loop-entry.judged in
    let outcomes = c.in_ok-outcomes.outcomes in
    let so_far = c.loop-entry.invariant.1 in
    rw c.in_ok-push.ensures.ok (
      length_push old outcomes ∙ ap (λ (n : ℕ). n + 1) c.loop-entry.invariant.0,
      judged-next splits book i entry there old outcomes c.take.new.self c.loop-entry.invariant.0 so_far.each
          (c.in_ok-outcomes.ensures.outcomes splits (take i book) so_far.at
          (front-follows splits book c.requires.entries i entry there)),
    )

pub returns : goal.returns
returns c =
    let count = c.loop-entry.invariant.0 in
    judged-all c.args.judge.now.owners.splits c.args.book.now c.loop-entry.judged (omega (arith, count))
    c.loop-entry.invariant.1.each
