use Rattle.std.proofs.Common.{sym, subst, suc, length, List, []}
use Rattle.std.proofs.lemmas.Result.{err_from_is_err_and}
use Rattle.fdb_keys.specs.Points.{Point}
use Rattle.fdb_txn.specs.Limits.{resolver_limit}
use Rattle.fdb_txn.specs.rules.Splits.{splits_fault}
use Rattle.fdb_check.specs.Judged.{AreJudged, FollowOn}
use Rattle.fdb_check.specs.Judging.{IsJudgeAt}
use Rattle.fdb_roles.proofs.Exports.{answers-fault, lacks-memory}
use Rattle.fdb_check.proofs.judged.judge_book.Goals as goal

pub returns-in_err-judge : goal.returns-in_err-judge
returns-in_err-judge c =
    let splits = c.args.splits.now in
    let left = err_from_is_err_and c.from_residual.result c.from_residual.ensures.1 in
    rw (left.1, left.2)
    (lacks-memory (splits_fault resolver_limit splits) c.in_err-judge.field-0.0 (IsJudgeAt splits []) c.requires.splits
    c.in_err-judge.ensures)

pub judge_entries-requires-clause-entries : goal.judge_entries-requires-clause-entries
judge_entries-requires-clause-entries c =
    let splits = c.args.splits.now in
    let at = (answers-fault (splits_fault resolver_limit splits) c.in_ok-judge.judge (IsJudgeAt splits [])
    c.in_ok-judge.ensures).1 in
    subst (λ (by : List Point). FollowOn (suc (length by)) 0 0 c.args.book.now) (sym at.splits_are) c.requires.entries

pub judge_entries-requires-clause-first : goal.judge_entries-requires-clause-first
judge_entries-requires-clause-first c =
    let splits = c.args.splits.now in
    let at = (answers-fault (splits_fault resolver_limit splits) c.in_ok-judge.judge (IsJudgeAt splits [])
    c.in_ok-judge.ensures).1 in
    subst (λ (by : List Point). IsJudgeAt by [] c.in_ok-judge.judge) (sym at.splits_are) at

pub returns : goal.returns
returns c =
    let splits = c.args.splits.now in
    let at = (answers-fault (splits_fault resolver_limit splits) c.in_ok-judge.judge (IsJudgeAt splits [])
    c.in_ok-judge.ensures).1 in
    subst (λ (by : List Point). AreJudged by c.args.book.now c.in_ok-judged.judged) at.splits_are
    c.in_ok-judged.ensures
