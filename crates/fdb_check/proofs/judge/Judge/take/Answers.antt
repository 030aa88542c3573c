use Rattle.std.proofs.Common.{sym, subst, arith}
use Rattle.std.proofs.lemmas.Result.{err_from_is_err_and}
use Rattle.fdb_owners.specs.Ownership.{resolvers_of}
use Rattle.fdb_check.specs.Judging.{Judge, IsJudgeAt}
use Rattle.fdb_roles.specs.Judging.{MayFollow}
use Rattle.fdb_check.proofs.JudgingLemmas.{taken-judge, lacking-judge}
use Rattle.fdb_check.proofs.judge.Judge.take.Goals as goal

pub learn-requires-clause-later : goal.learn-requires-clause-later
learn-requires-clause-later c =
    let may = subst (λ (judge : Judge).
    MayFollow judge.last judge.owners.floor (resolvers_of judge.owners) c.args.entry.now) (sym c.self.view_is)
    c.requires in
    let learnt = c.self.invariant.learnt in
    let later = may.later in
    omega (arith, learnt, later)

pub learn-requires-clause-targets : goal.learn-requires-clause-targets
learn-requires-clause-targets c =
    (subst (λ (judge : Judge). MayFollow judge.last judge.owners.floor (resolvers_of judge.owners) c.args.entry.now)
    (sym c.self.view_is) c.requires).moves

pub learn-requires-clause-kept : goal.learn-requires-clause-kept
learn-requires-clause-kept c =
    (subst (λ (judge : Judge). MayFollow judge.last judge.owners.floor (resolvers_of judge.owners) c.args.entry.now)
    (sym c.self.view_is) c.requires).rises

pub judge_entry-requires-clause-kept : goal.judge_entry-requires-clause-kept
judge_entry-requires-clause-kept c =
    let may = subst (λ (judge : Judge).
    MayFollow judge.last judge.owners.floor (resolvers_of judge.owners) c.args.entry.now) (sym c.self.view_is)
    c.requires in
    let below = may.below in
    let floor = c.in_ok-learn.ensures.floor in
    omega (arith, below, floor)

pub judge_entry-requires-clause-later : goal.judge_entry-requires-clause-later
judge_entry-requires-clause-later c =
    let may = subst (λ (judge : Judge).
    MayFollow judge.last judge.owners.floor (resolvers_of judge.owners) c.args.entry.now) (sym c.self.view_is)
    c.requires in
    let linked = may.linked in
    let later = may.later in
    omega (arith, linked, later)

pub returns-in_err-outcomes-clause-outcomes : goal.returns-in_err-outcomes-clause-outcomes
returns-in_err-outcomes-clause-outcomes c splits before now entries =
    let at = subst (IsJudgeAt splits before) (sym c.self.view_is) now in
    let left = err_from_is_err_and c.from_residual-in_err-outcomes.result
    c.from_residual-in_err-outcomes.ensures.1 in
    rw (left.1, left.2)
    (lacking-judge splits before c.args.entry.now _ c.learn.new.owners at c.in_ok-learn.ensures.splits
    c.in_ok-learn.ensures.answers c.in_ok-learn.ensures.floor entries c.in_err-outcomes.field-0.0
    c.judge_entry.new.resolvers.items
    c.in_err-outcomes.ensures.outcomes)

pub returns-clause-outcomes : goal.returns-clause-outcomes
returns-clause-outcomes c splits before now entries =
    let at = subst (IsJudgeAt splits before) (sym c.self.view_is) now in
    taken-judge splits before c.args.entry.now _ c.learn.new.owners at c.in_ok-learn.ensures.splits
    c.in_ok-learn.ensures.answers c.in_ok-learn.ensures.floor entries c.in_ok-outcomes.outcomes
    c.judge_entry.new.resolvers.items
    c.in_ok-outcomes.ensures.outcomes
