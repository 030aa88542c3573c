use Rattle.std.proofs.Common.{◌∙◌, sym}
use Rattle.fdb_interval.proofs.Exports.{value-last-some, value-last-none, rising_from_sorted}
use Rattle.fdb_owners.proofs.pieces.Pieces.history_at.Goals as goal

pub returns-in-Some-clause-value : goal.returns-in-Some-clause-value
returns-in-Some-clause-value c =
    value-last-some c.args.self.now.lowest c.args.self.now.breaks.entries c.next_back.new.self
    (c.in-Some._begin.now, c.in-Some.history.now) c.args.point.now
    (sym (c.range.ensures.between tt) ∙ c.in-Some.ensures.steps)

pub returns-in-None-clause-value : goal.returns-in-None-clause-value
returns-in-None-clause-value c =
    value-last-none c.args.self.now.lowest c.args.self.now.breaks.entries c.args.point.now
    (sym (c.range.ensures.between tt) ∙ c.in-None.ensures.steps.0)

pub returns-in-Some-clause-rising : goal.returns-in-Some-clause-rising
returns-in-Some-clause-rising c = rising_from_sorted c.args.self.now.breaks.entries c.range.ensures.ordered

pub returns-in-None-clause-rising : goal.returns-in-None-clause-rising
returns-in-None-clause-rising c = rising_from_sorted c.args.self.now.breaks.entries c.range.ensures.ordered
