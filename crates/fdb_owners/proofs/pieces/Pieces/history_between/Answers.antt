use Rattle.std.proofs.Common.{◌≡◌, ◌∙◌, sym, true, false, rules}
use Rattle.fdb_keys.specs.Points.{point_lt}
use Rattle.fdb_interval.proofs.Exports.{rising_from_sorted, value-throughout, none-inside, value-nowhere, none-anywhere}
use Rattle.fdb_owners.proofs.SoleLemmas.{one-inside}
use Rattle.fdb_owners.proofs.pieces.Pieces.history_between.Goals as goal

pub returns-in-Some-2-clause-history : goal.returns-in-Some-2-clause-history
returns-in-Some-2-clause-history c =
    let entries = c.args.self.now.breaks.entries in
    let up_to : point_lt c.args.begin.now c.in-Some.point.now ≡ false = search rules in
    value-throughout entries c.next_back.new.self (c.in-Some.point.now, c.in-Some._history.now) c.args.begin.now
    c.args.end.now (rising_from_sorted entries c.range.ensures.ordered) c.requires
    (sym (c.range.ensures.between tt) ∙ c.in-Some.ensures.steps) c.args.self.now.lowest up_to

pub returns-in-Some-2-clause-inside : goal.returns-in-Some-2-clause-inside
returns-in-Some-2-clause-inside c =
    let entries = c.args.self.now.breaks.entries in
    let up_to : point_lt c.args.begin.now c.in-Some.point.now ≡ false = search rules in
    none-inside entries c.next_back.new.self (c.in-Some.point.now, c.in-Some._history.now) c.args.begin.now
    c.args.end.now (rising_from_sorted entries c.range.ensures.ordered) c.requires
    (sym (c.range.ensures.between tt) ∙ c.in-Some.ensures.steps) up_to

pub returns-in-None-clause-history : goal.returns-in-None-clause-history
returns-in-None-clause-history c =
    let entries = c.args.self.now.breaks.entries in
    value-nowhere entries c.args.begin.now c.args.end.now (rising_from_sorted entries c.range.ensures.ordered)
    c.requires (sym (c.range.ensures.between tt) ∙ c.in-None.ensures.steps.0) c.args.self.now.lowest

pub returns-in-None-clause-inside : goal.returns-in-None-clause-inside
returns-in-None-clause-inside c =
    let entries = c.args.self.now.breaks.entries in
    none-anywhere entries c.args.begin.now c.args.end.now (rising_from_sorted entries c.range.ensures.ordered)
    c.requires (sym (c.range.ensures.between tt) ∙ c.in-None.ensures.steps.0)

pub returns-in-Some-clause-rising : goal.returns-in-Some-clause-rising
returns-in-Some-clause-rising c = rising_from_sorted c.args.self.now.breaks.entries c.range.ensures.ordered

pub returns-in-Some-2-clause-rising : goal.returns-in-Some-2-clause-rising
returns-in-Some-2-clause-rising c = rising_from_sorted c.args.self.now.breaks.entries c.range.ensures.ordered

pub returns-in-None-clause-rising : goal.returns-in-None-clause-rising
returns-in-None-clause-rising c = rising_from_sorted c.args.self.now.breaks.entries c.range.ensures.ordered

pub returns-in-Some-clause-none : goal.returns-in-Some-clause-none
returns-in-Some-clause-none c =
    let later : point_lt c.args.begin.now c.in-Some.point.now ≡ true = search rules in
    one-inside c.args.self.now.breaks.entries c.next_back.new.self (c.in-Some.point.now, c.in-Some._history.now)
    c.args.begin.now c.args.end.now (sym (c.range.ensures.between tt) ∙ c.in-Some.ensures.steps) later
