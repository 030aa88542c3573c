use Rattle.std.proofs.Common.{◌≡◌, ◌∙◌, sym, false, rules}
use Rattle.fdb_keys.specs.Points.{point_lt}
use Rattle.fdb_interval.proofs.BreaksLemmas.{rising_from_sorted}
use Rattle.fdb_interval.proofs.ThroughoutLemmas.{value-throughout, none-inside, value-nowhere, none-anywhere}
use Rattle.fdb_interval.proofs.breakpoints.version_between.Goals as goal

pub returns-in-Some-clause-rising : goal.returns-in-Some-clause-rising
returns-in-Some-clause-rising c = rising_from_sorted c.args.breaks.now.entries c.range.ensures.ordered

pub returns-in-Some-2-clause-rising : goal.returns-in-Some-2-clause-rising
returns-in-Some-2-clause-rising c = rising_from_sorted c.args.breaks.now.entries c.range.ensures.ordered

pub returns-in-None-clause-rising : goal.returns-in-None-clause-rising
returns-in-None-clause-rising c = rising_from_sorted c.args.breaks.now.entries c.range.ensures.ordered

pub returns-in-Some-2-clause-version : goal.returns-in-Some-2-clause-version
returns-in-Some-2-clause-version c =
    let entries = c.args.breaks.now.entries in
    let up_to : point_lt c.args.begin.now c.in-Some.point.now ≡ false = search rules in
    value-throughout entries c.next_back.new.self (c.in-Some.point.now, c.in-Some._version.now) c.args.begin.now
    c.args.end.now (rising_from_sorted entries c.range.ensures.ordered) c.requires
    (sym (c.range.ensures.between tt) ∙ c.in-Some.ensures.steps) 0 up_to

pub returns-in-Some-2-clause-inside : goal.returns-in-Some-2-clause-inside
returns-in-Some-2-clause-inside c =
    let entries = c.args.breaks.now.entries in
    let up_to : point_lt c.args.begin.now c.in-Some.point.now ≡ false = search rules in
    none-inside entries c.next_back.new.self (c.in-Some.point.now, c.in-Some._version.now) c.args.begin.now
    c.args.end.now (rising_from_sorted entries c.range.ensures.ordered) c.requires
    (sym (c.range.ensures.between tt) ∙ c.in-Some.ensures.steps) up_to

pub returns-in-None-clause-version : goal.returns-in-None-clause-version
returns-in-None-clause-version c =
    let entries = c.args.breaks.now.entries in
    value-nowhere entries c.args.begin.now c.args.end.now (rising_from_sorted entries c.range.ensures.ordered)
    c.requires (sym (c.range.ensures.between tt) ∙ c.in-None.ensures.steps.0) 0

pub returns-in-None-clause-inside : goal.returns-in-None-clause-inside
returns-in-None-clause-inside c =
    let entries = c.args.breaks.now.entries in
    none-anywhere entries c.args.begin.now c.args.end.now (rising_from_sorted entries c.range.ensures.ordered)
    c.requires (sym (c.range.ensures.between tt) ∙ c.in-None.ensures.steps.0)
