use Rattle.std.proofs.Common.{◌≡◌, ◌∙◌, sym, ap, ℕ, false, rules}
use Rattle.std.specs.BTreeMap.Range.{entries_between}
use Rattle.std.specs.Cmp.Lexicographic.{slice_cmp}
use Rattle.std.specs.Ordering.{nat_cmp}
use Rattle.std.specs.declared.ops.Bound.TheVariants.{Excluded, Unbounded}
use Rattle.std.proofs.lemmas.Bool.{not-false}
use Rattle.fdb_keys.specs.Points.{Point, point_lt}
use Rattle.fdb_interval.specs.Breakpoints.{Breaks}
use Rattle.fdb_interval.proofs.BreaksLemmas.{rising_from_sorted}
use Rattle.fdb_interval.proofs.ThroughoutLemmas.{value-throughout, none-inside, before-throughout}
use Rattle.fdb_interval.proofs.ThroughoutLemmas.{value-nowhere, none-anywhere, before-nowhere}
use Rattle.fdb_interval.proofs.breakpoints.version_throughout.Goals as goal

-- what lies before the end, by the text of the end
by_text : (es found : Breaks ℕ) (end text : Point) → text ≡ end
    → found ≡ entries_between (slice_cmp nat_cmp) Unbounded (Excluded text) es
    → entries_between (slice_cmp nat_cmp) Unbounded (Excluded end) es ≡ found
by_text es found end text same is =
    sym (is ∙ ap (λ (x : Point). entries_between (slice_cmp nat_cmp) Unbounded (Excluded x) es) same)

pub returns-in-Some-clause-rising : goal.returns-in-Some-clause-rising
returns-in-Some-clause-rising c = rising_from_sorted c.args.breaks.now.entries c.range.ensures.ordered

pub returns-in-Some-2-clause-rising : goal.returns-in-Some-2-clause-rising
returns-in-Some-2-clause-rising c = rising_from_sorted c.args.breaks.now.entries c.range.ensures.ordered

pub returns-in-None-clause-rising : goal.returns-in-None-clause-rising
returns-in-None-clause-rising c = rising_from_sorted c.args.breaks.now.entries c.range.ensures.ordered

pub returns-in-Some-2-clause-version : goal.returns-in-Some-2-clause-version
returns-in-Some-2-clause-version c =
    let entries = c.args.breaks.now.entries in
    let range = c.args.range.now in
    let up_to : point_lt range.begin c.in-Some.point.now ≡ false = search rules in
    value-throughout entries c.next_back.new.self (c.in-Some.point.now, c.in-Some._version.now) range.begin range.end
    (rising_from_sorted entries c.range.ensures.ordered) c.requires
    (by_text entries _ range.end c.end.result.now c.end.ensures.value (c.range.ensures.between tt)
    ∙ c.in-Some.ensures.steps) 0 up_to

pub returns-in-Some-2-clause-inside : goal.returns-in-Some-2-clause-inside
returns-in-Some-2-clause-inside c =
    let entries = c.args.breaks.now.entries in
    let range = c.args.range.now in
    let up_to : point_lt range.begin c.in-Some.point.now ≡ false = search rules in
    none-inside entries c.next_back.new.self (c.in-Some.point.now, c.in-Some._version.now) range.begin range.end
    (rising_from_sorted entries c.range.ensures.ordered) c.requires
    (by_text entries _ range.end c.end.result.now c.end.ensures.value (c.range.ensures.between tt)
    ∙ c.in-Some.ensures.steps) up_to

pub returns-in-Some-2-clause-before : goal.returns-in-Some-2-clause-before
returns-in-Some-2-clause-before c = λ not_begins.
    let entries = c.args.breaks.now.entries in
    let range = c.args.range.now in
    let before : c.is_before-in-Some-2.result ≡ point_lt c.in-Some.point.now range.begin = search rules in
    before-throughout entries c.next_back.new.self (c.in-Some.point.now, c.in-Some._version.now) range.begin range.end
    (rising_from_sorted entries c.range.ensures.ordered) c.requires
    (by_text entries _ range.end c.end.result.now c.end.ensures.value (c.range.ensures.between tt)
    ∙ c.in-Some.ensures.steps) 0 (sym before ∙ not-false _ not_begins)

pub returns-in-None-clause-version : goal.returns-in-None-clause-version
returns-in-None-clause-version c =
    let entries = c.args.breaks.now.entries in
    value-nowhere entries c.args.range.now.begin c.args.range.now.end
    (rising_from_sorted entries c.range.ensures.ordered) c.requires
    (by_text entries _ c.args.range.now.end c.end.result.now c.end.ensures.value (c.range.ensures.between tt)
    ∙ c.in-None.ensures.steps.0) 0

pub returns-in-None-clause-inside : goal.returns-in-None-clause-inside
returns-in-None-clause-inside c =
    let entries = c.args.breaks.now.entries in
    none-anywhere entries c.args.range.now.begin c.args.range.now.end
    (rising_from_sorted entries c.range.ensures.ordered) c.requires
    (by_text entries _ c.args.range.now.end c.end.result.now c.end.ensures.value (c.range.ensures.between tt)
    ∙ c.in-None.ensures.steps.0)

pub returns-in-None-clause-before : goal.returns-in-None-clause-before
returns-in-None-clause-before c = λ same.
    let entries = c.args.breaks.now.entries in
    before-nowhere entries c.args.range.now.begin c.args.range.now.end
    (rising_from_sorted entries c.range.ensures.ordered) c.requires
    (by_text entries _ c.args.range.now.end c.end.result.now c.end.ensures.value (c.range.ensures.between tt)
    ∙ c.in-None.ensures.steps.0) 0
