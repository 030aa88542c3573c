use Rattle.std.proofs.Common.{◌≡◌, ◌∙◌, sym, ap, ℕ, true, false, rules}
use Rattle.std.specs.BTreeMap.Range.{entries_between}
use Rattle.std.specs.Cmp.Lexicographic.{slice_cmp}
use Rattle.std.specs.Ordering.{nat_cmp}
use Rattle.std.specs.declared.ops.Bound.TheVariants.{Included, Unbounded}
use Rattle.std.proofs.lemmas.Bool.{not-false}
use Rattle.fdb_keys.specs.Points.{Point, point_lt}
use Rattle.fdb_interval.specs.Breakpoints.{Breaks}
use Rattle.fdb_interval.proofs.BreaksLemmas.{rising_from_sorted}
use Rattle.fdb_interval.proofs.ReachedLemmas.{absent-nowhere, ahead-nowhere, absent-behind, ahead-reached}
use Rattle.fdb_interval.proofs.ReachedLemmas.{present-there}
use Rattle.fdb_interval.proofs.ThroughoutLemmas.{value-throughout, none-inside, before-throughout}
use Rattle.fdb_interval.proofs.ThroughoutLemmas.{value-nowhere, none-anywhere, before-nowhere}
use Rattle.fdb_interval.proofs.breakpoints.meet.Goals as goal

-- what lies up to the end, by the text of the end
by_text : (es found : Breaks ℕ) (end text : Point) → text ≡ end
    → found ≡ entries_between (slice_cmp nat_cmp) Unbounded (Included text) es
    → entries_between (slice_cmp nat_cmp) Unbounded (Included end) es ≡ found
by_text es found end text same is =
    sym (is ∙ ap (λ (x : Point). entries_between (slice_cmp nat_cmp) Unbounded (Included x) es) same)

pub returns-in-Some-clause-at_end : goal.returns-in-Some-clause-at_end
returns-in-Some-clause-at_end c =
    let entries = c.args.breaks.now.entries in
    let end = c.args.range.now.end in
    let not_short : point_lt c.in-Some.point.now end ≡ false = search rules in
    sym (present-there entries end c.next_back.new.self (c.in-Some.point.now, c.in-Some.version.now)
    (rising_from_sorted entries c.range.ensures.ordered)
    (by_text entries _ end c.end.result.now c.end.ensures.value (c.range.ensures.between tt)
    ∙ c.in-Some.ensures.steps) not_short)

pub returns-in-Some-2-clause-at_end : goal.returns-in-Some-2-clause-at_end
returns-in-Some-2-clause-at_end c =
    let entries = c.args.breaks.now.entries in
    let end = c.args.range.now.end in
    let short : point_lt c.in-Some.point.now end ≡ true = search rules in
    sym (absent-behind entries end c.next_back.new.self (c.in-Some.point.now, c.in-Some.version.now)
    (rising_from_sorted entries c.range.ensures.ordered)
    (by_text entries _ end c.end.result.now c.end.ensures.value (c.range.ensures.between tt)
    ∙ c.in-Some.ensures.steps) short)

pub returns-in-Some-2-clause-rising : goal.returns-in-Some-2-clause-rising
returns-in-Some-2-clause-rising c = rising_from_sorted c.args.breaks.now.entries c.range.ensures.ordered

pub returns-in-Some-3-clause-version : goal.returns-in-Some-3-clause-version
returns-in-Some-3-clause-version c =
    let entries = c.args.breaks.now.entries in
    let range = c.args.range.now in
    let rising = rising_from_sorted entries c.range.ensures.ordered in
    let short : point_lt c.in-Some.point.now range.end ≡ true = search rules in
    let up_to : point_lt range.begin c.in-Some.point.now ≡ false = search rules in
    let found = by_text entries _ range.end c.end.result.now c.end.ensures.value (c.range.ensures.between tt)
    ∙ c.in-Some.ensures.steps in
    value-throughout entries c.next_back.new.self (c.in-Some.point.now, c.in-Some.version.now) range.begin range.end
    rising c.requires
    (ahead-reached entries range.end c.next_back.new.self (c.in-Some.point.now, c.in-Some.version.now) rising found
    short) 0 up_to

pub returns-in-Some-3-clause-inside : goal.returns-in-Some-3-clause-inside
returns-in-Some-3-clause-inside c =
    let entries = c.args.breaks.now.entries in
    let range = c.args.range.now in
    let rising = rising_from_sorted entries c.range.ensures.ordered in
    let short : point_lt c.in-Some.point.now range.end ≡ true = search rules in
    let up_to : point_lt range.begin c.in-Some.point.now ≡ false = search rules in
    let found = by_text entries _ range.end c.end.result.now c.end.ensures.value (c.range.ensures.between tt)
    ∙ c.in-Some.ensures.steps in
    none-inside entries c.next_back.new.self (c.in-Some.point.now, c.in-Some.version.now) range.begin range.end
    rising c.requires
    (ahead-reached entries range.end c.next_back.new.self (c.in-Some.point.now, c.in-Some.version.now) rising found
    short) up_to

pub returns-in-Some-3-clause-before : goal.returns-in-Some-3-clause-before
returns-in-Some-3-clause-before c = λ not_begins.
    let entries = c.args.breaks.now.entries in
    let range = c.args.range.now in
    let rising = rising_from_sorted entries c.range.ensures.ordered in
    let short : point_lt c.in-Some.point.now range.end ≡ true = search rules in
    let sooner : c.is_before-in-Some-3.result ≡ point_lt c.in-Some.point.now range.begin = search rules in
    let found = by_text entries _ range.end c.end.result.now c.end.ensures.value (c.range.ensures.between tt)
    ∙ c.in-Some.ensures.steps in
    before-throughout entries c.next_back.new.self (c.in-Some.point.now, c.in-Some.version.now) range.begin range.end
    rising c.requires
    (ahead-reached entries range.end c.next_back.new.self (c.in-Some.point.now, c.in-Some.version.now) rising found
    short) 0 (sym sooner ∙ not-false _ not_begins)

pub returns-in-Some-3-clause-at_end : goal.returns-in-Some-3-clause-at_end
returns-in-Some-3-clause-at_end c =
    let entries = c.args.breaks.now.entries in
    let end = c.args.range.now.end in
    let short : point_lt c.in-Some.point.now end ≡ true = search rules in
    sym (absent-behind entries end c.next_back.new.self (c.in-Some.point.now, c.in-Some.version.now)
    (rising_from_sorted entries c.range.ensures.ordered)
    (by_text entries _ end c.end.result.now c.end.ensures.value (c.range.ensures.between tt)
    ∙ c.in-Some.ensures.steps) short)

pub returns-in-Some-3-clause-rising : goal.returns-in-Some-3-clause-rising
returns-in-Some-3-clause-rising c = rising_from_sorted c.args.breaks.now.entries c.range.ensures.ordered

pub returns-in-None-clause-version : goal.returns-in-None-clause-version
returns-in-None-clause-version c =
    let entries = c.args.breaks.now.entries in
    let range = c.args.range.now in
    value-nowhere entries range.begin range.end (rising_from_sorted entries c.range.ensures.ordered) c.requires
    (ahead-nowhere entries range.end
    (by_text entries _ range.end c.end.result.now c.end.ensures.value (c.range.ensures.between tt)
    ∙ c.in-None.ensures.steps.0)) 0

pub returns-in-None-clause-inside : goal.returns-in-None-clause-inside
returns-in-None-clause-inside c =
    let entries = c.args.breaks.now.entries in
    let range = c.args.range.now in
    none-anywhere entries range.begin range.end (rising_from_sorted entries c.range.ensures.ordered) c.requires
    (ahead-nowhere entries range.end
    (by_text entries _ range.end c.end.result.now c.end.ensures.value (c.range.ensures.between tt)
    ∙ c.in-None.ensures.steps.0))

pub returns-in-None-clause-before : goal.returns-in-None-clause-before
returns-in-None-clause-before c = λ same.
    let entries = c.args.breaks.now.entries in
    let range = c.args.range.now in
    before-nowhere entries range.begin range.end (rising_from_sorted entries c.range.ensures.ordered) c.requires
    (ahead-nowhere entries range.end
    (by_text entries _ range.end c.end.result.now c.end.ensures.value (c.range.ensures.between tt)
    ∙ c.in-None.ensures.steps.0)) 0

pub returns-in-None-clause-at_end : goal.returns-in-None-clause-at_end
returns-in-None-clause-at_end c =
    let entries = c.args.breaks.now.entries in
    let end = c.args.range.now.end in
    sym (absent-nowhere entries end
    (by_text entries _ end c.end.result.now c.end.ensures.value (c.range.ensures.between tt)
    ∙ c.in-None.ensures.steps.0))

pub returns-in-None-clause-rising : goal.returns-in-None-clause-rising
returns-in-None-clause-rising c = rising_from_sorted c.args.breaks.now.entries c.range.ensures.ordered
