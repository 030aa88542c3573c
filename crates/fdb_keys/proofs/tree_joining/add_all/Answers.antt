use Rattle.std.proofs.Common.{◌≡◌, ◌∙◌, ap, true}
use Rattle.std.specs.BTreeMap.{values}
use Rattle.fdb_keys.specs.Insertion.{with_ranges}
use Rattle.fdb_keys.specs.RangeMaps.{AreUnderBegins, without_points}
use Rattle.fdb_keys.specs.Ranges.{is_apart}
use Rattle.fdb_keys.proofs.JoiningLemmas.{all_added}
use Rattle.fdb_keys.proofs.tree_joining.add_all.Goals as goal
use Rattle.fdb_keys.proofs.tree_joining.add_all.Goals.{After-drop-joined-inside-2}

-- the map then has the list with all ranges added
made : (c : After-drop-joined-inside-2)
    → (values c.remove_all.new.ranges ≡ with_ranges c.args.added.now (values c.args.ranges.now))
    × AreUnderBegins c.remove_all.new.ranges.entries × (is_apart (values c.remove_all.new.ranges) ≡ true)
made c =
    let joined = c.in_ok-joined.joined in
    let others = c.as_slice.result.now in
    let entries = c.args.ranges.now.entries in
    all_added c.args.added.now joined others entries c.remove_all.new.ranges.entries c.join_all.ensures.apart
    c.requires.keyed c.requires.apart c.in_ok-joined.ensures.answers
    (c.as_slice.ensures.value ∙ c.in_ok-others.ensures)
    (c.remove_all.ensures ∙ ap (without_points others) c.in_ok-put_all.ensures.ok)

pub returns-clause-answers : goal.returns-clause-answers
returns-clause-answers c = (made c).0

pub returns-clause-keyed : goal.returns-clause-keyed
returns-clause-keyed c = (made c).1

pub returns-clause-apart : goal.returns-clause-apart
returns-clause-apart c = (made c).2
