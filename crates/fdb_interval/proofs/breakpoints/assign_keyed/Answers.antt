use Rattle.std.proofs.Common.{◌≡◌, ◌∙◌, sym, ap, subst, ℕ, rules, ◌==◌, is_some, if◌then◌else◌, [], ◌∷◌, ◌++◌}
use Rattle.std.specs.BTreeMap.{is_at}
use Rattle.std.specs.Cmp.Lexicographic.{slice_cmp}
use Rattle.std.specs.Map.{keys_of, lookup}
use Rattle.std.specs.Ordering.{nat_cmp}
use Rattle.fdb_interval.specs.Breakpoints.{Breaks, value_from, last_value, breaks_before, breaks_inside, AreJoined}
use Rattle.fdb_keys.specs.RangeMaps.{without_points}
use Rattle.fdb_interval.proofs.AssignLemmas.{assigned, assigned-at-once, version-assigned, joined-assigned}
use Rattle.fdb_interval.proofs.AssignLemmas.{last-assigned}
use Rattle.fdb_interval.proofs.PartsLemmas.{put}
use Rattle.fdb_interval.proofs.breakpoints.assign_keyed.Goals as goal
use Rattle.fdb_interval.proofs.breakpoints.assign_keyed.Goals.{After-drop-gone-2}

made : (c : After-drop-gone-2)
    → c.remove_all.new.breaks.entries
    ≡ assigned c.args.breaks.now.entries c.args.range c.args.version
    c.meet-throughout.ensures.rising c.requires
made c =
    let old = c.args.breaks.now.entries in
    let range = c.args.range in
    let version = c.args.version in
    let before = c.version_before_range-before.result in
    let behind = c.version_behind-behind.result in
    let is_before : before ≡ last_value 0 (breaks_before range.begin old) = search rules in
    let is_behind : behind ≡ value_from 0 old range.end = search rules in
    let are_gone : c.as_slice.result.now ≡ (keys_of (breaks_inside range old)
    ++ (if before == version then range.begin ∷ [] else []))
    ++ (if behind == version then range.end ∷ [] else []) = search rules in
    let is_laid : c.put_both.new.breaks.entries ≡ put range.begin version
    (if is_some (lookup (is_at (slice_cmp nat_cmp range.end)) old) then old else put range.end behind old) =
    search rules in
    let is_left : c.remove_all.new.breaks.entries ≡ without_points c.as_slice.result.now c.put_both.new.breaks.entries =
    search rules in
    assigned-at-once old c.put_both.new.breaks.entries c.remove_all.new.breaks.entries range version before behind
    c.as_slice.result.now c.meet-throughout.ensures.rising c.requires is_before is_behind are_gone is_laid is_left

pub returns-clause-versions : goal.returns-clause-versions
returns-clause-versions c = λ x.
    ap (λ (l : Breaks ℕ). value_from 0 l x) (made c)
    ∙ version-assigned c.args.breaks.now.entries c.args.range c.args.version
    c.meet-throughout.ensures.rising c.requires x

pub returns-clause-joined : goal.returns-clause-joined
returns-clause-joined c = λ floor joined.
    subst (AreJoined floor 0) (sym (made c))
    (joined-assigned c.args.breaks.now.entries c.args.range c.args.version
    c.meet-throughout.ensures.rising c.requires floor joined)

pub returns-clause-last : goal.returns-clause-last
returns-clause-last c =
    ap (last_value 0) (made c)
    ∙ last-assigned c.args.breaks.now.entries c.args.range c.args.version
    c.meet-throughout.ensures.rising c.requires
