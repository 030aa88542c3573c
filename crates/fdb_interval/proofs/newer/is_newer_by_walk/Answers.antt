use Rattle.std.proofs.Common.{◌≡◌, true, false, nat_lt, inl, inr, rules}
use Rattle.fdb_keys.specs.Points.{point_lt}
use Rattle.fdb_interval.proofs.BreaksLemmas.{rising_from_sorted}
use Rattle.fdb_interval.proofs.NewerWalkLemmas.{walked-up_to, walked-newer, walked-older}
use Rattle.fdb_interval.proofs.newer.is_newer_by_walk.Goals as goal
use Rattle.fdb_interval.proofs.newer.is_newer_by_walk.Goals.{else-version-held-via-else-version-held}
use Rattle.fdb_interval.proofs.newer.is_newer_by_walk.Goals.{else-version-held-via-then-version-held+else-is_before}

pub loop-point-preserved-then-not-is_before : goal.loop-point-preserved-then-not-is_before
loop-point-preserved-then-not-is_before c =
    let up_to : point_lt c.args.range.now.begin c.in-Some.point.now ≡ false = search rules in
    walked-up_to c.args.version c.args.range.now c.args.breaks.now.entries c.loop-point.point-iterator c.next.new.self
    (c.in-Some.point.now, c.in-Some.held.now) c.loop-point.at_begin c.loop-point.is_inside c.loop-point.invariant
    c.in-Some.ensures.steps up_to

pub loop-point-preserved-then-is_before : goal.loop-point-preserved-then-is_before
loop-point-preserved-then-is_before c =
    let after : point_lt c.args.range.now.begin c.in-Some.point.now ≡ true = search rules in
    let newer : nat_lt c.args.version c.in-Some.held.now ≡ true = search rules in
    let before_end : point_lt c.in-Some.point.now c.args.range.now.end ≡ true = search rules in
    walked-newer c.args.version c.args.range.now c.args.breaks.now.entries c.loop-point.point-iterator c.next.new.self
    (c.in-Some.point.now, c.in-Some.held.now) c.loop-point.at_begin c.loop-point.is_inside c.loop-point.invariant
    c.in-Some.ensures.steps after newer before_end

pub loop-point-preserved : goal.loop-point-preserved
loop-point-preserved c =
    let after : point_lt c.args.range.now.begin c.in-Some.point.now ≡ true = search rules in
    walked-older c.args.version c.args.range.now c.args.breaks.now.entries c.loop-point.point-iterator c.next.new.self
    (c.in-Some.point.now, c.in-Some.held.now) c.loop-point.at_begin c.loop-point.is_inside c.loop-point.invariant
    c.in-Some.ensures.steps after (elim c.else-version-held.branch [
      | else-version-held-via-then-version-held+else-is_before w ↦
          let past : point_lt c.in-Some.point.now c.args.range.now.end ≡ false = search rules in inr past
      | else-version-held-via-else-version-held w ↦
          let older : nat_lt c.args.version c.in-Some.held.now ≡ false = search rules in inl older
    ])

pub returns-then-version-at_begin-clause-rising : goal.returns-then-version-at_begin-clause-rising
returns-then-version-at_begin-clause-rising c =
    rising_from_sorted c.args.breaks.now.entries c.iter-point-items.ensures.ordered

pub returns-else-version-at_begin-clause-rising : goal.returns-else-version-at_begin-clause-rising
returns-else-version-at_begin-clause-rising c =
    rising_from_sorted c.args.breaks.now.entries c.iter-point-items.ensures.ordered
