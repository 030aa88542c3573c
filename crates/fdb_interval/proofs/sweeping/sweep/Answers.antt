use Rattle.std.proofs.Common.{◌≡◌, rules}
use Rattle.fdb_keys.specs.RangeMaps.{without_points}
use Rattle.fdb_interval.proofs.SweepLemmas.{Keeps, walk-keeps}
use Rattle.fdb_interval.proofs.sweeping.sweep.Goals as goal
use Rattle.fdb_interval.proofs.sweeping.sweep.Goals.{After-drop-walk}

kept : (c : After-drop-walk) → Keeps c.args.floor c.args.breaks.now.entries c.remove_all.new.breaks.entries
kept c =
    let left : c.remove_all.new.breaks.entries
    ≡ without_points c.list_dead-walk.result.dead.items c.args.breaks.now.entries =
    search rules in
    walk-keeps c.args.floor c.args.cursor.now c.args.breaks.now.entries c.list_dead-walk.result.dead.items
    c.remove_all.new.breaks.entries c.list_dead-walk.ensures.rising c.list_dead-walk.ensures.dead left

pub returns-clause-versions : goal.returns-clause-versions
returns-clause-versions c = (kept c).versions

pub returns-clause-joined : goal.returns-clause-joined
returns-clause-joined c = (kept c).joined

pub returns-clause-last : goal.returns-clause-last
returns-clause-last c = (kept c).last
