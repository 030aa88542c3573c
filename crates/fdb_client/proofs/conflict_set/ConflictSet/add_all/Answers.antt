use Rattle.std.proofs.Common.{◌∙◌, ap}
use Rattle.fdb_keys.specs.Insertion.{with_ranges}
use Rattle.fdb_client.specs.Conflicts.{joined}
use Rattle.fdb_client.proofs.ConflictLemmas.{joined-append, points-append}
use Rattle.fdb_client.proofs.conflict_set.ConflictSet.add_all.Goals as goal

pub returns-clause-answers : goal.returns-clause-answers
returns-clause-answers c =
    ap (joined c.self.inside.keys) c.in_default.ensures.ok
    ∙ joined-append c.self.inside.keys c.self.inside.ranges c.args.ranges.now
    ∙ ap (with_ranges c.args.ranges.now) c.self.view_is

pub invariant_of-self-in_default : goal.invariant_of-self-in_default
invariant_of-self-in_default c =
    rw c.in_default.ensures.ok
    (points-append c.self.inside.ranges c.args.ranges.now c.self.invariant c.in_default.ensures.apart)
