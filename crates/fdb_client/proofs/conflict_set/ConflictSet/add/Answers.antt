use Rattle.std.proofs.Common.{◌∙◌, ap}
use Rattle.fdb_keys.specs.Insertion.{with_range}
use Rattle.fdb_client.specs.Conflicts.{joined}
use Rattle.fdb_client.proofs.ConflictLemmas.{joined-listed}
use Rattle.fdb_client.proofs.conflict_set.ConflictSet.add.Goals as goal

pub returns-clause-answers : goal.returns-clause-answers
returns-clause-answers c =
    ap (joined c.self.inside.keys) c.in_ok-push.ensures.ok
    ∙ joined-listed c.self.inside.keys c.self.inside.ranges c.args.range.now
    ∙ ap (with_range c.args.range.now) c.self.view_is
