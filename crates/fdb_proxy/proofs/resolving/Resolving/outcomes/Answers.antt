use Rattle.std.proofs.Common.{◌∙◌, ap, List, length}
use Rattle.fdb_proxy.specs.declared.outcome.Outcome.{Outcome}
use Rattle.fdb_proxy.proofs.DecidingLemmas.{count-outcomes}
use Rattle.fdb_proxy.proofs.resolving.Resolving.outcomes.Goals as goal

pub returns-clause-each : goal.returns-clause-each
returns-clause-each c =
    ap (λ (outcomes : List Outcome). length outcomes) c.in_ok-outcomes.ensures
    ∙ count-outcomes c.args.self.now.position.version c.as_slice.result.now c.args.count
