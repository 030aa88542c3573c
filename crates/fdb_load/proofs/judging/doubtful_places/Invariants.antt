use Rattle.std.proofs.Common.{All}
use Rattle.fdb_load.specs.Judging.{IsCommittedBy}
use Rattle.fdb_load.proofs.judging.doubtful_places.Given as goal

abbrev pub invariant-loop-transcript : goal.invariant-loop-transcript
invariant-loop-transcript l =
    All (IsCommittedBy l.kept.config.now.resolver_splits l.kept.entries.now l.kept.committed) l.places.items
