use Rattle.std.proofs.Common.{◌∙◌, ap, subst}
use Rattle.fdb_interval.specs.Breakpoints.{Breakpoints}
use Rattle.fdb_interval.specs.Versions.{version_at, piece_count}
use Rattle.fdb_interval.proofs.PiecesLemmas.{CountsPieces, pieces-counted}
use Rattle.fdb_interval.proofs.VersionsLemmas.{pieces-are}
use Rattle.fdb_interval.proofs.last_commit.LastCommit.pieces.Goals as goal

pub returns-clause-count : goal.returns-clause-count
returns-clause-count c =
    c.count_above.ensures.value
    ∙ pieces-are c.self.inside.floor c.self.inside.breaks.entries c.self.invariant.0
    ∙ ap (λ (last : Breakpoints). piece_count last) c.self.view_is

pub returns-clause-pieces : goal.returns-clause-pieces
returns-clause-pieces c =
    subst (λ (last : Breakpoints). CountsPieces c.count_above.result (version_at last)) c.self.view_is
    (pieces-counted c.self.inside.floor c.count_above.result c.self.inside.breaks.entries c.count_above.ensures.rising
    c.self.invariant.0 c.self.invariant.1 c.count_above.ensures.value)
