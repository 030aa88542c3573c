use Rattle.std.proofs.Common.{ap, length, arith}
use Rattle.fdb_owners.proofs.JoinedLemmas.{joined-fewer}
use Rattle.fdb_owners.proofs.owners.Owners.breakpoints.Goals as goal

pub returns : goal.returns
returns c =
    let fewer = joined-fewer c.self.inside.pieces.lowest c.self.inside.pieces.breaks.entries in
    let kept = c.len.ensures.len in
    let seen = ap (λ owners. length owners.breaks) c.self.view_is in
    omega (arith, fewer, kept, seen)
