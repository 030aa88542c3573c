use Rattle.std.proofs.Common.{sym, subst}
use Rattle.fdb_owners.proofs.SweepingLemmas.{IsSwept, swept-not, swept-further}
use Rattle.fdb_owners.proofs.sweeping.sweep.Goals as goal
use Rattle.fdb_owners.proofs.sweeping.sweep.Goals.{in-Some, in_default}

pub loop-look-init : goal.loop-look-init
loop-look-init c = swept-not c.args.floor c.args.pieces.now c.requires

pub loop-look-preserved : goal.loop-look-preserved
loop-look-preserved c =
    elim c.match-next.branch [
      | in-Some w ↦
          subst (IsSwept c.args.floor c.args.pieces.now) (sym w.pieces-is)
          (swept-further c.args.floor c.args.pieces.now c.loop-look.pieces _ c.loop-look.invariant
          w.look_at.ensures.agree w.look_at.ensures.kept w.look_at.ensures.rising)
      | in_default w ↦ subst (IsSwept c.args.floor c.args.pieces.now) (sym w.pieces-is) c.loop-look.invariant
    ]
