use Rattle.std.proofs.Common.{◌≡◌, subst, length, MatchResult}
use Rattle.fdb_check.specs.declared.fault.CheckFault.TheVariants.{NoMemory}
use Rattle.fdb_machine.specs.headline.Serving.{System}
use Rattle.fdb_core.proofs.checking.SoundChecks.{few-shards, sound-finds}
use Rattle.fdb_core.proofs.world.World.check.Goals as goal

pub check_all-requires : goal.check_all-requires
check_all-requires c = few-shards c.self.inside.cluster c.self.invariant.0

pub returns : goal.returns
returns c =
    let k = c.self.inside.cluster in
    let is = c.self.invariant in
    subst (λ (system : System). MatchResult c.check_all.result
    (λ count. count ≡ length system.state.machine.acknowledged) (λ fault. fault ≡ NoMemory)) c.self.view_is
    (sound-finds k is.0 is.1 c.check_all.result (c.check_all.ensures.finds is.0.refines.book.entries))
