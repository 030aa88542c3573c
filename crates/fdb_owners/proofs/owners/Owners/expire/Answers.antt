use Rattle.std.proofs.Common.{subst, suc, length}
use Rattle.fdb_owners.specs.Ownership.{Ownership, HasExpired}
use Rattle.fdb_owners.proofs.OwnersLemmas.{seen_as, expire-has}
use Rattle.fdb_owners.proofs.owners.Owners.expire.Goals as goal

pub invariant_of-self : goal.invariant_of-self
invariant_of-self c = (
  c.self.invariant.0,
  c.sweep.ensures.kept (suc (length c.self.inside.splits)) c.self.inside.last c.self.invariant.1,
  c.sweep.ensures.rising c.self.invariant.2,
)

pub returns : goal.returns
returns c =
    subst
    (λ (old : Ownership). HasExpired old c.args.version
    (seen_as c.self.inside.splits c.sweep.new.pieces c.self.inside.last c.max-self-inside.result)) c.self.view_is
    (expire-has c.self.inside.splits c.self.inside.pieces c.sweep.new.pieces c.self.inside.last c.self.inside.floor
    c.args.version c.max-self-inside.result c.self.invariant.1
    (c.sweep.ensures.kept (suc (length c.self.inside.splits)) c.self.inside.last c.self.invariant.1) c.self.invariant.2
    (c.sweep.ensures.rising c.self.invariant.2) c.max-self-inside.ensures c.sweep.ensures.agree)
