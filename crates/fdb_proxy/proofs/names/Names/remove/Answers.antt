use Rattle.std.proofs.Common.{◌≡◌, ◌∙◌, refl, Bool, true, false, ◌&&◌, cond, not}
use Rattle.fdb_txn.specs.Equality.{txn_id_eq}
use Rattle.fdb_proxy.specs.Names.{has}
use Rattle.fdb_proxy.proofs.names.Names.remove.Goals as goal

taken_out : (a b : Bool) → cond a false b ≡ (not a && b)
taken_out true b = refl
taken_out false b = refl

pub returns : goal.returns
returns c =
    λ id. c.remove.ensures.updates.0 (id.session, id.number)
    ∙ taken_out (txn_id_eq c.args.id id) (has c.args.self.now id)
