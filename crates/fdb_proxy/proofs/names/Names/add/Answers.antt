-- There is room, so that the id comes in.
use Rattle.std.proofs.Common.{◌≡◌, ◌∙◌, refl, Bool, true, false, ◌||◌, cond, Result}
use Rattle.std.proofs.lemmas.Bool.{false≢true}
use Rattle.std.specs.Result.{IsOk, OnOk}
use Rattle.std.specs.Prelude.{Ok, Err}
use Rattle.fdb_txn.specs.Equality.{txn_id_eq}
use Rattle.fdb_proxy.specs.Names.{has}
use Rattle.fdb_proxy.proofs.names.Names.add.Goals as goal

put_in : (a b : Bool) → cond a true b ≡ (a || b)
put_in true b = refl
put_in false b = refl

succeeded : {T E P : Type 0} (r : Result T E) → IsOk r → OnOk r P → P
succeeded (Ok x) ok p = p
succeeded (Err e) ok p = absurd (false≢true ok)

pub returns : goal.returns
returns c =
    let e = c.insert.ensures in
    let updates = succeeded c.insert.result (e.succeeds c.requires) e.updates in
    λ id. updates.0 (id.session, id.number) ∙ put_in (txn_id_eq c.args.id id) (has c.args.self.now id)
