use Rattle.std.proofs.Common.{◌∙◌, sym, ap}
use Rattle.std.specs.Prelude.{is_some}
use Rattle.std.specs.FinMap.{get, insert}
use Rattle.fdb_txn.proofs.NumberMaps.{get-pairs, one_put}
use Rattle.fdb_txn.proofs.RoomLemmas.{refused_where_one_waits, let_wait, refused_for_memory}
use Rattle.fdb_txn.proofs.room.Room.put.Goals as goal
use Rattle.fdb_txn.proofs.room.Room.put.Goals.{in-Ok+in-Some-1, in-Ok+in-None-1, in-Err}

pub returns-then-contains_key-clause-answers : goal.returns-then-contains_key-clause-answers
returns-then-contains_key-clause-answers g c =
    refused_where_one_waits _ c.args.item _
    (ap (λ waiting. is_some (get waiting c.args.prev)) (sym c.self.view_is)
    ∙ ap is_some (get-pairs c.self.inside.waiting.entries c.args.prev)
    ∙ sym c.contains_key.ensures ∙ c.if-contains_key.true)

pub returns-clause-answers : goal.returns-clause-answers
returns-clause-answers g c =
    let none =
    ap (λ waiting. is_some (get waiting c.args.prev)) (sym c.self.view_is)
    ∙ ap is_some (get-pairs c.self.inside.waiting.entries c.args.prev)
    ∙ sym c.contains_key.ensures ∙ c.if-contains_key.false in
    elim c.match-insert.branch [
      | in-Ok+in-Some-1 w ↦
          let_wait _ c.match-insert.result c.args.item _ none w.result-is
          (one_put c.self.inside.waiting.entries c.insert.new.self.entries c.args.prev c.args.item
          w.in-Ok.ensures.updates.0
          ∙ ap (λ waiting. insert waiting c.args.prev c.args.item) c.self.view_is)
      | in-Ok+in-None-1 w ↦
          let_wait _ c.match-insert.result c.args.item _ none w.result-is
          (one_put c.self.inside.waiting.entries c.insert.new.self.entries c.args.prev c.args.item
          w.in-Ok.ensures.updates.0
          ∙ ap (λ waiting. insert waiting c.args.prev c.args.item) c.self.view_is)
      | in-Err w ↦
          refused_for_memory _ c.match-insert.result c.args.item _ _ none w.result-is
          (ap (λ value. value.1) w.in-Err.ensures.value_returned)
    ]
