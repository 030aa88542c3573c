use Rattle.std.proofs.Common.{[], arith, rules}
use Rattle.std.proofs.lemmas.Grind.{common_steps}
use Rattle.std.proofs.lemmas.List.{append-nil}
use Rattle.fdb_proxy.specs.RequestFields.{places_of}
use Rattle.fdb_proxy.proofs.NameLemmas.{names-first, names-others}
use Rattle.fdb_proxy.proofs.requests.Requests.refuse_all.Goals as goal
use Rattle.fdb_proxy.proofs.requests.Requests.refuse_all.Goals.{then-not-self, else-not-self}

pub push_ids-requires-2 : goal.push_ids-requires-2
push_ids-requires-2 c =
    elim c.if-not-self.branch [
      | then-not-self w ↦ grind (arith, common_steps)
      | else-not-self w ↦ grind
          (arith, common_steps)
    ]

pub invariant_of-self : goal.invariant_of-self
invariant_of-self c =
    let r = c.self.inside in
    elim c.if-not-self.branch [
      | then-not-self w ↦
          let others =
          names-others r.names w.drop_last_batch.new.names (places_of r.last_batch) r.list.items c.self.invariant.names
          w.drop_last_batch.ensures.names in
          rw (w.self-inside-is, w.drop_last_batch.ensures.none) (record {
            ids = grind (arith, common_steps);
            room = grind (arith, common_steps);
            no_ids = search rules;
            none_in_room = search rules;
            names = rw c.clear.ensures.items
                (names-first w.drop_last_batch.new.names c.remove_all.new.self [] r.list.items others
                (rw (c.deref-2.ensures.value, w.self-inside-is) at c.remove_all.ensures));
          })
      | else-not-self w ↦
          rw w.self-inside-is (record {
            ids = grind (arith, common_steps);
            room = grind (arith, common_steps);
            no_ids = search rules;
            none_in_room = search rules;
            names = rw (c.clear.ensures.items, append-nil (places_of r.last_batch))
                (names-first r.names c.remove_all.new.self (places_of r.last_batch) r.list.items c.self.invariant.names
                (rw (c.deref-2.ensures.value, w.self-inside-is) at c.remove_all.ensures));
          })
    ]
