use Rattle.std.proofs.Common.{arith, rules}
use Rattle.std.proofs.lemmas.Grind.{common_steps}
use Rattle.fdb_proxy.specs.RequestFields.{places_of}
use Rattle.fdb_proxy.proofs.NameLemmas.{names-others}
use Rattle.fdb_proxy.proofs.requests.Requests.finish.Goals as goal

pub invariant_of-self : goal.invariant_of-self
invariant_of-self c =
    let r = c.self.inside in
    rw c.drop_last_batch.ensures.none (record {
      ids = grind (arith, common_steps);
      room = search rules;
      no_ids = search rules;
      none_in_room = search rules;
      names = names-others r.names c.drop_last_batch.new.names (places_of r.last_batch)
          r.list.items c.self.invariant.names
          c.drop_last_batch.ensures.names;
    })
