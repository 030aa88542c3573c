use Rattle.std.proofs.Common.{rules}
use Rattle.fdb_proxy.proofs.NameLemmas.{names-none}
use Rattle.fdb_proxy.proofs.requests.Requests.new.Goals as goal

pub invariant_of-result : goal.invariant_of-result
invariant_of-result c =
    record {
      ids = search rules;
      room = search rules;
      no_ids = search rules;
      none_in_room = search rules;
      names = rw c.new.ensures.items (names-none c.new-4.result c.new-4.ensures);
    }
