use Rattle.std.proofs.Common.{rules}
use Rattle.fdb_proxy.proofs.HeldLemmas.{empty-next}
use Rattle.fdb_proxy.proofs.parting.no_items.Goals as goal

pub loop-preserved : goal.loop-preserved
loop-preserved c =
    record {
      count = search rules;
      empty = empty-next c.loop.lists.items c.push.new.self.items c.new.result c.loop.counter c.loop.invariant.count
          c.loop.invariant.empty c.new.ensures.items c.in_ok-push.ensures.items;
    }
