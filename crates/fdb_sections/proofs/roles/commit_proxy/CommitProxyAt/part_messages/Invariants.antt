use Rattle.std.proofs.Common.{◌≡◌, ◌++◌}
use Rattle.std.specs.Vec.Iter.{into_iter_items}
use Rattle.fdb_proxy.specs.CommitProxies.{parts_in}
use Rattle.fdb_sections.specs.CommitMachines.{sent_parts}
use Rattle.fdb_sections.specs.CommitProxiesAtFronts.{AreLastParts}
use Rattle.fdb_sections.proofs.roles.commit_proxy.CommitProxyAt.part_messages.Given as goal

abbrev pub invariant-loop-part : goal.invariant-loop-part
invariant-loop-part g l = record {
  goes_on : (goal.iterator-loop-part g).can_next l.part-iterator;
  ends : (goal.iterator-loop-part g).is_finite l.part-iterator;
  left : AreLastParts g.B.DatabaseName.config l.self.front (into_iter_items l.part-iterator);
  made : l.messages.items ++ sent_parts l.self.front (into_iter_items l.part-iterator)
      ≡ sent_parts l.self.front (parts_in l.self.state.proxy.stage);
}
