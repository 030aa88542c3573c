use Rattle.std.proofs.Common.{◌≡◌, ◌++◌}
use Rattle.std.specs.Vec.Iter.{into_iter_items}
use Rattle.fdb_proxy.specs.CommitProxies.{messages_of}
use Rattle.fdb_sections.specs.CommitMachines.{sent_messages}
use Rattle.fdb_sections.specs.CommitProxiesAtFronts.{AreLastMessages}
use Rattle.fdb_sections.proofs.roles.commit_proxy.CommitProxyAt.log_messages.Given as goal

abbrev pub invariant-loop-message : goal.invariant-loop-message
invariant-loop-message g l = record {
  goes_on : (goal.iterator-loop-message g).can_next l.message-iterator;
  ends : (goal.iterator-loop-message g).is_finite l.message-iterator;
  left : AreLastMessages g.B.DatabaseName.config l.self.front (into_iter_items l.message-iterator);
  made : l.messages.items ++ sent_messages l.self.front (into_iter_items l.message-iterator)
      ≡ sent_messages l.self.front (messages_of l.self.state.proxy);
}
