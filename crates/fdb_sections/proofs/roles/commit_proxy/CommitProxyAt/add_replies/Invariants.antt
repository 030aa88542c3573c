use Rattle.std.specs.Iterator.Adapters.{enumerate_source, enumerate_count}
use Rattle.std.specs.Vec.Iter.{into_iter_items}
use Rattle.fdb_sections.proofs.ReplyLemmas.{AreOutcomesFrom, AreToldSo}
use Rattle.fdb_sections.proofs.roles.commit_proxy.CommitProxyAt.add_replies.Given as goal

abbrev pub invariant-loop-place : goal.invariant-loop-place
invariant-loop-place g l = record {
  goes_on : (goal.iterator-loop-place g).can_next l.place-iterator;
  ends : (goal.iterator-loop-place g).is_finite l.place-iterator;
  left : AreOutcomesFrom g.B.DatabaseName.config l.self.front l.self.conflicts
      (enumerate_count l.place-iterator) (into_iter_items (enumerate_source l.place-iterator));
  told : AreToldSo l.self.front (enumerate_count l.place-iterator)
      (into_iter_items (enumerate_source l.place-iterator)) l.fn.answers l.replies.items;
}
