use Rattle.std.proofs.Common.{arith}
use Rattle.fdb_storage.proofs.LentLemmas.{legal-at, copied-more}
use Rattle.fdb_storage.proofs.paging.copies.Goals as goal

pub push_pair-requires : goal.push_pair-requires
push_pair-requires c =
    legal-at c.args.found.now c.loop-key.key-index c.loop-key-item.result c.requires (omega arith) c.loop-key-item.is

pub loop-key-preserved : goal.loop-key-preserved
loop-key-preserved c =
    copied-more c.args.version c.loop-key.key-index c.args.found.now c.loop-key-item.result c.loop-key.pairs
    c.push_pair.new.pairs _ (omega arith) c.loop-key-item.is c.loop-key.invariant c.value_at.ensures
    c.in_ok-push_pair.ensures
