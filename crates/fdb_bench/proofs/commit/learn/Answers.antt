use Rattle.std.proofs.Common.{◌<◌, length, subst, refl}
use Rattle.std.specs.List.{AllByRecursion}
use Rattle.fdb_txn.specs.book.Transactions.{Transaction}
use Rattle.fdb_bench.proofs.commit.learn.Goals as goal

pub learn-requires : goal.learn-requires
learn-requires c =
    record {
      targets = c.requires.moves.moves.targets (length c.args.core.now.proxy.owners.splits);
      rising = c.requires.moves.moves.rising;
      later =
          subst (AllByRecursion (λ (t : Transaction). t.read < c.args.ticket.now.version)) c.batch.ensures.value
          (c.if-not-reads_below.ensures refl);
      horizon = c.requires.floor;
      below = c.requires.moves.below;
    }
