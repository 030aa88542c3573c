use Rattle.std.proofs.Common.{◌≡◌, ◌∙◌, sym, subst, ◌<◌, length, arith}
use Rattle.std.proofs.lemmas.Option.{slice_get_within}
use Rattle.fdb_txn.specs.book.Book.{head_at}
use Rattle.fdb_owners.specs.Ownership.{resolvers_of}
use Rattle.fdb_proxy.specs.Parting.{AreItems}
use Rattle.fdb_proxy.proofs.parting.parts_of.Goals as goal

pub returns : goal.returns
returns c moves agrees =
    let splits = c.args.owners.now.splits in
    let batch = c.args.batch.now in
    let parts = c.in_ok-parts.parts in
    let count : length parts ≡ resolvers_of c.args.owners.now =
    c.in_ok-parts.ensures.0 ∙ c.in_ok-lists.ensures.items.0 in
    record {
      count = count;
      each = λ i part there.
          let with = c.in_ok-parts.ensures.1 i part there in
          let within : i < resolvers_of c.args.owners.now =
          (let below = slice_get_within parts i part there in omega (arith, below, count)) in
          record {
            resolver = with.resolver;
            index = with.index;
            version = with.version;
            prev = with.prev;
            horizon = with.horizon;
            items = subst (AreItems splits (head_at c.args.position.version c.args.position.horizon moves) i 0 batch)
                (sym with.items)
                (c.in_ok-lists.ensures.items.1 i within moves agrees);
          };
    }
