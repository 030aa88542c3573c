use Rattle.fdb_mutations.specs.Stamps.{stamp_bytes}
use Rattle.fdb_proxy.proofs.StampLemmas.{tagged-stamped}
use Rattle.fdb_proxy.proofs.logging.tag_mutation.Goals as goal

pub returns : goal.returns
returns c =
    tagged-stamped c.args.shards.now (stamp_bytes c.args.stamp.version c.args.stamp.place) c.args.place
    c.args.mutation.now c.in_ok-mutation.mutation c.in_ok-tags.tags c.in_ok-tags.ensures c.in_ok-mutation.ensures
