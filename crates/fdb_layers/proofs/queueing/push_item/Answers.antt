use Rattle.std.proofs.Common.{◌≡◌, rules}
use Rattle.fdb_layers.specs.Queue.{unstamped}
use Rattle.fdb_layers.proofs.DoingLemmas.{on-ok}
use Rattle.fdb_layers.proofs.QueueingLemmas.{pushed-by}
use Rattle.fdb_layers.proofs.queueing.push_item.Goals as goal

pub returns-clause-pushes : goal.returns-clause-pushes
returns-clause-pushes g c =
    let operand : c.as_slice.result.now ≡ unstamped c.args.item.now = search rules in
    on-ok c.stamp.result _ _
    (λ stamps. pushed-by c.args.session.now.current c.stamp.new.session.current c.args.id c.in_ok-key.key
    c.as_slice.result.now c.args.item.now c.in_ok-key.ensures operand stamps)
    c.stamp.ensures.stamps
