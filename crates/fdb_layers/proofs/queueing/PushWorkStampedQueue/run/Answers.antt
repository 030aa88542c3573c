use Rattle.std.proofs.Common.{◌≡◌, rules}
use Rattle.fdb_layers.specs.Queue.{FitsKey}
use Rattle.fdb_layers.proofs.QueueingLemmas.{on-ok-both, push-allowed, push-done}
use Rattle.fdb_layers.proofs.queueing.PushWorkStampedQueue.run.Goals as goal

pub returns-clause-allowed : goal.returns-clause-allowed
returns-clause-allowed g c =
    let bytes : c.as_slice.result.now ≡ c.args.self.now.item = search rules in
    let fits : FitsKey c.in_ok-id.id = search rules in
    on-ok-both c.push_item.result _ _ _
    (λ still pushes. push-allowed c.args.session.now.current c.push_item.new.session.current c.in_ok-id.id
    c.args.self.now.item fits c.in_ok-id.ensures still
    (push-done c.args.session.now.current c.push_item.new.session.current c.in_ok-id.id c.as_slice.result.now
    c.args.self.now.item bytes c.requires.begun c.in_ok-id.ensures still pushes))
    c.push_item.ensures.open c.push_item.ensures.pushes

pub returns-clause-done : goal.returns-clause-done
returns-clause-done g c =
    let bytes : c.as_slice.result.now ≡ c.args.self.now.item = search rules in
    on-ok-both c.push_item.result _ _ _
    (λ still pushes. push-done c.args.session.now.current c.push_item.new.session.current c.in_ok-id.id
    c.as_slice.result.now c.args.self.now.item bytes c.requires.begun c.in_ok-id.ensures still pushes)
    c.push_item.ensures.open c.push_item.ensures.pushes
