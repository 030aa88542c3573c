use Rattle.std.proofs.Common.{◌≡◌, ◌∙◌, ap, ◌++◌, arith, rules}
use Rattle.std.proofs.lemmas.Grind.{common_steps}
use Rattle.fdb_txn.specs.Limits.{place_limit}
use Rattle.fdb_proxy.specs.RequestFields.{all_of, places_of}
use Rattle.fdb_proxy.specs.Requests.{Requests}
use Rattle.fdb_proxy.proofs.RequestLemmas.{all_in_parts, behind_first, same_count}
use Rattle.fdb_proxy.proofs.requests.Requests.seal.Goals as goal

pub invariant_of-self-in_err-batch : goal.invariant_of-self-in_err-batch
invariant_of-self-in_err-batch c =
    let r = c.self.inside in
    let new = c.share_last_batch.new in
    let count =
    same_count (places_of new.last_batch) new.list.items
    (places_of r.last_batch) r.list.items c.share_last_batch.ensures.same in
    record {
      ids = grind (arith, common_steps);
      room = grind (arith, common_steps);
      no_ids = search rules;
      none_in_room = search rules;
      names = rw c.share_last_batch.ensures.same c.self.invariant.names;
    }

pub invariant_of-self-2 : goal.invariant_of-self-2
invariant_of-self-2 c =
    let r = c.self.inside in
    let new = c.share_last_batch.new in
    let count =
    same_count (places_of new.last_batch) new.list.items
    (places_of r.last_batch) r.list.items c.share_last_batch.ensures.same in
    record {
      ids = grind (arith, common_steps);
      room = grind (arith, common_steps);
      no_ids = search rules;
      none_in_room = search rules;
      names = rw c.share_last_batch.ensures.same c.self.invariant.names;
    }

pub returns-clause-ok : goal.returns-clause-ok
returns-clause-ok c =
    let r = c.self.inside in
    let old = c.args.self.now in
    let new = c.share_last_batch.new in
    let all : all_of r ≡ old.waiting =
    all_in_parts r
    ∙ ap (λ (requests : Requests). requests.batch ++ requests.waiting) c.self.view_is
    ∙ ap (λ batch. batch ++ old.waiting) c.requires in
    rw (← all) (record {
      in_flight = c.in_ok-batch.ensures.first;
      in_line = behind_first place_limit (places_of new.last_batch) new.list.items (all_of r)
          c.in_ok-batch.ensures.first
          c.share_last_batch.ensures.same;
    })
