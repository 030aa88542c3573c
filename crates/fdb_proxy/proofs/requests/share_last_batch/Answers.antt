use Rattle.std.proofs.Common.{◌≡◌, ◌⊎◌, inl, inr, length, arith}
use Rattle.std.proofs.lemmas.Grind.{common_steps}
use Rattle.std.proofs.lemmas.Bool.Decides.{nat_tests}
use Rattle.fdb_txn.specs.Limits.{place_limit}
use Rattle.fdb_proxy.proofs.RequestLemmas.{first_alone}
use Rattle.fdb_proxy.proofs.requests.share_last_batch.Goals as goal
use Rattle.fdb_proxy.proofs.requests.share_last_batch.Goals.{then-is_empty-via-then-is_empty}
use Rattle.fdb_proxy.proofs.requests.share_last_batch.Goals.{then-is_empty-via-else-is_empty+then-count-eq-PLACE_LIMIT}

pub returns-then-is_empty-clause-first : goal.returns-then-is_empty-clause-first
returns-then-is_empty-clause-first c =
    let alone : length c.args.list.now.items ≡ 0 ⊎ length c.in-Some.batch ≡ place_limit =
    elim c.then-is_empty.branch [
      | then-is_empty-via-then-is_empty w ↦ inl (grind (arith, nat_tests, common_steps))
      | then-is_empty-via-else-is_empty+then-count-eq-PLACE_LIMIT w ↦ inr (grind (arith, nat_tests, common_steps))
    ] in
    rw c.in-Some.is (first_alone place_limit c.in-Some.batch c.args.list.now.items c.as_slice-count.ensures.within
    alone)
