use Rattle.std.proofs.Common.{◌≡◌, sym, ◌∙◌, ap, ◌≤◌, length, vec_len, arith}
use Rattle.std.proofs.lemmas.Grind.{common_steps}
use Rattle.std.proofs.lemmas.Bool.Decides.{nat_tests}
use Rattle.fdb_txn.specs.Limits.{place_limit}
use Rattle.fdb_proxy.proofs.RequestLemmas.{first_of_all, others_alone}
use Rattle.fdb_proxy.proofs.requests.gather.Goals as goal

pub returns-clause-first : goal.returns-clause-first
returns-clause-first c =
    let count : vec_len c.args.list.now ≡ length c.args.list.now.items =
    sym c.deref.ensures.len ∙ ap length c.deref.ensures.value in
    rw (c.new-2.ensures, c.in_ok-places.ensures, c.deref.ensures.value, c.min-count.ensures, c.len-2.ensures, count)
    (first_of_all place_limit c.args.first.now c.args.list.now.items c.requires)

pub returns-then-len-le-PLACE_LIMIT-clause-first : goal.returns-then-len-le-PLACE_LIMIT-clause-first
returns-then-len-le-PLACE_LIMIT-clause-first c =
    let none : length c.args.first.now ≡ 0 = grind (arith, nat_tests, common_steps) in
    let few : length c.args.list.now.items ≤ place_limit = grind (arith, nat_tests, common_steps) in
    rw (c.new.ensures, c.in_ok-share_all.ensures.all) (others_alone place_limit c.args.first.now c.args.list.now.items
    none few)
