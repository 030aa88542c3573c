use Rattle.std.proofs.Common.{arith}
use Rattle.fdb_role_tests.proofs.proxies.committing.learn_one.Goals as goal

pub learn-requires : goal.learn-requires
learn-requires c =
    let none = c.requires.floor in
    let same = c.in_ok-seal_four.ensures.floor in
    c.in_ok-ticket.ensures c.seal_four.new.core.proxy c.in_ok-seal_four.ensures.batch (omega (arith, none, same))
