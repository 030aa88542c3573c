use Rattle.std.proofs.Common.{◌≡◌, length}
use Rattle.fdb_proxy.proofs.BodyLemmas.{AreGivenBelow}
use Rattle.fdb_proxy.proofs.bodies.copy_out.Given as goal

abbrev pub invariant-loop-log : goal.invariant-loop-log
invariant-loop-log l =
    record {
      long : length l.bodies.items ≡ l.logs;
      given : AreGivenBelow l.logs l.log l.sent l.initial.bodies.items l.bodies.items;
    }
