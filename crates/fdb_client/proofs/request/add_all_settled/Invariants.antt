use Rattle.std.proofs.Common.{◌≡◌, List, ◌++◌, take}
use Rattle.fdb_client.specs.declared.program.Op.{Op}
use Rattle.fdb_client.specs.declared.program.Reply.{Reply}
use Rattle.fdb_client.specs.Programs.{program, decided_ranges}
use Rattle.fdb_client.proofs.request.add_all_settled.Given as goal

abbrev pub invariant-loop-op : goal.invariant-loop-op
invariant-loop-op l =
    (earlier : List (Op × Reply)) → l.initial.decided ≡ decided_ranges (program earlier)
    → l.decided ≡ decided_ranges (program (earlier ++ take l.op-index l.ops))
