use Rattle.std.proofs.Common.{◌≡◌, max, ◌+◌, ◌≤◌}
use Rattle.fdb_runtime.proofs.work.Session+Layered+B+L.transact.Given as goal

-- each try took one number, and left what the work is asked to do
abbrev pub invariant-loop-tried : goal.invariant-loop-tried
invariant-loop-tried g l =
    (g.W.Work.task l.work ≡ g.W.Work.task l.fn.work)
    × (l.self.number ≡ l.fn.self.number)
    × (l.self.next_number + 1 ≡ l.fn.self.next_number + l._tried)
    × (l._tried ≤ max 1 l.fn.tries.most)
