use Rattle.std.proofs.Common.{sym, subst, ℕ, ◌≤◌, nat_lt, arith}
use Rattle.fdb_interval.specs.Versions.{version_at}
use Rattle.fdb_tests.proofs.BoundLemmas.{either-within}
use Rattle.fdb_tests.proofs.intervals.pieces_on_the_way.Goals as goal

pub mark-requires : goal.mark-requires
mark-requires c x =
    subst (λ (v : ℕ). v ≤ 200) (sym (c.expire.ensures x))
    (either-within (nat_lt 100 (version_at c.in_ok-last.last x)) (version_at c.in_ok-last.last x) 0 200
    (c.in_ok-last.ensures x) (omega arith))
