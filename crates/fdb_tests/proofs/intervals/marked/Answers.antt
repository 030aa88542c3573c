use Rattle.std.proofs.Common.{sym, subst, ℕ, ◌≤◌, arith}
use Rattle.fdb_keys.specs.Ranges.{in_range}
use Rattle.fdb_interval.specs.Versions.{version_at}
use Rattle.fdb_tests.proofs.BoundLemmas.{either-within}
use Rattle.fdb_tests.proofs.intervals.marked.Goals as goal

pub returns : goal.returns
returns c x =
    let none = c.new-last.ensures x in
    subst (λ (v : ℕ). v ≤ 200) (sym (c.in_ok-mark-2.ensures.answers x))
    (either-within (in_range c.args.second.now x) 200 (version_at c.mark.new.self x) 200 (omega arith)
    (subst (λ (v : ℕ). v ≤ 200) (sym (c.in_ok-mark.ensures.answers x))
    (either-within (in_range c.args.first.now x) 100 (version_at c.new-last.result x) 200 (omega arith)
    (omega (arith, none)))))
