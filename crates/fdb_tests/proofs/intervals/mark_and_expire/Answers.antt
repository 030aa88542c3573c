use Rattle.std.proofs.Common.{sym, subst, ℕ, ◌≤◌, nat_lt, arith}
use Rattle.fdb_keys.specs.Ranges.{in_range}
use Rattle.fdb_interval.specs.Versions.{version_at}
use Rattle.fdb_tests.proofs.BoundLemmas.{either-within}
use Rattle.fdb_tests.proofs.intervals.mark_and_expire.Goals as goal

pub returns : goal.returns
returns c x =
    let marked : version_at c.mark.new.self x ≤ c.args.version =
    subst (λ (v : ℕ). v ≤ c.args.version) (sym (c.in_ok-mark.ensures.answers x))
    (either-within (in_range c.args.key.now x) c.args.version (version_at c.args.last.now x) c.args.version
    (omega arith) (c.requires x)) in
    subst (λ (v : ℕ). v ≤ c.args.version) (sym (c.expire.ensures x))
    (either-within (nat_lt c.saturating_sub.result (version_at c.mark.new.self x)) (version_at c.mark.new.self x) 0
    c.args.version marked (omega arith))
