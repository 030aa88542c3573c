use Rattle.std.proofs.Common.{◌≡◌, nat_lt, ℕ}
use Rattle.std.specs.List.{list_any}
use Rattle.fdb_keys.specs.Points.{Point}
use Rattle.fdb_interval.proofs.breakpoints.is_newer_inside.Given as goal

abbrev pub invariant-loop-begin : goal.invariant-loop-begin
invariant-loop-begin l =
    list_any (λ (entry : Point × ℕ). nat_lt l.version entry.1) l._begin-iterator
    ≡ list_any (λ (entry : Point × ℕ). nat_lt l.version entry.1) l.initial._begin-iterator
