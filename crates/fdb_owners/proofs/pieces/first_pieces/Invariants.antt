use Rattle.std.proofs.Common.{◌≡◌, true, take}
use Rattle.std.specs.List.{AllByRecursion}
use Rattle.fdb_keys.specs.Points.{Point}
use Rattle.fdb_keys.specs.Texts.{is_bound}
use Rattle.fdb_interval.specs.Breakpoints.{AreRising}
use Rattle.fdb_owners.proofs.FirstLemmas.{first_breaks}
use Rattle.fdb_owners.proofs.pieces.first_pieces.Given as goal

abbrev pub invariant-loop-place : goal.invariant-loop-place
invariant-loop-place l =
    (l.breaks.entries ≡ first_breaks 0 (take l.place l.splits))
    × AllByRecursion (λ (x : Point). is_bound x ≡ true) (take l.place l.splits)
    × AreRising l.breaks.entries
