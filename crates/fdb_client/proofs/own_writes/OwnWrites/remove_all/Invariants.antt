use Rattle.std.proofs.Common.{◌≡◌, None, cond, take}
use Rattle.std.specs.List.{list_any}
use Rattle.fdb_keys.specs.Points.{Point, point_eq}
use Rattle.fdb_client.specs.LeftAt.{entry_of}
use Rattle.fdb_client.proofs.own_writes.OwnWrites.remove_all.Given as goal

abbrev pub invariant-loop-key : goal.invariant-loop-key
invariant-loop-key l =
    ((x : Point) → entry_of l.self x
    ≡ cond (list_any (point_eq x) (take l.key-index l.keys)) None (entry_of l.initial.self x))
    × (l.self.cleared ≡ l.initial.self.cleared)
