use Rattle.std.proofs.Common.{◌≡◌, take}
use Rattle.std.specs.FinMap.{get}
use Rattle.fdb_keys.specs.Points.{Point}
use Rattle.fdb_storage.specs.CutMaps.{set_by}
use Rattle.fdb_storage.proofs.copying.set_all.Given as goal

abbrev pub invariant-loop-key : goal.invariant-loop-key
invariant-loop-key l =
    (x : Point) → get l.target x ≡ set_by (take l.key-index l.pairs) x (get l.initial.target x)
