use Rattle.std.proofs.Common.{◌≡◌, take, fold}
use Rattle.fdb_txn.specs.rules.Messages.{mutations_in}
use Rattle.fdb_storage.specs.CutMaps.{cut_effect}
use Rattle.fdb_storage.proofs.cut_map.apply_body.Given as goal

abbrev pub invariant-loop-place : goal.invariant-loop-place
invariant-loop-place l = l.map ≡ fold (cut_effect l.range) l.initial.map (mutations_in (take l._place-index l.body))
