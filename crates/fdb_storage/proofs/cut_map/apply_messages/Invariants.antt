use Rattle.std.proofs.Common.{◌≡◌, take, fold}
use Rattle.fdb_storage.specs.CutMaps.{cut_with}
use Rattle.fdb_storage.proofs.cut_map.apply_messages.Given as goal

abbrev pub invariant-loop-message : goal.invariant-loop-message
invariant-loop-message l = l.map ≡ fold (cut_with l.range l.version) l.initial.map (take l.message-index l.messages)
