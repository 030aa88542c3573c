use Rattle.std.proofs.Common.{◌≡◌, take, fold}
use Rattle.std.specs.FinMap.{empty}
use Rattle.fdb_storage.specs.CutMaps.{cut_with}
use Rattle.fdb_storage.specs.Replays.{messages_of}
use Rattle.fdb_storage.proofs.replaying.replay.Given as goal

abbrev pub invariant-loop-peek : goal.invariant-loop-peek
invariant-loop-peek l = l.map ≡ fold (cut_with l.range l.version) empty (messages_of (take l.peek-index l.peeks))
