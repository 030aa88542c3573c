use Rattle.std.proofs.Common.{take}
use Rattle.fdb_storage.specs.Changes.{HaveFollowed}
use Rattle.fdb_storage.specs.VersionMaps.{HaveLive}
use Rattle.fdb_storage.proofs.applying.apply_messages.Given as goal

abbrev pub invariant-loop-message : goal.invariant-loop-message
invariant-loop-message l =
    record {
      followed :
          HaveFollowed l.range l.version (take l.message-index l.messages) l.initial.map.keys.entries
          l.map.keys.entries;
      live : HaveLive l.map.keys.entries l.map.live.keys;
    }
