use Rattle.std.proofs.Common.{take}
use Rattle.fdb_txn.specs.rules.Messages.{mutations_in}
use Rattle.fdb_storage.specs.Changes.{HaveChangedIn, changed_by}
use Rattle.fdb_storage.specs.VersionMaps.{HaveLive}
use Rattle.fdb_storage.proofs.applying.apply_body.Given as goal

abbrev pub invariant-loop-place : goal.invariant-loop-place
invariant-loop-place l =
    record {
      changed :
          HaveChangedIn l.range l.version (changed_by (mutations_in (take l._place-index l.body)))
          l.initial.map.keys.entries
          l.map.keys.entries;
      live : HaveLive l.map.keys.entries l.map.live.keys;
    }
