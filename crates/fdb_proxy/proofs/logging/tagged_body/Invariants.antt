use Rattle.std.proofs.Common.{◌≡◌, map, take}
use Rattle.fdb_storage.specs.LogMessages.{tagged}
use Rattle.fdb_proxy.specs.Logging.{body_by}
use Rattle.fdb_proxy.proofs.logging.tagged_body.Given as goal

abbrev pub invariant-loop-place : goal.invariant-loop-place
invariant-loop-place l =
    l.body ≡ map (tagged l.shards) (body_by 0 (take l.place l.batch) (take l.place l.answers))
