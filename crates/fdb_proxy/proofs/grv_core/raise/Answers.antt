-- Those who asked up to the next one are granted, once that one is.
use Rattle.std.proofs.Common.{ℕ, ◌<◌, length, slice_index_or, arith}
use Rattle.std.proofs.lemmas.List.{get_or_default}
use Rattle.std.proofs.lemmas.List.Edits.{map_over_more}
use Rattle.fdb_proxy.specs.Askers.{Asker, granted}
use Rattle.fdb_proxy.proofs.grv_core.raise.Goals as goal

pub loop-version-preserved : goal.loop-version-preserved
loop-version-preserved c =
    let asked = c.loop-version.asked in
    let i : ℕ = c.loop-version.version-index in
    let asker : Asker = slice_index_or asked i (0, 0) in
    let within : i < length asked = omega arith in
    rw c.max.ensures (map_over_more (granted c.args.committed) c.args.asked.now asked i asker c.loop-version-test.true
    c.loop-version.invariant (get_or_default asked i (0, 0) asker within))
