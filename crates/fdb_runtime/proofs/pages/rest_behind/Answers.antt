use Rattle.std.proofs.Common.{◌-◌, ◌<◌, arith, false, length, refl, sym}
use Rattle.std.proofs.lemmas.Bool.{ltb-true}
use Rattle.std.proofs.lemmas.Option.{slice_get_read}
use Rattle.fdb_client.proofs.Exports.{given-inside}
use Rattle.fdb_runtime.proofs.pages.rest_behind.Goals as goal

pub behind-requires : goal.behind-requires
behind-requires c =
    let pairs = c.args.pairs.now in
    let item = c.in-Some.ensures.item in
    let some : 0 < length pairs = ltb-true 0 (length pairs) (sym item.0) in
    given-inside c.requires.0 c.args.range.now c.args.limit false pairs _ c.in-Some.field-0.now c.requires.1
    (slice_get_read pairs (length pairs) (length pairs - 1) c.in-Some.field-0.now refl (omega (arith, some)) item.1)
