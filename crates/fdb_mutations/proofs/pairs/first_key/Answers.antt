use Rattle.std.proofs.Common.{◌≡◌, ◌∙◌, sym, ap, Some, false, rules}
use Rattle.fdb_keys.specs.Points.{point_lt}
use Rattle.fdb_mutations.proofs.MapsLemmas.{forward-bounds}
use Rattle.fdb_mutations.proofs.TakenLemmas.{within-found, first_key_of}
use Rattle.fdb_mutations.proofs.pairs.first_key.Goals as goal

pub range-requires : goal.range-requires
range-requires c =
    let ordered : point_lt c.end_text.result.now c.begin_text.result.now ≡ false = search rules in
    forward-bounds c.begin_text.result.now c.end_text.result.now ordered

pub returns-in_ok-clone-in-Some : goal.returns-in_ok-clone-in-Some
returns-in_ok-clone-in-Some c =
    let same : c.in_ok-clone-in-Some.field-0 ≡ c.in-Some.key.now = search rules in
    ap Some same
    ∙ sym (ap first_key_of (within-found c.args.range.now c.begin_text.result.now c.end_text.result.now
    c.args.pairs.now.entries c.range.result c.begin_text.ensures c.end_text.ensures.value (c.range.ensures.between tt)
    ∙ c.in-Some.ensures.steps))

pub returns-in-None : goal.returns-in-None
returns-in-None c =
    sym (ap first_key_of (within-found c.args.range.now c.begin_text.result.now c.end_text.result.now
    c.args.pairs.now.entries c.range.result c.begin_text.ensures c.end_text.ensures.value (c.range.ensures.between tt)
    ∙ c.in-None.ensures.steps.0))
