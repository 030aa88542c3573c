use Rattle.std.proofs.Common.{◌≡◌, ◌∙◌, sym, ap, false}
use Rattle.fdb_keys.specs.Ranges.{Range}
use Rattle.fdb_mutations.specs.Pairs.{pairs_in}
use Rattle.fdb_load.specs.Runs.{every_key}
use Rattle.fdb_mutations.proofs.Exports.{pairs-decide}
use Rattle.fdb_load.proofs.run.has_pairs.Goals as goal

pub returns : goal.returns
returns c =
    let decides = pairs-decide c.args.pairs.now c.as_slice.result.now in
    let left : c.as_slice.result.now ≡ pairs_in c.args.map.now every_key false
    = c.as_slice.ensures ∙ c.in_ok-left.ensures
    ∙ ap (λ (range : Range). pairs_in c.args.map.now range false) c.in_ok-range.ensures in (
      λ equal. decides.0 (sym c.eq.ensures ∙ equal) ∙ left,
      λ same. c.eq.ensures ∙ decides.1 (same ∙ sym left),
    )
