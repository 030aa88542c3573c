use Rattle.std.proofs.Common.{sym}
use Rattle.fdb_keys.proofs.Exports.{in_range-empty}
use Rattle.fdb_owners.specs.Parts.{owned_from}
use Rattle.fdb_owners.specs.Pieces.{history_at}
use Rattle.fdb_owners.proofs.WalkLemmas.{parts-unmet}
use Rattle.fdb_owners.proofs.parts.add_range.Goals as goal

pub returns-then-is_empty : goal.returns-then-is_empty
returns-then-is_empty c n last held known are =
    parts-unmet n c.args.range.now
    (λ i x. owned_from (history_at c.args.pieces.now x) i c.args.span.since c.args.span.through) held
    c.args.parts.now.items (λ x. in_range-empty c.args.range.now x (sym c.if-is_empty.ensures)) are
