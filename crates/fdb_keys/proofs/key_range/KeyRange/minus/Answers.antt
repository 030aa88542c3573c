use Rattle.std.proofs.Common.{◌≡◌, ◌∙◌, ap, List, rules}
use Rattle.fdb_keys.specs.Ranges.{Range, in_set, is_apart}
use Rattle.fdb_keys.specs.Removal.{range_minus}
use Rattle.fdb_keys.proofs.RemovalLemmas.{in_minus, apart-minus}
use Rattle.fdb_keys.proofs.key_range.KeyRange.minus.Goals as goal

pub from_ranges-requires : goal.from_ranges-requires
from_ranges-requires c =
    let left : c.push_minus.new.left.items ≡ range_minus c.args.self.now c.args.other.now = search rules in
    ap is_apart left ∙ apart-minus c.args.self.now c.args.other.now

pub returns-clause-points : goal.returns-clause-points
returns-clause-points c = λ x.
    let left : c.from_ranges.result ≡ range_minus c.args.self.now c.args.other.now = search rules in
    ap (λ (l : List Range). in_set l x) left ∙ in_minus c.args.self.now c.args.other.now x

pub returns-clause-apart : goal.returns-clause-apart
returns-clause-apart c =
    let left : c.from_ranges.result ≡ range_minus c.args.self.now c.args.other.now = search rules in
    ap is_apart left ∙ apart-minus c.args.self.now c.args.other.now
