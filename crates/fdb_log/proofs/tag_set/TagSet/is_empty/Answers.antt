use Rattle.std.proofs.Common.{◌∙◌, ap, ℕ, List, length, arith}
use Rattle.std.specs.Prelude.{◌==◌}
use Rattle.fdb_log.proofs.TagSetLemmas.{bits-empty}
use Rattle.fdb_log.proofs.tag_set.TagSet.is_empty.Goals as goal

pub returns : goal.returns
returns c =
    bits-empty c.self.inside.bits (omega arith)
    ∙ ap (λ (tags : List ℕ). length tags == 0) c.self.view_is
