use Rattle.std.proofs.Common.{◌∙◌, sym, List, ℕ}
use Rattle.std.specs.Prelude.{codes}
use Rattle.std.specs.Cmp.Lexicographic.{slice_cmp}
use Rattle.std.specs.FinMap.{get-empty}
use Rattle.std.specs.Ordering.{nat_cmp}
use Rattle.fdb_role_tests.proofs.layers.SameAtBothLayer.starts.Goals as goal

pub returns : goal.returns
returns c =
    get-empty {X = List ℕ} (slice_cmp nat_cmp) (codes "a")
    ∙ sym (get-empty {X = List ℕ} (slice_cmp nat_cmp) (codes "b"))
