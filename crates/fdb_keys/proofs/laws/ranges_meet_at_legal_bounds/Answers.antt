use Rattle.std.proofs.Common.{◌≡◌, true}
use Rattle.fdb_keys.specs.Texts.{is_bound}
use Rattle.fdb_keys.proofs.RangesLemmas.{begin_from_meet}
use Rattle.fdb_keys.proofs.laws.ranges_meet_at_legal_bounds.Goals as goal

pub returns : goal.returns
returns c = begin_from_meet (λ x. is_bound x ≡ true)
