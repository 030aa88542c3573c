use Rattle.fdb_keys.proofs.EqualityLemmas.{items_eq_decides}
use Rattle.fdb_keys.proofs.laws.equal_items_are_the_same.Goals as goal

pub returns : goal.returns
returns g c = λ decides. items_eq_decides g.T.PartialEq.eq decides
