use Rattle.fdb_owners.proofs.SplitLemmas.{split-more}
use Rattle.fdb_owners.proofs.learning.split_bounds.Goals as goal

pub returns-clause-split : goal.returns-clause-split
returns-clause-split c =
    split-more c.args.pieces.now c.split_at.new.pieces c.split_at-2.new.pieces c.split_at.ensures.split
    c.split_at-2.ensures.split
