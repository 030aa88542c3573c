use Rattle.std.proofs.Common.{◌≡◌, subst, ◌≤◌, true, length, List, rules}
use Rattle.fdb_keys.specs.Points.{Point}
use Rattle.fdb_keys.proofs.Exports.{before_ff-key}
use Rattle.fdb_txn.specs.rules.Owners.{first_owner}
use Rattle.fdb_txn.specs.rules.Splits.{are_splits}
use Rattle.fdb_txn.proofs.rules.SplitsLemmas.{in-own-piece, only-own-piece}
use Rattle.fdb_txn.proofs.splits.Splits.piece_of.Goals as goal
use Rattle.fdb_txn.proofs.splits.Splits.piece_of.Goals.{After-first_owner}

-- the first owner, of the splits that are shown
rising-of : (c : After-first_owner) → are_splits c.args.self.now ≡ true
rising-of c = subst (λ (splits : List Point). are_splits splits ≡ true) c.self.view_is c.self.invariant

number-of : (c : After-first_owner) → c.first_owner.result ≡ first_owner c.args.self.now c.args.key.now
number-of c = search rules

within-of : (c : After-first_owner) → c.first_owner.result ≤ length c.args.self.now
within-of c = search rules

pub returns-clause-held : goal.returns-clause-held
returns-clause-held c =
    let it = (goal.at.returns-clause-held c).After-first_owner in
    in-own-piece c.args.self.now c.args.key.now c.first_owner.result (rising-of it)
    (before_ff-key c.args.key.now c.bytes.ensures.legal) (number-of it) (within-of it)

pub returns-clause-alone : goal.returns-clause-alone
returns-clause-alone c =
    let it = (goal.at.returns-clause-alone c).After-first_owner in
    only-own-piece c.args.self.now c.args.key.now c.first_owner.result (rising-of it)
    (before_ff-key c.args.key.now c.bytes.ensures.legal) (number-of it) (within-of it)
