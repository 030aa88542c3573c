use Rattle.std.proofs.Common.{◌∙◌, ap, [], ◌∷◌, ◌++◌, List}
use Rattle.fdb_keys.specs.Ranges.{Range}
use Rattle.fdb_txn.proofs.Exports.{same_set}
use Rattle.fdb_owners.specs.declared.parts.Owned.{Owned}
use Rattle.fdb_owners.proofs.spreading.sole_part.Goals as goal

pub returns : goal.returns
returns c =
    c.in_ok-push.ensures.ok
    ∙ ap (λ (parts : List Owned). parts ++ record { resolver = c.args.resolver; ranges = c.in_ok-ranges.ranges } ∷ [])
    c.new-parts.ensures
    ∙ ap (λ (set : List Range). record { resolver = c.args.resolver; ranges = set } ∷ [])
    (same_set c.args.set.now c.in_ok-ranges.ranges c.in_ok-ranges.ensures.cases)
