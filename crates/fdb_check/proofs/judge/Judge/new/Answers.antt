use Rattle.std.proofs.Common.{refl, arith}
use Rattle.std.specs.Prelude.{⊤}
use Rattle.fdb_txn.specs.Limits.{resolver_limit}
use Rattle.fdb_txn.specs.rules.Splits.{splits_fault}
use Rattle.fdb_owners.specs.Ownership.{IsNew}
use Rattle.fdb_owners.proofs.Exports.{new_goes_on}
use Rattle.fdb_roles.proofs.Exports.{answers-fault, given-fault, new-resolver}
use Rattle.fdb_check.proofs.judge.Judge.new.Goals as goal

pub returns : goal.returns
returns c =
    let splits = c.args.splits.now in
    let owners = c.in_ok-owners.owners in
    let none = (given-fault (splits_fault resolver_limit splits) c.in_ok-check.field-0 (λ _. ⊤)
    c.in_ok-check.ensures).0 in
    let new = (answers-fault _ owners (IsNew splits) c.in_ok-owners.ensures).1 in
    rw none (record {
      splits_are = new.splits_are;
      last = refl;
      owners = new_goes_on splits owners new;
      resolvers = λ i core there. new-resolver splits i core (c.in_ok-resolvers.ensures.each i core there);
      floor = let none = new.floor in omega (arith, none);
    })
