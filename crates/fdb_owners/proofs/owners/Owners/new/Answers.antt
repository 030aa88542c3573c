use Rattle.std.proofs.Common.{◌≡◌, ap, subst, rules, true, arith, ℕ, suc, length, List, Ok}
use Rattle.fdb_keys.specs.Answers.{Answers}
use Rattle.fdb_keys.specs.Points.{Point}
use Rattle.fdb_txn.specs.rules.Owners.{first_owner}
use Rattle.fdb_txn.specs.rules.Splits.{are_splits}
use Rattle.fdb_owners.specs.Histories.{owner_in}
use Rattle.fdb_owners.specs.Ownership.{owners_fault, IsNew}
use Rattle.fdb_owners.specs.Pieces.{history_at, IsPieces}
use Rattle.fdb_owners.proofs.OwnersLemmas.{seen_as, new-answers}
use Rattle.fdb_owners.proofs.owners.Owners.new.Goals as goal

pub invariant_of-result : goal.invariant_of-result
invariant_of-result c =
    let rise : are_splits c.in_ok-splits.splits ≡ true = search rules in
    let are : c.in_ok-splits.splits ≡ c.args.splits.now = search rules in
    let given : c.as_slice.result.now ≡ c.in_ok-splits.splits = search rules in
    let count : length c.in_ok-splits.splits ≡ length c.args.splits.now = ap length are in (
      record { few = omega (arith, count); rising = rise },
      subst (λ (splits : List Point). IsPieces (suc (length splits)) 0 c.in_ok-pieces.pieces) given
          (c.in_ok-pieces.ensures.pieces 0),
      c.in_ok-pieces.ensures.rising,
    )

pub returns : goal.returns
returns c =
    let rise : are_splits c.in_ok-splits.splits ≡ true = search rules in
    let are : c.in_ok-splits.splits ≡ c.args.splits.now = search rules in
    let given : c.as_slice.result.now ≡ c.in_ok-splits.splits = search rules in
    let count : length c.in_ok-splits.splits ≡ length c.args.splits.now = ap length are in
    subst
    (λ (splits : List Point). Answers (Ok (seen_as c.in_ok-splits.splits c.in_ok-pieces.pieces 0 0))
    (owners_fault c.args.resolvers splits) (IsNew splits)) are
    (new-answers c.in_ok-splits.splits c.args.resolvers c.in_ok-pieces.pieces (omega (arith, count)) (omega arith) rise
    c.in_ok-pieces.ensures.rising
    (subst
    (λ (splits : List Point). (x : Point) (v : ℕ)
    → owner_in (history_at c.in_ok-pieces.pieces x) v ≡ first_owner splits x) given c.in_ok-pieces.ensures.owners))
