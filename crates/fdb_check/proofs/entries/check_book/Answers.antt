use Rattle.std.proofs.Common.{refl, sym, subst, ℕ, add-one, length, inl, inr}
use Rattle.std.specs.Prelude.{⊤}
use Rattle.std.proofs.lemmas.Bool.{both_ways}
use Rattle.std.proofs.lemmas.Result.{err_from_is_err_and}
use Rattle.fdb_txn.specs.Limits.{resolver_limit}
use Rattle.fdb_txn.specs.rules.Splits.{splits_fault}
use Rattle.fdb_roles.proofs.Exports.{given-fault, refused-fault}
use Rattle.fdb_check.specs.Judged.{FollowOn}
use Rattle.fdb_check.proofs.entries.check_book.Goals as goal

pub returns-in_err-check : goal.returns-in_err-check
returns-in_err-check c =
    let left = err_from_is_err_and c.from_residual.result c.from_residual.ensures.1 in
    rw (left.1, left.2)
    (inl (refused-fault (splits_fault resolver_limit c.args.splits.now) c.in_err-check.field-0.0 (λ _. ⊤)
    c.in_err-check.ensures))

pub returns-then-not-are_entries : goal.returns-then-not-are_entries
returns-then-not-are_entries c =
    let splits = c.args.splits.now in
    let none = (given-fault (splits_fault resolver_limit splits) c.in_ok-check.field-0 (λ _. ⊤)
    c.in_ok-check.ensures).0 in
    inr (
      none,
      refl,
      λ entries. both_ways _ c.if-not-are_entries.true
          (c.are_entries.ensures.1
          (subst (λ (n : ℕ). FollowOn n 0 0 c.args.book.now) (sym (add-one (length splits))) entries)),
    )

pub returns : goal.returns
returns c =
    let splits = c.args.splits.now in
    let none = (given-fault (splits_fault resolver_limit splits) c.in_ok-check.field-0 (λ _. ⊤)
    c.in_ok-check.ensures).0 in (
      none,
      subst (λ (n : ℕ). FollowOn n 0 0 c.args.book.now) (add-one (length splits))
          (c.are_entries.ensures.0 c.if-not-are_entries.false),
    )
