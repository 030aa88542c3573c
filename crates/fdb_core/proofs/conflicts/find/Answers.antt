use Rattle.std.proofs.Common.{◌≡◌, ◌∙◌, refl, sym, ap, subst, ⊎_elim, ℕ, ◌-◌, List, length, get_or, Some}
use Rattle.std.proofs.Common.{None, slice_get, arith, rules}
use Rattle.std.specs.Option.{option_copied}
use Rattle.std.proofs.lemmas.Bool.{cases_eq}
use Rattle.std.proofs.lemmas.Option.{same_Some, slice_get_read, slice_get_within}
use Rattle.fdb_keys.specs.Ranges.{Range}
use Rattle.fdb_txn.specs.declared.entry.Entry.{Entry}
use Rattle.fdb_txn.specs.book.Transactions.{Transaction}
use Rattle.fdb_core.specs.refinement.Conflicts.{IsFoundIn, IsSetAt, IsSetOf}
use Rattle.fdb_core.proofs.conflicts.find.Goals as goal
use Rattle.fdb_core.proofs.conflicts.find.Goals.{In_default}

-- none of the entry's places has it
none-here : (c : In_default) (p : ℕ) (set : List Range)
    → IsSetAt c.as_slice.result.now c.as_slice-in-loop-behind.result.now c.args.id p set → ⊥
none-here c p set its =
    let none : c.find_in.result ≡ None = search rules in
    let found : IsFoundIn c.as_slice.result.now c.as_slice-in-loop-behind.result.now c.args.id None =
    subst (λ found. IsFoundIn c.as_slice.result.now c.as_slice-in-loop-behind.result.now c.args.id
    (option_copied found)) none c.find_in.ensures in
    found p set its

pub loop-behind-preserved : goal.loop-behind-preserved
loop-behind-preserved c n p set reached its = ⊎_elim
    (λ same.
    let book = c.args.book.now in
    let conflicts = c.args.conflicts.now in
    let inside = slice_get_within book n its.entry its.there in
    let inside_too = slice_get_within conflicts n its.all its.kept in
    let at : slice_get book n ≡ Some c.index-book-i.result =
    slice_get_read book (length book) n c.index-book-i.result refl inside
    (subst (λ (i : ℕ). c.index-book-i.result ≡ get_or book i c.index-book-i.result) (sym same) c.index-book-i.is) in
    let kept : slice_get conflicts n ≡ Some c.index-conflicts-i.result =
    slice_get_read conflicts (length conflicts) n c.index-conflicts-i.result refl inside_too
    (subst (λ (i : ℕ). c.index-conflicts-i.result ≡ get_or conflicts i c.index-conflicts-i.result) (sym same)
    c.index-conflicts-i.is) in
    let entry : its.entry ≡ c.index-book-i.result = same_Some its.entry c.index-book-i.result (sym its.there ∙ at) in
    let places : c.as_slice.result.now ≡ c.index-book-i.result.batch = search rules in
    let batch : its.entry.batch ≡ c.as_slice.result.now = ap (λ (e : Entry). e.batch) entry ∙ sym places in
    let sets : c.as_slice-in-loop-behind.result.now ≡ c.index-conflicts-i.result = search rules in
    let all : its.all ≡ c.as_slice-in-loop-behind.result.now =
    same_Some its.all c.index-conflicts-i.result (sym its.kept ∙ kept) ∙ sym sets in
    none-here c p set
    (subst (λ (sets : List (List Range)). IsSetAt c.as_slice.result.now sets c.args.id p set) all
    (subst (λ (places : List Transaction). IsSetAt places its.all c.args.id p set) batch its.set_at)))
    (λ differs. c.loop-behind.invariant n p set
    (omega (arith, reached, differs, c.loop-behind-test.true)) its)
    (cases_eq n (c.min-count.result - 1 - c.loop-behind.behind))

pub returns : goal.returns
returns c n p set its =
    let inside = slice_get_within c.args.book.now n its.entry its.there in
    let inside_too = slice_get_within c.args.conflicts.now n its.all its.kept in
    c.loop-behind.invariant n p set
    (omega (arith, inside, inside_too, c.min-count.ensures, c.loop-behind-test.false)) its
