use Rattle.std.proofs.Common.{◌≡◌, sym, length, arith}
use Rattle.fdb_book.proofs.FactLemmas.{counted-view, prefix-of-takes}
use Rattle.fdb_book.proofs.agreeing.agree.Given as given
use Rattle.fdb_book.proofs.agreeing.agree.Goals as goal

-- how many entries each of the two shows
counted : (g : given.Over) (c : goal.After-cmp g)
    → (c.front.inside.len ≡ length c.args.front.now) × (c.other.inside.len ≡ length c.args.other.now)
counted g c = (
  counted-view _ _ _ c.front.invariant.counted c.front.view_is,
  counted-view _ _ _ c.other.invariant.counted c.other.view_is,
)

pub returns-clause-shorter : goal.returns-clause-shorter
returns-clause-shorter g c = λ within.
    let both = counted g c in
    prefix-of-takes _ _ _ (rw c.min.ensures (search (arith, both, within))) c.agree_on_first.ensures

pub returns-clause-longer : goal.returns-clause-longer
returns-clause-longer g c = λ within.
    let both = counted g c in
    prefix-of-takes _ _ _ (rw c.min.ensures (search (arith, both, within))) (sym c.agree_on_first.ensures)
