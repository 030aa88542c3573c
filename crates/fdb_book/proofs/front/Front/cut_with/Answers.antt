use Rattle.std.proofs.Common.{◌≤◌, sym, length}
use Rattle.std.proofs.lemmas.List.{take-map}
use Rattle.fdb_book.proofs.FactLemmas.{value_of, front-take, shown-count}
use Rattle.fdb_book.proofs.front.Front.cut_with.Goals as goal

pub invariant_of-result : goal.invariant_of-result
invariant_of-result g c =
    let within : c.args.len ≤ length c.self.inside.facts.known =
    rw (← shown-count c.self.inside.facts.known, c.self.view_is) c.requires.within in
    rw c.first.ensures
    (front-take _ _ _ _ _ _ _ _ c.args.len within c.self.invariant c.requires.cells)

pub returns : goal.returns
returns g c =
    rw (c.first.ensures, ← c.self.view_is) (sym (take-map value_of c.args.len c.self.inside.facts.known))
