use Rattle.std.proofs.Common.{◌≡◌, ap, ◌<◌, length, map, arith}
use Rattle.std.specs.Arc.{arc_value}
use Rattle.once_cell.specs.Once.{cell_name}
use Rattle.fdb_book.specs.Appending.{Found}
use Rattle.fdb_book.proofs.FactLemmas.{known-at, last-shown}
use Rattle.fdb_book.proofs.found.Found.entry.Goals as goal

pub value-requires : goal.value-requires
value-requires g c =
    let names : map cell_name (arc_value c.book.inside.cells).items ≡ g.B.BookName.cells = c.book.invariant in
    let within : c.self.inside.index < length c.self.inside.facts.known = omega (arith, c.self.invariant.counted) in
    known-at c.deref.result.now.items c.self.inside.facts.known c.self.inside.index c.index.result.now
    (rw (c.deref.ensures, names) c.self.invariant.first) within c.index.ensures

pub returns : goal.returns
returns g c =
    last-shown _ c.self.inside.facts.known c.args.self.now.entries c.self.inside.index _ _ c.self.invariant
    (ap (λ (found : Found). found.entries) c.self.view_is) c.value.ensures
