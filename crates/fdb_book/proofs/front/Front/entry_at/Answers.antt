use Rattle.std.proofs.Common.{◌<◌, length}
use Rattle.fdb_book.proofs.FactLemmas.{known-at, shown-at, shown-count}
use Rattle.fdb_book.proofs.front.Front.entry_at.Goals as goal

pub value-requires : goal.value-requires
value-requires g c =
    let within : c.args.index < length c.self.inside.facts.known =
    rw (← shown-count c.self.inside.facts.known, c.self.view_is) c.requires in
    known-at c.deref.result.now.items c.self.inside.facts.known c.args.index c.index.result.now
    (rw c.deref.ensures c.self.invariant.first) within c.index.ensures

pub returns : goal.returns
returns g c = rw (← c.self.view_is) (shown-at c.self.inside.facts.known c.args.index _ _ c.value.ensures)
