use Rattle.std.proofs.Common.{◌≡◌, ◌-◌, sym, suc, length, rules, arith}
use Rattle.fdb_book.proofs.FactLemmas.{last-horizon, shown-count}
use Rattle.fdb_book.proofs.front.Front.horizon.Goals as goal

pub returns : goal.returns
returns g c =
    let counted : length c.args.self.now ≡ suc (c.self.inside.len - 1) =
    rw (← c.self.view_is, shown-count c.self.inside.facts.known, ← c.self.invariant.counted)
    (search (rules, arith, c.if-self-eq0.false)) in
    sym (last-horizon 0 c.args.self.now (c.self.inside.len - 1) c.entry_at.result.now counted c.entry_at.ensures)
