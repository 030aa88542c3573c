use Rattle.std.proofs.Common.{◌≤◌, suc, length, arith}
use Rattle.fdb_txn.specs.book.Book.{last_version}
use Rattle.fdb_sections.proofs.SessionLemmas.{grown}
use Rattle.fdb_sections.proofs.session_state.SessionState.see.Goals as goal

pub invariant_of-self : goal.invariant_of-self
invariant_of-self g c =
    let splits = g.B.DatabaseName.config.resolver_splits in
    let own = c.self.inside in
    let front = c.in_ok-front.front in
    let mark : own.mark ≤ last_version front = omega (arith, c.self.invariant.0, c.in_ok-front.ensures.reaches.0) in
    grown splits (suc (length splits)) own.number own.next_number own.mark own.front front own.current
    c.know_entries.ensures c.in_ok-front.ensures.begins.0 mark c.self.invariant.1
