use Rattle.std.proofs.Common.{◌≤◌, suc, length, subst, sym, arith, List}
use Rattle.fdb_txn.specs.declared.entry.Entry.{Entry}
use Rattle.fdb_txn.specs.book.Book.{last_version}
use Rattle.fdb_sections.proofs.SessionLemmas.{grown}
use Rattle.fdb_sections.proofs.session_state.SessionState.learn.Goals as goal

pub invariant_of-self : goal.invariant_of-self
invariant_of-self g c =
    let splits = g.B.DatabaseName.config.resolver_splits in
    let own = c.self.inside in
    let front = c.in_ok-front.front in
    let version : c.version-version.result ≤ last_version c.known_front.result.now =
    subst (λ (seen : List Entry). c.version-version.result ≤ last_version seen) (sym c.known_front.ensures.value)
    c.version-version.ensures.reached in
    let mark : c.max-self-inside.result ≤ last_version front =
    omega (
      arith,
      c.max-self-inside.ensures,
      c.self.invariant.0,
      version,
      c.in_ok-front.ensures.reaches.0,
      c.in_ok-front.ensures.reaches.1,
    ) in
    grown splits (suc (length splits)) own.number own.next_number c.max-self-inside.result own.front front own.current
    c.know_entries.ensures c.in_ok-front.ensures.begins.0 mark c.self.invariant.1
