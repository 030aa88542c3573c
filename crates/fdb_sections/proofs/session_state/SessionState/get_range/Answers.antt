use Rattle.std.proofs.Common.{◌≡◌, rules, sym, subst, Option}
use Rattle.std.specs.Prelude.{IfSome}
use Rattle.fdb_txn.specs.book.Book.{seen_of}
use Rattle.fdb_txn.specs.rules.SerialMap.{serial_map_at}
use Rattle.fdb_client.specs.declared.program.Transcript.{Transcript}
use Rattle.fdb_sections.specs.Sessions.{Session, IsOpenAt}
use Rattle.fdb_sections.proofs.SessionLemmas.{range-read-opens}
use Rattle.fdb_sections.proofs.session_state.SessionState.get_range.Goals as goal
use Rattle.fdb_sections.proofs.session_state.SessionState.get_range.Goals.{in-Some, in-None}

pub invariant_of-self : goal.invariant_of-self
invariant_of-self g c =
    let splits = g.B.DatabaseName.config.resolver_splits in
    let own = c.self.inside in
    let there = g.S.Snapshot.map c.args.snapshot.now in
    elim c.match-self.branch [
      | in-Some w ↦ rw w.self-inside-is (
        c.self.invariant.0,
        range-read-opens splits own.number own.next_number own.front w.in-Some.txn w.range_of.new.txn there
            w.range_of.result c.args.range.now c.args.limit c.args.reverse c.args.is_snapshot
            (subst (λ (it : Option Transcript). IfSome it (IsOpenAt splits own.number own.next_number own.front))
            w.in-Some.is c.self.invariant.1)
            (subst (λ (it : Option Transcript). IfSome it (λ transcript.
            there ≡ serial_map_at splits transcript.read_version (seen_of own.front).places)) w.in-Some.is
            (subst (λ (it : Session). IfSome it.current (λ transcript.
            there ≡ serial_map_at splits transcript.read_version (seen_of it.front).places)) (sym c.self.view_is)
            c.requires.run))
            w.range_of.ensures.given w.range_of.ensures.refused,
      )
      | in-None w ↦ search rules
    ]
