use Rattle.fdb_sections.proofs.ReadingLemmas.{alike-faults, range-refused}
use Rattle.fdb_sections.proofs.SessionLemmas.{range-read-on}
use Rattle.fdb_sections.proofs.client.Client.get_range_on.Goals as goal

pub returns-clause-fault : goal.returns-clause-fault
returns-clause-fault g c =
    rw (← c.self.view_is) (range-refused c.self.inside.state.current c.get_range.result _ _ _ _ _
    (alike-faults c.self.inside.state.current _ _) c.get_range.ensures.fault)

pub returns-clause-answered : goal.returns-clause-answered
returns-clause-answered g c =
    rw (← c.self.view_is) (range-read-on g.B.DatabaseName.config.resolver_splits c.self.inside.state
    c.get_range.new.self (g.S.Snapshot.map c.args.snapshot.now) c.get_range.result c.args.range.now c.args.limit
    c.args.reverse c.args.is_snapshot (rw (← c.self.view_is) at c.requires.run) c.get_range.ensures.given)
