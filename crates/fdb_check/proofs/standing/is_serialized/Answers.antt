use Rattle.fdb_check.proofs.StandingLemmas.{entry-spot}
use Rattle.fdb_check.proofs.standing.is_serialized.Goals as goal

pub returns-in-Entry-clause-ok : goal.returns-in-Entry-clause-ok
returns-in-Entry-clause-ok c splits entries at moments not_past =
    entry-spot splits c.args.book.now c.args.visit c.args.placed.now c.in-Entry.index c.in-Entry.place
    c.in-Entry.version
    c.args.run.now c.is_serialized_at.new.run c.is_serialized_at.result c.in-Entry.is moments not_past
    (c.is_serialized_at.ensures.ok splits entries at)
