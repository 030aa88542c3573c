use Rattle.std.proofs.Common.{◌∙◌, ◌-◌, sym, ap₂, ℕ, List, drop, arith}
use Rattle.std.specs.Cmp.Lexicographic.{pointwise}
use Rattle.fdb_sequencer.specs.Equality.{dated_eq}
use Rattle.fdb_sequencer.specs.declared.dated.Dated.{Dated}
use Rattle.fdb_roles.specs.Entries.{dated_moves}
use Rattle.fdb_sections.proofs.TicketingLemmas.{by-moves, by-entry}
use Rattle.fdb_sections.proofs.roles.commit_proxy.ticketing.is_ticket_of.Goals as goal

pub returns-then-is_of_entry : goal.returns-then-is_of_entry
returns-then-is_of_entry g c =
    by-moves c.args.own.now c.args.front.now c.args.batch.now c.args.ticket.now (c.len-count.result - 1)
    c.in-Some.entry.now (omega (arith, c.len-count.ensures, c.if-count-begin.false)) (sym c.in-Some.ensures)
    (omega (arith, c.len-begin.ensures, c.if-count-begin.false)) c.are_moves_from.result
    (sym c.is_of_entry.ensures ∙ c.if-is_of_entry.true)
    (c.are_moves_from.ensures
    ∙ ap₂ (λ (moves : List Dated) (begin : ℕ). pointwise dated_eq moves (dated_moves (drop begin c.args.front.now)))
    c.as_slice.ensures c.len-begin.ensures)

pub returns-else-is_of_entry : goal.returns-else-is_of_entry
returns-else-is_of_entry g c =
    by-entry c.args.own.now c.args.front.now c.args.batch.now c.args.ticket.now (c.len-count.result - 1)
    c.in-Some.entry.now (omega (arith, c.len-count.ensures, c.if-count-begin.false)) (sym c.in-Some.ensures)
    (omega (arith, c.len-begin.ensures, c.if-count-begin.false)) c.is_of_entry.result c.is_of_entry.ensures
    c.if-is_of_entry.false
