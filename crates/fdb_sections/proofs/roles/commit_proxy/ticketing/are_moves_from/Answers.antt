use Rattle.std.proofs.Common.{◌∙◌, sym, Some, None}
use Rattle.fdb_sections.proofs.TicketingLemmas.{goes-on}
use Rattle.fdb_sections.proofs.roles.commit_proxy.ticketing.are_moves_from.Goals as goal

pub returns-in_default-left_after : goal.returns-in_default-left_after
returns-in_default-left_after g c =
    sym (c.loop-index.invariant
    ∙ goes-on c.args.front.now c.loop-index.index c.in-Some.entry.now (sym c.in-Some.ensures) c.loop-index.rest.now None
    (λ more. c.in_default-left_after.ensures more))

pub loop-index-preserved : goal.loop-index-preserved
loop-index-preserved g c =
    c.loop-index.invariant
    ∙ goes-on c.args.front.now c.loop-index.index c.in-Some.entry.now (sym c.in-Some.ensures) c.loop-index.rest.now
    (Some c.in-Some-left_after.left.now) (λ more. c.in-Some-left_after.ensures more)
