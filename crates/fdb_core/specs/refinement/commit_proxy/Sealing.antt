-- A commit proxy of a world that is to seal a batch.
use Rattle.std.specs.Prelude.{◌≡◌, ◌<◌, ℕ, true, false, length, Some, None, slice_get}
use Rattle.fdb_sequencer.specs.declared.ticket.Ticket.{Ticket}
use Rattle.fdb_sequencer.specs.Sequencer.{plan_fault, planned}
use Rattle.fdb_core.specs.declared.cluster.Cluster.{Cluster}
use Rattle.fdb_core.specs.declared.roles.commit_proxy.CommitProxyRole.{CommitProxyRole}
use Rattle.fdb_machine.specs.machine.CommitProxySteps.{is_idle}
use Rattle.fdb_core.specs.refinement.Restoring.{proxy_failed}
use Rattle.fdb_core.specs.refinement.commit_proxy.Ties.{seen_as}

-- The proxy works and has no batch in flight, the ticket is the one that the sequencer plans for it, and there is a
-- place left in the book.
pub record IsTicketToSeal (k : Cluster) (proxy advance : ℕ) (ticket : Ticket) : Type 0 where
  pub role : CommitProxyRole
  pub there : slice_get k.commit_proxies.items proxy ≡ Some role
  pub works : proxy_failed role ≡ false
  pub idle : is_idle (seen_as role).stage ≡ true
  pub given : plan_fault k.sequencer proxy advance ≡ None
  pub ticket_is : ticket ≡ planned k.sequencer proxy advance
  pub room : length k.book.items < k.config.book
