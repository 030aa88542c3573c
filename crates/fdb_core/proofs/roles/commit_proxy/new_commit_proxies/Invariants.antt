use Rattle.std.proofs.Common.{◌≡◌, length}
use Rattle.fdb_core.specs.refinement.commit_proxy.Ties.{IsNewCommitProxy}
use Rattle.fdb_roles.specs.Lists.{Each}
use Rattle.fdb_core.proofs.roles.commit_proxy.new_commit_proxies.Given as goal

abbrev pub invariant-loop-index : goal.invariant-loop-index
invariant-loop-index l =
    (length l.list.items ≡ l.index) × Each (λ _. IsNewCommitProxy l.config) l.list.items
