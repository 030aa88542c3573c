use Rattle.std.proofs.Common.{◌≡◌, [], replicate}
use Rattle.fdb_core.proofs.roles.grv_proxy.new_grv_proxies.Given as goal

abbrev pub invariant-loop-number : goal.invariant-loop-number
invariant-loop-number l = l.list.items ≡ replicate l._number []
