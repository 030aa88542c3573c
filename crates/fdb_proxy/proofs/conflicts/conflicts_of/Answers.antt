use Rattle.std.proofs.Common.{◌∙◌}
use Rattle.fdb_proxy.proofs.JoiningLemmas.{sets-none}
use Rattle.fdb_proxy.proofs.conflicts.conflicts_of.Goals as goal

pub loop-of-init : goal.loop-of-init
loop-of-init c = c.in_ok-conflicts.ensures ∙ sets-none c.args.count
