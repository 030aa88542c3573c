use Rattle.fdb_proxy.proofs.CloneLemmas.{same_parts}
use Rattle.fdb_proxy.proofs.resolving.Resolving.copy_parts.Goals as goal

pub returns : goal.returns
returns c = same_parts c.args.self.now.parts c.in_ok-parts.parts c.in_ok-parts.ensures.cases
