use Rattle.fdb_roles.proofs.ProxyExamplesLemmas.{other_proxies_are_elsewhere}
use Rattle.fdb_roles.proofs.laws.worked_proxies.Goals as goal

pub returns : goal.returns
returns c = other_proxies_are_elsewhere
