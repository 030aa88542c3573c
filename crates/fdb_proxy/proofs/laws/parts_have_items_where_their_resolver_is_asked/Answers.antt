use Rattle.fdb_proxy.proofs.VerdictLemmas.{items_where_asked}
use Rattle.fdb_proxy.proofs.laws.parts_have_items_where_their_resolver_is_asked.Goals as goal

pub returns : goal.returns
returns c = items_where_asked
