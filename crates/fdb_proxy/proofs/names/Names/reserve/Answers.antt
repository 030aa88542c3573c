use Rattle.fdb_proxy.proofs.names.Names.reserve.Goals as goal

pub returns-clause-same : goal.returns-clause-same
returns-clause-same c = λ id. c.reserve.ensures.keys.2 (id.session, id.number)
