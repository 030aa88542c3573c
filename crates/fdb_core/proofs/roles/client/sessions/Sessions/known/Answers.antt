use Rattle.std.proofs.Common.{◌∙◌, sym, ap}
use Rattle.std.specs.FinMap.{get}
use Rattle.fdb_txn.proofs.Exports.{get-pairs}
use Rattle.fdb_core.proofs.roles.client.sessions.Sessions.known.Goals as goal

pub returns : goal.returns
returns c =
    c.get.ensures.value ∙ sym (get-pairs c.self.inside.by_number.entries c.args.session)
    ∙ ap (λ sessions. get sessions c.args.session) c.self.view_is
