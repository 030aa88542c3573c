use Rattle.std.proofs.Common.{sym, ℕ, List, Option}
use Rattle.fdb_runtime.proofs.UnreadableLemmas.{undecided-hidden}
use Rattle.fdb_runtime.proofs.session.Session.get_open.Goals as goal

pub returns-in_default-clause-hidden : goal.returns-in_default-clause-hidden
returns-in_default-clause-hidden g c =
    undecided-hidden (Option (List ℕ)) c.self.inside.client.session c.args.self.now _ c.args.key.now c.self.view_is
    (sym c.if-decides.ensures)

pub returns-in-Err-clause-hidden : goal.returns-in-Err-clause-hidden
returns-in-Err-clause-hidden g c =
    undecided-hidden (Option (List ℕ)) c.self.inside.client.session c.args.self.now c.shard_refusal.result
    c.args.key.now c.self.view_is (sym c.if-decides.ensures)
