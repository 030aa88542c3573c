use Rattle.std.proofs.Common.{sym, subst, refl}
use Rattle.std.specs.Prelude.{Ok}
use Rattle.std.specs.Option.{option_map}
use Rattle.fdb_sections.specs.declared.client.Asked.TheVariants as asked
use Rattle.fdb_sections.specs.declared.session_state.submitted.Submitted.{Submitted}
use Rattle.fdb_sections.specs.Clients.{Client, Asks}
use Rattle.fdb_sections.specs.Commits.{CommitAnswers}
use Rattle.fdb_sections.specs.Receipts.{ReceiptAtFront}
use Rattle.fdb_sections.proofs.CommitLemmas.{acknowledged}
use Rattle.fdb_sections.proofs.client.Client.commit.Goals as goal

pub returns-in-Ok-Acknowledged : goal.returns-in-Ok-Acknowledged
returns-in-Ok-Acknowledged g c =
    let config = g.B.DatabaseName.config in
    let own = c.self.inside.state in
    let new = c.acknowledge.new.self in
    let ended = c.in-Ok-Acknowledged in
    let submitted = option_map (λ (one : Submitted). one.transaction) c.self.inside.submitted in
    let given : CommitAnswers config own (Ok ended.receipt) new =
    acknowledged config own c.submit.new.self new ended.receipt ended.field-0 ended.field-0-is
    ended.ensures.answers ended.ensures.ended c.acknowledge.ensures.mark in
    subst (λ (it : Client). Asks {B = g.row.B.Denot} config it (Ok (asked.Acknowledged c.acknowledge.result))
    (record { session = new; submitted = submitted })) c.self.view_is
    (subst (λ (it : ReceiptAtFront). Asks {B = g.row.B.Denot} config (record { session = own; submitted = submitted })
    (Ok (asked.Acknowledged it)) (record { session = new; submitted = submitted })) (sym c.acknowledge.ensures.same)
    (given.0, refl, given.1))
