use Rattle.std.proofs.Common.{subst}
use Rattle.std.specs.Prelude.{Ok}
use Rattle.fdb_sections.specs.declared.client.Asked.{Asked}
use Rattle.fdb_sections.specs.Clients.{Asks}
use Rattle.fdb_sections.specs.Commits.{CommitAnswers}
use Rattle.fdb_sections.specs.Sessions.{Session}
use Rattle.fdb_sections.proofs.Exports.{settled}
use Rattle.fdb_runtime.proofs.session.Session.commit.Goals as goal

pub returns-in-Ok-Acknowledged : goal.returns-in-Ok-Acknowledged
returns-in-Ok-Acknowledged g c =
    let config = g.B.DatabaseName.config in
    let given = c.in-Ok-Acknowledged in
    let new = c.commit.new.self in
    let asks =
    subst (λ (it : Asked g.row.B.Denot). Asks config c.self.inside.client (Ok it) new) given.field-0-is given.ensures in
    subst (λ (it : Session). CommitAnswers config it (Ok given.receipt) new.session) c.self.view_is (asks.0, asks.2)

pub returns-in-Ok-ToCommit : goal.returns-in-Ok-ToCommit
returns-in-Ok-ToCommit g c =
    let config = g.B.DatabaseName.config in
    let given = c.in-Ok-ToCommit in
    let middle = c.commit.new.self in
    let asks =
    subst (λ (it : Asked g.row.B.Denot). Asks config c.self.inside.client (Ok it) middle) given.field-0-is
    given.ensures in
    subst (λ (it : Session). CommitAnswers config it c.settle.result c.settle.new.self.session) c.self.view_is
    (settled g.row.B.Denot config c.self.inside.client middle c.settle.new.self given.asked c.settle.result asks
    c.settle.ensures.ends).1
