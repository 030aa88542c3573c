use Rattle.std.proofs.Common.{OnOk, subst}
use Rattle.fdb_book.specs.Fronts.{IsPrefix}
use Rattle.fdb_sections.specs.Sessions.{Session}
use Rattle.fdb_runtime.proofs.session.Session.learn.Goals as goal

pub returns-clause-begins : goal.returns-clause-begins
returns-clause-begins g c =
    subst (λ (old : Session). OnOk c.learn.result (IsPrefix old.front c.learn.new.self.session.front)) c.self.view_is
    c.learn.ensures.begins
