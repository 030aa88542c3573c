use Rattle.std.proofs.Common.{Result, Ok, Err, IfOk, OnOk, ℕ, subst}
use Rattle.fdb_keys.specs.declared.refusal.Refusal.{Refusal}
use Rattle.fdb_book.specs.Fronts.{IsPrefix}
use Rattle.fdb_sections.specs.Sessions.{Session}
use Rattle.fdb_runtime.proofs.session.Session.begin.Goals as goal

-- what is so where a call succeeds is so of whatever it gives
given-so : {T : Type 0} (result : Result T Refusal) (P : Type 0) → OnOk result P → IfOk result (λ (_ : T). P)
given-so (Ok value) P holds = holds
given-so (Err why) P holds = tt

pub returns-clause-begins : goal.returns-clause-begins
returns-clause-begins g c =
    subst (λ (old : Session). IfOk c.begin.result (λ (version : ℕ). IsPrefix old.front c.begin.new.self.session.front))
    c.self.view_is
    (given-so c.begin.result (IsPrefix c.self.inside.client.session.front c.begin.new.self.session.front)
    c.begin.ensures.begins)
