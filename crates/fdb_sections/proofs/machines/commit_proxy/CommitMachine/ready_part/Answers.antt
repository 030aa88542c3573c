use Rattle.std.proofs.Common.{◌≡◌, ◌++◌, [], subst}
use Rattle.std.specs.Prelude.{IfNone}
use Rattle.std.specs.Option.{option_to_list}
use Rattle.fdb_sections.specs.CommitMachines.{CommitMachine}
use Rattle.fdb_sections.proofs.machines.commit_proxy.CommitMachine.ready_part.Goals as goal

pub returns-clause-first : goal.returns-clause-first
returns-clause-first g c =
    subst (λ (it : CommitMachine g.row.B.Denot g.row.W.Denot).
    it.parts ≡ option_to_list c.take_first.result ++ c.take_first.new.items.items) c.self.view_is
    c.take_first.ensures.first

pub returns-clause-none : goal.returns-clause-none
returns-clause-none g c =
    subst (λ (it : CommitMachine g.row.B.Denot g.row.W.Denot). IfNone c.take_first.result (it.parts ≡ []))
    c.self.view_is c.take_first.ensures.none
