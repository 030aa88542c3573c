use Rattle.std.proofs.Common.{◌∙◌, sym, ap, ap₂, ℕ, [], Some}
use Rattle.std.specs.FinMap.{get, insert}
use Rattle.fdb_machine.specs.machine.Sessions.{Session, Sessions, Open}
use Rattle.fdb_client.specs.declared.program.Transcript.{Transcript}
use Rattle.fdb_txn.proofs.Exports.{get-pairs, one_put}
use Rattle.fdb_machine.proofs.Exports.{anyhow}
use Rattle.fdb_core.proofs.roles.client.sessions.Sessions.begin.Goals as goal

pub returns-clause-ok : goal.returns-clause-ok
returns-clause-ok c =
    one_put c.self.inside.by_number.entries c.insert.new.self.entries c.args.session c.new-next.result
    c.in_ok-insert.ensures.updates.0
    ∙ ap₂ (λ (sessions : Sessions) (session : Session). insert sessions c.args.session session) c.self.view_is
    (c.new-next.ensures
    ∙ ap (λ (txn : Transcript). record { last_number = Some c.next_number-number.result; state = Open txn })
    c.begin-txn.ensures
    ∙ ap (λ (number : ℕ). record {
      last_number = Some number;
      state = Open (record {
        id = record { session = c.args.session; number = number };
        read_version = c.args.read_version;
        ops = [];
      });
    }) c.next_number-number.ensures)

-- memory is lacking only for one that has no entry
pub returns-in_err-insert-clause-first : goal.returns-in_err-insert-clause-first
returns-in_err-insert-clause-first c = anyhow c.from_residual.result _
    (sym (ap (λ (sessions : Sessions). get sessions c.args.session) c.self.view_is)
    ∙ get-pairs c.self.inside.by_number.entries c.args.session ∙ c.in_err-insert.ensures.absent)
