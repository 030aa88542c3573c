use Rattle.std.proofs.Common.{◌∙◌, ap, ap₂, ℕ, cond, Option}
use Rattle.std.specs.BTreeMap.{is_at}
use Rattle.std.specs.FinMap.{insert}
use Rattle.std.specs.Ordering.{nat_cmp}
use Rattle.fdb_txn.proofs.Exports.{at_number, one_put}
use Rattle.fdb_machine.specs.machine.Sessions.{Session, Sessions, Asking}
use Rattle.fdb_machine.proofs.Exports.{put_back-same}
use Rattle.fdb_core.proofs.roles.client.sessions.Sessions.ask.Goals as goal

pub returns-in-Ok-clause-answers : goal.returns-in-Ok-clause-answers
returns-in-Ok-clause-answers c = (
  one_put c.self.inside.by_number.entries c.insert.new.self.entries c.args.session c.new-asking.result
      c.in_ok-was.ensures.updates.0
      ∙ ap₂ (λ (sessions : Sessions) (session : Session). insert sessions c.args.session session) c.self.view_is
      (c.new-asking.ensures ∙ ap (λ (last : Option ℕ). record { last_number = last; state = Asking })
      c.last_number.ensures),
  c.in-Ok.ensures.answers,
)

-- one that may not ask is what it was
pub returns-in-Err-clause-err : goal.returns-in-Err-clause-err
returns-in-Err-clause-err c =
    let pairs = c.self.inside.by_number.entries in
    let between = c.insert.new.self.entries in (
      put_back-same pairs between c.put_back.new.by_number.entries c.args.session c.new-asking.result
          c.in_ok-was.ensures.updates.0
          (λ other. c.put_back.ensures other
          ∙ ap (λ (was : Option Session). cond (is_at (nat_cmp c.args.session) other) was (at_number between other))
          c.in_ok-was.ensures.old)
          ∙ c.self.view_is,
      c.in-Err.ensures.err,
    )
