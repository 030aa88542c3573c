use Rattle.std.proofs.Common.{◌≡◌, ◌∙◌, sym, ap, subst, List}
use Rattle.fdb_resolver.specs.declared.part.Part.{Part}
use Rattle.fdb_proxy.specs.CommitProxies.{position_of, without_verdicts}
use Rattle.fdb_proxy.specs.Parting.{AreParts}
use Rattle.fdb_proxy.specs.declared.resolving.Resolving.{Resolving}
use Rattle.fdb_proxy.proofs.ticketing.resolve.Goals as goal

pub returns-clause-answers : goal.returns-clause-answers
returns-clause-answers c =
    let parts : c.in_ok-parts.parts ≡ c.in_ok-resolving.resolving.parts =
    ap (λ (batch : Resolving). batch.parts) (sym c.in_ok-resolving.ensures) in
    record {
      rest = c.in_ok-resolving.ensures ∙ ap (without_verdicts (position_of c.args.ticket.now)) parts;
      parts = λ moves agrees. subst
          (λ (some : List Part). AreParts c.expire.new.self.splits moves (position_of c.args.ticket.now)
          c.args.batch.now some) parts (c.in_ok-parts.ensures moves agrees);
    }
