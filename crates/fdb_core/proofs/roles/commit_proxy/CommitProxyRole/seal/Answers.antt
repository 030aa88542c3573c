use Rattle.std.proofs.Common.{◌≡◌, ◌∙◌, ap, take, drop}
use Rattle.fdb_core.proofs.refinement.commit_proxy.StateSealing.{learns, seals-by, seals-unrefused}
use Rattle.fdb_core.proofs.roles.commit_proxy.CommitProxyRole.seal.Goals as goal

pub returns-in-Ok-clause-answers : goal.returns-in-Ok-clause-answers
returns-in-Ok-clause-answers c config book known ok idle next entries rise =
    let role = c.args.self.now in
    let all : c.into_vec-first.result.items ≡ role.waiting = c.into_vec-first.ensures ∙ c.replace.ensures.value in
    seals-by config book known role ok idle c.args.ticket.now next entries rise _ c.in-Ok.batch c.in-Ok.parts
    c.in-Ok.ensures.state (λ i. record role {
      state = c.seal_first.new.state;
      waiting = (c.from_vec.ensures ∙ c.in-Ok.ensures.rest ∙ ap (drop 4096) all) i;
      in_flight = (c.from_vec-in-Ok.ensures ∙ c.in-Ok.ensures.first ∙ ap (take 4096) all) i;
      entry = c.args.ticket.now.index;
    })

pub returns-in-Err-clause-answers : goal.returns-in-Err-clause-answers
returns-in-Err-clause-answers c config book known ok idle next entries rise =
    c.in-Err.ensures.lacks
    (seals-unrefused config book known c.args.self.now ok idle c.args.ticket.now next entries rise)
    (learns config book known c.args.self.now ok idle c.args.ticket.now next entries rise)
