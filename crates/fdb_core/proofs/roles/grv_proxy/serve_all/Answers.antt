use Rattle.std.proofs.Common.{◌∙◌, sym, ap, subst, get_or, rules}
use Rattle.std.proofs.lemmas.List.Sums.{fold_more}
use Rattle.fdb_proxy.specs.Askers.{Asker}
use Rattle.fdb_machine.specs.machine.Sessions.{Sessions, serve}
use Rattle.fdb_machine.specs.machine.Acting.{AreKnown}
use Rattle.fdb_machine.proofs.Exports.{all_known-put}
use Rattle.fdb_core.proofs.roles.grv_proxy.serve_all.Goals as goal

pub loop-session-preserved : goal.loop-session-preserved
loop-session-preserved c =
    let item = get_or c.args.granted.now c.loop-session.session-index (0, 0) in (
      c.in_ok-begin.ensures.ok
          ∙ ap (λ (sessions : Sessions). serve item.1 sessions item.0) c.loop-session.invariant.0
          ∙ sym (fold_more (λ (served : Sessions) (asker : Asker). serve asker.1 served asker.0) c.args.sessions.now
          c.args.granted.now c.loop-session.session-index (0, 0) (search rules)),
      λ known. subst (λ (sessions : Sessions). AreKnown sessions c.args.granted.now) (sym c.in_ok-begin.ensures.ok)
          (all_known-put c.loop-session.sessions _ _ c.args.granted.now (c.loop-session.invariant.1 known)),
    )
