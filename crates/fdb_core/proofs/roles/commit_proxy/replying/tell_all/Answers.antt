use Rattle.std.proofs.Common.{◌∙◌, sym, ap, subst, take}
use Rattle.std.proofs.lemmas.List.Sums.{fold_more}
use Rattle.fdb_machine.specs.machine.Sessions.{Sessions, tell, tell_all}
use Rattle.fdb_machine.specs.machine.Acting.{HaveActed}
use Rattle.fdb_machine.proofs.Exports.{all_acted-put}
use Rattle.fdb_core.proofs.roles.commit_proxy.replying.tell_all.Goals as goal

pub loop-transcript-preserved : goal.loop-transcript-preserved
loop-transcript-preserved c =
    let transcripts = c.args.transcripts.now in
    let item = c.transcript-item.result in
    let place = c.loop-transcript.transcript-index in (
      c.tell.ensures
          ∙ ap (λ (sessions : Sessions). tell sessions item) c.loop-transcript.invariant.0
          ∙ ap (tell (tell_all (take place transcripts) c.args.sessions.now)) c.transcript-item.is
          ∙ sym (fold_more tell c.args.sessions.now transcripts place item c.loop-transcript-test.true),
      subst (λ (sessions : Sessions). HaveActed sessions transcripts) (sym c.tell.ensures)
          (all_acted-put c.loop-transcript.sessions _ _ transcripts c.loop-transcript.invariant.1),
    )
