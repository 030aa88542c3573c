use Rattle.std.proofs.Common.{◌≡◌, ◌∙◌, sym, ap, subst, ◌+◌, ◌<◌, [], ◌∷◌, ◌++◌, length, rules}
use Rattle.std.specs.Prelude.{slice_set}
use Rattle.std.proofs.lemmas.List.{length-set}
use Rattle.fdb_log.specs.declared.message.Tagged.{Tagged}
use Rattle.fdb_log.proofs.Exports.{read-at}
use Rattle.fdb_proxy.proofs.BodyLemmas.{AreGivenBelow, given-left, given-more}
use Rattle.fdb_proxy.proofs.bodies.copy_out.Goals as goal
use Rattle.fdb_proxy.proofs.bodies.copy_out.Goals.{then-is_for_log+in_ok-copy+in_ok-push, else-is_for_log}

pub loop-log-preserved : goal.loop-log-preserved
loop-log-preserved c =
    let logs = c.args.logs in
    let sent = c.args.sent.now in
    let log = c.loop-log.log in
    let old = c.args.bodies.now.items in
    let now = c.loop-log.bodies.items in
    let long : length now ≡ logs = c.loop-log.invariant.long in
    let given = c.loop-log.invariant.given in
    elim c.if-is_for_log.branch [
      | then-is_for_log+in_ok-copy+in_ok-push w ↦
          let body = w.index_mut-body.result.now in
          let within : log < length now = search rules in
          let same : w.in_ok-copy.field-0 ≡ sent = search rules in
          let is : c.if-is_for_log.bodies.items ≡ slice_set now log (body ++ sent ∷ []) =
          ap (λ vec. vec.items) w.bodies-is
          ∙ ap (slice_set now log)
          (w.in_ok-push.ensures.ok ∙ ap (λ (one : Tagged). body ++ one ∷ []) same) in
          record {
            long = ap length is ∙ length-set now log (body ++ sent ∷ []) ∙ long;
            given =
                subst (AreGivenBelow logs (log + 1) sent old) (sym is)
                (given-more logs log sent old now given body (sym w.if-is_for_log.ensures) within
                (w.index_mut-body.ensures.value ∙ read-at now log body within));
          }
      | else-is_for_log w ↦
          record {
            long = ap (λ vec. length vec.items) w.bodies-is ∙ long;
            given =
                subst (λ vec. AreGivenBelow logs (log + 1) sent old vec.items) (sym w.bodies-is)
                (given-left logs log sent old now given (sym w.if-is_for_log.ensures));
          }
    ]
