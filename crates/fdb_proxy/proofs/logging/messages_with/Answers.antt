use Rattle.std.proofs.Common.{◌≡◌, ◌∙◌, sym, ap, ap₂, ◌<◌, List, [], ◌∷◌, ◌++◌, length, filter, arith, rules}
use Rattle.std.proofs.lemmas.Bool.{ne_eqb}
use Rattle.std.proofs.lemmas.List.{length-set}
use Rattle.std.proofs.lemmas.List.FromFn.{map-range_with_len_more}
use Rattle.fdb_log.specs.declared.message.LogMsg.{LogMsg}
use Rattle.fdb_log.specs.declared.message.Tagged.{Tagged}
use Rattle.fdb_log.proofs.Exports.{read-at, set-other}
use Rattle.fdb_storage.specs.LogMessages.{is_for_log}
use Rattle.fdb_proxy.specs.Logging.{message_with}
use Rattle.fdb_proxy.proofs.logging.messages_with.Goals as goal

pub loop-log-preserved : goal.loop-log-preserved
loop-log-preserved c =
    let log = c.loop-log.log in
    let now = c.loop-log.bodies.items in
    let position = c.args.position in
    let sent = c.args.body in
    let within : log < length now = search rules in
    let body : c.replace-body.result ≡ filter (is_for_log c.args.logs log) sent =
    c.replace-body.ensures.value
    ∙ c.index_mut.ensures.value
    ∙ read-at now log c.index_mut.result.now within
    ∙ c.loop-log.invariant.left log (omega arith) (omega arith) in
    record {
      long = length-set now log c.replace-body.new.dest ∙ c.loop-log.invariant.long;
      left = λ other from below.
          set-other now log other c.replace-body.new.dest (ne_eqb other log (λ same. absurd (omega arith)))
          ∙ c.loop-log.invariant.left other (omega arith) below;
      messages =
          c.in_ok-push.ensures.ok
          ∙ ap₂ (λ (before : List LogMsg) (one : LogMsg). before ++ one ∷ []) c.loop-log.invariant.messages
          (c.in_ok-message_to.ensures
          ∙ ap (λ (list : List Tagged). record {
            log = log;
            index = position.index;
            version = position.version;
            prev = position.prev;
            body = list;
          }) body)
          ∙ sym (map-range_with_len_more (message_with c.args.logs position sent) 0 log log (omega arith));
    }
