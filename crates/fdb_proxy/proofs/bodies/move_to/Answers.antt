use Rattle.std.proofs.Common.{◌∙◌, ap, ◌<◌, List, [], ◌∷◌, ◌++◌, length, rules}
use Rattle.std.specs.Prelude.{slice_set}
use Rattle.fdb_log.specs.declared.message.Tagged.{Tagged}
use Rattle.fdb_log.proofs.Exports.{read-at}
use Rattle.fdb_proxy.proofs.bodies.move_to.Goals as goal

pub returns : goal.returns
returns c =
    let old = c.args.bodies.now.items in
    let log = c.args.log in
    let within : log < length old = search rules in
    ap (slice_set old log)
    (c.in_ok-push.ensures.ok
    ∙ ap (λ (front : List Tagged). front ++ c.args.sent ∷ [])
    (c.index_mut-body.ensures.value ∙ read-at old log c.index_mut-body.result.now within))
