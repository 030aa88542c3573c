use Rattle.std.proofs.Common.{◌∙◌, ap₂, ◌<◌, List, [], ◌∷◌, ◌++◌, length, arith, rules}
use Rattle.fdb_txn.specs.declared.tag_msg.TagMsg.{TagMsg}
use Rattle.fdb_log.proofs.NextLemmas.{copied-more}
use Rattle.fdb_log.proofs.queue.copies_of.Goals as goal

pub loop-index-preserved : goal.loop-index-preserved
loop-index-preserved c =
    let messages = c.args.messages.now.items in
    let within : c.loop-index.index < length messages = omega (arith, c.requires.within) in
    c.in_ok-push.ensures.ok
    ∙ ap₂ (λ (front : List TagMsg) (one : TagMsg). front ++ one ∷ []) c.loop-index.invariant c.in_ok-message_of.ensures
    ∙ copied-more c.args.start c.loop-index.index messages c.index.result.now (omega arith) within (search rules)
