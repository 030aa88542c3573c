use Rattle.std.proofs.Common.{◌∙◌, sym, ap, subst, ℕ, List, drop}
use Rattle.fdb_txn.specs.declared.tag_msg.TagMsg.{TagMsg}
use Rattle.fdb_log.specs.Messages.{above}
use Rattle.fdb_log.specs.Peeks.{RiseAfter}
use Rattle.fdb_log.proofs.NextLemmas.{above-from_first}
use Rattle.fdb_log.proofs.queue.Queue.pop_through.Goals as goal

pub returns : goal.returns
returns c low rising =
    let here : RiseAfter low c.self.inside.messages.items =
    subst (λ (messages : List TagMsg). RiseAfter low messages) (sym c.self.view_is) rising in
    c.drop_first.ensures
    ∙ ap (λ (n : ℕ). drop n c.self.inside.messages.items) (c.count_through-count.ensures.count low here)
    ∙ above-from_first low c.args.version c.self.inside.messages.items here
    ∙ ap (above c.args.version) c.self.view_is
