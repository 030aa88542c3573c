use Rattle.std.proofs.Common.{◌≡◌, ◌∙◌, sym, ap, subst, ℕ, ◌+◌, ◌-◌, List, length, min, take, drop, arith, rules}
use Rattle.std.proofs.lemmas.Result.{IfOk-weaker}
use Rattle.fdb_txn.specs.declared.tag_msg.TagMsg.{TagMsg}
use Rattle.fdb_log.specs.Messages.{above}
use Rattle.fdb_log.specs.Peeks.{RiseAfter}
use Rattle.fdb_log.proofs.NextLemmas.{next-are_given}
use Rattle.fdb_log.proofs.queue.Queue.after.Goals as goal

pub returns : goal.returns
returns c =
    let start = c.count_through-start.result in
    let messages = c.self.inside.messages.items in
    let long : c.len.result ≡ length messages = search rules in
    let count : start + c.min-count.result - start ≡ min c.args.limit (length messages - start) =
    omega arith in
    IfOk-weaker c.copies_of.result _ _
    (λ given copies low rising.
    let here : RiseAfter low messages = subst (λ (list : List TagMsg). RiseAfter low list)
    (sym c.self.view_is) rising in
    copies
    ∙ ap (λ (n : ℕ). take n (drop start messages)) count
    ∙ next-are_given low c.args.version c.args.limit start messages here (c.count_through-start.ensures.count low here)
    ∙ ap (λ (list : List TagMsg). take c.args.limit (above c.args.version list)) c.self.view_is)
    c.copies_of.ensures
