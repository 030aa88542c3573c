use Rattle.std.proofs.Common.{◌≡◌, ◌∙◌, sym, subst, IfOk, List, ℕ}
use Rattle.fdb_keys.proofs.PrefixLemmas.{after-cut_ff, after-cut_last}
use Rattle.fdb_keys.proofs.prefix.after_prefix.Goals as goal

pub returns-then-last : goal.returns-then-last
returns-then-last c =
    let next = after-cut_last c.loop-kept.kept.now c.in-len1-up.len_at_least c.if-last.true in
    subst (λ (after : List ℕ). IfOk c.ending_with.result (λ text. text ≡ after))
    (sym next ∙ c.loop-kept.invariant.1) c.ending_with.ensures

pub loop-kept-preserved : goal.loop-kept-preserved
loop-kept-preserved c =
    let kept = after-cut_ff c.loop-kept.kept.now c.in-len1-up.len_at_least c.if-last.false c.loop-kept.invariant.0 in
    (kept.0, kept.1 ∙ c.loop-kept.invariant.1)
