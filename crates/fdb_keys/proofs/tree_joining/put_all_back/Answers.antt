use Rattle.std.proofs.Common.{◌∙◌, sym, ap}
use Rattle.fdb_keys.specs.Joining.{all_put_back}
use Rattle.fdb_keys.proofs.PutBackLemmas.{back_with_last}
use Rattle.fdb_keys.proofs.tree_joining.put_all_back.Goals as goal

pub loop-begin-preserved : goal.loop-begin-preserved
loop-begin-preserved c =
    let left = c.pop.new.self.items in
    let entries = c.loop-begin.ranges.entries in
    ap (all_put_back left) c.put_back.ensures
    ∙ sym (back_with_last left (c.in-Some.begin, c.in-Some.before) entries)
    ∙ ap (λ held. all_put_back held entries) (sym c.in-Some.ensures.items)
    ∙ c.loop-begin.invariant
