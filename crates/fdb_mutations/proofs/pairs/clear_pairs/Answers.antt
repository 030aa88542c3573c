use Rattle.std.proofs.Common.{◌≡◌, ◌∙◌, sym, not, [], List, ℕ, rules}
use Rattle.std.proofs.lemmas.Map.Made.{filter_same_pairs}
use Rattle.fdb_keys.specs.Points.{Point}
use Rattle.fdb_keys.specs.Ranges.{in_range}
use Rattle.fdb_mutations.specs.Pairs.{pairs_within}
use Rattle.fdb_mutations.proofs.TakenLemmas.{all-beside}
use Rattle.fdb_mutations.proofs.pairs.clear_pairs.Goals as goal

pub returns-then-is_err : goal.returns-then-is_err
returns-then-is_err c =
    filter_same_pairs _ (λ (pair : Point × List ℕ). not (in_range c.args.range.now pair.0)) _
    (λ key value kept after f' call. search rules) _ _ c.retain.ensures.filtered
    ∙ c.take_each.ensures.others

pub returns-else-is_err : goal.returns-else-is_err
returns-else-is_err c =
    let none : pairs_within c.args.range.now c.take_each.new.pairs.entries ≡ [] = search rules in
    sym (all-beside c.args.range.now c.take_each.new.pairs.entries none) ∙ c.take_each.ensures.others
