use Rattle.std.proofs.Common.{◌≡◌, ◌∙◌, sym, ap, List, filter, rules}
use Rattle.std.specs.List.{list_any}
use Rattle.std.proofs.lemmas.Fn.{filter_same, always_returns_same}
use Rattle.std.proofs.lemmas.List.Sorted.{list_any-IsPermutation}
use Rattle.fdb_keys.specs.Points.{point_lt}
use Rattle.fdb_keys.specs.Ranges.{Range, in_range, in_set, is_empty_range}
use Rattle.fdb_keys.proofs.GatheringLemmas.{begins_sooner, order_of_begins, order-sorted, has_point, none-filter}
use Rattle.fdb_keys.proofs.GatheringLemmas.{in_set-filter}
use Rattle.fdb_keys.proofs.gathering.put_in_order.Goals as goal
use Rattle.fdb_keys.proofs.gathering.put_in_order.Goals.{After-sort_unstable_by}

kept : (c : After-sort_unstable_by) → c.retain.new.self.items ≡ filter has_point c.args.ranges.now.items
kept c = filter_same _ has_point _ (λ x b f' k. search rules) _ _ c.retain.ensures.filtered

pub returns-clause-order : goal.returns-clause-order
unfolding point_lt
returns-clause-order c =
    let sorted = c.sort_unstable_by.ensures.sorted begins_sooner order_of_begins
    (always_returns_same _ _ _ (λ a r q k. search rules)) in
    order-sorted c.sort_unstable_by.new.self.items sorted
    (sym (list_any-IsPermutation is_empty_range _ _ c.sort_unstable_by.ensures.permutation)
    ∙ ap (list_any is_empty_range) (kept c)
    ∙ none-filter c.args.ranges.now.items)

pub returns-clause-points : goal.returns-clause-points
returns-clause-points c x =
    sym (list_any-IsPermutation (λ (range : Range). in_range range x) _ _ c.sort_unstable_by.ensures.permutation)
    ∙ ap (λ (ranges : List Range). in_set ranges x) (kept c)
    ∙ in_set-filter c.args.ranges.now.items x
