use Rattle.std.proofs.Common.{◌≡◌, ◌∙◌, sym, ap, subst, ◌+◌, ◌++◌, ◌∷◌, take, drop, true, List, rules}
use Rattle.std.specs.List.{fold, prefix_len}
use Rattle.fdb_keys.specs.Insertion.{joined_range}
use Rattle.fdb_keys.specs.Ranges.{Range, is_apart}
use Rattle.fdb_keys.proofs.PlaceLemmas.{ends_before, begins_by, is_apart-drop, inserted_in_place}
use Rattle.fdb_keys.proofs.insertion.join.Goals as goal

pub count_reached-count-requires : goal.count_reached-count-requires
count_reached-count-requires c =
    subst (λ (ranges : List Range). is_apart ranges ≡ true) (sym c.split_at.ensures.back)
    (is_apart-drop c.count_before-start.result c.args.ranges.now c.requires)

pub returns-clause-list : goal.returns-clause-list
returns-clause-list c =
    let rest : c.split_at.result.1.now ≡ drop c.count_before-start.result c.args.ranges.now = c.split_at.ensures.back in
    let starts : c.count_before-start.result ≡ prefix_len (ends_before c.args.range.now.begin) c.args.ranges.now =
    search rules in
    let counts : c.count_reached-count.result ≡ prefix_len (begins_by c.args.range.now.end)
    (drop c.count_before-start.result c.args.ranges.now) = search rules in
    let joined : c.in_ok-range.range ≡ fold joined_range c.args.range.now
    (take c.count_reached-count.result (drop c.count_before-start.result c.args.ranges.now)) = search rules in
    ap (λ (range : Range). take c.count_before-start.result c.args.ranges.now ++ range ∷ drop
    (c.count_before-start.result + c.count_reached-count.result) c.args.ranges.now) joined
    ∙ inserted_in_place c.args.range.now c.args.ranges.now c.count_before-start.result c.count_reached-count.result
    c.requires starts counts
