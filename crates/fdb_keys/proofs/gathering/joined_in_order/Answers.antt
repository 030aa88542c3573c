use Rattle.std.proofs.Common.{◌≡◌, ◌∙◌, sym, ap, ap₂, subst, ◌++◌, ◌∷◌, [], List, true, false, rules}
use Rattle.std.proofs.lemmas.List.{append_assoc}
use Rattle.fdb_keys.specs.Gathering.{is_in_order}
use Rattle.fdb_keys.specs.Insertion.{inserted, joined_range}
use Rattle.fdb_keys.specs.Points.{point_lt}
use Rattle.fdb_keys.specs.Ranges.{Range, in_set, is_apart}
use Rattle.fdb_keys.proofs.InsertionLemmas.{in_inserted}
use Rattle.fdb_keys.proofs.GatheringLemmas.{inserted-next, inserted-extended, order-next, order-extended, apart-order}
use Rattle.fdb_keys.proofs.gathering.joined_in_order.Goals as goal

pub loop-range-preserved-in-Continue-branch-2 : goal.loop-range-preserved-in-Continue-branch-2
loop-range-preserved-in-Continue-branch-2 c =
    let joined = c.loop-range.joined.items in
    let last = c.loop-range.last in
    let range = c.in-Some-range.range in
    let rest = c.next-in-loop-range.new.self.rest.items in
    let left : c.loop-range.range-iterator.rest.items ≡ range ∷ rest = search rules in
    let order : is_in_order (last ∷ range ∷ rest) ≡ true =
    subst (λ (l : List Range). is_in_order (last ∷ l) ≡ true) left c.loop-range.invariant.order in
    let after : point_lt last.end range.begin ≡ true = search rules in
    let pushed : c.push.new.self.items ≡ joined ++ last ∷ [] = search rules in
    record {
      order = ap (λ (r : Range). is_in_order (r ∷ rest)) c.replace.ensures.after ∙ order-next last range rest order;
      list =
          ap₂ (λ (l : List Range) (r : Range). l ++ inserted r rest) pushed c.replace.ensures.after
          ∙ append_assoc joined (last ∷ []) (inserted range rest)
          ∙ ap (λ (l : List Range). joined ++ l) (sym (inserted-next last range rest order after))
          ∙ ap (λ (l : List Range). joined ++ inserted last l) (sym left)
          ∙ c.loop-range.invariant.list;
    }

pub loop-range-preserved : goal.loop-range-preserved
loop-range-preserved c =
    let joined = c.loop-range.joined.items in
    let last = c.loop-range.last in
    let range = c.in-Some-range.range in
    let rest = c.next-in-loop-range.new.self.rest.items in
    let left : c.loop-range.range-iterator.rest.items ≡ range ∷ rest = search rules in
    let order : is_in_order (last ∷ range ∷ rest) ≡ true =
    subst (λ (l : List Range). is_in_order (last ∷ l) ≡ true) left c.loop-range.invariant.order in
    let reached : point_lt last.end range.begin ≡ false = search rules in
    let one : c.extended-last.result ≡ joined_range last range = search rules in
    record {
      order = ap (λ (r : Range). is_in_order (r ∷ rest)) one ∙ order-extended last range rest order;
      list =
          ap (λ (r : Range). joined ++ inserted r rest) one
          ∙ ap (λ (l : List Range). joined ++ l) (sym (inserted-extended last range rest order reached))
          ∙ ap (λ (l : List Range). joined ++ inserted last l) (sym left)
          ∙ c.loop-range.invariant.list;
    }

pub returns-clause-apart : goal.returns-clause-apart
unfolding inserted
returns-clause-apart c =
    let first = c.in-Some.last in
    let others = c.into_iter-range-iterator.result.rest.items in
    let none : c.loop-range.range-iterator.rest.items ≡ [] = search rules in
    let pushed : c.push-2.new.self.items ≡ c.loop-range.joined.items ++ c.loop-range.last ∷ [] = search rules in
    let all : c.args.ranges.items ≡ first ∷ others = search rules in
    ap is_apart
    (pushed
    ∙ ap (λ (l : List Range). c.loop-range.joined.items ++ inserted c.loop-range.last l) (sym none)
    ∙ c.loop-range.invariant.list)
    ∙ apart-order first others (subst (λ (l : List Range). is_in_order l ≡ true) all c.requires)

pub returns-clause-points : goal.returns-clause-points
unfolding inserted
returns-clause-points c x =
    let first = c.in-Some.last in
    let others = c.into_iter-range-iterator.result.rest.items in
    let none : c.loop-range.range-iterator.rest.items ≡ [] = search rules in
    let pushed : c.push-2.new.self.items ≡ c.loop-range.joined.items ++ c.loop-range.last ∷ [] = search rules in
    let all : c.args.ranges.items ≡ first ∷ others = search rules in
    ap (λ (l : List Range). in_set l x)
    (pushed
    ∙ ap (λ (l : List Range). c.loop-range.joined.items ++ inserted c.loop-range.last l) (sym none)
    ∙ c.loop-range.invariant.list)
    ∙ in_inserted first others x
    ∙ ap (λ (l : List Range). in_set l x) (sym all)
