use Rattle.std.proofs.Common.{◌≡◌, ◌∙◌, sym, ap, subst, refl, ◌<◌, List, [], ◌∷◌, ◌++◌, append_assoc, append-nil}
use Rattle.std.proofs.Common.{length}
use Rattle.std.proofs.Common.{true, rules, arith}
use Rattle.std.specs.Vec.Iter.{into_iter_items}
use Rattle.std.proofs.lemmas.List.{length-set, nil_from_length}
use Rattle.std.proofs.lemmas.List.Elements.{All-head, All-tail}
use Rattle.fdb_txn.specs.rules.Admission.{has_points}
use Rattle.fdb_owners.specs.declared.parts.Owned.{Owned}
use Rattle.fdb_owners.specs.Spreads.{AreOwned}
use Rattle.fdb_proxy.specs.Held.{EndsWithItem, with_parts, items_at}
use Rattle.fdb_proxy.proofs.HeldLemmas.{held-next, items_at-is}
use Rattle.fdb_proxy.proofs.parting.hold_all.Goals as goal

pub loop-part-preserved : goal.loop-part-preserved
loop-part-preserved c =
    let part = c.in-Some.part in
    let before = c.loop-part.yielded in
    let rest = into_iter_items c.next.new.self in
    let step : into_iter_items c.loop-part.part-iterator ≡ part ∷ rest = c.in-Some.ensures.steps.0 in
    let resolvers = length c.args.lists.now in
    let all : AreOwned resolvers (part ∷ rest) = subst (AreOwned resolvers) step c.loop-part.invariant.owned in
    let owned = All-head (λ (one : Owned). (one.resolver < resolvers) × (has_points one.ranges ≡ true)) part rest all in
    let within : part.resolver < length c.loop-part.lists =
    (let exists = owned.0 in let count = c.loop-part.invariant.count in omega (arith, exists, count)) in
    let same = items_at-is c.loop-part.lists part.resolver c.index-lists-part.result within in
    record {
      can_next = tt;
      is_finite = tt;
      left = append_assoc before (part ∷ []) rest
          ∙ ap (λ (parts : List Owned). before ++ parts) (sym step)
          ∙ c.loop-part.invariant.left;
      owned = All-tail (λ (one : Owned). (one.resolver < resolvers) × (has_points one.ranges ≡ true)) part rest all;
      count = length-set c.loop-part.lists part.resolver c.hold.new.items ∙ c.loop-part.invariant.count;
      held = λ i held earlier few below ends. held-next c.args.place c.args.reading c.args.kind before _ part i held
          earlier c.loop-part.lists _ c.hold.new.items refl within refl
          (c.loop-part.invariant.held i held earlier few below ends)
          (λ one its. c.in_ok-hold.ensures one earlier below
          (subst (EndsWithItem c.args.place c.args.reading one earlier) same its));
    }

pub returns-clause-answers : goal.returns-clause-answers
returns-clause-answers c i held before within below ends =
    let given = c.loop-part.yielded in
    let none : into_iter_items c.loop-part.part-iterator ≡ [] =
    nil_from_length (into_iter_items c.loop-part.part-iterator) (search (rules, c.in-None.ensures.steps.0)) in
    let all : given ≡ c.args.parts =
    sym (append-nil given)
    ∙ ap (λ (rest : List Owned). given ++ rest) (sym none)
    ∙ c.loop-part.invariant.left in
    subst (λ (parts : List Owned).
    EndsWithItem c.args.place c.args.reading (with_parts c.args.kind parts i held) before
    (items_at c.loop-part.lists i)) all
    (c.loop-part.invariant.held i held before within below ends)
