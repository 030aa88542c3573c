use Rattle.std.proofs.Common.{◌≡◌, ◌∙◌, sym, ap, subst, ◌<◌, ℕ, suc, ◌+◌, Vec, rules, List, [], ◌∷◌, ◌++◌, length, take}
use Rattle.std.proofs.Common.{drop, arith}
use Rattle.std.specs.List.{AllByRecursion}
use Rattle.std.specs.declared.alloc.Global.{Global}
use Rattle.std.proofs.lemmas.List.{length-take-le, take_at, take_more}
use Rattle.fdb_txn.specs.book.Transactions.{Transaction}
use Rattle.fdb_txn.specs.book.Book.{head_at, placed}
use Rattle.fdb_resolver.specs.declared.part.Item.{Item}
use Rattle.fdb_owners.specs.Ownership.{resolvers_of}
use Rattle.fdb_proxy.specs.Held.{IsBelow, items_at}
use Rattle.fdb_proxy.specs.Parting.{AreItems}
use Rattle.fdb_proxy.proofs.PartingLemmas.{items-next}
use Rattle.fdb_proxy.proofs.parting.items_of.Goals as goal

pub loop-place-preserved : goal.loop-place-preserved
loop-place-preserved c =
    let splits = c.args.owners.now.splits in
    let version = c.args.version in
    let place = c.loop-place.place in
    let txn = c.index-batch-place.result in
    let batch = c.args.batch.now in
    let now = c.hold_place.new.lists in
    let before = take place batch in
    let inside : place < length batch = search rules in
    let old : c.as_mut_slice.result.now ≡ c.loop-place.lists.items = c.as_mut_slice.ensures.value in
    let kept : length now ≡ length c.loop-place.lists.items =
    c.in_ok-hold_place.ensures.count ∙ ap (λ (lists : List (Vec Item Global)). length lists) old in
    let whole : take c.loop-place.lists.len (now ++ drop (length now) c.loop-place.lists.items) ≡ now =
    take_at now _ c.loop-place.lists.len (search rules) in
    let given = λ (i : ℕ) (within : i < resolvers_of c.args.owners.now). c.in_ok-hold_place.ensures.answers i
    (let count = ap (λ (lists : List (Vec Item Global)). length lists) old in
    let all = c.loop-place.invariant.count in omega (arith, within, count, all))
    (subst (λ (lists : List (Vec Item Global)). AllByRecursion (IsBelow place) (items_at lists i)) (sym old)
    (c.loop-place.invariant.below i within)) in
    let count : length before ≡ place = length-take-le place batch (omega (arith, inside)) in
    let longer : take (place + 1) batch ≡ before ++ txn ∷ [] = take_more batch place txn inside
    ∙ ap (λ (t : Transaction). before ++ t ∷ []) (sym c.index-batch-place.is) in
    let next : suc place ≡ place + 1 = omega arith in
    record {
      count = ap (λ (lists : List (Vec Item Global)). length lists) whole ∙ kept ∙ c.loop-place.invariant.count;
      below = λ i within. subst (λ (lists : List (Vec Item Global)).
          AllByRecursion (IsBelow (place + 1)) (items_at lists i)) (sym whole)
          (subst (λ (n : ℕ). AllByRecursion (IsBelow n) (items_at now i)) next (given i within).2);
      are = λ i within moves agrees.
          let head = head_at version c.args.horizon moves in
          subst (λ (lists : List (Vec Item Global)).
          AreItems splits head i 0 (take (place + 1) batch) (items_at lists i)) (sym whole)
          (subst (λ (all : List Transaction). AreItems splits head i 0 all (items_at now i)) (sym longer)
          (subst (AreItems splits head i 0 (before ++ txn ∷ [])) (sym (given i within).1)
          (items-next splits head i before txn place (items_at c.as_mut_slice.result.now i) (given i within).0
          count
          (subst (λ (lists : List (Vec Item Global)). AreItems splits head i 0 before (items_at lists i))
          (sym old) (c.loop-place.invariant.are i within moves agrees))
          ((given i within).3 splits (placed head place txn)
          (c.in_ok-spread.ensures.spread moves place agrees)))));
    }
