use Rattle.std.proofs.Common.{◌≡◌, ◌∙◌, sym, ap, refl, ℕ, suc, ◌∷◌, Vec, List, length, length-append, drop, arith}
use Rattle.std.specs.Vec.Iter.{into_iter_items}
use Rattle.std.specs.declared.alloc.Global.{Global}
use Rattle.fdb_resolver.specs.declared.part.Item.{Item}
use Rattle.fdb_resolver.specs.declared.part.Part.{Part}
use Rattle.fdb_proxy.specs.Held.{IsPartWith, items_at}
use Rattle.fdb_proxy.proofs.HeldLemmas.{next-left}
use Rattle.fdb_proxy.proofs.PartingLemmas.{parts-next}
use Rattle.fdb_proxy.proofs.parting.parts_with.Goals as goal

pub loop-items-preserved : goal.loop-items-preserved
loop-items-preserved c =
    let lists = c.args.lists.items in
    let old = c.loop-items.parts in
    let rest = into_iter_items c.next.new.self in
    let step : into_iter_items c.loop-items.items-iterator ≡ c.in-Some.items ∷ rest = c.in-Some.ensures.steps.0 in
    let next = next-left lists (length old) c.in-Some.items rest (sym c.loop-items.invariant.left ∙ step) in
    let longer : length c.push.new.self ≡ suc (length old) =
    (let added = simp length-append at (ap (λ (parts : List Part). length parts) c.in_ok-push.ensures.ok) in
    omega (arith, added)) in
    record {
      can_next = tt;
      is_finite = tt;
      count = (let was = c.loop-items.invariant.count in
          let shorter = ap (λ (all : List (Vec Item Global)). length all) step in omega (arith, was, shorter, longer));
      left = next.1 ∙ ap (λ (n : ℕ). drop n lists) (sym longer);
      are = parts-next (λ i part. IsPartWith c.args.position i (items_at lists i) part) old c.push.new.self
          (length old) _ c.in_ok-push.ensures.ok refl c.loop-items.invariant.are
          record {
            resolver = c.len-resolver.ensures;
            index = refl;
            version = refl;
            prev = refl;
            horizon = refl;
            items = c.in_ok-new.ensures.ok ∙ c.from_vec.ensures ∙ sym next.2;
          };
    }
