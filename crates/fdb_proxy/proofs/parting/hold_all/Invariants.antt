use Rattle.std.proofs.Common.{◌≡◌, ◌<◌, ℕ, List, ◌++◌, length}
use Rattle.std.specs.List.{AllByRecursion}
use Rattle.std.specs.Vec.Iter.{into_iter_items}
use Rattle.fdb_owners.specs.Spreads.{AreOwned}
use Rattle.fdb_resolver.specs.declared.part.Item.{Item}
use Rattle.fdb_proxy.specs.Held.{Held, with_parts, EndsWithItem, IsBelow, items_at}
use Rattle.fdb_proxy.proofs.parting.hold_all.Given as goal

abbrev pub invariant-loop-part : goal.invariant-loop-part
invariant-loop-part l =
    record {
      can_next : (goal.iterator-loop-part).can_next l.part-iterator;
      is_finite : (goal.iterator-loop-part).is_finite l.part-iterator;
      left : l.yielded ++ into_iter_items l.part-iterator ≡ l.fn.parts;
      owned : AreOwned (length l.fn.lists) (into_iter_items l.part-iterator);
      count : length l.lists ≡ length l.fn.lists;
      held : (i : ℕ) (held : Held) (before : List Item)
          → i < length l.fn.lists → AllByRecursion (IsBelow l.place) before
          → EndsWithItem l.place l.reading held before (items_at l.fn.lists i)
          → EndsWithItem l.place l.reading (with_parts l.kind l.yielded i held) before (items_at l.lists i);
    }
