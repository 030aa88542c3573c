use Rattle.std.proofs.Common.{◌≡◌, ◌+◌, ℕ, length, drop, slice_get, Some}
use Rattle.std.specs.Vec.Iter.{into_iter_items}
use Rattle.fdb_resolver.specs.declared.part.Part.{Part}
use Rattle.fdb_proxy.specs.Held.{items_at, IsPartWith}
use Rattle.fdb_proxy.proofs.parting.parts_with.Given as goal

abbrev pub invariant-loop-items : goal.invariant-loop-items
invariant-loop-items l =
    record {
      can_next : (goal.iterator-loop-items).can_next l.items-iterator;
      is_finite : (goal.iterator-loop-items).is_finite l.items-iterator;
      count : length l.parts + length (into_iter_items l.items-iterator) ≡ length l.fn.lists.items;
      left : into_iter_items l.items-iterator ≡ drop (length l.parts) l.fn.lists.items;
      are : (i : ℕ) (part : Part) → slice_get l.parts i ≡ Some part
          → IsPartWith l.position i (items_at l.fn.lists.items i) part;
    }
