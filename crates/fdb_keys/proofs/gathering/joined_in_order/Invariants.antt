use Rattle.std.proofs.Common.{◌≡◌, ◌∷◌, ◌++◌, true}
use Rattle.fdb_keys.specs.Gathering.{is_in_order}
use Rattle.fdb_keys.specs.Insertion.{inserted}
use Rattle.fdb_keys.proofs.gathering.joined_in_order.Given as goal

abbrev pub invariant-loop-range : goal.invariant-loop-range
invariant-loop-range l = record {
  order : is_in_order (l.last ∷ l.range-iterator.rest.items) ≡ true;
  list : l.joined.items ++ inserted l.last l.range-iterator.rest.items
      ≡ inserted l.initial.last l.initial.range-iterator.rest.items;
}
