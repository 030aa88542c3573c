use Rattle.std.proofs.Common.{◌≡◌, ◌&&◌, ◌||◌, ℕ, Bool}
use Rattle.std.specs.Slice.Iter.{iter_rest}
use Rattle.fdb_keys.specs.Points.{Point}
use Rattle.fdb_keys.specs.Ranges.{in_set}
use Rattle.fdb_owners.specs.Parts.{AreRising, ArePartsOf, owned_from}
use Rattle.fdb_owners.specs.Pieces.{IsPieces, history_at}
use Rattle.fdb_owners.proofs.spreading.spread.Given as goal

-- with what is left too, the parts hold all
abbrev pub invariant-loop-range : goal.invariant-loop-range
invariant-loop-range l =
    record {
      rising : AreRising l.parts.items;
      so_far : (resolvers last : ℕ) → IsPieces resolvers last l.pieces
          → (held : ℕ → Point → Bool) × ArePartsOf resolvers held l.parts.items
          × ((i : ℕ) (x : Point)
          → (held i x || in_set (iter_rest l.range-iterator) x
          && owned_from (history_at l.pieces x) i l.span.since l.span.through)
          ≡ (in_set l.set x && owned_from (history_at l.pieces x) i l.span.since l.span.through));
    }
