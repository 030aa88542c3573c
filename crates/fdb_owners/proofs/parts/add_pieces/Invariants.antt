use Rattle.std.proofs.Common.{◌≡◌}
use Rattle.fdb_owners.specs.Parts.{AreRising, IsWay, with_pieces}
use Rattle.fdb_owners.proofs.parts.add_pieces.Given as goal

abbrev pub invariant-loop-point : goal.invariant-loop-point
invariant-loop-point l = record {
  rising : AreRising l.parts.items;
  way : IsWay l.history l.begin l.point-iterator l.range.end;
  same : with_pieces l.history l.span.since l.span.through l.begin l.point-iterator l.range.end l.parts.items
      ≡ with_pieces l.initial.history l.span.since l.span.through l.initial.begin l.initial.point-iterator l.range.end
      l.initial.parts.items;
}
