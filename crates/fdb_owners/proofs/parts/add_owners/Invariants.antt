use Rattle.std.proofs.Common.{◌≡◌, drop}
use Rattle.fdb_owners.specs.Parts.{AreRising, with_changes}
use Rattle.fdb_owners.proofs.parts.add_owners.Given as goal

abbrev pub invariant-loop-change : goal.invariant-loop-change
invariant-loop-change l = record {
  rising : AreRising l.parts.items;
  same : with_changes l.piece l.parts.items (drop l.change-index l.change-items)
      ≡ with_changes l.piece l.initial.parts.items l.change-items;
}
