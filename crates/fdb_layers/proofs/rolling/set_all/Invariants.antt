use Rattle.std.proofs.Common.{◌≡◌, map, take}
use Rattle.fdb_sections.specs.Sessions.{with_current}
use Rattle.fdb_layers.specs.Operations.{HasDone}
use Rattle.fdb_layers.specs.Rolling.{setting}
use Rattle.fdb_layers.proofs.rolling.set_all.Given as goal

abbrev pub invariant-loop-pair : goal.invariant-loop-pair
invariant-loop-pair g l = record {
  kept : l.session ≡ with_current l.fn.session l.session.current;
  done : HasDone l.session.current (map setting (take l.pair-index l.pairs));
}
