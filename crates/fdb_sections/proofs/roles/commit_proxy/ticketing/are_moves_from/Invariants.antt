use Rattle.std.proofs.Common.{◌≡◌, drop}
use Rattle.std.specs.Cmp.Lexicographic.{pointwise}
use Rattle.fdb_sequencer.specs.Equality.{dated_eq}
use Rattle.fdb_roles.specs.Entries.{dated_moves}
use Rattle.fdb_sections.proofs.roles.commit_proxy.ticketing.are_moves_from.Given as goal

-- what is left agrees with the entries that are left as all does with all
abbrev pub invariant-loop-index : goal.invariant-loop-index
invariant-loop-index g l =
    pointwise dated_eq l.moves (dated_moves (drop l.begin l.front))
    ≡ pointwise dated_eq l.rest (dated_moves (drop l.index l.front))
