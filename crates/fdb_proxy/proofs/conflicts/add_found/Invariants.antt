use Rattle.std.proofs.Common.{◌≡◌, ◌++◌, ◌∷◌, [], ℕ, List, take}
use Rattle.fdb_resolver.specs.Rule.{Found}
use Rattle.fdb_proxy.specs.Conflicts.{joined_by}
use Rattle.fdb_proxy.proofs.conflicts.add_found.Given as goal

abbrev pub invariant-loop-place : goal.invariant-loop-place
invariant-loop-place l =
    (count : ℕ) (all : List Found) → l.initial.conflicts ≡ joined_by all count
    → l.conflicts ≡ joined_by (all ++ take l.place-index l.found ∷ []) count
