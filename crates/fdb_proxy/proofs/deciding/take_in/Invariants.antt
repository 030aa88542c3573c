use Rattle.std.proofs.Common.{◌≡◌, ◌++◌, ◌∷◌, [], ℕ, List, Option, Some, take}
use Rattle.fdb_proxy.specs.Deciding.{Said, outcomes_by}
use Rattle.fdb_proxy.proofs.deciding.take_in.Given as goal

abbrev pub invariant-loop-place : goal.invariant-loop-place
invariant-loop-place l =
    (version count : ℕ) (verdicts : List (Option Said)) → l.initial.outcomes ≡ outcomes_by version verdicts count
    → l.outcomes ≡ outcomes_by version (verdicts ++ Some (take l.place-index l.said) ∷ []) count
