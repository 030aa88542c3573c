use Rattle.std.proofs.Common.{◌≡◌, ◌<◌, ◌==◌, ℕ, false, get_or}
use Rattle.fdb_play.specs.random.Tallies.{refusal_codes}
use Rattle.fdb_play.proofs.random.tally.place_of.Given as goal

-- no code before the place is it
abbrev pub invariant-loop-place : goal.invariant-loop-place
invariant-loop-place l = (before : ℕ) → before < l.place → (get_or refusal_codes before 0 == l.code) ≡ false
