use Rattle.std.proofs.Common.{◌≢◌, ℕ, ◌<◌, get_or}
use Rattle.fdb_play.specs.declared.script.step_line.Kind.TheVariants.{Ask}
use Rattle.fdb_play.specs.script.Kinds.{name_of}
use Rattle.fdb_play.proofs.script.step_line.kind_named.Given as goal

-- the word names none of the kinds so far
abbrev pub invariant-loop-kind : goal.invariant-loop-kind
invariant-loop-kind l = (k : ℕ) → k < l.kind-index → l.word ≢ name_of (get_or l.kind-items k Ask)
