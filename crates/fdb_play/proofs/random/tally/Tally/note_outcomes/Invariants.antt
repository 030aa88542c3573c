use Rattle.std.proofs.Common.{◌≡◌, drop}
use Rattle.fdb_play.specs.random.Tallies.{noting_outcomes}
use Rattle.fdb_play.proofs.random.tally.Tally.note_outcomes.Given as goal

abbrev pub invariant-loop-told : goal.invariant-loop-told
invariant-loop-told l =
    noting_outcomes l.self (drop l.told-index l.answers) ≡ noting_outcomes l.initial.self l.answers
