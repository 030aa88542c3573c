use Rattle.std.proofs.Common.{◌≡◌, ◌++◌, drop, string_bytes}
use Rattle.std.specs.List.{flat_map, enumerate_from}
use Rattle.fdb_play.specs.print.Answers.{outcome_text}
use Rattle.fdb_play.proofs.print.answers.push_decided.Given as goal

-- with the places that are left the text has all of them
abbrev pub invariant-loop-place : goal.invariant-loop-place
invariant-loop-place l =
    string_bytes l.text ++ flat_map outcome_text (enumerate_from l.place-counter (drop l.place-counter l.outcomes))
    ≡ string_bytes l.initial.text ++ flat_map outcome_text (enumerate_from 0 l.outcomes)
