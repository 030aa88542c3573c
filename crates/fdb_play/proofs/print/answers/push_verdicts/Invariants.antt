use Rattle.std.proofs.Common.{◌≡◌, ◌++◌, drop, string_bytes}
use Rattle.std.specs.List.{flat_map}
use Rattle.fdb_play.specs.print.Answers.{verdict_text}
use Rattle.fdb_play.proofs.print.answers.push_verdicts.Given as goal

-- with the items that are left the text has all of them
abbrev pub invariant-loop-place : goal.invariant-loop-place
invariant-loop-place l =
    string_bytes l.text ++ flat_map verdict_text (drop l.place-index l.verdicts) ≡ string_bytes l.initial.text
    ++ flat_map verdict_text l.verdicts
