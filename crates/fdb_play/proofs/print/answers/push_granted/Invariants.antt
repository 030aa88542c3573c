use Rattle.std.proofs.Common.{◌≡◌, ◌++◌, drop, string_bytes}
use Rattle.std.specs.List.{flat_map}
use Rattle.fdb_play.specs.print.Answers.{grant_text}
use Rattle.fdb_play.proofs.print.answers.push_granted.Given as goal

-- with the items that are left the text has all of them
abbrev pub invariant-loop-session : goal.invariant-loop-session
invariant-loop-session l =
    string_bytes l.text ++ flat_map grant_text (drop l.session-index l.served) ≡ string_bytes l.initial.text ++ flat_map
    grant_text l.served
