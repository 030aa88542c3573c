use Rattle.std.proofs.Common.{◌≡◌, ◌++◌, drop, string_bytes}
use Rattle.std.specs.List.{flat_map}
use Rattle.fdb_play.specs.print.Answers.{client_text}
use Rattle.fdb_play.proofs.print.answers.push_answers.Given as goal

-- with the items that are left the text has all of them
abbrev pub invariant-loop-session : goal.invariant-loop-session
invariant-loop-session l =
    string_bytes l.text ++ flat_map client_text (drop l.session-index l.answers) ≡ string_bytes l.initial.text
    ++ flat_map client_text l.answers
