use Rattle.std.proofs.Common.{◌≡◌, ◌++◌, drop, string_bytes}
use Rattle.std.specs.List.{flat_map}
use Rattle.fdb_play.specs.print.Answers.{pair_text}
use Rattle.fdb_play.proofs.print.answers.push_pairs.Given as goal

-- with the items that are left the text has all of them
abbrev pub invariant-loop-key : goal.invariant-loop-key
invariant-loop-key l =
    string_bytes l.text ++ flat_map pair_text (drop l.key-index l.pairs) ≡ string_bytes l.initial.text ++ flat_map
    pair_text l.pairs
