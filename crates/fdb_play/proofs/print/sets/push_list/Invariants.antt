use Rattle.std.proofs.Common.{◌≡◌, ◌++◌, drop, string_bytes}
use Rattle.fdb_play.specs.print.Sets.{ranges_text}
use Rattle.fdb_play.proofs.print.sets.push_list.Given as goal

-- with the ranges that are left the text has all of them
abbrev pub invariant-loop-range : goal.invariant-loop-range
invariant-loop-range l =
    string_bytes l.text ++ ranges_text (drop l.range-index l.ranges) ≡ string_bytes l.initial.text ++ ranges_text
    l.ranges
