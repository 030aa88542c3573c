use Rattle.std.proofs.Common.{◌≡◌, ◌++◌, drop, string_bytes}
use Rattle.fdb_play.specs.print.Texts.{written_bytes}
use Rattle.fdb_play.proofs.print.texts.push_text.Given as goal

-- with what is left to write the text has all of them
abbrev pub invariant-loop-byte : goal.invariant-loop-byte
invariant-loop-byte l =
    string_bytes l.text ++ written_bytes (drop l.byte-index l.bytes) ≡ string_bytes l.initial.text ++ written_bytes
    l.bytes
