use Rattle.std.proofs.Common.{length, take}
use Rattle.std.specs.List.{slice_split, AllZip}
use Rattle.fdb_play.specs.script.Configs.{is_comma}
use Rattle.fdb_play.specs.script.Grammar.{WritesText}
use Rattle.fdb_play.proofs.script.config_line.read_texts.Given as goal

-- the pieces so far write the texts
abbrev pub invariant-loop-piece : goal.invariant-loop-piece
invariant-loop-piece l =
    AllZip WritesText (take (length l.yielded) (slice_split is_comma l.word)) l.texts
