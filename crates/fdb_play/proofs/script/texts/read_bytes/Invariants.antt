use Rattle.std.proofs.Common.{◌≡◌, length}
use Rattle.fdb_play.specs.script.Texts.{bytes_of}
use Rattle.fdb_play.proofs.lemmas.Texts.{put_all}
use Rattle.fdb_play.proofs.script.texts.read_bytes.Given as goal

-- what was read, and then what is left to read, is what the word writes
abbrev pub invariant-loop-rest : goal.invariant-loop-rest
invariant-loop-rest l = bytes_of l.word ≡ put_all l.bytes.items (bytes_of l.rest)

abbrev pub decreases-loop-rest : goal.decreases-loop-rest
decreases-loop-rest l = length l.rest
