-- How the read set and the write set of a transaction are printed, and its conflict set.
use Rattle.std.specs.Prelude.{ℕ, List, ◌++◌, codes, Option, Some, None, Result, Ok, Err}
use Rattle.std.specs.List.{flat_map}
use Rattle.fdb_keys.specs.Ranges.{Range}
use Rattle.fdb_keys.specs.declared.refusal.Refusal.{Refusal}
use Rattle.fdb_keys.specs.declared.refusal.Refusal.TheVariants.{NoTransaction}
use Rattle.fdb_client.specs.Programs.{program, replies_of, read_ranges, write_ranges}
use Rattle.fdb_client.specs.declared.program.Transcript.{Transcript}
use Rattle.fdb_print.specs.Refusals.{refusal_text}
use Rattle.fdb_play.specs.print.Texts.{text_of}

-- a range as an item of a list: its bounds
abbrev pub range_text : Range → List ℕ
range_text range = codes " " ++ text_of range.begin ++ codes ":" ++ text_of range.end

-- a set as its ranges, in order
abbrev pub ranges_text : List Range → List ℕ
ranges_text ranges = flat_map range_text ranges

-- the sets that the operations of a transaction make
abbrev pub sets_text : Transcript → List ℕ
sets_text transcript =
    codes "reads" ++ ranges_text (read_ranges (program transcript.ops) (replies_of transcript.ops))
    ++ codes " writes" ++ ranges_text (write_ranges (program transcript.ops))

-- the sets of an open transaction, or why there is none
abbrev pub shown_text : Result Transcript Refusal → List ℕ
shown_text (Ok transcript) = sets_text transcript
shown_text (Err refusal) = refusal_text refusal

-- the conflict set of a refused transaction, or that there is none
abbrev pub conflict_text : Option (List Range) → List ℕ
conflict_text (Some set) = codes "conflict" ++ ranges_text set
conflict_text None = refusal_text NoTransaction
