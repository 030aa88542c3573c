-- The lines of an input.
use Rattle.std.specs.Prelude.{◌≡◌, ℕ, ◌-◌, ◌==◌, List, ◌∷◌, length, take, slice_index, ⊤, Option, None, Some}
use Rattle.std.specs.Prelude.{if◌then◌else◌}
use Rattle.std.specs.Str.Lines.{lines, strip_carriage_return}
use Rattle.std.specs.Io.Buffered.{reader_remaining}
use Rattle.std.specs.declared.io.Error.{Error}
use Rattle.fdb_play.specs.declared.script.lines.Lines.{Lines}
use Rattle.fdb_print.specs.declared.stop.Stop.{Stop}
use Rattle.fdb_print.specs.declared.stop.Stop.TheVariants.{BadLine, Refused, NoMemory, Io}

-- the lines of a text, which are those of `str::lines`: each ends with an LF, before which one CR is dropped, and what
-- stands after the last LF is a line where it isn't empty
abbrev pub lines_of : List ℕ → List (List ℕ)
lines_of text = lines text

-- a line that may end with an LF, without it and without one CR before it
abbrev pub without_line_end : List ℕ → List ℕ
without_line_end line = if slice_index line (length line - 1) == 10 then strip_carriage_return
    (take (length line - 1) line) else line

-- what is left of the input, where that is known
abbrev pub left : {R : Type 0} → (R → Option (List ℕ)) → Lines R → Option (List ℕ)
left remaining lines = reader_remaining remaining lines.reader

-- the current line
abbrev pub line_text : {R : Type 0} → Lines R → List ℕ
line_text lines = lines.line.items

-- the number of the current line
abbrev pub line_number : {R : Type 0} → Lines R → ℕ
line_number lines = lines.number

-- known bytes lose their first line
abbrev pub LosesLine : Option (List ℕ) → Option (List ℕ) → List ℕ → Type 0
LosesLine None new line = ⊤
LosesLine (Some xs) None line = ⊥
LosesLine (Some xs) (Some ys) line = lines_of xs ≡ line ∷ lines_of ys

-- memory ran out or the input failed with one of the errors, and no line was judged
abbrev pub IsInputFault : (Error → Type 0) → Stop → Type 0
IsInputFault errors (BadLine number) = ⊥
IsInputFault errors (Refused refusal) = ⊥
IsInputFault errors NoMemory = ⊤
IsInputFault errors (Io error) = errors error
