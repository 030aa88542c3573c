-- What is printed where a run stops before its end.
use Rattle.std.specs.Prelude.{ℕ, List, [], ◌∷◌, ◌++◌, codes, Option, Some, None}
use Rattle.std.specs.Fmt.{decimal}
use Rattle.fdb_keys.specs.declared.refusal.Refusal.{Refusal}
use Rattle.fdb_keys.specs.declared.refusal.Refusal.TheVariants.{NoMemory}
use Rattle.fdb_print.specs.Refusals.{refusal_text}
use Rattle.fdb_print.specs.declared.stop.Stop.TheVariants as stop
use Rattle.fdb_print.specs.declared.stop.Stop.{Stop}

-- a text as a line that is printed
abbrev pub printed_line : List ℕ → List ℕ
printed_line text = text ++ 10 ∷ []

-- what is printed of a line outside the grammar, by its number
abbrev pub bad_line : ℕ → List ℕ
bad_line number = printed_line (codes "bad line " ++ decimal number)

abbrev pub refused_line : Refusal → List ℕ
refused_line refusal = printed_line (refusal_text refusal)

-- what is printed where a script stops before its end, unless it stops by an error of the input or the output
abbrev pub stop_text : Stop → Option (List ℕ)
stop_text (stop.BadLine number) = Some (bad_line number)
stop_text (stop.Refused refusal) = Some (refused_line refusal)
stop_text stop.NoMemory = Some (refused_line NoMemory)
stop_text (stop.Io error) = None
