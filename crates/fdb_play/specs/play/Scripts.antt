-- What a script prints, and the status that it ends with.
use Rattle.std.specs.Prelude.{◌≡◌, ℕ, suc, ◌==◌, Bool, true, false, List, [], ◌∷◌, ◌++◌, length, Option, Some, None}
use Rattle.std.specs.Prelude.{IfSome, Result, ◌⊎◌, codes}
use Rattle.std.specs.Io.KnownBytes.{Appends}
use Rattle.std.specs.Fmt.{decimal}
use Rattle.fdb_keys.specs.Ranges.{Range}
use Rattle.fdb_keys.specs.declared.refusal.Refusal.{Refusal}
use Rattle.fdb_keys.specs.declared.refusal.Refusal.TheVariants.{NoMemory}
use Rattle.fdb_proxy.specs.declared.config.Config.{Config}
use Rattle.fdb_proxy.specs.Configs.{config_fault}
use Rattle.fdb_machine.specs.declared.step.Answered.{Answered}
use Rattle.fdb_machine.specs.machine.AnyStep.{Step}
use Rattle.fdb_machine.specs.machine.Conflicts.{IsConflictOf}
use Rattle.fdb_machine.specs.machine.Failures.{State}
use Rattle.fdb_machine.specs.machine.Worlds.{IsStep, first_state}
use Rattle.fdb_print.specs.Stops.{refused_line, printed_line, bad_line, stop_text}
use Rattle.fdb_play.specs.declared.script.line.Line.{Line}
use Rattle.fdb_play.specs.declared.script.line.Line.TheVariants as given
use Rattle.fdb_play.specs.declared.script.step_line.Kind.{Kind}
use Rattle.fdb_play.specs.declared.script.step_line.Kind.TheVariants.{Answer}
use Rattle.fdb_print.specs.declared.stop.Stop.{Stop}
use Rattle.fdb_play.specs.print.Answers.{result_text}
use Rattle.fdb_play.specs.script.Configs.{WritesConfig, line_fault}
use Rattle.fdb_play.specs.print.Sets.{conflict_text, shown_text}
use Rattle.fdb_play.specs.play.Driving.{Drives}
use Rattle.fdb_play.specs.play.Showing.{lent}
use Rattle.fdb_play.specs.script.Grammar.{WritesLine, read_fault, step_fault}
use Rattle.fdb_play.specs.script.Lines.{lines_of}

-- a line that prints nothing is empty or begins with '#'
abbrev pub is_silent : List ℕ → Bool
is_silent [] = true
is_silent (byte ∷ bytes) = byte == 35

-- the script ends before its check, and this is printed last
abbrev pub Ends : List ℕ → List ℕ → ℕ → Type 0
Ends last printed status = (printed ≡ last) × (status ≡ 2)

-- the script ends since memory ran out
abbrev pub RunsOut : List ℕ → ℕ → Type 0
RunsOut printed status = Ends (refused_line NoMemory) printed status

-- the check found no difference: the number of acknowledged transactions is printed
abbrev pub Holds : State → List ℕ → ℕ → Type 0
Holds world printed status =
    (count : ℕ) × (count ≡ length world.machine.acknowledged)
    × (printed ≡ printed_line (codes "checked " ++ decimal count)) × (status ≡ 0)

-- the end of a script whose lines are all taken: the check finds no difference, whatever roles have failed
abbrev pub IsChecked : State → List ℕ → ℕ → Type 0
IsChecked world printed status = Holds world printed status ⊎ RunsOut printed status

-- the line gives a step, which the world takes
abbrev pub TakesStep : List ℕ → State → List ℕ → State → Type 0
TakesStep line old printed new =
    (kind : Kind) × (step : Step) × (result : Result Answered Refusal) × WritesLine line (given.Step kind step)
    × (step_fault step ≡ None)
    × IsStep old step result new × (printed ≡ printed_line (result_text kind result))

-- the line drives the batch that a commit proxy has in flight: what the last step taken answers is printed
abbrev pub DrivesBatch : List ℕ → State → List ℕ → State → Type 0
DrivesBatch line old printed new =
    (proxy : ℕ) × (result : Result Answered Refusal) × WritesLine line (given.Drive proxy)
    × Drives proxy old result new × (printed ≡ printed_line (result_text Answer result))

-- the line gives a step whose key or range is refused, and no step is taken
abbrev pub RefusesKey : List ℕ → State → List ℕ → State → Type 0
RefusesKey line old printed new =
    (read : Line) × (refusal : Refusal) × WritesLine line read × (read_fault read ≡ Some refusal)
    × (new ≡ old) × (printed ≡ refused_line refusal)

-- the line shows the sets of a session's open transaction, and the world stays as it is
abbrev pub ShowsSets : List ℕ → State → List ℕ → State → Type 0
ShowsSets line old printed new =
    (session : ℕ) × WritesLine line (given.Show session) × (new ≡ old)
    × (printed ≡ printed_line (shown_text (lent old session)))

-- the line shows the conflict set of a session's last transaction, and the world stays as it is
abbrev pub ShowsConflict : List ℕ → State → List ℕ → State → Type 0
ShowsConflict line old printed new =
    (session : ℕ) × (conflict : Option (List Range)) × WritesLine line (given.Conflict session) × (new ≡ old)
    × IsConflictOf old.machine session conflict × (printed ≡ printed_line (conflict_text conflict))

-- what a line after the configuration prints, and the world that it leaves
abbrev pub AnswersLine : List ℕ → State → List ℕ → State → Type 0
AnswersLine line old printed new = TakesStep line old printed new
    ⊎ (DrivesBatch line old printed new ⊎ (ShowsSets line old printed new
    ⊎ (ShowsConflict line old printed new ⊎ RefusesKey line old printed new)))

-- what a line after the configuration prints that ends the script
abbrev pub StopsAt : ℕ → List ℕ → List ℕ → ℕ → Type 0
StopsAt number line printed status =
    (((read : Line) → ¬ WritesLine line read) × Ends (bad_line number) printed status) ⊎ RunsOut printed status

-- what the lines after the configuration print, and the status: `number` lines came before them
abbrev pub PlaysOn : ℕ → State → List (List ℕ) → List ℕ → ℕ → Type 0
PlaysOn number world [] printed status = IsChecked world printed status
PlaysOn number world (line ∷ lines) printed status =
    ((is_silent line ≡ true) × PlaysOn (suc number) world lines printed status)
    ⊎ (((is_silent line ≡ false) × (said : List ℕ) × (more : List ℕ) × (new : State)
    × AnswersLine line world said new × PlaysOn (suc number) new lines more status × (printed ≡ said ++ more))
    ⊎ (((is_silent line ≡ false) × StopsAt (suc number) line printed status)
    ⊎ RunsOut printed status))

-- what a configuration and the lines after it print
abbrev pub PlaysFrom : ℕ → Config → List (List ℕ) → List ℕ → ℕ → Type 0
PlaysFrom number config lines printed status =
    ((config_fault config ≡ None) × (more : List ℕ) × PlaysOn number (first_state config) lines more status
    × (printed ≡ printed_line (codes "ok") ++ more))
    ⊎ (((refusal : Refusal) × (config_fault config ≡ Some refusal) × Ends (refused_line refusal) printed status)
    ⊎ RunsOut printed status)

-- what a first line prints whose splits are refused, or that is no configuration
abbrev pub Unconfigured : ℕ → List ℕ → List ℕ → ℕ → Type 0
Unconfigured number line printed status =
    ((config : Config) × (refusal : Refusal) × WritesConfig line config × (line_fault config ≡ Some refusal)
    × Ends (refused_line refusal) printed status)
    ⊎ ((((config : Config) → ¬ WritesConfig line config) × Ends (bad_line number) printed status)
    ⊎ RunsOut printed status)

-- what a first line that isn't silent prints, with the lines after it
abbrev pub Configures : ℕ → List ℕ → List (List ℕ) → List ℕ → ℕ → Type 0
Configures number line lines printed status =
    ((config : Config) × WritesConfig line config × (line_fault config ≡ None)
    × PlaysFrom number config lines printed status)
    ⊎ Unconfigured number line printed status

-- what a script prints, and the status that it ends with: `number` lines came before these
abbrev pub Plays : ℕ → List (List ℕ) → List ℕ → ℕ → Type 0
Plays number [] printed status = Ends (bad_line 0) printed status ⊎ RunsOut printed status
Plays number (line ∷ lines) printed status =
    ((is_silent line ≡ true) × Plays (suc number) lines printed status)
    ⊎ (((is_silent line ≡ false) × Configures (suc number) line lines printed status)
    ⊎ RunsOut printed status)

-- the writer's known bytes grew by a text with the property
abbrev pub Printed : Option (List ℕ) → Option (List ℕ) → (List ℕ → Type 0) → Type 0
Printed old new P = (printed : List ℕ) × Appends old new printed × P printed

-- the lines of the input have the property, where the input is known
abbrev pub Knows : Option (List ℕ) → (List (List ℕ) → Type 0) → Type 0
Knows input P = IfSome input (λ bytes. P (lines_of bytes))

-- what the stop prints has the property, unless it is an error of the input or the output
abbrev pub Says : Stop → (List ℕ → Type 0) → Type 0
Says stopped P = IfSome (stop_text stopped) P

-- Of the input that was known, what is left is known too. Whatever the lines that are left print, and
-- whatever their status: the lines that there were print what was said, and then that.
abbrev pub Reaches : Option (List ℕ) → Option (List ℕ) → List ℕ
    → (List (List ℕ) → List ℕ → ℕ → Type 0) → (List (List ℕ) → List ℕ → ℕ → Type 0) → Type 0
Reaches old new said P Q = IfSome old (λ bytes. (rest : List ℕ) × (new ≡ Some rest)
    × ((more : List ℕ) (status : ℕ) → Q (lines_of rest) more status → P (lines_of bytes) (said ++ more) status))
