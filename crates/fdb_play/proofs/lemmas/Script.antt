-- How the parts of a script's run come together.
use Rattle.std.proofs.Common.{◌≡◌, ◌∙◌, refl, sym, ap, subst, ℕ, suc, List, [], ◌∷◌, ◌++◌, append_assoc, append-nil}
use Rattle.std.proofs.Common.{Option, Some, None, true, false, Result, Ok, Err, inl, inr}
use Rattle.fdb_keys.specs.declared.refusal.Refusal.{Refusal}
use Rattle.fdb_keys.specs.Answers.{Answers}
use Rattle.fdb_proxy.specs.declared.config.Config.{Config}
use Rattle.fdb_proxy.specs.Configs.{config_fault}
use Rattle.fdb_machine.specs.machine.Failures.{State}
use Rattle.fdb_machine.specs.machine.Worlds.{first_state}
use Rattle.std.specs.Prelude.{IfOk, OnOk, IfErr, IfSome, codes}
use Rattle.std.specs.Io.KnownBytes.{IsAtEnd, Appends}
use Rattle.std.specs.declared.io.Error.{Error}
use Rattle.fdb_keys.specs.declared.refusal.Refusal.TheVariants.{NoMemory}
use Rattle.fdb_play.specs.script.Configs.{WritesConfig, line_fault}
use Rattle.fdb_print.specs.declared.stop.Stop.{Stop}
use Rattle.fdb_print.specs.declared.stop.Stop.TheVariants as stop
use Rattle.fdb_play.specs.script.Lines.{lines_of, LosesLine, IsInputFault}
use Rattle.fdb_play.specs.play.Scripts.{Plays, PlaysFrom, PlaysOn, IsChecked, AnswersLine, Unconfigured, StopsAt}
use Rattle.fdb_play.specs.play.Scripts.{is_silent, Reaches, Says, Knows, Printed}
use Rattle.fdb_print.specs.Stops.{printed_line, refused_line, stop_text}

refused-at : {T : Type 0} (fault : Option Refusal) (config : Config) (why : Refusal) (P : T → Type 0) (number : ℕ)
    (lines : List (List ℕ))
    → config_fault config ≡ fault → Answers (Err why) fault P → PlaysFrom number config lines (refused_line why) 2
refused-at None config why P number lines is answers = inr (inr (ap refused_line answers, refl))
refused-at (Some fault) config why P number lines is answers = inr (inl (fault, is, (ap refused_line answers, refl)))

-- a refused configuration
pub refused_world : {T : Type 0} (config : Config) (why : Refusal) (P : T → Type 0)
    → Answers (Err why) (config_fault config) P → (number : ℕ) (lines : List (List ℕ))
    → PlaysFrom number config lines (refused_line why) 2
refused_world config why P answers number lines = refused-at
    (config_fault config) config why P number lines refl answers

pub reaches_itself : (known : Option (List ℕ)) (P : List (List ℕ) → List ℕ → ℕ → Type 0) → Reaches known known [] P P
reaches_itself None P = tt
reaches_itself (Some bytes) P = (bytes, refl, λ more status plays. plays)

-- one line more, of which something is told
pub reaches_line : (old mid new : Option (List ℕ)) (line said told : List ℕ)
    (P Q R : List (List ℕ) → List ℕ → ℕ → Type 0)
    → Reaches old mid said P Q → LosesLine mid new line
    → ((lines : List (List ℕ)) (more : List ℕ) (status : ℕ) → R lines more status
    → Q (line ∷ lines) (told ++ more) status)
    → Reaches old new (said ++ told) P R
reaches_line None mid new line said told P Q R reached takes on = tt
reaches_line (Some bytes) mid None line said told P Q R reached takes on = absurd
    (subst (λ known. LosesLine known None line) reached.1 takes)
reaches_line (Some bytes) mid (Some rest) line said told P Q R reached takes on =
    let eq = subst (λ known. LosesLine known (Some rest) line) reached.1 takes in (
      rest,
      refl,
      λ more status plays.
          subst (λ printed. P (lines_of bytes) printed status) (sym (append_assoc said told more))
          (reached.2 (told ++ more) status
          (subst (λ lines. Q lines (told ++ more) status) (sym eq) (on (lines_of rest) more status plays))),
    )

-- one line more, of which nothing is told
pub reaches_silently : (old mid new : Option (List ℕ)) (line said : List ℕ)
    (P Q R : List (List ℕ) → List ℕ → ℕ → Type 0)
    → Reaches old mid said P Q → LosesLine mid new line
    → ((lines : List (List ℕ)) (more : List ℕ) (status : ℕ) → R lines more status → Q (line ∷ lines) more status)
    → Reaches old new said P R
reaches_silently old mid new line said P Q R reached takes on =
    subst (λ told. Reaches old new told P R) (append-nil said)
    (reaches_line old mid new line said [] P Q R reached takes on)

-- the lines that are left say what the stop prints
pub reaches_stop : (old mid : Option (List ℕ)) (said : List ℕ) (P Q : List (List ℕ) → List ℕ → ℕ → Type 0)
    (stopped : Stop)
    → Reaches old mid said P Q → ((lines : List (List ℕ)) → Says stopped (λ last. Q lines last 2))
    → Says stopped (λ last. Knows old (λ lines. P lines (said ++ last) 2))
reaches_stop None mid said P Q (stop.BadLine number) reached says = tt
reaches_stop None mid said P Q (stop.Refused refusal) reached says = tt
reaches_stop None mid said P Q stop.NoMemory reached says = tt
reaches_stop None mid said P Q (stop.Io error) reached says = tt
reaches_stop (Some bytes) mid said P Q (stop.BadLine number) reached says = reached.2 _ 2 (says _)
reaches_stop (Some bytes) mid said P Q (stop.Refused refusal) reached says = reached.2 _ 2 (says _)
reaches_stop (Some bytes) mid said P Q stop.NoMemory reached says = reached.2 _ 2 (says _)
reaches_stop (Some bytes) mid said P Q (stop.Io error) reached says = tt

-- no line is left
pub reaches_end : (old mid : Option (List ℕ)) (said more : List ℕ) (status : ℕ)
    (P Q : List (List ℕ) → List ℕ → ℕ → Type 0)
    → Reaches old mid said P Q → IsAtEnd mid → Q [] more status → Knows old (λ lines. P lines (said ++ more) status)
reaches_end None mid said more status P Q reached end plays = tt
reaches_end (Some bytes) mid said more status P Q reached end plays =
    let none = subst IsAtEnd reached.1 end in
    reached.2 more status (subst (λ left. Q (lines_of left) more status) (sym none) plays)

-- memory may run out before any line
plays-out : (number : ℕ) (lines : List (List ℕ)) → Plays number lines (refused_line NoMemory) 2
plays-out number [] = inr (refl, refl)
plays-out number (line ∷ lines) = inr (inr (refl, refl))

plays_on-out : (number : ℕ) (world : State) (lines : List (List ℕ))
    → PlaysOn number world lines (refused_line NoMemory) 2
plays_on-out number world [] = inr (refl, refl)
plays_on-out number world (line ∷ lines) = inr (inr (inr (refl, refl)))

-- where reading stops, what is printed is that memory ran out
reading-says : (errors : Error → Type 0) (stopped : Stop) (P : List ℕ → Type 0) → IsInputFault errors stopped
    → P (refused_line NoMemory) → Says stopped P
reading-says errors (stop.BadLine number) P reading out = absurd reading
reading-says errors (stop.Refused refusal) P reading out = absurd reading
reading-says errors stop.NoMemory P reading out = out
reading-says errors (stop.Io error) P reading out = tt

says-map : (stopped : Stop) (P Q : List ℕ → Type 0) → ((last : List ℕ) → P last → Q last) → Says stopped P
    → Says stopped Q
says-map (stop.BadLine number) P Q map says = map _ says
says-map (stop.Refused refusal) P Q map says = map _ says
says-map stop.NoMemory P Q map says = map _ says
says-map (stop.Io error) P Q map says = tt

-- what is said of all that was printed is said with it
says-printed : (stopped : Stop) (writer written : Option (List ℕ)) (printed : List ℕ) (P : List ℕ → List ℕ → Type 0)
    → Appends writer written printed → Says stopped (P printed)
    → Says stopped (λ last. Printed writer written (λ text. P text last))
says-printed (stop.BadLine number) writer written printed P appends says = (printed, appends, says)
says-printed (stop.Refused refusal) writer written printed P appends says = (printed, appends, says)
says-printed stop.NoMemory writer written printed P appends says = (printed, appends, says)
says-printed (stop.Io error) writer written printed P appends says = tt

-- two texts, one after the other
pub appends_both : (old mid new : Option (List ℕ)) (said told : List ℕ) → Appends old mid said → Appends mid new told
    → Appends old new (said ++ told)
appends_both None mid new said told one other = tt
appends_both (Some xs) None new said told one other = absurd one
appends_both (Some xs) (Some ys) None said told one other = absurd other
appends_both (Some xs) (Some ys) (Some zs) said told one other = other ∙ ap (λ bytes. bytes ++ told) one
    ∙ append_assoc xs said told

-- the first lines: reading stops
pub config_reading_stops : (errors : Error → Type 0) (old mid : Option (List ℕ)) (first number : ℕ) (stopped : Stop)
    → Reaches old mid [] (Plays first) (Plays number) → IsInputFault errors stopped
    → Says stopped (λ last. Knows old (λ lines. Plays first lines last 2))
config_reading_stops errors old mid first number stopped reached reading =
    reaches_stop old mid [] (Plays first) (Plays number) stopped reached
    (λ lines. reading-says errors stopped _ reading (plays-out number lines))

-- the first line that says anything is a configuration
pub config_found : (old mid new : Option (List ℕ)) (line : List ℕ) (first number next : ℕ) (config : Config)
    → Reaches old mid [] (Plays first) (Plays number) → LosesLine mid new line → next ≡ suc number
    → is_silent line ≡ false
    → WritesConfig line config × (line_fault config ≡ None)
    → Reaches old new [] (Plays first) (PlaysFrom next config)
config_found old mid new line first number next config reached takes is_next says writes =
    reaches_silently old mid new line [] (Plays first) (Plays number) (PlaysFrom next config) reached takes
    (λ lines more status plays. inr (inl (
      says,
      inl (
        config,
        writes.0,
        writes.1,
        subst (λ n. PlaysFrom n config lines more status) is_next plays,
      ),
    )))

-- the first line that says anything is no configuration that is read
pub config_stops : (old mid new : Option (List ℕ)) (line : List ℕ) (first number next : ℕ) (stopped : Stop)
    → Reaches old mid [] (Plays first) (Plays number) → LosesLine mid new line → next ≡ suc number
    → is_silent line ≡ false
    → Says stopped (λ last. Unconfigured next line last 2)
    → Says stopped (λ last. Knows old (λ lines. Plays first lines last 2))
config_stops old mid new line first number next stopped reached takes is_next says unread =
    reaches_stop old new [] (Plays first) (λ lines more status. Unconfigured next line more status) stopped
    (reaches_silently old mid new line [] (Plays first) (Plays number)
    (λ lines more status. Unconfigured next line more status) reached takes
    (λ lines more status stops. inr (inl (says, inr (subst (λ n. Unconfigured n line more status) is_next stops)))))
    (λ lines. unread)

-- what holds of a value that has the property holds of a result that has it where it is one
pub if_ok_map : {T E : Type 0} (result : Result T E) (P Q : T → Type 0) → ((value : T) → P value → Q value)
    → IfOk result P → IfOk result Q
if_ok_map (Ok value) P Q map holds = map value holds
if_ok_map (Err fault) P Q map holds = tt

pub if_err_map : {T E : Type 0} (result : Result T E) (P Q : E → Type 0) → ((fault : E) → P fault → Q fault)
    → IfErr result P → IfErr result Q
if_err_map (Ok value) P Q map holds = tt
if_err_map (Err fault) P Q map holds = map fault holds

-- reading stops after the configuration
pub steps_reading_stops : (errors : Error → Type 0) (old mid writer written : Option (List ℕ)) (first number : ℕ)
    (before now : State) (stopped : Stop)
    → Printed writer written (λ said. Reaches old mid said (PlaysOn first before) (PlaysOn number now))
    → IsInputFault errors stopped
    → Says stopped
    (λ last. Printed writer written (λ printed. Knows old (λ all. PlaysOn first before all (printed ++ last) 2)))
steps_reading_stops errors old mid writer written first number before now stopped reached reading =
    says-printed stopped writer written reached.0
    (λ printed last. Knows old (λ all. PlaysOn first before all (printed ++ last) 2)) reached.1
    (reaches_stop old mid reached.0 (PlaysOn first before) (PlaysOn number now) stopped reached.2
    (λ lines. reading-says errors stopped _ reading (plays_on-out number now lines)))

-- no line is left, and the check prints what it found
pub steps_checked : (old mid writer written closed : Option (List ℕ)) (first number status : ℕ)
    (before now : State)
    → Printed writer written (λ said. Reaches old mid said (PlaysOn first before) (PlaysOn number now))
    → IsAtEnd mid → Printed written closed (λ printed. IsChecked now printed status)
    → Printed writer closed (λ printed. Knows old (λ all. PlaysOn first before all printed status))
steps_checked old mid writer written closed first number status before now reached end checked = (
  reached.0 ++ checked.0,
  appends_both writer written closed reached.0 checked.0 reached.1 checked.1,
  reaches_end old mid reached.0 checked.0 status (PlaysOn first before) (PlaysOn number now) reached.2 end checked.2,
)

-- no line is left, and the check stops
pub steps_unchecked : (old mid writer written closed : Option (List ℕ)) (first number : ℕ) (before now : State)
    (stopped : Stop)
    → Printed writer written (λ said. Reaches old mid said (PlaysOn first before) (PlaysOn number now))
    → IsAtEnd mid → Says stopped (λ last. Printed written closed (λ printed. IsChecked now (printed ++ last) 2))
    → Says stopped
    (λ last. Printed writer closed (λ printed. Knows old (λ all. PlaysOn first before all (printed ++ last) 2)))
steps_unchecked old mid writer written closed first number before now stopped reached end says =
    says-map stopped _ _
    (λ last checked. (
      reached.0 ++ checked.0,
      appends_both writer written closed reached.0 checked.0 reached.1 checked.1,
      subst (λ printed. Knows old (λ all. PlaysOn first before all printed 2))
          (sym (append_assoc reached.0 checked.0 last))
          (reaches_end old mid reached.0 (checked.0 ++ last) 2 (PlaysOn first before) (PlaysOn number now) reached.2 end
          checked.2),
    ))
    says

-- a line stops the script
pub steps_line_stops : (old mid new writer written : Option (List ℕ)) (line : List ℕ) (first number next : ℕ)
    (before now : State) (stopped : Stop)
    → Printed writer written (λ said. Reaches old mid said (PlaysOn first before) (PlaysOn number now))
    → LosesLine mid new line → next ≡ suc number → is_silent line ≡ false
    → Says stopped (λ last. StopsAt next line last 2)
    → Says stopped
    (λ last. Printed writer written (λ printed. Knows old (λ all. PlaysOn first before all (printed ++ last) 2)))
steps_line_stops old mid new writer written line first number next before now stopped reached takes is_next says stops =
    says-printed stopped writer written reached.0
    (λ printed last. Knows old (λ all. PlaysOn first before all (printed ++ last) 2)) reached.1
    (reaches_stop old new reached.0 (PlaysOn first before) (λ lines more status. StopsAt next line more status) stopped
    (reaches_silently old mid new line reached.0 (PlaysOn first before) (PlaysOn number now)
    (λ lines more status. StopsAt next line more status) reached.2 takes
    (λ lines more status it. inr (inr (inl (says, subst (λ n. StopsAt n line more status) is_next it)))))
    (λ lines. stops))

-- a silent line
pub steps_silent : (old mid new writer written : Option (List ℕ)) (line : List ℕ) (first number next : ℕ)
    (before now : State)
    → Printed writer written (λ said. Reaches old mid said (PlaysOn first before) (PlaysOn number now))
    → LosesLine mid new line → next ≡ suc number → is_silent line ≡ true
    → Printed writer written (λ said. Reaches old new said (PlaysOn first before) (PlaysOn next now))
steps_silent old mid new writer written line first number next before now reached takes is_next silent = (
  reached.0,
  reached.1,
  reaches_silently old mid new line reached.0 (PlaysOn first before)
      (PlaysOn number now) (PlaysOn next now) reached.2 takes
      (λ lines more status plays. inl (silent, subst (λ n. PlaysOn n now lines more status) is_next plays)),
)

-- a line that gives a step, or whose key is refused
pub steps_line : (old mid new writer written closed : Option (List ℕ)) (line told : List ℕ) (first number next : ℕ)
    (before now after : State)
    → Printed writer written (λ said. Reaches old mid said (PlaysOn first before) (PlaysOn number now))
    → LosesLine mid new line → next ≡ suc number → is_silent line ≡ false
    → AnswersLine line now told after → Appends written closed told
    → Printed writer closed (λ said. Reaches old new said (PlaysOn first before) (PlaysOn next after))
steps_line old mid new writer written closed line told first number next before now after reached takes is_next says
    answers appends = (
      reached.0 ++ told,
      appends_both writer written closed reached.0 told reached.1 appends,
      reaches_line old mid new line reached.0 told (PlaysOn first before) (PlaysOn number now) (PlaysOn next after)
          reached.2 takes
          (λ lines more status plays. inr (inl (
            says,
            told,
            more,
            after,
            answers,
            subst (λ n. PlaysOn n after lines more status) is_next plays,
            refl,
          ))),
    )

appends-nothing : (known : Option (List ℕ)) → Appends known known []
appends-nothing None = tt
appends-nothing (Some xs) = sym (append-nil xs)

knows-map : (input : Option (List ℕ)) (P Q : List (List ℕ) → Type 0) → ((lines : List (List ℕ)) → P lines → Q lines)
    → Knows input P → Knows input Q
knows-map None P Q map knows = tt
knows-map (Some bytes) P Q map knows = map _ knows

all-know : (input : Option (List ℕ)) (P : List (List ℕ) → Type 0) → ((lines : List (List ℕ)) → P lines) → Knows input P
all-know None P all = tt
all-know (Some bytes) P all = all _

-- before any line is read
pub run_out_at_once : (input writer : Option (List ℕ)) (stopped : Stop) → stopped ≡ stop.NoMemory
    → Says stopped (λ last. Printed writer writer (λ printed. Knows input (λ lines. Plays 0 lines (printed ++ last) 2)))
run_out_at_once input writer stopped is =
    subst (λ it. Says it
    (λ last. Printed writer writer (λ printed. Knows input (λ lines. Plays 0 lines (printed ++ last) 2)))) (sym is)
    ([], appends-nothing writer, all-know input _ (λ lines. plays-out 0 lines))

-- without a configuration
pub run_unconfigured : (input known writer : Option (List ℕ)) (number : ℕ) (stopped : Stop) → known ≡ input → number ≡ 0
    → Says stopped (λ last. Knows known (λ lines. Plays number lines last 2))
    → Says stopped (λ last. Printed writer writer (λ printed. Knows input (λ lines. Plays 0 lines (printed ++ last) 2)))
run_unconfigured input known writer number stopped is first says =
    says-map stopped _ _ (λ last knows. (
      [],
      appends-nothing writer,
      subst (λ n. Knows input (λ lines. Plays n lines last 2)) first
          (subst (λ bytes. Knows bytes (λ lines. Plays number lines last 2)) is knows),
    )) says

-- what the lines after the configuration print, the whole script prints
reached-knows : (known after : Option (List ℕ)) (number next : ℕ) (config : Config) (more : List ℕ) (status : ℕ)
    → Reaches known after [] (Plays number) (PlaysFrom next config)
    → ((lines : List (List ℕ)) → PlaysFrom next config lines more status)
    → Knows known (λ lines. Plays number lines more status)
reached-knows None after number next config more status reached plays = tt
reached-knows (Some bytes) after number next config more status reached plays = reached.2 more status (plays _)

reached-plays : (known after : Option (List ℕ)) (number next : ℕ) (config : Config) (more : List ℕ) (status : ℕ)
    → Reaches known after [] (Plays number) (PlaysFrom next config)
    → Knows after (λ lines. PlaysFrom next config lines more status)
    → Knows known (λ lines. Plays number lines more status)
reached-plays None after number next config more status reached plays = tt
reached-plays (Some bytes) after number next config more status reached plays =
    reached.2 more status
    (subst (λ left. Knows left (λ lines. PlaysFrom next config lines more status)) reached.1 plays)

-- with a configuration that is refused
pub run_refused : (input known after writer : Option (List ℕ)) (number next : ℕ) (config : Config) (stopped : Stop)
    → known ≡ input → number ≡ 0
    → Reaches known after [] (Plays number) (PlaysFrom next config)
    → Says stopped (λ last. (n : ℕ) (lines : List (List ℕ)) → PlaysFrom n config lines last 2)
    → Says stopped (λ last. Printed writer writer (λ printed. Knows input (λ lines. Plays 0 lines (printed ++ last) 2)))
run_refused input known after writer number next config stopped is first reached says =
    run_unconfigured input known writer number stopped is first
    (says-map stopped _ _
    (λ last refused. reached-knows known after number next config last 2 reached (λ lines. refused next lines))
    says)

-- the configuration's own line, and what the lines after it print
pub run_played : (input known after writer greeted closed : Option (List ℕ)) (number next status : ℕ) (config : Config)
    (world : State)
    → known ≡ input → number ≡ 0 → Reaches known after [] (Plays number) (PlaysFrom next config)
    → (config_fault config ≡ None) × (world ≡ first_state config) → Appends writer greeted (printed_line (codes "ok"))
    → Printed greeted closed (λ printed. Knows after (λ all. PlaysOn next world all printed status))
    → Printed writer closed (λ printed. Knows input (λ lines. Plays 0 lines printed status))
run_played input known after writer greeted closed number next status config world is first reached made ok played = (
  printed_line (codes "ok") ++ played.0,
  appends_both writer greeted closed _ played.0 ok played.1,
  subst (λ n. Knows input (λ lines. Plays n lines (printed_line (codes "ok") ++ played.0) status)) first
      (subst (λ bytes. Knows bytes (λ lines. Plays number lines (printed_line (codes "ok") ++ played.0) status)) is
      (reached-plays known after number next config _ status reached
      (knows-map after (λ all. PlaysOn next world all played.0 status)
      (λ all. PlaysFrom next config all (printed_line (codes "ok") ++ played.0) status)
      (λ lines plays. inl (made.0, played.0, subst (λ at. PlaysOn next at lines played.0 status) made.1 plays, refl))
      played.2))),
)

pub run_stopped : (input known after writer greeted closed : Option (List ℕ)) (number next : ℕ) (config : Config)
    (world : State) (stopped : Stop)
    → known ≡ input → number ≡ 0 → Reaches known after [] (Plays number) (PlaysFrom next config)
    → (config_fault config ≡ None) × (world ≡ first_state config) → Appends writer greeted (printed_line (codes "ok"))
    → Says stopped
    (λ last. Printed greeted closed (λ printed. Knows after (λ all. PlaysOn next world all (printed ++ last) 2)))
    → Says stopped (λ last. Printed writer closed (λ printed. Knows input (λ lines. Plays 0 lines (printed ++ last) 2)))
run_stopped input known after writer greeted closed number next config world stopped is first reached made ok says =
    says-map stopped _ _ (λ last played. (
      printed_line (codes "ok") ++ played.0,
      appends_both writer greeted closed _ played.0 ok played.1,
      subst (λ n. Knows input (λ lines. Plays n lines ((printed_line (codes "ok") ++ played.0) ++ last) 2)) first
          (subst (λ bytes. Knows bytes
          (λ lines. Plays number lines ((printed_line (codes "ok") ++ played.0) ++ last) 2)) is
          (reached-plays known after number next config _ 2 reached
          (knows-map after (λ all. PlaysOn next world all (played.0 ++ last) 2)
          (λ all. PlaysFrom next config all ((printed_line (codes "ok") ++ played.0) ++ last) 2)
          (λ lines plays. inl (
            made.0,
            played.0 ++ last,
            subst (λ at. PlaysOn next at lines (played.0 ++ last) 2) made.1 plays,
            append_assoc (printed_line (codes "ok")) played.0 last,
          ))
          played.2))),
    )) says

-- why the script stopped is printed last
pub run_ended : (input writer written closed : Option (List ℕ)) (stopped : Stop) (status : ℕ)
    → Says stopped
    (λ last. Printed writer written (λ printed. Knows input (λ lines. Plays 0 lines (printed ++ last) 2)))
    → (last : List ℕ) × (stop_text stopped ≡ Some last) × Appends written closed last → status ≡ 2
    → Printed writer closed (λ printed. Knows input (λ lines. Plays 0 lines printed status))
run_ended input writer written closed stopped status says (last, text, appends) ended =
    let played = subst
    (λ it. IfSome it
    (λ last. Printed writer written (λ printed. Knows input (λ lines. Plays 0 lines (printed ++ last) 2)))) text
    says in (
      played.0 ++ last,
      appends_both writer written closed played.0 last played.1 appends,
      subst (λ n. Knows input (λ lines. Plays 0 lines (played.0 ++ last) n)) (sym ended) played.2,
    )

-- the same where printing it answers the status
pub run_answered : {E : Type 0} (result : Result ℕ E)
    (input writer written closed : Option (List ℕ)) (stopped : Stop) → Says stopped
    (λ last. Printed writer written (λ printed. Knows input (λ lines. Plays 0 lines (printed ++ last) 2)))
    → IfOk result (λ status. status ≡ 2)
    → OnOk result ((last : List ℕ) × (stop_text stopped ≡ Some last) × Appends written closed last)
    → IfOk result (λ status. Printed writer closed (λ printed. Knows input (λ lines. Plays 0 lines printed status)))
run_answered (Ok status) input writer written closed stopped says ended told = run_ended input writer written closed
    stopped status says told ended
run_answered (Err error) input writer written closed stopped says ended told = tt
