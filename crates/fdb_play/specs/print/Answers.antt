-- What a step prints: what it answered, or why it was refused.
use Rattle.std.specs.Prelude.{ℕ, List, ◌++◌, length, codes, Option, Some, None, Result, Ok, Err}
use Rattle.std.specs.List.{flat_map, enumerate_from}
use Rattle.std.specs.Fmt.{decimal}
use Rattle.fdb_keys.specs.declared.refusal.Refusal.{Refusal}
use Rattle.fdb_keys.specs.declared.refusal.Refusal.TheVariants.{TransactionTooOld, NotCommitted}
use Rattle.fdb_keys.specs.Refusals.{code_of}
use Rattle.fdb_resolver.specs.declared.verdict.Verdict.{Verdict}
use Rattle.fdb_resolver.specs.declared.verdict.Verdict.TheVariants as verdict
use Rattle.fdb_proxy.specs.declared.outcome.Outcome.{Outcome}
use Rattle.fdb_proxy.specs.declared.outcome.Outcome.TheVariants as outcome
use Rattle.fdb_machine.specs.declared.step.Answered.{Answered}
use Rattle.fdb_machine.specs.declared.step.Answered.TheVariants as answered
use Rattle.fdb_print.specs.Refusals.{refusal_text}
use Rattle.fdb_play.specs.declared.script.step_line.Kind.{Kind}
use Rattle.fdb_play.specs.declared.script.step_line.Kind.TheVariants.{Pull, Forget, Pop}
use Rattle.fdb_play.specs.print.Texts.{text_of}

-- a number and what belongs to it, as an item of a list
abbrev pub item_text : ℕ → List ℕ → List ℕ
item_text number told = codes " " ++ decimal number ++ codes "=" ++ told

-- a session that is served, with its read version
abbrev pub grant_text : ℕ × ℕ → List ℕ
grant_text (session, version) = item_text session (decimal version)

-- all who are served
abbrev pub granted_text : List (ℕ × ℕ) → List ℕ
granted_text served = codes "grant" ++ flat_map grant_text served

-- the value of a key, which may have none
abbrev pub value_text : Option (List ℕ) → List ℕ
value_text None = codes "none"
value_text (Some bytes) = codes "value " ++ text_of bytes

-- a key with its value, as an item of a list
abbrev pub pair_text : List ℕ × List ℕ → List ℕ
pair_text (key, value) = codes " " ++ text_of key ++ codes "=" ++ text_of value

-- the pairs of a range: how many there are, and then each
abbrev pub pairs_text : List (List ℕ × List ℕ) → List ℕ
pairs_text pairs = codes "pairs " ++ decimal (length pairs) ++ flat_map pair_text pairs

-- an entry that was added to the book
abbrev pub issued_text : ℕ → ℕ → ℕ → ℕ → List ℕ
issued_text index version prev places =
    codes "entry " ++ decimal index ++ codes " version " ++ decimal version
    ++ codes " prev " ++ decimal prev ++ codes " places " ++ decimal places

-- the word for a verdict
abbrev pub verdict_name : Verdict → List ℕ
verdict_name verdict.Yes = codes "yes"
verdict_name verdict.Conflict = codes "conflict"
verdict_name verdict.Old = codes "old"

-- a verdict with its place
abbrev pub verdict_text : ℕ × Verdict → List ℕ
verdict_text (place, verdict) = item_text place (verdict_name verdict)

-- the verdicts of a resolver
abbrev pub verdicts_text : List (ℕ × Verdict) → List ℕ
verdicts_text verdicts = codes "verdict" ++ flat_map verdict_text verdicts

-- the word for what became of a transaction
abbrev pub outcome_name : Outcome → List ℕ
outcome_name (outcome.Commit version place) = codes "commit"
outcome_name outcome.Conflict = codes "conflict"
outcome_name outcome.Old = codes "old"

-- what became of a place of a batch
abbrev pub outcome_text : ℕ × Outcome → List ℕ
outcome_text (place, outcome) = item_text place (outcome_name outcome)

-- what became of each place of a batch, where the places count from 0
abbrev pub outcomes_text : List Outcome → List ℕ
outcomes_text outcomes = codes "decided" ++ flat_map outcome_text (enumerate_from 0 outcomes)

-- a version: after a pull the one that the shard has come to, after a forget its floor, after a pop the one through
-- which its log dropped its messages, and else the committed one
abbrev pub version_text : Kind → ℕ → List ℕ
version_text Pull version = codes "through " ++ decimal version
version_text Forget version = codes "floor " ++ decimal version
version_text Pop version = codes "popped " ++ decimal version
version_text kind version = codes "committed " ++ decimal version

-- what a client is told: the version and place of its commit, or the number of the refusal
abbrev pub told_text : Outcome → List ℕ
told_text (outcome.Commit version place) = decimal version ++ codes "/" ++ decimal place
told_text outcome.Conflict = decimal (code_of NotCommitted)
told_text outcome.Old = decimal (code_of TransactionTooOld)

-- what a client is told, with its session
abbrev pub client_text : ℕ × Outcome → List ℕ
client_text (session, outcome) = item_text session (told_text outcome)

-- what the clients of a batch are told
abbrev pub clients_text : List (ℕ × Outcome) → List ℕ
clients_text answers = codes "answer" ++ flat_map client_text answers

-- what a step of the kind answered
abbrev pub answer_text : Kind → Answered → List ℕ
answer_text kind answered.Done = codes "ok"
answer_text kind (answered.Granted served) = granted_text served
answer_text kind (answered.Value value) = value_text value
answer_text kind (answered.Pairs pairs) = pairs_text pairs
answer_text kind (answered.ReadOnly version) = codes "readonly " ++ decimal version
answer_text kind (answered.Issued index version prev places) = issued_text index version prev places
answer_text kind (answered.Verdicts verdicts) = verdicts_text verdicts
answer_text kind (answered.Decided outcomes) = outcomes_text outcomes
answer_text kind (answered.Version version) = version_text kind version
answer_text kind (answered.Answers answers) = clients_text answers

-- what a step of the kind prints
abbrev pub result_text : Kind → Result Answered Refusal → List ℕ
result_text kind (Ok said) = answer_text kind said
result_text kind (Err refusal) = refusal_text refusal
