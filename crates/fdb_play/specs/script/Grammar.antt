-- The lines after the configuration, each as the words that write it.
use Rattle.std.specs.Prelude.{◌≡◌, ℕ, ◌^◌, ◌<◌, Bool, true, false, List, [], ◌∷◌, Option, Some, None, codes}
use Rattle.std.specs.Str.Parse.{IsNumeral, digits_value}
use Rattle.fdb_keys.specs.Ranges.{Range}
use Rattle.fdb_keys.specs.Texts.{key_fault, range_fault}
use Rattle.fdb_keys.specs.declared.refusal.Refusal.{Refusal}
use Rattle.fdb_machine.specs.machine.AnyStep.{Step}
use Rattle.fdb_machine.specs.declared.step.AnyStep.TheVariants as made
use Rattle.fdb_mutations.specs.declared.mutation.Mutation.{Mutation}
use Rattle.fdb_mutations.specs.declared.mutation.Mutation.TheVariants.{Set, Clear, ClearRange, Add, And, Or, Xor, Max}
use Rattle.fdb_mutations.specs.declared.mutation.Mutation.TheVariants.{Min, ByteMin, ByteMax, CompareAndClear, Stamped}
use Rattle.fdb_mutations.specs.Mutations.{named}
use Rattle.fdb_mutations.specs.Naming.{NamedKeys, OneKey, KeysIn}
use Rattle.fdb_play.specs.declared.script.line.Line.{Line}
use Rattle.fdb_play.specs.declared.script.line.Line.TheVariants as given
use Rattle.fdb_play.specs.declared.script.step_line.Kind.{Kind}
use Rattle.fdb_play.specs.declared.script.step_line.Kind.TheVariants.{Ask, Grant, Get, SnapshotGet, SnapshotRange}
use Rattle.fdb_play.specs.declared.script.step_line.Kind.TheVariants.{Write}
use Rattle.fdb_play.specs.declared.script.step_line.Kind.TheVariants.{AddRead, AddWrite, Submit, Seal, Resolve, Verdict}
use Rattle.fdb_play.specs.declared.script.step_line.Kind.TheVariants.{Decide, Push, Logged, Report, Answer, Pull}
use Rattle.fdb_play.specs.declared.script.step_line.Kind.TheVariants.{Forget}
use Rattle.fdb_play.specs.declared.script.step_line.Kind.TheVariants.{Pop, Move, Window}
use Rattle.fdb_play.specs.declared.script.step_line.Kind.TheVariants as line_kind
use Rattle.fdb_play.specs.declared.script.keys.RangeRead.{RangeRead}
use Rattle.fdb_play.specs.declared.script.keys.RangeTarget.{RangeTarget}
use Rattle.fdb_play.specs.script.Kinds.{name_of}
use Rattle.fdb_play.specs.script.Texts.{value_of}
use Rattle.fdb_play.specs.script.Words.{words_of}

-- the word writes the number, which is below 2^64, by digits alone
abbrev pub WritesNumber : List ℕ → ℕ → Type 0
WritesNumber word number = IsNumeral 10 word × (number ≡ digits_value 10 word) × (number < 2 ^ 64)

-- the same of a number below 2^32
abbrev pub WritesSmall : List ℕ → ℕ → Type 0
WritesSmall word number = IsNumeral 10 word × (number ≡ digits_value 10 word) × (number < 2 ^ 32)

-- the word is a byte text that writes the bytes
abbrev pub WritesText : List ℕ → List ℕ → Type 0
WritesText word bytes = value_of word ≡ Some bytes

-- the words are one number below 2^32
abbrev pub WritesOne : List (List ℕ) → ℕ → Type 0
WritesOne words a = (x : List ℕ) × (words ≡ x ∷ []) × WritesSmall x a

-- the words are one number below 2^64
abbrev pub WritesOneNumber : List (List ℕ) → ℕ → Type 0
WritesOneNumber words a = (x : List ℕ) × (words ≡ x ∷ []) × WritesNumber x a

-- the words are two numbers below 2^32
abbrev pub WritesTwo : List (List ℕ) → ℕ → ℕ → Type 0
WritesTwo words a b = (x : List ℕ) × (y : List ℕ) × (words ≡ x ∷ y ∷ []) × WritesSmall x a × WritesSmall y b

-- the words are a number below 2^32 and one below 2^64
abbrev pub WritesSmallAndNumber : List (List ℕ) → ℕ → ℕ → Type 0
WritesSmallAndNumber words a b = (x : List ℕ) × (y : List ℕ) × (words ≡ x ∷ y ∷ []) × WritesSmall x a × WritesNumber y b

-- the words are one byte text
abbrev pub WritesOneText : List (List ℕ) → List ℕ → Type 0
WritesOneText words bytes = (x : List ℕ) × (words ≡ x ∷ []) × WritesText x bytes

-- the words are two byte texts, the bounds of the range
abbrev pub WritesBounds : List (List ℕ) → Range → Type 0
WritesBounds words range =
    (x : List ℕ) × (y : List ℕ) × (words ≡ x ∷ y ∷ []) × WritesText x range.begin × WritesText y range.end

-- the words are the word 'reverse', or none
abbrev pub WritesOrder : List (List ℕ) → Bool → Type 0
WritesOrder words false = words ≡ []
WritesOrder words true = words ≡ codes "reverse" ∷ []

-- the words are the bounds of a range, a limit, and which end it is read from
abbrev pub WritesRangeRead : List (List ℕ) → RangeRead → Type 0
WritesRangeRead words read =
    (x : List ℕ) × (y : List ℕ) × (z : List ℕ) × (rest : List (List ℕ)) × (words ≡ x ∷ y ∷ z ∷ rest)
    × WritesText x read.range.begin × WritesText y read.range.end × WritesSmall z read.limit
    × WritesOrder rest read.reverse

-- the words are the bounds of a range, and the number of the resolver to which it goes over
abbrev pub WritesTarget : List (List ℕ) → RangeTarget → Type 0
WritesTarget words target =
    (x : List ℕ) × (y : List ℕ) × (z : List ℕ) × (words ≡ x ∷ y ∷ z ∷ [])
    × WritesText x target.range.begin × WritesText y target.range.end × WritesSmall z target.to

-- the words are a number below 2^32, and then words that write more
abbrev pub WritesNumberAnd : (List (List ℕ) → Type 0) → List (List ℕ) → ℕ → Type 0
WritesNumberAnd Rest words a =
    (x : List ℕ) × (rest : List (List ℕ)) × (words ≡ x ∷ rest) × WritesSmall x a × Rest rest

-- the words are this one and two byte texts
abbrev pub WritesTwoTexts : List (List ℕ) → List ℕ → List ℕ → List ℕ → Type 0
WritesTwoTexts words word first second =
    (x : List ℕ) × (y : List ℕ) × (words ≡ word ∷ x ∷ y ∷ []) × WritesText x first × WritesText y second

-- the words are 'stamped', two byte texts and a number below 2^32
abbrev pub WritesStamped : List (List ℕ) → List ℕ → List ℕ → ℕ → Type 0
WritesStamped words key operand offset =
    (x : List ℕ) × (y : List ℕ) × (z : List ℕ) × (words ≡ codes "stamped" ∷ x ∷ y ∷ z ∷ [])
    × WritesText x key × WritesText y operand × WritesSmall z offset

-- the words after a session's number write the mutation
abbrev pub WritesMutation : List (List ℕ) → Mutation → Type 0
WritesMutation words (Set key value) = WritesTwoTexts words (codes "set") key value
WritesMutation words (Clear key) = (x : List ℕ) × (words ≡ codes "clear" ∷ x ∷ []) × WritesText x key
WritesMutation words (ClearRange range) = WritesTwoTexts words (codes "clearrange") range.begin range.end
WritesMutation words (Add key operand) = WritesTwoTexts words (codes "add") key operand
WritesMutation words (And key operand) = WritesTwoTexts words (codes "and") key operand
WritesMutation words (Or key operand) = WritesTwoTexts words (codes "or") key operand
WritesMutation words (Xor key operand) = WritesTwoTexts words (codes "xor") key operand
WritesMutation words (Max key operand) = WritesTwoTexts words (codes "max") key operand
WritesMutation words (Min key operand) = WritesTwoTexts words (codes "min") key operand
WritesMutation words (ByteMin key operand) = WritesTwoTexts words (codes "bytemin") key operand
WritesMutation words (ByteMax key operand) = WritesTwoTexts words (codes "bytemax") key operand
WritesMutation words (CompareAndClear key operand) = WritesTwoTexts words (codes "cac") key operand
WritesMutation words (Stamped key operand offset) = WritesStamped words key operand offset

-- the words are a session's number and a key that the step reads
abbrev pub WritesGet : Bool → List (List ℕ) → Step → Type 0
WritesGet snapshot words step =
    (session : ℕ) × (key : List ℕ) × WritesNumberAnd (λ rest. WritesOneText rest key) words session
    × (step ≡ made.Get session key snapshot)

-- the words are a session's number and what the step reads of a range
abbrev pub WritesRange : Bool → List (List ℕ) → Step → Type 0
WritesRange snapshot words step =
    (session : ℕ) × (read : RangeRead) × WritesNumberAnd (λ rest. WritesRangeRead rest read) words session
    × (step ≡ made.GetRange session read.range read.limit read.reverse snapshot)

-- the words after the first one of such a line write the step
abbrev pub WritesRest : Kind → List (List ℕ) → Step → Type 0
WritesRest Ask words step = (session : ℕ) × (proxy : ℕ) × WritesTwo words session proxy
    × (step ≡ made.Ask session proxy)
WritesRest Grant words step = (proxy : ℕ) × WritesOne words proxy × (step ≡ made.Grant proxy)
WritesRest Get words step = WritesGet false words step
WritesRest SnapshotGet words step = WritesGet true words step
WritesRest line_kind.Range words step = WritesRange false words step
WritesRest SnapshotRange words step = WritesRange true words step
WritesRest Write words step =
    (session : ℕ) × (mutation : Mutation) × WritesNumberAnd (λ rest. WritesMutation rest mutation) words session
    × (step ≡ made.Write session mutation)
WritesRest AddRead words step =
    (session : ℕ) × (range : Range) × WritesNumberAnd (λ rest. WritesBounds rest range) words session
    × (step ≡ made.AddRead session range)
WritesRest AddWrite words step =
    (session : ℕ) × (range : Range) × WritesNumberAnd (λ rest. WritesBounds rest range) words session
    × (step ≡ made.AddWrite session range)
WritesRest Submit words step = (session : ℕ) × (proxy : ℕ) × WritesTwo words session proxy
    × (step ≡ made.Submit session proxy)
WritesRest Seal words step = (proxy : ℕ) × (advance : ℕ) × WritesSmallAndNumber words proxy advance
    × (step ≡ made.Seal proxy advance)
WritesRest Resolve words step = (entry : ℕ) × (resolver : ℕ) × WritesTwo words entry resolver
    × (step ≡ made.Resolve entry resolver)
WritesRest Verdict words step = (entry : ℕ) × (resolver : ℕ) × WritesTwo words entry resolver
    × (step ≡ made.Verdict entry resolver)
WritesRest Decide words step = (proxy : ℕ) × WritesOne words proxy × (step ≡ made.Decide proxy)
WritesRest Push words step = (entry : ℕ) × (log : ℕ) × WritesTwo words entry log × (step ≡ made.Push entry log)
WritesRest Logged words step = (entry : ℕ) × (log : ℕ) × WritesTwo words entry log × (step ≡ made.Logged entry log)
WritesRest Report words step = (proxy : ℕ) × WritesOne words proxy × (step ≡ made.Report proxy)
WritesRest Answer words step = (proxy : ℕ) × WritesOne words proxy × (step ≡ made.Answer proxy)
WritesRest Pull words step = (shard : ℕ) × (limit : ℕ) × WritesTwo words shard limit × (step ≡ made.Pull shard limit)
WritesRest Forget words step = (shard : ℕ) × (version : ℕ) × WritesSmallAndNumber words shard version
    × (step ≡ made.Forget shard version)
WritesRest Pop words step = (shard : ℕ) × WritesOne words shard × (step ≡ made.Pop shard)
WritesRest Move words step = (target : RangeTarget) × WritesTarget words target
    × (step ≡ made.Move target.range target.to)
WritesRest Window words step = (window : ℕ) × WritesOneNumber words window × (step ≡ made.Window window)

-- the words are the kind's name and then words that write the step
abbrev pub WritesStep : List (List ℕ) → Kind → Step → Type 0
WritesStep words kind step = (rest : List (List ℕ)) × (words ≡ name_of kind ∷ rest) × WritesRest kind rest step

-- the words are 'drive' and the number of a commit proxy
abbrev pub WritesDrive : List (List ℕ) → ℕ → Type 0
WritesDrive words proxy = (rest : List (List ℕ)) × (words ≡ codes "drive" ∷ rest) × WritesOne rest proxy

-- the words are 'show' and the number of a session
abbrev pub WritesShow : List (List ℕ) → ℕ → Type 0
WritesShow words session = (rest : List (List ℕ)) × (words ≡ codes "show" ∷ rest) × WritesOne rest session

-- the words are 'conflict' and the number of a session
abbrev pub WritesConflict : List (List ℕ) → ℕ → Type 0
WritesConflict words session = (rest : List (List ℕ)) × (words ≡ codes "conflict" ∷ rest) × WritesOne rest session

-- the line writes what it gives
abbrev pub WritesLine : List ℕ → Line → Type 0
WritesLine line (given.Step kind step) = WritesStep (words_of line) kind step
WritesLine line (given.Drive proxy) = WritesDrive (words_of line) proxy
WritesLine line (given.Show session) = WritesShow (words_of line) session
WritesLine line (given.Conflict session) = WritesConflict (words_of line) session

-- why the bounds of the range are those of none
abbrev pub bounds_fault : Range → Option Refusal
bounds_fault range = range_fault range.begin range.end

-- why what the mutation names is no key, or no range
abbrev pub named_fault : NamedKeys → Option Refusal
named_fault (OneKey key) = key_fault key
named_fault (KeysIn range) = bounds_fault range

abbrev pub mutation_fault : Mutation → Option Refusal
mutation_fault mutation = named_fault (named mutation)

-- why the step's key or range, if it has one, is none
abbrev pub step_fault : Step → Option Refusal
step_fault (made.Ask session proxy) = None
step_fault (made.Grant proxy) = None
step_fault (made.Get session key snapshot) = key_fault key
step_fault (made.GetRange session range limit is_reverse snapshot) = bounds_fault range
step_fault (made.Write session mutation) = mutation_fault mutation
step_fault (made.AddRead session range) = bounds_fault range
step_fault (made.AddWrite session range) = bounds_fault range
step_fault (made.Submit session proxy) = None
step_fault (made.Seal proxy advance) = None
step_fault (made.Resolve entry resolver) = None
step_fault (made.Verdict entry resolver) = None
step_fault (made.Decide proxy) = None
step_fault (made.Push entry log) = None
step_fault (made.Logged entry log) = None
step_fault (made.Report proxy) = None
step_fault (made.Answer proxy) = None
step_fault (made.Pull shard limit) = None
step_fault (made.Forget shard version) = None
step_fault (made.Pop shard) = None
step_fault (made.Move range to) = bounds_fault range
step_fault (made.Window window) = None

-- why the key or range of the line's step, if it has one, is none
abbrev pub read_fault : Line → Option Refusal
read_fault (given.Step kind step) = step_fault step
read_fault (given.Drive proxy) = None
read_fault (given.Show session) = None
read_fault (given.Conflict session) = None
