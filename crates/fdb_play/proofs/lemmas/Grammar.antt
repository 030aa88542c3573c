-- What the words of a line write, and what they don't.
use Rattle.std.proofs.Common.{◌≡◌, ◌≢◌, ◌+◌, ◌*◌, ◌==◌, ℕ, true, false, List, [], ◌∷◌, Option, Err, get_or, refl, ap}
use Rattle.std.proofs.Common.{sym, subst, ◌∙◌, if◌then◌else◌, codes}
use Rattle.std.specs.Cmp.Lexicographic.{bytes_decides}
use Rattle.std.proofs.lemmas.Bool.{both_ways}
use Rattle.fdb_machine.specs.machine.AnyStep.{Step}
use Rattle.fdb_keys.specs.declared.refusal.Refusal.{Refusal}
use Rattle.fdb_play.specs.script.Faults.{Reads}
use Rattle.fdb_play.specs.script.Grammar.{WritesSmall, WritesOne, WritesNumberAnd, WritesRest, WritesStep, WritesLine}
use Rattle.fdb_play.specs.script.Grammar.{step_fault, read_fault}
use Rattle.fdb_play.specs.script.Kinds.{name_of}
use Rattle.fdb_play.specs.script.Words.{words_of}
use Rattle.fdb_play.specs.declared.script.fault.Fault.{Fault}
use Rattle.fdb_play.specs.declared.script.line.Line.{Line}
use Rattle.fdb_play.specs.declared.script.line.Line.TheVariants as given
use Rattle.fdb_play.specs.declared.script.step_line.Kind.{Kind}
use Rattle.fdb_play.specs.declared.script.step_line.Kind.TheVariants.{Ask, Grant, Get, SnapshotGet, Range}
use Rattle.fdb_play.specs.declared.script.step_line.Kind.TheVariants.{SnapshotRange}
use Rattle.fdb_play.specs.declared.script.step_line.Kind.TheVariants.{Write, AddRead, AddWrite, Submit, Seal, Resolve}
use Rattle.fdb_play.specs.declared.script.step_line.Kind.TheVariants.{Verdict, Decide, Push, Logged, Report, Answer}
use Rattle.fdb_play.specs.declared.script.step_line.Kind.TheVariants.{Pull, Forget, Pop, Move, Window}
use Rattle.fdb_play.proofs.lemmas.Faults.{Reads-whole}
use Rattle.fdb_play.proofs.lemmas.Words.{after_first, first_of}

-- a number before words that write no such part, or a part whose key or range is refused
pub number_fault : {Part Whole : Type 0} (Rest : Part → List (List ℕ) → Type 0) (part_fault : Part → Option Refusal)
    (make : ℕ → Part → Whole) (whole_fault : Whole → Option Refusal) (words after : List (List ℕ)) (number : ℕ)
    (fault : Fault)
    → ((x : List ℕ) × (words ≡ x ∷ after) × WritesSmall x number)
    → ((part : Part) → whole_fault (make number part) ≡ part_fault part)
    → Reads (Err fault) (λ part. Rest part after) part_fault
    → Reads (Err fault) (λ whole. (a : ℕ) × (part : Part) × WritesNumberAnd (Rest part) words a × (whole ≡ make a part))
    whole_fault
number_fault Rest part_fault make whole_fault words after number fault first same found =
    Reads-whole fault (λ part. Rest part after) part_fault _ _ found
    (λ none whole written.
    let more = written.2 in
    none written.1 (subst (Rest written.1) (after_first (sym more.2 ∙ first.1)) more.4))
    (λ part written. (make number part, (number, part, (first.0, after, first.1, first.2, written), refl), same part))

-- the kind that a word names, by the word's first four letters
letters_of : List ℕ → ℕ
letters_of word = ((get_or word 0 0 * 256 + get_or word 1 0) * 256 + get_or word 2 0) * 256 + get_or word 3 0

abbrev kind_of_letters : ℕ → Kind
kind_of_letters n =
    (if n == 1634953984 then Ask else
    (if n == 1735549294 then Grant else
    (if n == 1734702080 then Get else
    (if n == 1936156020 then SnapshotGet else
    (if n == 1918987879 then Range else
    (if n == 1936875886 then SnapshotRange else
    (if n == 2003986804 then Write else
    (if n == 1633969266 then AddRead else
    (if n == 1633969271 then AddWrite else
    (if n == 1937072749 then Submit else
    (if n == 1936023916 then Seal else
    (if n == 1919251311 then Resolve else
    (if n == 1986359908 then Verdict else
    (if n == 1684366185 then Decide else
    (if n == 1886745448 then Push else
    (if n == 1819240295 then Logged else
    (if n == 1919250543 then Report else
    (if n == 1634628471 then Answer else
    (if n == 1718579815 then Forget else
    (if n == 1886351360 then Pop else
    (if n == 1836021349 then Move else
    (if n == 2003398244 then Window else
    Pull))))))))))))))))))))))

kind_of_name : (kind : Kind) → kind_of_letters (letters_of (name_of kind)) ≡ kind
unfolding letters_of
kind_of_name Ask = refl
kind_of_name Grant = refl
kind_of_name Get = refl
kind_of_name SnapshotGet = refl
kind_of_name Range = refl
kind_of_name SnapshotRange = refl
kind_of_name Write = refl
kind_of_name AddRead = refl
kind_of_name AddWrite = refl
kind_of_name Submit = refl
kind_of_name Seal = refl
kind_of_name Resolve = refl
kind_of_name Verdict = refl
kind_of_name Decide = refl
kind_of_name Push = refl
kind_of_name Logged = refl
kind_of_name Report = refl
kind_of_name Answer = refl
kind_of_name Pull = refl
kind_of_name Forget = refl
kind_of_name Pop = refl
kind_of_name Move = refl
kind_of_name Window = refl

-- no two kinds have one name
same_kind : (kind other : Kind) → name_of kind ≡ name_of other → kind ≡ other
same_kind kind other is = sym (kind_of_name kind) ∙ ap (λ word. kind_of_letters (letters_of word)) is
    ∙ kind_of_name other

no_step : (first : List ℕ) (after : List (List ℕ)) (named : Kind) → first ≡ name_of named
    → ((step : Step) → ¬ WritesRest named after step) → (kind : Kind) (step : Step)
    → ¬ WritesStep (first ∷ after) kind step
no_step first after named first_is none kind step written =
    let same : named ≡ kind = same_kind named kind (sym first_is ∙ first_of written.1) in
    let rests : after ≡ written.0 = after_first written.1 in
    none step (rw (same, rests) written.2)

-- words of which those after the first one write no step, and such of which the key is refused
pub step_of_rest : (first : List ℕ) (after : List (List ℕ)) (named : Kind) (fault : Fault) → first ≡ name_of named
    → Reads (Err fault) (WritesRest named after) step_fault
    → Reads {T = Kind × Step} (Err fault) (λ read. WritesStep (first ∷ after) read.0 read.1) (λ read. step_fault read.1)
step_of_rest first after named fault first_is found =
    Reads-whole {Whole = Kind × Step} fault (WritesRest named after) step_fault _ _ found
    (λ none read. no_step first after named first_is none read.0 read.1)
    (λ step written. ((named, step), (after, ap (λ (word : List ℕ). word ∷ after) first_is, written), refl))

-- a word that doesn't begin as the name of a kind names none; `Pull` stands for all others
not_named : (word : List ℕ) → kind_of_letters (letters_of word) ≡ Pull → (get_or word 0 0 == 112) ≡ false
    → (kind : Kind) → name_of kind ≢ word
not_named word others other kind is =
    let same : kind ≡ Pull = sym (kind_of_name kind) ∙ ap (λ (named : List ℕ). kind_of_letters (letters_of named)) is
    ∙ others in
    let first : true ≡ false = ap (λ (named : List ℕ). get_or named 0 0 == 112) (ap name_of (sym same) ∙ is) ∙ other in
    cc

-- no kind of steps is named "drive", none "show", and none "conflict"
not_drive : (kind : Kind) → name_of kind ≢ codes "drive"
unfolding letters_of
not_drive kind is = not_named (codes "drive") refl refl kind is

not_show : (kind : Kind) → name_of kind ≢ codes "show"
unfolding letters_of
not_show kind is = not_named (codes "show") refl refl kind is

not_conflict : (kind : Kind) → name_of kind ≢ codes "conflict"
unfolding letters_of
not_conflict kind is = not_named (codes "conflict") refl refl kind is

-- a line without words gives nothing
pub no_words : (line : List ℕ) → words_of line ≡ [] → (read : Line) → ¬ WritesLine line read
no_words line none (given.Step kind step) written = cc
no_words line none (given.Drive proxy) written = cc
no_words line none (given.Show session) written = cc
no_words line none (given.Conflict session) written = cc

drive_is_not_show : codes "drive" ≢ codes "show"
drive_is_not_show is = both_ways false refl ((bytes_decides (codes "drive") (codes "show")).1 is)

drive_is_not_conflict : codes "drive" ≢ codes "conflict"
drive_is_not_conflict is = both_ways false refl ((bytes_decides (codes "drive") (codes "conflict")).1 is)

show_is_not_conflict : codes "show" ≢ codes "conflict"
show_is_not_conflict is = both_ways false refl ((bytes_decides (codes "show") (codes "conflict")).1 is)

-- a line whose first word is "drive", and whose other words are no number
pub no_proxy : (line : List ℕ) (after : List (List ℕ)) → words_of line ≡ codes "drive" ∷ after
    → ((proxy : ℕ) → ¬ WritesOne after proxy) → (read : Line) → ¬ WritesLine line read
no_proxy line after words_are none (given.Step kind step) written = not_drive kind
    (sym (first_of (sym words_are ∙ written.1)))
no_proxy line after words_are none (given.Drive proxy) written =
    none proxy (rw (after_first (sym words_are ∙ written.1)) written.2)
no_proxy line after words_are none (given.Show session) written =
    drive_is_not_show (first_of (sym words_are ∙ written.1))
no_proxy line after words_are none (given.Conflict session) written =
    drive_is_not_conflict (first_of (sym words_are ∙ written.1))

-- the same of "show"
pub no_session : (line : List ℕ) (after : List (List ℕ)) → words_of line ≡ codes "show" ∷ after
    → ((session : ℕ) → ¬ WritesOne after session) → (read : Line) → ¬ WritesLine line read
no_session line after words_are none (given.Step kind step) written = not_show kind
    (sym (first_of (sym words_are ∙ written.1)))
no_session line after words_are none (given.Drive proxy) written =
    drive_is_not_show (sym (first_of (sym words_are ∙ written.1)))
no_session line after words_are none (given.Show session) written =
    none session (rw (after_first (sym words_are ∙ written.1)) written.2)
no_session line after words_are none (given.Conflict session) written =
    show_is_not_conflict (first_of (sym words_are ∙ written.1))

-- and of "conflict"
pub no_refused : (line : List ℕ) (after : List (List ℕ)) → words_of line ≡ codes "conflict" ∷ after
    → ((session : ℕ) → ¬ WritesOne after session) → (read : Line) → ¬ WritesLine line read
no_refused line after words_are none (given.Step kind step) written = not_conflict kind
    (sym (first_of (sym words_are ∙ written.1)))
no_refused line after words_are none (given.Drive proxy) written =
    drive_is_not_conflict (sym (first_of (sym words_are ∙ written.1)))
no_refused line after words_are none (given.Show session) written =
    show_is_not_conflict (sym (first_of (sym words_are ∙ written.1)))
no_refused line after words_are none (given.Conflict session) written =
    none session (rw (after_first (sym words_are ∙ written.1)) written.2)

-- a line whose first word is another one
pub line_of_step : (line first : List ℕ) (after : List (List ℕ)) (fault : Fault) → words_of line ≡ first ∷ after
    → first ≢ codes "drive" → first ≢ codes "show" → first ≢ codes "conflict"
    → Reads {T = Kind × Step} (Err fault) (λ read. WritesStep (first ∷ after) read.0 read.1) (λ read. step_fault read.1)
    → Reads (Err fault) (WritesLine line) read_fault
line_of_step line first after fault words_are no_drive no_show no_conflict found =
    Reads-whole {Part = Kind × Step} fault _ _ (WritesLine line) read_fault found
    (no_line line first after words_are no_drive no_show no_conflict)
    (λ read written. (given.Step read.0 read.1, rw words_are written, refl))
  where
    no_line : (line first : List ℕ) (after : List (List ℕ)) → words_of line ≡ first ∷ after → first ≢ codes "drive"
        → first ≢ codes "show" → first ≢ codes "conflict"
        → ((read : Kind × Step) → ¬ WritesStep (first ∷ after) read.0 read.1) → (read : Line)
        → ¬ WritesLine line read
    no_line line first after words_are no_drive no_show no_conflict none (given.Step kind step) written =
        none (kind, step) (rw (sym words_are) written)
    no_line line first after words_are no_drive no_show no_conflict none (given.Drive proxy) written = no_drive
        (first_of (sym words_are ∙ written.1))
    no_line line first after words_are no_drive no_show no_conflict none (given.Show session) written = no_show
        (first_of (sym words_are ∙ written.1))
    no_line line first after words_are no_drive no_show no_conflict none (given.Conflict session) written = no_conflict
        (first_of (sym words_are ∙ written.1))
