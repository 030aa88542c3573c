-- What the words after a session's number write, and what they don't.
use Rattle.std.proofs.Common.{◌≡◌, ◌≢◌, ℕ, ◌<◌, false, List, [], ◌∷◌, None, Some, Err, get_or, refl, ap, sym, ◌∙◌}
use Rattle.std.proofs.Common.{subst}
use Rattle.std.proofs.Common.{codes, arith}
use Rattle.std.specs.Cmp.Lexicographic.{bytes_decides}
use Rattle.std.proofs.lemmas.Bool.{both_ways}
use Rattle.fdb_keys.specs.Ranges.{Range}
use Rattle.fdb_keys.specs.Texts.{key_fault}
use Rattle.fdb_mutations.specs.declared.mutation.Mutation.{Mutation}
use Rattle.fdb_mutations.specs.declared.mutation.Mutation.TheVariants as made
use Rattle.fdb_play.specs.script.Faults.{MatchFault, Reads}
use Rattle.fdb_play.specs.script.Grammar.{WritesText, WritesOne, WritesOneText, WritesTwoTexts, WritesBounds}
use Rattle.fdb_play.specs.script.Grammar.{WritesMutation, WritesStamped}
use Rattle.fdb_play.specs.script.Grammar.{bounds_fault, mutation_fault}
use Rattle.fdb_play.specs.script.Operations.{operation_name, operation_on}
use Rattle.fdb_play.specs.declared.script.fault.Fault.{Fault}
use Rattle.fdb_play.specs.declared.script.operation.Operation.{Operation}
use Rattle.fdb_play.specs.declared.script.operation.Operation.TheVariants.{Set, Add, And, Or, Xor, Max, Min, ByteMin}
use Rattle.fdb_play.specs.declared.script.operation.Operation.TheVariants.{ByteMax, CompareAndClear}
use Rattle.fdb_play.proofs.lemmas.Faults.{Reads-refused, Reads-whole}
use Rattle.fdb_play.proofs.lemmas.Words.{after_first, first_of}

abbrev operations : List Operation
operations = Set ∷ Add ∷ And ∷ Or ∷ Xor ∷ Max ∷ Min ∷ ByteMin ∷ ByteMax ∷ CompareAndClear ∷ []

-- a word that names none of the ten names no operation
pub names_no_operation : (word : List ℕ) → ((k : ℕ) → k < 10 → word ≢ operation_name (get_or operations k Set))
    → (operation : Operation) → word ≢ operation_name operation
names_no_operation word none Set = none 0 (omega arith)
names_no_operation word none Add = none 1 (omega arith)
names_no_operation word none And = none 2 (omega arith)
names_no_operation word none Or = none 3 (omega arith)
names_no_operation word none Xor = none 4 (omega arith)
names_no_operation word none Max = none 5 (omega arith)
names_no_operation word none Min = none 6 (omega arith)
names_no_operation word none ByteMin = none 7 (omega arith)
names_no_operation word none ByteMax = none 8 (omega arith)
names_no_operation word none CompareAndClear = none 9 (omega arith)

-- a key and a byte text after the name of an operation write its mutation
operation_written : (operation : Operation) (words : List (List ℕ)) (key operand : List ℕ)
    → WritesTwoTexts words (operation_name operation) key operand
    → WritesMutation words (operation_on operation key operand)
operation_written Set words key operand written = written
operation_written Add words key operand written = written
operation_written And words key operand written = written
operation_written Or words key operand written = written
operation_written Xor words key operand written = written
operation_written Max words key operand written = written
operation_written Min words key operand written = written
operation_written ByteMin words key operand written = written
operation_written ByteMax words key operand written = written
operation_written CompareAndClear words key operand written = written

operation_fault : (operation : Operation) (key operand : List ℕ)
    → mutation_fault (operation_on operation key operand) ≡ key_fault key
operation_fault Set key operand = refl
operation_fault Add key operand = refl
operation_fault And key operand = refl
operation_fault Or key operand = refl
operation_fault Xor key operand = refl
operation_fault Max key operand = refl
operation_fault Min key operand = refl
operation_fault ByteMin key operand = refl
operation_fault ByteMax key operand = refl
operation_fault CompareAndClear key operand = refl

-- and nothing else does
operation_back : (operation : Operation) (words : List (List ℕ)) (mutation : Mutation)
    → WritesMutation (operation_name operation ∷ words) mutation
    → (key : List ℕ) × (operand : List ℕ) × WritesTwoTexts (operation_name operation ∷ words)
    (operation_name operation) key operand
operation_back Set words (made.Set key operand) written = (key, operand, written)
operation_back Add words (made.Add key operand) written = (key, operand, written)
operation_back And words (made.And key operand) written = (key, operand, written)
operation_back Or words (made.Or key operand) written = (key, operand, written)
operation_back Xor words (made.Xor key operand) written = (key, operand, written)
operation_back Max words (made.Max key operand) written = (key, operand, written)
operation_back Min words (made.Min key operand) written = (key, operand, written)
operation_back ByteMin words (made.ByteMin key operand) written = (key, operand, written)
operation_back ByteMax words (made.ByteMax key operand) written = (key, operand, written)
operation_back CompareAndClear words (made.CompareAndClear key operand) written = (key, operand, written)
operation_back operation words (made.Clear key) written = absurd (both_ways false refl
    ((bytes_decides (operation_name operation) (codes "clear")).1 (first_of written.1)))
operation_back operation words (made.Stamped key operand offset) written = absurd (both_ways false refl
    ((bytes_decides (operation_name operation) (codes "stamped")).1 (first_of written.3)))
operation_back operation words mutation written = absurd (both_ways false refl
    ((bytes_decides (operation_name operation) _).1 (first_of written.2)))

clear_range_back : (words : List (List ℕ)) (mutation : Mutation) → WritesMutation (codes "clearrange" ∷ words) mutation
    → (range : Range) × WritesBounds words range
clear_range_back words (made.ClearRange range) written =
    (range, (written.0, written.1, after_first written.2, written.3, written.4))
clear_range_back words (made.Clear key) written = absurd (both_ways false refl
    ((bytes_decides (codes "clearrange") (codes "clear")).1 (first_of written.1)))
clear_range_back words (made.Stamped key operand offset) written = absurd (both_ways false refl
    ((bytes_decides (codes "clearrange") (codes "stamped")).1 (first_of written.3)))
clear_range_back words mutation written = absurd (both_ways false refl
    ((bytes_decides (codes "clearrange") _).1 (first_of written.2)))

clear_back : (words : List (List ℕ)) (mutation : Mutation) → WritesMutation (codes "clear" ∷ words) mutation
    → (key : List ℕ) × WritesOneText words key
clear_back words (made.Clear key) written = (key, (written.0, after_first written.1, written.2))
clear_back words (made.Stamped key operand offset) written = absurd (both_ways false refl
    ((bytes_decides (codes "clear") (codes "stamped")).1 (first_of written.3)))
clear_back words mutation written = absurd (both_ways false refl
    ((bytes_decides (codes "clear") _).1 (first_of written.2)))

stamped_back : (words : List (List ℕ)) (mutation : Mutation) → WritesMutation (codes "stamped" ∷ words) mutation
    → (key : List ℕ) × (operand : List ℕ) × (offset : ℕ) × WritesStamped (codes "stamped" ∷ words) key operand offset
stamped_back words (made.Stamped key operand offset) written = (key, operand, offset, written)
stamped_back words (made.Clear key) written = absurd (both_ways false refl
    ((bytes_decides (codes "stamped") (codes "clear")).1 (first_of written.1)))
stamped_back words mutation written = absurd (both_ways false refl
    ((bytes_decides (codes "stamped") _).1 (first_of written.2)))

-- no mutation is written by no words, or by a word that names no kind
pub no_words_no_mutation : (words : List (List ℕ)) → words ≡ [] → (mutation : Mutation)
    → ¬ WritesMutation words mutation
no_words_no_mutation words none (made.Clear key) written = cc
no_words_no_mutation words none mutation written = cc

pub no_mutation : (word : List ℕ) (words : List (List ℕ)) → word ≢ codes "clear" → word ≢ codes "clearrange"
    → word ≢ codes "stamped" → ((operation : Operation) → word ≢ operation_name operation)
    → (mutation : Mutation) → ¬ WritesMutation (word ∷ words) mutation
no_mutation word words clear range stamped none (made.Clear key) written = clear (first_of written.1)
no_mutation word words clear range stamped none (made.ClearRange cleared) written = range (first_of written.2)
no_mutation word words clear range stamped none (made.Set key operand) written = none Set (first_of written.2)
no_mutation word words clear range stamped none (made.Add key operand) written = none Add (first_of written.2)
no_mutation word words clear range stamped none (made.And key operand) written = none And (first_of written.2)
no_mutation word words clear range stamped none (made.Or key operand) written = none Or (first_of written.2)
no_mutation word words clear range stamped none (made.Xor key operand) written = none Xor (first_of written.2)
no_mutation word words clear range stamped none (made.Max key operand) written = none Max (first_of written.2)
no_mutation word words clear range stamped none (made.Min key operand) written = none Min (first_of written.2)
no_mutation word words clear range stamped none (made.ByteMin key operand) written = none ByteMin (first_of written.2)
no_mutation word words clear range stamped none (made.ByteMax key operand) written = none ByteMax (first_of written.2)
no_mutation word words clear range stamped none (made.CompareAndClear key operand) written =
    none CompareAndClear (first_of written.2)
no_mutation word words clear range stamped none (made.Stamped key operand offset) written =
    stamped (first_of written.3)

-- two byte texts of which the first or the second is none
no_first : (name : List ℕ) (words : List (List ℕ)) → ((word : List ℕ) (rest : List (List ℕ)) (bytes : List ℕ)
    → words ≡ word ∷ rest → ¬ WritesText word bytes)
    → (first second : List ℕ) → ¬ WritesTwoTexts (name ∷ words) name first second
no_first name words none first second two = none two.0 (two.1 ∷ []) first (after_first two.2) two.3

no_second : (name : List ℕ) (words after : List (List ℕ)) (text : List ℕ)
    → ((x : List ℕ) × (words ≡ x ∷ after) × WritesText x text)
    → ((word : List ℕ) (bytes : List ℕ) → after ≡ word ∷ [] → ¬ WritesText word bytes)
    → (first second : List ℕ) → ¬ WritesTwoTexts (name ∷ words) name first second
no_second name words after text before none first second two =
    none two.1 second (after_first (sym before.1 ∙ after_first two.2)) two.4

pub no_operation_text : (operation : Operation) (words : List (List ℕ))
    → ((word : List ℕ) (rest : List (List ℕ)) (bytes : List ℕ) → words ≡ word ∷ rest → ¬ WritesText word bytes)
    → (mutation : Mutation) → ¬ WritesMutation (operation_name operation ∷ words) mutation
no_operation_text operation words none mutation written =
    let back = operation_back operation words mutation written in
    no_first (operation_name operation) words none back.0 back.1 back.2

pub no_operation_operand : (operation : Operation) (words after : List (List ℕ)) (text : List ℕ)
    → ((x : List ℕ) × (words ≡ x ∷ after) × WritesText x text)
    → ((word : List ℕ) (bytes : List ℕ) → after ≡ word ∷ [] → ¬ WritesText word bytes)
    → (mutation : Mutation) → ¬ WritesMutation (operation_name operation ∷ words) mutation
no_operation_operand operation words after text before none mutation written =
    let back = operation_back operation words mutation written in
    no_second (operation_name operation) words after text before none back.0 back.1 back.2

-- two byte texts after a word
two_texts : (name : List ℕ) (words after : List (List ℕ)) (first second : List ℕ)
    → ((x : List ℕ) × (words ≡ x ∷ after) × WritesText x first)
    → ((y : List ℕ) × (after ≡ y ∷ []) × WritesText y second)
    → WritesTwoTexts (name ∷ words) name first second
two_texts name words after first second before last = (before.0, last.0, (cc), before.2, last.2)

-- what is read of two byte texts that make a mutation, and one whose key or range is refused
pub operation_read : (operation : Operation) (words after : List (List ℕ)) (text key operand : List ℕ)
    → ((x : List ℕ) × (words ≡ x ∷ after) × WritesText x text)
    → ((y : List ℕ) × (after ≡ y ∷ []) × WritesText y operand)
    → key ≡ text → key_fault key ≡ None
    → WritesMutation (operation_name operation ∷ words) (operation_on operation key operand)
    × (mutation_fault (operation_on operation key operand) ≡ None)
operation_read operation words after text key operand first second same legal = (
  rw same (operation_written operation (operation_name operation ∷ words) text operand
      (two_texts (operation_name operation) words after text operand first second)),
  operation_fault operation key operand ∙ legal,
)

pub operation_refused : (operation : Operation) (words after : List (List ℕ)) (text key operand : List ℕ)
    (fault : Fault)
    → ((x : List ℕ) × (words ≡ x ∷ after) × WritesText x text)
    → ((y : List ℕ) × (after ≡ y ∷ []) × WritesText y operand)
    → key ≡ text → MatchFault fault ⊥ (λ why. key_fault key ≡ Some why)
    → Reads (Err fault) (WritesMutation (operation_name operation ∷ words)) mutation_fault
operation_refused operation words after text key operand fault first second same refused =
    Reads-refused fault (key_fault key) _ _ refused (operation_on operation text operand)
    (operation_written operation (operation_name operation ∷ words) text operand
    (two_texts (operation_name operation) words after text operand first second))
    (operation_fault operation text operand ∙ ap key_fault (sym same))

-- the range or the key of a clear that isn't written, or is refused
pub clear_range_fault : (words : List (List ℕ)) (fault : Fault) → Reads (Err fault) (WritesBounds words) bounds_fault
    → Reads (Err fault) (WritesMutation (codes "clearrange" ∷ words)) mutation_fault
clear_range_fault words fault found =
    Reads-whole fault (WritesBounds words) bounds_fault _ _ found
    (λ none mutation written. let back = clear_range_back words mutation written in none back.0 back.1)
    (λ range two. (made.ClearRange range, (two.0, two.1, (cc), two.3, two.4), refl))

pub clear_fault : (words : List (List ℕ)) (fault : Fault) → Reads (Err fault) (WritesOneText words) key_fault
    → Reads (Err fault) (WritesMutation (codes "clear" ∷ words)) mutation_fault
clear_fault words fault found =
    Reads-whole fault (WritesOneText words) key_fault _ _ found
    (λ none mutation written. let back = clear_back words mutation written in none back.0 back.1)
    (λ key one. (made.Clear key, (one.0, (cc), one.2), refl))

-- Three words after 'stamped', of which one isn't what it has to be.
pub no_stamped_key : (words : List (List ℕ))
    → ((word : List ℕ) (rest : List (List ℕ)) (bytes : List ℕ) → words ≡ word ∷ rest → ¬ WritesText word bytes)
    → (mutation : Mutation) → ¬ WritesMutation (codes "stamped" ∷ words) mutation
no_stamped_key words none mutation written =
    let back = stamped_back words mutation written in
    let it = back.3 in
    none it.0 (it.1 ∷ it.2 ∷ []) back.0 (after_first it.3) it.4

module _ (words after : List (List ℕ)) (key : List ℕ)
    (first : (x : List ℕ) × (words ≡ x ∷ after) × WritesText x key) where
  pub no_stamped_operand :
      ((word : List ℕ) (rest : List (List ℕ)) (bytes : List ℕ) → after ≡ word ∷ rest → ¬ WritesText word bytes)
      → (mutation : Mutation) → ¬ WritesMutation (codes "stamped" ∷ words) mutation
  no_stamped_operand none mutation written =
      let back = stamped_back words mutation written in
      let it = back.3 in
      none it.1 (it.2 ∷ []) back.1 (after_first (sym first.1 ∙ after_first it.3)) it.5

  module _ (later : List (List ℕ)) (operand : List ℕ)
      (second : (x : List ℕ) × (after ≡ x ∷ later) × WritesText x operand) where
    pub no_stamped_offset : ((value : ℕ) → ¬ WritesOne later value) → (mutation : Mutation)
        → ¬ WritesMutation (codes "stamped" ∷ words) mutation
    no_stamped_offset none mutation written =
        let back = stamped_back words mutation written in
        let it = back.3 in
        none back.2
        (it.2, after_first (sym second.1 ∙ after_first (sym first.1 ∙ after_first it.3)), it.6)

    -- and three that are
    module _ (offset : ℕ) (third : WritesOne later offset) where
      pub stamped_written : WritesMutation (codes "stamped" ∷ words) (made.Stamped key operand offset)
      stamped_written = (first.0, second.0, third.0, (cc), first.2, second.2, third.2)

      -- of which the key is refused
      pub stamped_refused : (text : List ℕ) (fault : Fault) → text ≡ key
          → MatchFault fault ⊥ (λ why. key_fault text ≡ Some why)
          → Reads (Err fault) (WritesMutation (codes "stamped" ∷ words)) mutation_fault
      stamped_refused text fault same refused =
          Reads-refused fault (key_fault text) _ _ refused (made.Stamped key operand offset) stamped_written
          (ap key_fault (sym same))

      pub stamped_read : (text : List ℕ) → text ≡ key → key_fault text ≡ None
          → WritesMutation (codes "stamped" ∷ words) (made.Stamped text operand offset)
          × (mutation_fault (made.Stamped text operand offset) ≡ None)
      stamped_read text same legal = (
        subst (λ (it : List ℕ). WritesMutation (codes "stamped" ∷ words) (made.Stamped it operand offset)) (sym same)
            stamped_written,
        legal,
      )
