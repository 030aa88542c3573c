-- What lines that write a stamped value write, and which write nothing.
use Rattle.std.proofs.Common.{◌≡◌, ◌∙◌, ◌<◌, refl, sym, ap, subst, arith, ℕ, false, List, [], ◌∷◌, codes}
use Rattle.std.specs.Cmp.Lexicographic.{bytes_decides}
use Rattle.std.specs.Str.Parse.{AllDigits, digits_value}
use Rattle.std.proofs.lemmas.Bool.{both_ways}
use Rattle.fdb_machine.specs.declared.step.AnyStep.TheVariants as made
use Rattle.fdb_machine.specs.machine.AnyStep.{Step}
use Rattle.fdb_mutations.specs.declared.mutation.Mutation.{Mutation}
use Rattle.fdb_mutations.specs.declared.mutation.Mutation.TheVariants.{Clear, Set, Stamped}
use Rattle.fdb_play.specs.declared.script.fault.Fault.TheVariants as fault
use Rattle.fdb_play.specs.declared.script.step_line.Kind.TheVariants.{Write}
use Rattle.fdb_play.specs.script.Examples.{WorkedStampedLines, IsBad, writes}
use Rattle.fdb_play.specs.script.Grammar.{WritesLine, WritesMutation, WritesOne, WritesSmall, mutation_fault}
use Rattle.fdb_play.specs.script.Grammar.{step_fault}
use Rattle.fdb_play.specs.script.Words.{words_of}
use Rattle.fdb_play.proofs.lemmas.Grammar.{line_of_step, number_fault, step_of_rest}
use Rattle.fdb_play.proofs.lemmas.Words.{after_first, first_of}
use Rattle.fdb_play.proofs.lemmas.WriteLines.{no_stamped_key, no_stamped_offset}

zero_written : WritesSmall (codes "0") 0
zero_written = ((omega arith, (omega arith, tt)), refl, omega arith)

-- a line of session 0 that writes is bad where its other words write no mutation
bad-words : (line : List ℕ) (words : List (List ℕ)) → words_of line ≡ codes "write" ∷ codes "0" ∷ words
    → ((mutation : Mutation) → ¬ WritesMutation words mutation) → IsBad line
bad-words line words is none =
    line_of_step line (codes "write") (codes "0" ∷ words) fault.Bad is
    (λ same. both_ways false refl ((bytes_decides (codes "write") (codes "drive")).1 same))
    (λ same. both_ways false refl ((bytes_decides (codes "write") (codes "show")).1 same))
    (λ same. both_ways false refl ((bytes_decides (codes "write") (codes "conflict")).1 same))
    (step_of_rest (codes "write") (codes "0" ∷ words) Write fault.Bad refl
    (number_fault (λ mutation rest. WritesMutation rest mutation) mutation_fault made.Write step_fault
    (codes "0" ∷ words) words 0 fault.Bad (codes "0", refl, zero_written) (λ mutation. refl) none))

-- so it is where these are 'stamped', a key, an operand, and then no number alone
bad-offset : (line : List ℕ) (rest : List (List ℕ))
    → words_of line ≡ codes "write" ∷ codes "0" ∷ codes "stamped" ∷ codes "a" ∷ codes "x0123456789y" ∷ rest
    → ((offset : ℕ) → ¬ WritesOne rest offset) → IsBad line
bad-offset line rest is none =
    bad-words line (codes "stamped" ∷ codes "a" ∷ codes "x0123456789y" ∷ rest) is
    (no_stamped_offset (codes "a" ∷ codes "x0123456789y" ∷ rest) (codes "x0123456789y" ∷ rest) (codes "a")
    (codes "a", refl, refl) rest (codes "x0123456789y") (codes "x0123456789y", refl, refl) none)

-- no number below 2^32 is written by a word that writes a greater one, or a letter
no-large : (offset : ℕ) → ¬ WritesOne (codes "4294967296" ∷ []) offset
no-large offset one =
    let same : 4294967296 ≡ digits_value 10 one.0 = ap (digits_value 10) (first_of one.1) in
    let value : offset ≡ digits_value 10 one.0 = one.2.1 in
    let fits : offset < 4294967296 = one.2.2 in
    absurd (omega (arith, same, value, fits))

no-letter : (offset : ℕ) → ¬ WritesOne (codes "b" ∷ []) offset
no-letter offset one =
    let digits : AllDigits 10 (codes "b") = subst (AllDigits 10) (sym (first_of one.1)) one.2.0.1 in
    let wrong : 11 < 10 = digits.0 in absurd (omega (arith, wrong))

-- what is written after the session's number
abbrev mutation_in : Step → Mutation
mutation_in (made.Write session mutation) = mutation
mutation_in step = Clear []

written-mutation : (line : List ℕ) (words : List (List ℕ)) (mutation : Mutation)
    → words_of line ≡ codes "write" ∷ codes "0" ∷ words → WritesLine line (writes mutation)
    → WritesMutation words mutation
written-mutation line words mutation is written =
    let more = written.2.2 in
    let same : words ≡ more.1 = after_first (after_first (sym is ∙ written.1) ∙ more.2) in
    let made_of : mutation ≡ written.2.1 = ap mutation_in written.2.3 in
    rw (same, made_of) more.4

abbrev stamped_words : List (List ℕ)
stamped_words = codes "stamped" ∷ codes "a" ∷ codes "x0123456789y" ∷ codes "1" ∷ []

abbrev greatest_words : List (List ℕ)
greatest_words = codes "stamped" ∷ codes "a" ∷ codes "x" ∷ codes "4294967295" ∷ []

one_written : WritesSmall (codes "1") 1
one_written = ((omega arith, (omega arith, tt)), refl, omega arith)

greatest_written : WritesSmall (codes "4294967295") 4294967295
greatest_written = (
  (
    omega arith,
    (
      omega arith,
      (
        omega arith,
        (
          omega arith,
          (
            omega arith,
            (
              omega arith,
              (
                omega arith,
                (
                  omega arith,
                  (
                    omega arith,
                    (
                      omega arith,
                      (omega arith, tt),
                    ),
                  ),
                ),
              ),
            ),
          ),
        ),
      ),
    ),
  ),
  refl,
  omega arith,
)

pub worked_stamped_lines : WorkedStampedLines
worked_stamped_lines = (
  (
    codes "0" ∷ stamped_words,
    refl,
    (
      0,
      _,
      (
        codes "0",
        stamped_words,
        refl,
        zero_written,
        (codes "a", codes "x0123456789y", codes "1", refl, refl, refl, one_written),
      ),
      refl,
    ),
  ),
  (
    codes "0" ∷ greatest_words,
    refl,
    (
      0,
      _,
      (
        codes "0",
        greatest_words,
        refl,
        zero_written,
        (codes "a", codes "x", codes "4294967295", refl, refl, refl, greatest_written),
      ),
      refl,
    ),
  ),
  (λ written.
      let it = written-mutation (codes "write 0 stamped a x0123456789y 1") stamped_words
      (Stamped (codes "a") (codes "x0123456789y") 12) refl written in
      let offset : codes "1" ≡ it.2 = first_of (after_first (after_first (after_first it.3))) in
      let value : 12 ≡ digits_value 10 it.2 = it.6.1 in
      let wrong : 1 ≡ digits_value 10 it.2 = ap (digits_value 10) offset in
      absurd (omega (arith, value, wrong))),
  (λ written.
      let it = written-mutation (codes "write 0 stamped a x0123456789y 1") stamped_words
      (Set (codes "a") (codes "x0123456789y")) refl written in
      both_ways false refl ((bytes_decides (codes "stamped") (codes "set")).1 (first_of it.2))),
  bad-words (codes "write 0 stamped") (codes "stamped" ∷ []) refl
      (no_stamped_key [] (λ word rest bytes is. cc)),
  bad-offset (codes "write 0 stamped a x0123456789y") [] refl (λ offset one. let is = one.1 in cc),
  bad-offset (codes "write 0 stamped a x0123456789y 4294967296") (codes "4294967296" ∷ []) refl no-large,
  bad-offset (codes "write 0 stamped a x0123456789y b") (codes "b" ∷ []) refl no-letter,
  bad-offset (codes "write 0 stamped a x0123456789y 1 2") (codes "1" ∷ codes "2" ∷ []) refl
      (λ offset one. let is = after_first one.1 in cc),
)
