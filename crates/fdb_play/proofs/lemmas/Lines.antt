-- The lines of a text, and its first line, which is read through its LF.
use Rattle.std.proofs.Common.{◌≡◌, ◌≢◌, ◌⊎◌, ℕ, ◌-◌, ◌<◌, false, cond, List, [], ◌∷◌, ◌++◌, All, length, IfSome, None}
use Rattle.std.proofs.Common.{Some, inl, inr, refl, ap, sym, subst, ◌∙◌, arith, append-nil, length-append, ⊎_elim}
use Rattle.std.specs.Prelude.{Option, ◌==◌}
use Rattle.std.specs.List.{slice_split}
use Rattle.std.specs.Str.Lines.{lines_of_parts, strip_carriage_return}
use Rattle.std.specs.Io.BufRead.{take_through, drop_through, DropsThrough}
use Rattle.std.proofs.BufReadLemmas.{take_through-append, drop_through-append, take_through_nonempty}
use Rattle.std.proofs.Math.Seq.{get_or-append_seam, take-append_seam}
use Rattle.std.proofs.lemmas.Bool.{cases_Bool, eq-eqb, ne_eqb, eqb-true, true≢false}
use Rattle.std.proofs.lemmas.List.Elements.{All-cons}
use Rattle.std.proofs.lemmas.List.Splits.{slice_split_at, slice_split_none, length-slice_split}
use Rattle.fdb_play.specs.script.Lines.{LosesLine, lines_of, without_line_end}

-- no LF is among the bytes
abbrev HasNoLineEnd : List ℕ → Type 0
HasNoLineEnd bytes = All (λ byte. byte ≢ 10) bytes

-- ---- examples of the definition

-- "a\r\nb\n\nc"
example_of_four : lines_of (97 ∷ 13 ∷ 10 ∷ 98 ∷ 10 ∷ 10 ∷ 99 ∷ []) ≡ (97 ∷ []) ∷ (98 ∷ []) ∷ [] ∷ (99 ∷ []) ∷ []
example_of_four = refl

-- "a\n"
example_of_one : lines_of (97 ∷ 10 ∷ []) ≡ (97 ∷ []) ∷ []
example_of_one = refl

-- the empty text
example_of_none : lines_of [] ≡ []
example_of_none = refl

-- "a\r", where no LF follows the CR, and "\r\r\n", where one CR is dropped
example_of_carriage_return : (lines_of (97 ∷ 13 ∷ []) ≡ (97 ∷ 13 ∷ []) ∷ [])
    × (lines_of (13 ∷ 13 ∷ 10 ∷ []) ≡ (13 ∷ []) ∷ [])
example_of_carriage_return = (refl, refl)

-- ---- the lines of a text

not_line_feed : (row : List ℕ) → HasNoLineEnd row → All (λ byte. (byte == 10) ≡ false) row
not_line_feed row none = λ k d within. ne_eqb _ 10 (none k d within)

lines_of_parts-cons : (part : List ℕ) (parts : List (List ℕ)) → 0 < length parts
    → lines_of_parts (part ∷ parts) ≡ strip_carriage_return part ∷ lines_of_parts parts
lines_of_parts-cons part [] some = absurd (omega arith)
lines_of_parts-cons part (next ∷ more) some = refl

-- a row up to an LF is the first line
lines_of-line : (row rest : List ℕ) → HasNoLineEnd row
    → lines_of (row ++ 10 ∷ rest) ≡ strip_carriage_return row ∷ lines_of rest
lines_of-line row rest none =
    ap lines_of_parts (slice_split_at (λ byte. byte == 10) row 10 rest (not_line_feed row none) refl)
    ∙ lines_of_parts-cons row (slice_split (λ byte. byte == 10) rest)
    (omega (arith, length-slice_split (λ byte. byte == 10) rest))

-- a row with no LF after it is the last line, where it isn't empty
lines_of-last : (row : List ℕ) → HasNoLineEnd row → 0 < length row → lines_of row ≡ row ∷ []
lines_of-last row none some =
    ap lines_of_parts (slice_split_none (λ byte. byte == 10) row (not_line_feed row none))
    ∙ ap (λ is_empty. cond is_empty [] (row ∷ [])) (ne_eqb (length row) 0 (λ empty. omega arith))

-- ---- the first line of a text

-- a text begins with a row up to an LF, or has none
first_row : (text : List ℕ) → ((row : List ℕ) × (rest : List ℕ) × HasNoLineEnd row × (text ≡ row ++ 10 ∷ rest))
    ⊎ HasNoLineEnd text
first_row [] = inr (λ k d within. absurd (omega (arith, within)))
first_row (byte ∷ text) =
    ⊎_elim (λ line_feed. inl (
      [],
      text,
      (λ k d within. absurd (omega (arith, within))),
      ap (λ (first : ℕ). first ∷ text)
          (eqb-true byte 10 line_feed),
    ))
    (λ other.
    let plain : byte ≢ 10 = λ is. true≢false (sym (eq-eqb byte 10 is) ∙ other) in
    ⊎_elim (λ (row, rest, none, is). inl
    (byte ∷ row, rest, All-cons (λ b. b ≢ 10) byte row plain none, ap (λ bytes. byte ∷ bytes) is))
    (λ none. inr (All-cons (λ b. b ≢ 10) byte text plain none))
    (first_row text))
    (cases_Bool (byte == 10))

-- the ends of a line that has an LF are dropped
without_end : (row : List ℕ) → without_line_end (row ++ 10 ∷ []) ≡ strip_carriage_return row
without_end row =
    let last : length (row ++ 10 ∷ []) - 1 ≡ length row = omega (arith, length-append row (10 ∷ [])) in
    rw (last, get_or-append_seam row 10 [] 0, take-append_seam row (10 ∷ [])) refl

-- a line without an LF has no end
without_no_end : (row : List ℕ) → HasNoLineEnd row → 0 < length row → without_line_end row ≡ row
without_no_end row none some = rw (ne_eqb _ 10 (none (length row - 1) 0 (omega (arith, some)))) refl

lines_of-first : (text : List ℕ) → 0 < length (take_through 10 text)
    → lines_of text ≡ without_line_end (take_through 10 text) ∷ lines_of (drop_through 10 text)
lines_of-first text some = ⊎_elim (λ (row, rest, none, is). ended row rest none is) unended (first_row text)
  where
    ended : (row rest : List ℕ) → HasNoLineEnd row → text ≡ row ++ 10 ∷ rest
        → lines_of text ≡ without_line_end (take_through 10 text) ∷ lines_of (drop_through 10 text)
    ended row rest none is =
        rw (
          is,
          take_through-append 10 row (10 ∷ rest) none,
          drop_through-append 10 row (10 ∷ rest) none,
          without_end
              row,
        ) (lines_of-line row rest none)

    unended : HasNoLineEnd text
        → lines_of text ≡ without_line_end (take_through 10 text) ∷ lines_of (drop_through 10 text)
    unended none =
        let whole : take_through 10 text ≡ text = ap (take_through 10) (sym (append-nil text))
        ∙ take_through-append 10 text [] none ∙ append-nil text in
        let nothing : drop_through 10 text ≡ [] = ap (drop_through 10) (sym (append-nil text))
        ∙ drop_through-append 10 text [] none in
        let some_text = take_through_nonempty 10 text some in
        rw (whole, nothing, without_no_end text none some_text) (lines_of-last text none some_text)

-- ---- the first line of an input

-- what was read through an LF is the first line and its end
pub LosesLine-first : (old new : Option (List ℕ)) (empty taken : List ℕ) → empty ≡ []
    → IfSome old (λ xs. taken ≡ empty ++ take_through 10 xs) → DropsThrough old new 10
    → 0 < length taken → LosesLine old new (without_line_end taken)
LosesLine-first None new empty taken none read drops some = tt
LosesLine-first (Some xs) new empty taken none read drops some =
    let all : taken ≡ take_through 10 xs = read ∙ ap (λ bytes. bytes ++ take_through 10 xs) none in
    rw (drops, all) (lines_of-first xs (subst (λ bytes. 0 < length bytes) all some))
