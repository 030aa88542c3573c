-- The first word of a text, and of a list of words.
use Rattle.std.proofs.Common.{◌≡◌, ◌≢◌, ℕ, ◌<◌, ◌≤◌, true, false, zero, suc, length, drop, take, get_or, List, [], ◌∷◌}
use Rattle.std.proofs.Common.{refl, ap, sym, ◌∙◌, arith, length-drop, get_or-drop}
use Rattle.std.specs.List.{slice_split, onto_first}
use Rattle.std.specs.Prelude.{filter}
use Rattle.std.proofs.lemmas.List.{length-take-le}
use Rattle.std.proofs.lemmas.Bool.{eq-eqb, false_from_ne_true, eqb-true}
use Rattle.fdb_play.specs.script.Words.{is_space, is_word, words_of}

-- spaces in front change no word
pub words_of-spaces : (begin : ℕ) (text : List ℕ) → begin ≤ length text → ((k : ℕ) → k < begin → get_or text k 0 ≡ 32)
    → words_of (drop begin text) ≡ words_of text
words_of-spaces zero text within spaces = refl
words_of-spaces (suc begin) [] within spaces = refl
words_of-spaces (suc begin) (byte ∷ text) within spaces =
    let space : is_space byte ≡ true = eq-eqb byte 32 (spaces 0 (omega arith)) in
    rw space (words_of-spaces begin text (omega arith) (λ k h. spaces (suc k) (omega arith)))

-- a row without a space in front goes onto the first piece
abbrev onto_all : List ℕ → List (List ℕ) → List (List ℕ)
onto_all [] pieces = pieces
onto_all (byte ∷ bytes) pieces = onto_first byte (onto_all bytes pieces)

not_space : (byte : ℕ) → byte ≢ 32 → is_space byte ≡ false
not_space byte other = false_from_ne_true _ (λ is. other (eqb-true byte 32 is))

pieces_of-row : (end : ℕ) (text : List ℕ) → end ≤ length text → ((k : ℕ) → k < end → get_or text k 0 ≢ 32)
    → slice_split is_space text ≡ onto_all (take end text) (slice_split is_space (drop end text))
pieces_of-row zero text within plain = refl
pieces_of-row (suc end) [] within plain = refl
pieces_of-row (suc end) (byte ∷ text) within plain =
    rw (not_space byte (plain 0 (omega arith)))
    (ap (onto_first byte) (pieces_of-row end text (omega arith) (λ k h. plain (suc k) (omega arith))))

onto_all-empty : (row : List ℕ) (pieces : List (List ℕ)) → onto_all row ([] ∷ pieces) ≡ row ∷ pieces
onto_all-empty [] pieces = refl
onto_all-empty (byte ∷ row) pieces = rw (onto_all-empty row pieces) refl

-- what comes after a word begins with an empty piece
after : (rest : List ℕ) → (0 < length rest → get_or rest 0 0 ≡ 32) → (pieces : List (List ℕ))
    × (slice_split is_space rest ≡ [] ∷ pieces)
after [] ends = ([], refl)
after (byte ∷ rest) ends =
    let space : is_space byte ≡ true = eq-eqb byte 32 (ends (omega arith)) in
    (slice_split is_space rest, rw space refl)

filter-word : (row : List ℕ) (pieces : List (List ℕ)) → 0 < length row
    → filter is_word (row ∷ pieces) ≡ row ∷ filter is_word pieces
filter-word [] pieces some = absurd (omega arith)
filter-word (byte ∷ row) pieces some = refl

-- a row up to a space or the end is a word
word_and_more : (row rest : List ℕ) (text : List ℕ) → 0 < length row → (0 < length rest → get_or rest 0 0 ≡ 32)
    → slice_split is_space text ≡ onto_all row (slice_split is_space rest) → words_of text ≡ row ∷ words_of rest
word_and_more row rest text some ends pieces =
    let found = after rest ends in
    let text_is : slice_split is_space text ≡ row ∷ found.0 = pieces ∙ ap (onto_all row) found.1
    ∙ onto_all-empty row found.0 in
    let rest_is : words_of rest ≡ filter is_word found.0 = ap (filter is_word) found.1 in
    ap (filter is_word) text_is ∙ filter-word row found.0 some
    ∙ ap (λ (words : List (List ℕ)). row ∷ words) (sym rest_is)

pub words_of-word : (end : ℕ) (text : List ℕ) → 0 < end → end ≤ length text → ((k : ℕ) → k < end → get_or text k 0 ≢ 32)
    → (end < length text → get_or text end 0 ≡ 32) → words_of text ≡ take end text ∷ words_of (drop end text)
words_of-word end text some within plain ends =
    word_and_more (take end text) (drop end text) text (omega (arith, length-take-le end text within))
    (λ h. get_or-drop end text 0 0 ∙ ap (λ i. get_or text i 0) (omega arith)
    ∙ ends (omega (arith, length-drop end text))) (pieces_of-row end text within plain)

pub words_of-none : (text : List ℕ) → length text ≡ 0 → words_of text ≡ []
words_of-none [] none = refl
words_of-none (byte ∷ text) none = absurd (omega arith)

-- where the text does not begin with a space, its first space stands after a byte
pub end_of_word : (begin end : ℕ) (text rest : List ℕ) → rest ≡ drop begin text → 0 < length rest
    → get_or text begin 0 ≢ 32 → (end < length rest → get_or rest end 0 ≡ 32) → 0 < end
end_of_word begin zero text rest is some plain ends =
    let first : get_or rest 0 0 ≡ get_or text begin 0 = ap (λ r. get_or r 0 0) is ∙ get_or-drop begin text 0 0
    ∙ ap (λ i. get_or text i 0) (omega arith) in
    absurd (plain (sym first ∙ ends some))
end_of_word begin (suc end) text rest is some plain ends = omega arith

-- equal rows of words have one first word, and the same words after it
pub first_of : {first second : List ℕ} {words rest : List (List ℕ)} → first ∷ words ≡ second ∷ rest → first ≡ second
first_of is = ap (λ (ws : List (List ℕ)). get_or ws 0 []) is

pub after_first : {first second : List ℕ} {words rest : List (List ℕ)} → first ∷ words ≡ second ∷ rest → words ≡ rest
after_first is = ap (λ (ws : List (List ℕ)). drop 1 ws) is
