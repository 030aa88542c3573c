-- The words of a line.
use Rattle.std.specs.Prelude.{ℕ, ◌==◌, Bool, true, false, List, [], ◌∷◌, filter}
use Rattle.std.specs.List.{slice_split}

-- the byte is a space
abbrev pub is_space : ℕ → Bool
is_space byte = byte == 32

-- a row of bytes with no space in it is a word where it isn't empty
abbrev pub is_word : List ℕ → Bool
is_word [] = false
is_word (byte ∷ bytes) = true

-- the words of a text, which are parted by one or more spaces
abbrev pub words_of : List ℕ → List (List ℕ)
words_of text = filter is_word (slice_split is_space text)
