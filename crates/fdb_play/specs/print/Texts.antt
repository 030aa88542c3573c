-- How bytes are written as byte texts.
use Rattle.std.specs.Prelude.{◌≡◌, ℕ, ◌/◌, ◌%◌, ◌<◌, List, [], ◌∷◌, ◌++◌, Some, if◌then◌else◌, All}
use Rattle.std.specs.Char.{digit_char}
use Rattle.fdb_play.specs.script.Texts.{is_plain, value_of}

-- how a byte is written
abbrev pub written_byte : ℕ → List ℕ
written_byte byte =
    if is_plain byte then byte ∷ []
    else 37 ∷ digit_char (byte / 16) ∷ digit_char (byte % 16) ∷ []

abbrev pub written_bytes : List ℕ → List ℕ
written_bytes [] = []
written_bytes (byte ∷ bytes) = written_byte byte ++ written_bytes bytes

-- how bytes are written as a word
abbrev pub text_of : List ℕ → List ℕ
text_of [] = 37 ∷ []
text_of (byte ∷ bytes) = written_bytes (byte ∷ bytes)

-- What is written of bytes is read as those bytes.
abbrev pub WrittenTextReadsBack : Type 0
WrittenTextReadsBack = (bytes : List ℕ) → All (λ byte. byte < 256) bytes → value_of (text_of bytes) ≡ Some bytes
