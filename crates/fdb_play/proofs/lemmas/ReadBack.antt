-- What is written of a byte is read as that byte.
use Rattle.std.proofs.Common.{◌≡◌, ℕ, ◌+◌, ◌*◌, ◌/◌, ◌%◌, ◌<◌, ◌==◌, true, false, suc, List, [], ◌∷◌, ◌++◌, Some, refl}
use Rattle.std.proofs.Common.{ap, sym, ◌∙◌, ⊎_elim, arith, true≢false}
use Rattle.std.specs.Prelude.{All, nat_lt}
use Rattle.std.specs.Char.{digit_value, digit_char}
use Rattle.std.proofs.lemmas.Bool.{cases_Bool, lt-ltb, eqb-true, and_from}
use Rattle.std.proofs.lemmas.Str.{digit_value-digit_char}
use Rattle.fdb_play.specs.print.Texts.{written_byte, written_bytes, WrittenTextReadsBack}
use Rattle.fdb_play.specs.script.Texts.{is_plain, is_escape, put_before, bytes_of, value_of}

plain_first : (byte : ℕ) (rest : List ℕ) → is_plain byte ≡ true
    → bytes_of (byte ∷ rest) ≡ put_before byte (bytes_of rest)
plain_first byte [] plain = rw plain refl
plain_first byte (b ∷ []) plain = rw plain refl
plain_first byte (b ∷ c ∷ rest) plain = rw plain refl

escape_first : (h l high low : ℕ) (rest : List ℕ) → digit_value h ≡ high → digit_value l ≡ low → high < 16 → low < 16
    → bytes_of (37 ∷ h ∷ l ∷ rest) ≡ put_before (high * 16 + low) (bytes_of rest)
escape_first h l high low rest h_is l_is high_lt low_lt =
    let high_digit : nat_lt (digit_value h) 16 ≡ true = lt-ltb _ _ (omega (arith, h_is)) in
    let low_digit : nat_lt (digit_value l) 16 ≡ true = lt-ltb _ _ (omega (arith, l_is)) in
    let escape : is_escape 37 h l ≡ true = and_from _ _ high_digit low_digit in
    rw (escape, h_is, l_is) refl

byte_back : (byte : ℕ) (rest : List ℕ) → byte < 256
    → bytes_of (written_byte byte ++ rest) ≡ put_before byte (bytes_of rest)
byte_back byte rest small = ⊎_elim (λ plain. rw plain (plain_first byte rest plain))
    (λ other. rw other
    (escape_first (digit_char (byte / 16)) (digit_char (byte % 16)) (byte / 16) (byte % 16) rest
    (digit_value-digit_char _ (omega arith)) (digit_value-digit_char _ (omega arith)) (omega arith) (omega arith)
    ∙ ap (λ b. put_before b (bytes_of rest)) (omega arith))) (cases_Bool (is_plain byte))

bytes_back : (bytes : List ℕ) → All (λ byte. byte < 256) bytes → bytes_of (written_bytes bytes) ≡ Some bytes
bytes_back [] small = refl
bytes_back (byte ∷ bytes) small =
    byte_back byte (written_bytes bytes) (small 0 0 (omega arith))
    ∙ ap (put_before byte) (bytes_back bytes (λ k d h. small (suc k) d (omega arith)))

no_mark : (byte : ℕ) → is_plain byte ≡ true → (byte == 37) ≡ false
no_mark byte plain =
    ⊎_elim (λ is. let mark : byte ≡ 37 = eqb-true byte 37 is in absurd (true≢false (sym plain ∙ ap is_plain mark)))
    (λ other. other) (cases_Bool (byte == 37))

value_first : (byte : ℕ) (rest : List ℕ) → value_of (written_byte byte ++ rest) ≡ bytes_of (written_byte byte ++ rest)
value_first byte rest = ⊎_elim (λ plain. rw plain (plain_value rest plain)) (λ not_plain. rw not_plain refl)
    (cases_Bool (is_plain byte))
  where
    plain_value : (rest : List ℕ) → is_plain byte ≡ true → value_of (byte ∷ rest) ≡ bytes_of (byte ∷ rest)
    plain_value [] plain = rw (no_mark byte plain) refl
    plain_value (b ∷ rest) plain = refl

pub reads_back : WrittenTextReadsBack
reads_back [] small = refl
reads_back (byte ∷ bytes) small = value_first byte (written_bytes bytes) ∙ bytes_back (byte ∷ bytes) small
