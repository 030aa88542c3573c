-- What an option's text gives, as clap's getters read it.
use Rattle.std.proofs.Common.{ℕ, List, Option, Some, None, Result, ◌≡◌, ◌<◌, ◌^◌}
use Rattle.std.specs.Prelude.{unwrap_or}
use Rattle.std.specs.Str.Parse.{ExplainsUnsignedError, HasUnsignedDigitsIfOk, IsNumeral, ParsesUnsigned, digits_value}
use Rattle.std.specs.Str.Parse.{without_leading_plus}
use Rattle.std.specs.declared.num.ParseIntError.{ParseIntError}
use Rattle.clap.specs.Words.{ReadsOne, Text}

-- how an unsigned type of so many bits reads a text
abbrev pub Gives : ℕ → List ℕ → Result ℕ ParseIntError → Type 0
Gives bits bytes read =
    ParsesUnsigned bits 10 bytes read × ExplainsUnsignedError 10 bytes read × HasUnsignedDigitsIfOk bytes read

-- the number is read where the text is one that fits
pub reads : (bits other : ℕ) (text : Text) (read : Option ℕ) → ReadsOne (Gives bits) text read
    → IsNumeral 10 (without_leading_plus text) → digits_value 10 (without_leading_plus text) < 2 ^ bits
    → unwrap_or read other ≡ digits_value 10 (without_leading_plus text)
reads bits other text (Some n) given numeral fits = given.0.1
reads bits other text None given numeral fits = absurd (given.1.0 (numeral, fits))
