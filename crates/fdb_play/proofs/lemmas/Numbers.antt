-- What is known of a number once some of its digits are read.
use Rattle.std.proofs.Common.{◌≡◌, ℕ, ◌+◌, ◌*◌, ◌^◌, ◌<◌, List, [], ◌∷◌, length, zero, suc, get_or, take, arith}
use Rattle.std.specs.Char.{digit_value}
use Rattle.std.specs.Str.Parse.{AllDigits, IsNumeral, digits_value}
use Rattle.std.proofs.lemmas.Int.Digits.{digits_value_more}
use Rattle.std.proofs.lemmas.Str.Parse.{digits_value-take-le}

pub digit_at : (ds : List ℕ) (i : ℕ) → i < length ds → AllDigits 10 ds → digit_value (get_or ds i 0) < 10
digit_at [] i h all = absurd (omega arith)
digit_at (d ∷ ds) zero h all = all.0
digit_at (d ∷ ds) (suc i) h all = digit_at ds i (omega arith) all.1

-- a digit that cannot come next cannot stand in a number that fits
pub no_number : (word : List ℕ) (i value : ℕ) → i < length word → value ≡ digits_value 10 (take i word)
    → ¬ ((digit_value (get_or word i 0) < 10) × (value * 10 + digit_value (get_or word i 0) < 2 ^ 64))
    → ¬ (IsNumeral 10 word × (digits_value 10 word < 2 ^ 64))
no_number word i value inside is none fits =
    none (
      digit_at word i inside fits.0.1,
      omega
          (arith, fits.1, digits_value_more 10 word i inside, digits_value-take-le 10 word (i + 1) (omega arith)),
    )
