-- What stamps leave, and that they are in the order of commits.
use Rattle.std.proofs.Common.{◌≡◌, ◌∙◌, sym, ap, ap₂, refl, ℕ, zero, suc, ◌+◌, ◌*◌, ◌^◌, ◌/◌, ◌%◌, ◌<◌, ◌⊎◌, inl, inr}
use Rattle.std.proofs.Common.{⊎_elim}
use Rattle.std.proofs.Common.{List, [], ◌++◌, arith}
use Rattle.std.specs.Prelude.{nat_lt}
use Rattle.std.specs.Int.{byte_at, bytes_low_first}
use Rattle.std.proofs.Math.Nat.{div-div-eq-div-mul, div-one, mod-add-div, mod-lt, pow-suc}
use Rattle.std.proofs.lemmas.Bool.{lt-ltb, ltb-true, cases_order}
use Rattle.fdb_keys.specs.Points.{point_lt}
use Rattle.fdb_mutations.specs.declared.mutation.Mutation.TheVariants.{Stamped}
use Rattle.fdb_mutations.specs.Numbers.{number_of}
use Rattle.fdb_mutations.specs.Stamping.{StampsAreFinal, StampsKeepNames, StampsRise}
use Rattle.fdb_mutations.specs.Stamps.{stamp_bytes}
use Rattle.fdb_mutations.proofs.NumbersLemmas.{AreBytes, below-number_of, byte_at-div}

pub stamps_keep_names : StampsKeepNames
stamps_keep_names stamp (Stamped key operand offset) = refl
stamps_keep_names stamp mutation = refl

pub stamps_are_final : StampsAreFinal
stamps_are_final stamp (Stamped key operand offset) = refl
stamps_are_final stamp mutation = refl

-- the bytes of a number from byte i on, as many as it has, are what is left of it
number_of-low : (count i number : ℕ) → number / 256 ^ (i + count) ≡ 0
    → number_of (bytes_low_first i count number) ≡ number / 256 ^ i
number_of-low zero i number none = sym (ap (λ (n : ℕ). number / 256 ^ n) (add-none i) ∙ none)
  where
    add-none : (i : ℕ) → i ≡ i + 0
    add-none i = omega arith
number_of-low (suc count) i number none =
    ap (λ (rest : ℕ). byte_at i number + 256 * rest)
    (number_of-low count (suc i) number (ap (λ (n : ℕ). number / 256 ^ n) (next i count) ∙ none))
    ∙ ap (λ (byte : ℕ). byte + 256 * (number / 256 ^ suc i)) (byte_at-div i number)
    ∙ ap (λ (n : ℕ). number / 256 ^ i % 256 + 256 * n)
    (ap (λ (p : ℕ). number / p) (pow-suc 256 i) ∙ sym (div-div-eq-div-mul number (256 ^ i) 256))
    ∙ mod-add-div (number / 256 ^ i) 256
  where
    next : (i count : ℕ) → suc i + count ≡ i + suc count
    next i count = omega arith

-- the bytes of a place, and those of its version, the lowest first
abbrev low : (version place : ℕ) → List ℕ
low version place = bytes_low_first 0 2 place ++ bytes_low_first 0 8 version

-- they are a number in which the version goes before the place
number_of-stamp : (version place : ℕ) → version < 2 ^ 64 → place < 2 ^ 16
    → number_of (low version place) ≡ place + 65536 * version
number_of-stamp version place fits small =
    let all : number_of (bytes_low_first 0 8 version) ≡ version =
    number_of-low 8 0 version (omega (arith, fits)) ∙ div-one version in
    ap (λ (n : ℕ). place % 256 + 256 * (place / 256 % 256 + 256 * n)) all ∙ omega (arith, small)

-- and they are bytes
below_256 : (i number : ℕ) → byte_at i number < 256
below_256 zero number = mod-lt number (omega arith)
below_256 (suc i) number = mod-lt (number / 256 ^ suc i) (omega arith)

bytes-low : (count i number : ℕ) (others : List ℕ) → AreBytes others
    → AreBytes (bytes_low_first i count number ++ others)
bytes-low zero i number others are j = are j
bytes-low (suc count) i number others are zero = below_256 i number
bytes-low (suc count) i number others are (suc j) = bytes-low count (suc i) number others are j

are_bytes : (version place : ℕ) → AreBytes (low version place)
are_bytes version place =
    bytes-low 2 0 place (bytes_low_first 0 8 version) (bytes-low 8 0 version [] (λ i. omega arith))

-- so stamps are in the order of these numbers
pub stamps_rise : StampsRise
unfolding point_lt
stamps_rise version place other_version other_place fits other_fits small other_small = (
  (λ below. order (ltb-true _ _ (sym test ∙ below))),
  (λ before. test ∙ lt-ltb _ _ (back before)),
)
  where
    test : point_lt (stamp_bytes version place) (stamp_bytes other_version other_place)
        ≡ nat_lt (place + 65536 * version) (other_place + 65536 * other_version)
    test = below-number_of (low version place) (low other_version other_place) refl (are_bytes version place)
        (are_bytes other_version other_place)
        ∙ ap₂ nat_lt (number_of-stamp version place fits small)
        (number_of-stamp other_version other_place other_fits other_small)

    order : place + 65536 * version < other_place + 65536 * other_version
        → (version < other_version) ⊎ ((version ≡ other_version) × (place < other_place))
    order less = ⊎_elim
        (λ (same : version ≡ other_version). inr (same, omega (arith, less, same)))
        (⊎_elim (λ (under : version < other_version). inl under)
        (λ (over : other_version < version). absurd (omega (arith, less, over, small, other_small))))
        (cases_order version other_version)

    back : (version < other_version) ⊎ ((version ≡ other_version) × (place < other_place))
        → place + 65536 * version < other_place + 65536 * other_version
    back = ⊎_elim (λ under. omega (arith, under, small, other_small)) (λ same. omega (arith, same.0, same.1))
