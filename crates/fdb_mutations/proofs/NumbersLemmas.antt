-- Little-endian numbers: their bytes, their sums and their order.
use Rattle.std.proofs.Common.{◌≡◌, ◌∙◌, sym, ap, refl, ℕ, zero, suc, ◌+◌, ◌*◌, ◌-◌, ◌^◌, ◌/◌, ◌%◌, ◌<◌, ◌≤◌, List, []}
use Rattle.std.proofs.Common.{◌∷◌, ◌++◌, length, take, drop, get_or, arith, ap₂, length-drop, length-append, add-zero}
use Rattle.std.proofs.Common.{⊎_elim}
use Rattle.std.specs.Prelude.{replicate, reverse, nat_lt}
use Rattle.std.specs.Int.{w128, byte_at, byte_worth, sum_through, bytes_low_first, from_le_bytes, to_le_bytes}
use Rattle.std.proofs.Math.Nat.{pow-suc, one-le-pow, div-one, mod-add-div, add-mul-mod_self_left, add-mul-div_left}
use Rattle.std.proofs.lemmas.Nat.{pow-add}
use Rattle.std.specs.Ordering.{nat_cmp, is_lt, ordering_then}
use Rattle.std.specs.declared.cmp.Ordering.{Ordering}
use Rattle.std.specs.declared.cmp.Ordering.TheVariants.{Less, Equal, Greater}
use Rattle.std.specs.Cmp.{nat_cmp_is}
use Rattle.std.specs.Cmp.Lexicographic.{slice_cmp}
use Rattle.std.proofs.lemmas.Bool.{cases_order, lt-ltb, le-ltb}
use Rattle.std.proofs.lemmas.List.{reverse-append, length-reverse}
use Rattle.fdb_mutations.specs.Numbers.{number_of, bytes_of}

-- a byte, and what is above it
number_of-drop : (k : ℕ) (bytes : List ℕ) → number_of (drop k bytes)
    ≡ get_or bytes k 0 + 256 * number_of (drop (suc k) bytes)
number_of-drop zero [] = refl
number_of-drop zero (byte ∷ bytes) = refl
number_of-drop (suc k) [] = refl
number_of-drop (suc k) (byte ∷ bytes) = number_of-drop k bytes

-- what the lowest bytes are worth, and what is above them
abbrev pub worth : List ℕ → ℕ → ℕ
worth bytes k = sum_through (λ i. byte_worth i (get_or bytes i 0)) k

pub worth-number_of : (k : ℕ) (bytes : List ℕ) → worth bytes k + number_of (drop (suc k) bytes) * 256 ^ suc k
    ≡ number_of bytes
worth-number_of zero bytes =
    let first = number_of-drop zero bytes in
    omega (arith, first)
worth-number_of (suc k) bytes =
    let below = worth-number_of k bytes in
    let next = number_of-drop (suc k) bytes in
    let power = pow-suc 256 (suc k) in
    let split : number_of (drop (suc k) bytes) * 256 ^ suc k
    ≡ get_or bytes (suc k) 0 * 256 ^ suc k + number_of (drop (suc (suc k)) bytes) * (256 ^ suc k * 256) =
    ap (λ (n : ℕ). n * 256 ^ suc k) next ∙ times (get_or bytes (suc k) 0) (number_of (drop (suc (suc k)) bytes))
    (256 ^ suc k) in
    omega (arith, below, split, ap (λ (p : ℕ). number_of (drop (suc (suc k)) bytes) * p) power)
  where
    times : (b n p : ℕ) → (b + 256 * n) * p ≡ b * p + n * (p * 256)
    times b n p = omega arith

number_of-none : (bytes : List ℕ) → length bytes ≡ 0 → number_of bytes ≡ 0
number_of-none [] none = refl
number_of-none (byte ∷ bytes) none = absurd (omega arith)

number_of-append : (bytes others : List ℕ) → number_of others ≡ 0 → number_of (bytes ++ others) ≡ number_of bytes
number_of-append [] others none = none
number_of-append (byte ∷ bytes) others none = ap (λ (n : ℕ). byte + 256 * n) (number_of-append bytes others none)

number_of-none_dropped : (count : ℕ) (bytes : List ℕ) → number_of bytes ≡ 0 → number_of (drop count bytes) ≡ 0
number_of-none_dropped zero bytes none = none
number_of-none_dropped (suc count) [] none = refl
number_of-none_dropped (suc count) (byte ∷ bytes) none = number_of-none_dropped count bytes (omega arith)

-- at most 16 bytes, and zero bytes after them, make the same number
pub from_le_bytes-number_of : (bytes : List ℕ) → length bytes ≤ 16
    → from_le_bytes w128 (bytes ++ drop (length bytes) (replicate 16 0)) ≡ number_of bytes
from_le_bytes-number_of bytes short =
    let zeros_16 : List ℕ = replicate 16 0 in
    let zeros = drop (length bytes) zeros_16 in
    let wide = bytes ++ zeros in
    let all : worth wide 15 + number_of (drop 16 wide) * 256 ^ 16 ≡ number_of wide = worth-number_of 15 wide in
    let above : number_of (drop 16 wide) ≡ 0 = number_of-none (drop 16 wide)
    (omega (arith, length-drop 16 wide, length-append bytes zeros, length-drop (length bytes) zeros_16)) in
    sym (add-zero (worth wide 15)) ∙ ap (λ (n : ℕ). worth wide 15 + n * 256 ^ 16) (sym above) ∙ all
    ∙ number_of-append bytes zeros (number_of-none_dropped (length bytes) (replicate 16 0) refl)

-- ---- the lowest bytes of a number
pub byte_at-div : (i number : ℕ) → byte_at i number ≡ number / 256 ^ i % 256
byte_at-div zero number = ap (λ (n : ℕ). n % 256) (sym (div-one number))
byte_at-div (suc i) number = refl

pow_256-pos : (k : ℕ) → 0 < 256 ^ k
pow_256-pos k = omega (arith, one-le-pow k 256 (omega arith))

-- what is cut off above doesn't change a lower byte
byte_at-mod : (i above number : ℕ) → byte_at i (number % 256 ^ (i + suc above)) ≡ byte_at i number
byte_at-mod i above number =
    let p = 256 ^ i in
    let q = 256 ^ above in
    let power : 256 ^ (i + suc above) ≡ p * (q * 256) = pow-add 256 i (suc above)
    ∙ ap (λ (n : ℕ). p * n) (pow-suc 256 above) in
    let cut = number % 256 ^ (i + suc above) in
    let whole : number ≡ cut + p * (256 * (q * (number / 256 ^ (i + suc above)))) =
    sym (mod-add-div number (256 ^ (i + suc above)))
    ∙ ap (λ (n : ℕ). cut + n) (ap (λ (n : ℕ). n * (number / 256 ^ (i + suc above))) power
    ∙ regroup p q (number / 256 ^ (i + suc above))) in
    byte_at-div i cut
    ∙ sym (add-mul-mod_self_left (cut / p) 256 (q * (number / 256 ^ (i + suc above))))
    ∙ ap (λ (n : ℕ). n % 256) (sym (add-mul-div_left cut (256 * (q * (number / 256 ^ (i + suc above))))
    (pow_256-pos i)))
    ∙ ap (λ (n : ℕ). n / p % 256) (sym whole)
    ∙ sym (byte_at-div i number)
  where
    regroup : (p q n : ℕ) → p * (q * 256) * n ≡ p * (256 * (q * n))
    regroup p q n = omega arith

bytes_low_first-mod : (i count above number : ℕ)
    → bytes_low_first i count (number % 256 ^ (i + count + above)) ≡ bytes_low_first i count number
bytes_low_first-mod i zero above number = refl
bytes_low_first-mod i (suc count) above number = ap₂ (λ (byte : ℕ) (bytes : List ℕ). byte ∷ bytes)
    (ap (λ (n : ℕ). byte_at i (number % 256 ^ n)) (first i count above) ∙ byte_at-mod i (count + above) number)
    (ap (λ (n : ℕ). bytes_low_first (suc i) count (number % 256 ^ n)) (rest i count above)
    ∙ bytes_low_first-mod (suc i) count above number)
  where
    first : (i count above : ℕ) → i + suc count + above ≡ i + suc (count + above)
    first i count above = omega arith

    rest : (i count above : ℕ) → i + suc count + above ≡ suc i + count + above
    rest i count above = omega arith

take-bytes_low_first : (i count all number : ℕ) → count ≤ all
    → take count (bytes_low_first i all number) ≡ bytes_low_first i count number
take-bytes_low_first i zero all number fewer = refl
take-bytes_low_first i (suc count) zero number fewer = absurd (omega arith)
take-bytes_low_first i (suc count) (suc all) number fewer =
    ap (λ (bytes : List ℕ). byte_at i number ∷ bytes) (take-bytes_low_first (suc i) count all number (omega arith))

-- the first bytes of a sum of 16 bytes are the whole sum's
pub take-sum : (count number : ℕ) → count ≤ 16 → take count (to_le_bytes w128 (number % 2 ^ 128))
    ≡ bytes_of count number
take-sum count number fewer =
    take-bytes_low_first 0 count 16 (number % 2 ^ 128) fewer
    ∙ ap (λ (n : ℕ). bytes_low_first 0 count (number % 256 ^ n)) (all count fewer)
    ∙ bytes_low_first-mod 0 count (16 - count) number
  where
    all : (count : ℕ) → count ≤ 16 → 16 ≡ 0 + count + (16 - count)
    all count fewer = omega arith

-- ---- the order of numbers
-- after as many items the last ones decide where the others are equal
slice_cmp-append : (xs ys : List ℕ) (x y : ℕ) → length xs ≡ length ys
    → slice_cmp nat_cmp (xs ++ x ∷ []) (ys ++ y ∷ []) ≡ ordering_then (slice_cmp nat_cmp xs ys) (nat_cmp x y)
slice_cmp-append [] [] x y long = only (nat_cmp x y)
  where
    only : (o : Ordering) → ordering_then o Equal ≡ o
    only Less = refl
    only Equal = refl
    only Greater = refl
slice_cmp-append [] (b ∷ ys) x y long = absurd (omega arith)
slice_cmp-append (a ∷ xs) [] x y long = absurd (omega arith)
slice_cmp-append (a ∷ xs) (b ∷ ys) x y long =
    ap (ordering_then (nat_cmp a b)) (slice_cmp-append xs ys x y (omega arith))
    ∙ regroup (nat_cmp a b) (slice_cmp nat_cmp xs ys) (nat_cmp x y)
  where
    regroup : (o p q : Ordering) → ordering_then o (ordering_then p q) ≡ ordering_then (ordering_then o p) q
    regroup Less p q = refl
    regroup Equal p q = refl
    regroup Greater p q = refl

-- the bytes are bytes
abbrev pub AreBytes : List ℕ → Type 0
AreBytes bytes = (i : ℕ) → get_or bytes i 0 < 256

-- of two numbers the higher parts decide where they differ, and else the lowest bytes
cmp-digits : (x y m n : ℕ) → x < 256 → y < 256 → ordering_then (nat_cmp m n) (nat_cmp x y)
    ≡ nat_cmp (x + 256 * m) (y + 256 * n)
cmp-digits x y m n byte_x byte_y =
    ⊎_elim
    (λ (same : m ≡ n). ap (λ (o : Ordering). ordering_then o (nat_cmp x y)) (sym (nat_cmp_is m n Equal same))
    ∙ ⊎_elim
    (λ (equal : x ≡ y). sym (nat_cmp_is x y Equal equal) ∙ nat_cmp_is (x + 256 * m) (y + 256 * n) Equal (omega arith))
    (⊎_elim
    (λ (less : x < y). sym (nat_cmp_is x y Less less) ∙ nat_cmp_is (x + 256 * m) (y + 256 * n) Less (omega arith))
    (λ (more : y < x). sym (nat_cmp_is x y Greater more)
    ∙ nat_cmp_is (x + 256 * m) (y + 256 * n) Greater (omega arith)))
    (cases_order x y))
    (⊎_elim
    (λ (less : m < n). ap (λ (o : Ordering). ordering_then o (nat_cmp x y)) (sym (nat_cmp_is m n Less less))
    ∙ nat_cmp_is (x + 256 * m) (y + 256 * n) Less (omega arith))
    (λ (more : n < m). ap (λ (o : Ordering). ordering_then o (nat_cmp x y)) (sym (nat_cmp_is m n Greater more))
    ∙ nat_cmp_is (x + 256 * m) (y + 256 * n) Greater (omega arith)))
    (cases_order m n)

reverse-cons : (x : ℕ) (xs : List ℕ) → reverse (x ∷ xs) ≡ reverse xs ++ x ∷ []
reverse-cons x xs = reverse-append (x ∷ []) xs

-- from the greatest byte down, bytes are ordered as their numbers
cmp-number_of : (a b : List ℕ) → length a ≡ length b → AreBytes a → AreBytes b
    → slice_cmp nat_cmp (reverse a) (reverse b) ≡ nat_cmp (number_of a) (number_of b)
cmp-number_of [] [] long of_a of_b = nat_cmp_is 0 0 Equal refl
cmp-number_of [] (y ∷ ys) long of_a of_b = absurd (omega arith)
cmp-number_of (x ∷ xs) [] long of_a of_b = absurd (omega arith)
cmp-number_of (x ∷ xs) (y ∷ ys) long of_a of_b =
    ap₂ (λ (a b : List ℕ). slice_cmp nat_cmp a b) (reverse-cons x xs) (reverse-cons y ys)
    ∙ slice_cmp-append (reverse xs) (reverse ys) x y (length-reverse xs ∙ same_rest ∙ sym (length-reverse ys))
    ∙ ap (λ (o : Ordering). ordering_then o (nat_cmp x y))
    (cmp-number_of xs ys same_rest (λ i. of_a (suc i)) (λ i. of_b (suc i)))
    ∙ cmp-digits x y (number_of xs) (number_of ys) (of_a 0) (of_b 0)
  where
    same_rest : length xs ≡ length ys
    same_rest = omega arith

is_lt-nat_cmp : (m n : ℕ) → is_lt (nat_cmp m n) ≡ nat_lt m n
is_lt-nat_cmp m n =
    ⊎_elim
    (λ (same : m ≡ n). ap is_lt (sym (nat_cmp_is m n Equal same)) ∙ sym (le-ltb m n (omega arith)))
    (⊎_elim
    (λ (less : m < n). ap is_lt (sym (nat_cmp_is m n Less less)) ∙ sym (lt-ltb m n less))
    (λ (more : n < m). ap is_lt (sym (nat_cmp_is m n Greater more)) ∙ sym (le-ltb m n (omega arith))))
    (cases_order m n)

pub below-number_of : (a b : List ℕ) → length a ≡ length b → AreBytes a → AreBytes b
    → is_lt (slice_cmp nat_cmp (reverse a) (reverse b)) ≡ nat_lt (number_of a) (number_of b)
below-number_of a b long of_a of_b = ap is_lt (cmp-number_of a b long of_a of_b)
    ∙ is_lt-nat_cmp (number_of a) (number_of b)
