-- Heads decide the order of texts, unless they are equal.
use Rattle.std.proofs.Common.{◌≡◌, ◌∙◌, sym, ap, refl, ℕ, zero, suc, ◌+◌, ◌*◌, ◌^◌, ◌<◌, ◌≤◌, List, [], ◌∷◌, get_or}
use Rattle.std.proofs.Common.{⊎_elim, Less, Equal, Greater, length, arith}
use Rattle.std.proofs.Math.Nat.{pow-suc, one-le-pow, mul-le-mul_right}
use Rattle.std.specs.Cmp.{nat_cmp_is}
use Rattle.std.specs.Cmp.Lexicographic.{slice_cmp}
use Rattle.std.specs.Ordering.{nat_cmp, ordering_then, ordering_reverse}
use Rattle.std.specs.declared.cmp.Ordering.{Ordering}
use Rattle.std.proofs.lemmas.Bool.{cases_order}
use Rattle.std.proofs.lemmas.Cmp.{nat_list_cmp_total}
use Rattle.fdb_interval.specs.Heads.{head_by, AreBytes, IsHeaded}

pub are_bytes : (text : List ℕ) → ((k : ℕ) → get_or text k 0 < 256) → AreBytes text
are_bytes [] small = tt
are_bytes (byte ∷ text) small = (small 0, are_bytes text (λ k. small (suc k)))

pow_256-pos : (n : ℕ) → 0 < 256 ^ n
pow_256-pos n = omega (arith, one-le-pow n 256 (omega arith))

-- a greater first byte outweighs all that follow it
outweighs : (x y p low : ℕ) → y < x → low < p → y * p + low < x * p
outweighs x y p low less below =
    let more : suc y * p ≤ x * p = mul-le-mul_right p less in
    let is : suc y * p ≡ y * p + p = omega arith in
    omega (arith, more, is, below)

pub head-below : (n : ℕ) (text : List ℕ) → AreBytes text → head_by n text < 256 ^ n
head-below zero text are = omega arith
head-below (suc n) [] are = pow_256-pos (suc n)
head-below (suc n) (byte ∷ text) are =
    let power : 256 ^ suc n ≡ 256 ^ n * 256 = pow-suc 256 n in
    let less : byte * 256 ^ n + head_by n text < 256 * 256 ^ n =
    outweighs 256 byte (256 ^ n) (head_by n text) are.0 (head-below n text are.1) in
    omega (arith, power, less)

-- one byte more
head-more : (n : ℕ) (text : List ℕ) → head_by (suc n) text ≡ head_by n text * 256 + get_or text n 0
head-more zero [] = refl
head-more zero (byte ∷ text) = omega arith
head-more (suc n) [] = refl
head-more (suc n) (byte ∷ text) =
    let power : 256 ^ suc n ≡ 256 ^ n * 256 = pow-suc 256 n in
    let others = head-more n text in
    let first : byte * 256 ^ suc n ≡ byte * 256 ^ n * 256 = ap (λ (p : ℕ). byte * p) power ∙ grouped byte (256 ^ n) in
    omega (arith, first, others)
  where
    grouped : (b p : ℕ) → b * (p * 256) ≡ b * p * 256
    grouped b p = omega arith

pub head-next : (n : ℕ) (text : List ℕ) → head_by (n + 1) text ≡ head_by n text * 256 + get_or text n 0
head-next n text =
    let next : n + 1 ≡ suc n = omega arith in
    ap (λ (m : ℕ). head_by m text) next ∙ head-more n text

-- a text of a lesser head comes first
head-less : (n : ℕ) (a b : List ℕ) → AreBytes a → AreBytes b → head_by n a < head_by n b → slice_cmp nat_cmp a b ≡ Less
head-less zero a b of_a of_b less = absurd (omega (arith, less))
head-less (suc n) [] [] of_a of_b less = absurd (omega (arith, less))
head-less (suc n) [] (y ∷ ys) of_a of_b less = refl
head-less (suc n) (x ∷ xs) [] of_a of_b less = absurd (omega (arith, less))
head-less (suc n) (x ∷ xs) (y ∷ ys) of_a of_b less = ⊎_elim
    (λ same.
    let equal : x * 256 ^ n ≡ y * 256 ^ n = ap (λ (z : ℕ). z * 256 ^ n) same in
    ap (λ (o : Ordering). ordering_then o (slice_cmp nat_cmp xs ys)) (sym (nat_cmp_is x y Equal same))
    ∙ head-less n xs ys of_a.1 of_b.1 (omega (arith, less, equal)))
    (λ differ. ⊎_elim
    (λ before. ap (λ (o : Ordering). ordering_then o (slice_cmp nat_cmp xs ys)) (sym (nat_cmp_is x y Less before)))
    (λ after.
    let more = outweighs x y (256 ^ n) (head_by n ys) after (head-below n ys of_b.1) in
    absurd (omega (arith, less, more)))
    differ)
    (cases_order x y)

pub less-by-head : (head other : ℕ) (a b : List ℕ) → IsHeaded head a → IsHeaded other b → head < other
    → slice_cmp nat_cmp a b ≡ Less
less-by-head head other a b of_a of_b less =
    let of_head = of_a.is in
    let of_other = of_b.is in
    head-less 8 a b of_a.bytes of_b.bytes (omega (arith, less, of_head, of_other))

pub greater-by-head : (head other : ℕ) (a b : List ℕ) → IsHeaded head a → IsHeaded other b → other < head
    → slice_cmp nat_cmp a b ≡ Greater
greater-by-head head other a b of_a of_b less =
    nat_list_cmp_total.antisymm a b ∙ ap ordering_reverse (less-by-head other head b a of_b of_a less)

cmp-suc : (m n : ℕ) → nat_cmp m n ≡ nat_cmp (suc m) (suc n)
cmp-suc m n = ⊎_elim
    (λ same. sym (nat_cmp_is m n Equal same) ∙ nat_cmp_is (suc m) (suc n) Equal (ap suc same))
    (λ differ. ⊎_elim
    (λ before. sym (nat_cmp_is m n Less before) ∙ nat_cmp_is (suc m) (suc n) Less (omega (arith, before)))
    (λ after. sym (nat_cmp_is m n Greater after) ∙ nat_cmp_is (suc m) (suc n) Greater (omega (arith, after)))
    differ)
    (cases_order m n)

-- texts of which a head has all bytes are in the order of their lengths, where the head is the same
head-same : (n : ℕ) (a b : List ℕ) → AreBytes a → AreBytes b → length a ≤ n → length b ≤ n → head_by n a ≡ head_by n b
    → slice_cmp nat_cmp a b ≡ nat_cmp (length a) (length b)
head-same n [] [] of_a of_b a_fits b_fits same = nat_cmp_is 0 0 Equal refl
head-same n [] (y ∷ ys) of_a of_b a_fits b_fits same =
    nat_cmp_is 0 (length (y ∷ ys)) Less (omega arith)
head-same n (x ∷ xs) [] of_a of_b a_fits b_fits same =
    nat_cmp_is (length (x ∷ xs)) 0 Greater (omega arith)
head-same zero (x ∷ xs) (y ∷ ys) of_a of_b a_fits b_fits same = absurd (omega (arith, a_fits))
head-same (suc n) (x ∷ xs) (y ∷ ys) of_a of_b a_fits b_fits same = ⊎_elim
    (λ alike.
    let equal : x * 256 ^ n ≡ y * 256 ^ n = ap (λ (z : ℕ). z * 256 ^ n) alike in
    ap (λ (o : Ordering). ordering_then o (slice_cmp nat_cmp xs ys)) (sym (nat_cmp_is x y Equal alike))
    ∙ head-same n xs ys of_a.1 of_b.1 (omega (arith, a_fits)) (omega (arith, b_fits)) (omega (arith, same, equal))
    ∙ cmp-suc (length xs) (length ys))
    (λ differ. ⊎_elim
    (λ before.
    let more = outweighs y x (256 ^ n) (head_by n xs) before (head-below n xs of_a.1) in
    absurd (omega (arith, same, more)))
    (λ after.
    let more = outweighs x y (256 ^ n) (head_by n ys) after (head-below n ys of_b.1) in
    absurd (omega (arith, same, more)))
    differ)
    (cases_order x y)

pub same-by-head : (head other : ℕ) (a b : List ℕ) → IsHeaded head a → IsHeaded other b → head ≡ other
    → length a ≤ 8 → length b ≤ 8 → slice_cmp nat_cmp a b ≡ nat_cmp (length a) (length b)
same-by-head head other a b of_a of_b same a_fits b_fits =
    head-same 8 a b of_a.bytes of_b.bytes a_fits b_fits (sym of_a.is ∙ same ∙ of_b.is)
