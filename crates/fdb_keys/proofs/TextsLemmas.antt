-- A key, and the text right after it, are legal bounds.
use Rattle.std.proofs.Common.{◌≡◌, ap, sym, refl, ℕ, ◌≤◌, true, false, not, nat_le, List, [], ◌∷◌, ◌++◌, length}
use Rattle.std.proofs.Common.{Greater, Less, arith}
use Rattle.std.specs.Ordering.{nat_cmp, is_lt, ordering_then}
use Rattle.std.specs.Cmp.{nat_cmp_is}
use Rattle.std.specs.Cmp.Lexicographic.{slice_cmp}
use Rattle.std.proofs.lemmas.List.{length-append}
use Rattle.std.proofs.lemmas.Bool.{and_parts, and_from, not-true, not_from_false, leb-true, leb-false, le-leb}
use Rattle.fdb_keys.specs.Points.{Point, point_lt}
use Rattle.fdb_keys.specs.Texts.{begins_with_ff, is_after_ff, is_key, is_bound}

first_below_ff : (byte : ℕ) (bytes : List ℕ) → nat_le 255 byte ≡ false → is_after_ff (byte ∷ bytes) ≡ false
unfolding point_lt
first_below_ff byte bytes below =
    ap (λ first. is_lt (ordering_then first (slice_cmp nat_cmp [] bytes)))
    (sym (nat_cmp_is 255 byte Greater (leb-false _ _ below)))

after_ff-key : (text : Point) → begins_with_ff text ≡ false → is_after_ff text ≡ false
unfolding point_lt
after_ff-key [] below = refl
after_ff-key (byte ∷ bytes) below = first_below_ff byte bytes below

after_ff-append : (text : Point) → begins_with_ff text ≡ false → is_after_ff (text ++ 0 ∷ []) ≡ false
unfolding point_lt
after_ff-append [] below = refl
after_ff-append (byte ∷ bytes) below = first_below_ff byte (bytes ++ 0 ∷ []) below

-- so a key is a legal bound, and so is the text right after it
pub is_bound-key : (text : Point) → is_key text ≡ true → is_bound text ≡ true
is_bound-key text legal =
    let parts : (nat_le (length text) 10000 ≡ true) × (not (begins_with_ff text) ≡ true) = and_parts _ _ legal in
    let short : length text ≤ 10000 = leb-true _ _ parts.0 in
    and_from _ _ (le-leb (length text) 10001 (omega (arith, short)))
    (not_from_false _ (after_ff-key text (not-true _ parts.1)))

pub is_bound-after : (text : Point) → is_key text ≡ true → is_bound (text ++ 0 ∷ []) ≡ true
is_bound-after text legal =
    let parts : (nat_le (length text) 10000 ≡ true) × (not (begins_with_ff text) ≡ true) = and_parts _ _ legal in
    let short : length text ≤ 10000 = leb-true _ _ parts.0 in
    and_from _ _ (le-leb (length (text ++ 0 ∷ [])) 10001 (omega (arith, short, length-append text (0 ∷ []))))
    (not_from_false _ (after_ff-append text (not-true _ parts.1)))

-- a key comes before the one byte FF
before_ff-text : (text : Point) → begins_with_ff text ≡ false → point_lt text (255 ∷ []) ≡ true
unfolding point_lt
before_ff-text [] first = refl
before_ff-text (byte ∷ bytes) first =
    ap (λ order. is_lt (ordering_then order (slice_cmp nat_cmp bytes [])))
    (sym (nat_cmp_is byte 255 Less (leb-false _ _ first)))

pub before_ff-key : (text : Point) → is_key text ≡ true → point_lt text (255 ∷ []) ≡ true
before_ff-key text legal =
    before_ff-text text (not-true _ (and_parts (nat_le (length text) 10000) (not (begins_with_ff text)) legal).1)
