-- The keys from a prefix up to the least text after all that begin with it are those that begin with it.
use Rattle.std.proofs.Common.{◌≡◌, ◌∙◌, sym, ap, refl, ℕ, suc, ◌+◌, ◌-◌, ◌<◌, ◌≤◌, true, false, not, ◌&&◌}
use Rattle.std.proofs.Common.{nat_eq, nat_le, List, [], ◌∷◌, ◌++◌, length, take, get_or, if◌then◌else◌}
use Rattle.std.proofs.Common.{⊎_elim, subst, arith}
use Rattle.std.proofs.lemmas.Bool.{cases_Bool, cases_order, eq-eqb, ne_eqb, eqb-true, and_parts, and_from, and_right}
use Rattle.std.proofs.lemmas.Bool.{not-true, not_from_false, leb-true, leb-false, le-leb}
use Rattle.std.proofs.Math.Bool.{and-true}
use Rattle.std.proofs.Math.Seq.{take-length, take-suc}
use Rattle.fdb_keys.specs.Points.{Point, point_lt}
use Rattle.fdb_keys.specs.Prefixes.{after_prefix, all_ff, are_bytes, begins_with, prefix_range}
use Rattle.fdb_keys.specs.Ranges.{in_range}
use Rattle.fdb_keys.specs.Texts.{begins_with_ff, is_after_ff, is_key}
use Rattle.fdb_keys.proofs.CuttingLemmas.{legal_from}
use Rattle.fdb_keys.proofs.InsertionLemmas.{HasLegalBounds}
use Rattle.fdb_keys.proofs.PointOrder.{lt-itself, lt_one_way}
use Rattle.fdb_keys.proofs.SingleLemmas.{first_less, first_equal, first_greater, empty_less, empty_not_less}
use Rattle.fdb_keys.proofs.TextsLemmas.{before_ff-key, is_bound-key}

-- what the end is where the bytes behind the first one are all FF, and where they aren't
after-all : (byte : ℕ) (bytes : List ℕ) → all_ff bytes ≡ true → after_prefix (byte ∷ bytes) ≡ suc byte ∷ []
after-all byte bytes all = ap (λ every. if every then suc byte ∷ [] else byte ∷ after_prefix bytes) all

after-some : (byte : ℕ) (bytes : List ℕ) → all_ff bytes ≡ false
    → after_prefix (byte ∷ bytes) ≡ byte ∷ after_prefix bytes
after-some byte bytes some = ap (λ every. if every then suc byte ∷ [] else byte ∷ after_prefix bytes) some

-- a last byte FF changes nothing, and any other one is one greater at the end
all_ff-more : (bytes : List ℕ) → all_ff (bytes ++ 255 ∷ []) ≡ all_ff bytes
all_ff-more [] = refl
all_ff-more (byte ∷ bytes) = ap (λ every. nat_eq byte 255 && every) (all_ff-more bytes)

all_ff-other : (bytes : List ℕ) (last : ℕ) → nat_eq last 255 ≡ false → all_ff (bytes ++ last ∷ []) ≡ false
all_ff-other [] last other = ap (λ equal. equal && true) other
all_ff-other (byte ∷ bytes) last other = and_right (nat_eq byte 255) _ (all_ff-other bytes last other)

after-more : (byte : ℕ) (bytes : List ℕ) → after_prefix ((byte ∷ bytes) ++ 255 ∷ []) ≡ after_prefix (byte ∷ bytes)
after-more byte [] = refl
after-more byte (next ∷ bytes) =
    ap (λ every. if every then suc byte ∷ [] else byte ∷ after_prefix ((next ∷ bytes) ++ 255 ∷ []))
    (all_ff-more (next ∷ bytes))
    ∙ ap (λ after. if all_ff (next ∷ bytes) then suc byte ∷ [] else byte ∷ after) (after-more next bytes)

after-ff : (bytes : List ℕ) → begins_with_ff (bytes ++ 255 ∷ []) ≡ false
    → after_prefix (bytes ++ 255 ∷ []) ≡ after_prefix bytes
after-ff [] below = cc
after-ff (byte ∷ bytes) below = after-more byte bytes

begins-front : (bytes : List ℕ) (last : ℕ) → begins_with_ff (bytes ++ last ∷ []) ≡ false
    → begins_with_ff bytes ≡ false
begins-front [] last below = refl
begins-front (byte ∷ bytes) last below = below

after-last : (bytes : List ℕ) (last : ℕ) → nat_eq last 255 ≡ false
    → after_prefix (bytes ++ last ∷ []) ≡ bytes ++ suc last ∷ []
after-last [] last other = refl
after-last (byte ∷ bytes) last other =
    after-some byte (bytes ++ last ∷ []) (all_ff-other bytes last other)
    ∙ ap (λ after. byte ∷ after) (after-last bytes last other)

-- the same of a text that is cut before its last byte
module _ (text : List ℕ) (some : 1 ≤ length text) where
  cut_last : take (length text - 1) text ++ get_or text (length text - 1) 0 ∷ [] ≡ text
  cut_last =
      let long : suc (length text - 1) ≡ length text = omega (arith, some) in
      sym (take-suc text (length text - 1) 0 (omega (arith, some))) ∙ ap (λ n. take n text) long ∙ take-length text

  pub after-cut_last : (get_or text (length text - 1) 0 ≡ 255 → ⊥)
      → after_prefix text ≡ take (length text - 1) text ++ (get_or text (length text - 1) 0 + 1) ∷ []
  after-cut_last other =
      ap after_prefix (sym cut_last)
      ∙ after-last (take (length text - 1) text) (get_or text (length text - 1) 0) (ne_eqb _ 255 other)
      ∙ ap (λ next. take (length text - 1) text ++ next ∷ []) (omega arith)

  cut_ff : get_or text (length text - 1) 0 ≡ 255 → take (length text - 1) text ++ 255 ∷ [] ≡ text
  cut_ff is_ff = ap (λ last. take (length text - 1) text ++ last ∷ []) (sym is_ff) ∙ cut_last

  pub after-cut_ff : get_or text (length text - 1) 0 ≡ 255 → begins_with_ff text ≡ false
      → (begins_with_ff (take (length text - 1) text) ≡ false)
      × (after_prefix (take (length text - 1) text) ≡ after_prefix text)
  after-cut_ff is_ff below =
      let cut_below = ap begins_with_ff (cut_ff is_ff) ∙ below in (
        begins-front (take (length text - 1) text) 255 cut_below,
        sym (after-ff (take (length text - 1) text) cut_below) ∙ ap after_prefix (cut_ff is_ff),
      )

-- the end comes after the prefix, is at most one byte longer, and for a key isn't after the one byte FF
prefix_before : (prefix : Point) → point_lt prefix (after_prefix prefix) ≡ true
prefix_before [] = empty_less 255 []
prefix_before (byte ∷ bytes) =
    ⊎_elim
    (λ all. ap (λ after. point_lt (byte ∷ bytes) after) (after-all byte bytes all)
    ∙ first_less byte (suc byte) bytes [] (omega arith))
    (λ some. ap (λ after. point_lt (byte ∷ bytes) after) (after-some byte bytes some)
    ∙ first_equal byte bytes (after_prefix bytes) ∙ prefix_before bytes)
    (cases_Bool (all_ff bytes))

length-after : (prefix : Point) → length (after_prefix prefix) ≤ suc (length prefix)
length-after [] = omega arith
length-after (byte ∷ bytes) =
    ⊎_elim
    (λ all. subst (λ after. length after ≤ suc (length (byte ∷ bytes))) (sym (after-all byte bytes all)) (omega arith))
    (λ some. subst (λ after. length after ≤ suc (length (byte ∷ bytes))) (sym (after-some byte bytes some))
    (omega (arith, length-after bytes)))
    (cases_Bool (all_ff bytes))

next_by_ff : (byte : ℕ) → byte < 255 → is_after_ff (suc byte ∷ []) ≡ false
next_by_ff byte below =
    ⊎_elim
    (λ (same : suc byte ≡ 255). subst (λ next. is_after_ff (next ∷ []) ≡ false) (sym same) (lt-itself (255 ∷ [])))
    (⊎_elim
    (λ (less : suc byte < 255). first_greater 255 (suc byte) [] [] less)
    (λ (greater : 255 < suc byte). absurd (omega arith)))
    (cases_order (suc byte) 255)

after_by_ff : (prefix : Point) → begins_with_ff prefix ≡ false → is_after_ff (after_prefix prefix) ≡ false
after_by_ff [] below = lt-itself (255 ∷ [])
after_by_ff (byte ∷ bytes) below =
    let first : byte < 255 = leb-false _ _ below in
    ⊎_elim
    (λ all. ap is_after_ff (after-all byte bytes all) ∙ next_by_ff byte first)
    (λ some. ap is_after_ff (after-some byte bytes some) ∙ first_greater 255 byte [] (after_prefix bytes) first)
    (cases_Bool (all_ff bytes))

pub prefix_is_legal : (prefix : Point) → is_key prefix ≡ true → HasLegalBounds (prefix_range prefix)
prefix_is_legal prefix legal =
    let parts : (nat_le (length prefix) 10000 ≡ true) × (not (begins_with_ff prefix) ≡ true) = and_parts _ _ legal in
    let short : length prefix ≤ 10000 = leb-true _ _ parts.0 in
    legal_from prefix (after_prefix prefix) (is_bound-key prefix legal)
    (and_from _ _ (le-leb (length (after_prefix prefix)) 10001 (omega (arith, short, length-after prefix)))
    (not_from_false _ (after_by_ff prefix (not-true _ parts.1))))
    (lt_one_way prefix (after_prefix prefix) (prefix_before prefix))

-- from bytes that are all FF on come the texts that begin with them
from_ffs : (bytes x : List ℕ) → all_ff bytes ≡ true → are_bytes x ≡ true
    → not (point_lt x bytes) ≡ begins_with bytes x
from_ffs [] x all legal = ap not (empty_not_less x)
from_ffs (byte ∷ bytes) [] all legal = ap not (empty_less byte bytes)
from_ffs (byte ∷ bytes) (first ∷ rest) all legal =
    let alls : (nat_eq byte 255 ≡ true) × (all_ff bytes ≡ true) = and_parts _ _ all in
    let legals : (nat_le first 255 ≡ true) × (are_bytes rest ≡ true) = and_parts _ _ legal in
    let is_ff : byte ≡ 255 = eqb-true _ _ alls.0 in
    let by_ff : first ≤ 255 = leb-true _ _ legals.0 in
    ⊎_elim
    (λ (same : first ≡ byte). subst (λ (y : ℕ). not (point_lt (y ∷ rest) (byte ∷ bytes))
    ≡ (nat_eq y byte && begins_with bytes rest)) (sym same)
    (ap not (first_equal byte rest bytes) ∙ from_ffs bytes rest alls.1 legals.1
    ∙ sym (ap (λ equal. equal && begins_with bytes rest) (eq-eqb byte byte refl))))
    (⊎_elim
    (λ (less : first < byte). ap not (first_less first byte rest bytes less)
    ∙ sym (ap (λ equal. equal && begins_with bytes rest) (ne_eqb first byte (λ same. omega arith))))
    (λ (greater : byte < first). absurd (omega arith)))
    (cases_order first byte)

-- what begins with a greater byte isn't before the end
beyond : (byte : ℕ) (bytes : List ℕ) (first : ℕ) (rest : List ℕ) → byte < first
    → point_lt (first ∷ rest) (after_prefix (byte ∷ bytes)) ≡ false
beyond byte bytes first rest greater =
    ⊎_elim
    (λ all. ap (λ after. point_lt (first ∷ rest) after) (after-all byte bytes all)
    ∙ ⊎_elim
    (λ (same : first ≡ suc byte). subst (λ (y : ℕ). point_lt (y ∷ rest) (suc byte ∷ []) ≡ false) (sym same)
    (first_equal (suc byte) rest [] ∙ empty_not_less rest))
    (⊎_elim
    (λ (less : first < suc byte). absurd (omega arith))
    (λ (more : suc byte < first). first_greater first (suc byte) rest [] more))
    (cases_order first (suc byte)))
    (λ some. ap (λ after. point_lt (first ∷ rest) after) (after-some byte bytes some)
    ∙ first_greater first byte rest (after_prefix bytes) greater)
    (cases_Bool (all_ff bytes))

-- the law where the text begins with the prefix's first byte, from what holds behind that
in_range-same : (byte : ℕ) (bytes rest : List ℕ) → are_bytes rest ≡ true
    → (all_ff bytes ≡ false → in_range (prefix_range bytes) rest ≡ begins_with bytes rest)
    → in_range (prefix_range (byte ∷ bytes)) (byte ∷ rest) ≡ begins_with bytes rest
in_range-same byte bytes rest legal behind =
    ap (λ before. not before && point_lt (byte ∷ rest) (after_prefix (byte ∷ bytes))) (first_equal byte rest bytes)
    ∙ ⊎_elim
    (λ all. ap (λ after. not (point_lt rest bytes) && point_lt (byte ∷ rest) after) (after-all byte bytes all)
    ∙ ap (λ until. not (point_lt rest bytes) && until) (first_less byte (suc byte) rest [] (omega arith))
    ∙ and-true (not (point_lt rest bytes)) ∙ from_ffs bytes rest all legal)
    (λ some. ap (λ after. not (point_lt rest bytes) && point_lt (byte ∷ rest) after) (after-some byte bytes some)
    ∙ ap (λ until. not (point_lt rest bytes) && until) (first_equal byte rest (after_prefix bytes))
    ∙ behind some)
    (cases_Bool (all_ff bytes))

-- the law where the prefix isn't all FF
in_range-some : (prefix x : Point) → all_ff prefix ≡ false → are_bytes x ≡ true
    → in_range (prefix_range prefix) x ≡ begins_with prefix x
in_range-some [] x some legal = cc
in_range-some (byte ∷ bytes) [] some legal =
    ap (λ before. not before && point_lt [] (after_prefix (byte ∷ bytes))) (empty_less byte bytes)
in_range-some (byte ∷ bytes) (first ∷ rest) some legal =
    let legals : (nat_le first 255 ≡ true) × (are_bytes rest ≡ true) = and_parts _ _ legal in
    ⊎_elim
    (λ (same : first ≡ byte). subst (λ (y : ℕ). in_range (prefix_range (byte ∷ bytes)) (y ∷ rest)
    ≡ begins_with (byte ∷ bytes) (y ∷ rest)) (sym same)
    (in_range-same byte bytes rest legals.1 (λ behind. in_range-some bytes rest behind legals.1)
    ∙ sym (ap (λ equal. equal && begins_with bytes rest) (eq-eqb byte byte refl))))
    (⊎_elim
    (λ (less : first < byte).
    ap (λ before. not before && point_lt (first ∷ rest) (after_prefix (byte ∷ bytes)))
    (first_less first byte rest bytes less)
    ∙ sym (ap (λ equal. equal && begins_with bytes rest) (ne_eqb first byte (λ same. omega arith))))
    (λ (greater : byte < first).
    and_right _ _ (beyond byte bytes first rest greater)
    ∙ sym (ap (λ equal. equal && begins_with bytes rest) (ne_eqb first byte (λ same. omega arith)))))
    (cases_order first byte)

pub in_range-prefix : (prefix x : Point) → is_key prefix ≡ true → is_key x ≡ true → are_bytes x ≡ true
    → in_range (prefix_range prefix) x ≡ begins_with prefix x
in_range-prefix [] x of_prefix of_x legal =
    ap (λ before. not before && point_lt x (255 ∷ [])) (empty_not_less x) ∙ before_ff-key x of_x
in_range-prefix (byte ∷ bytes) x of_prefix of_x legal =
    let parts : (nat_le (length (byte ∷ bytes)) 10000 ≡ true) × (not (nat_le 255 byte) ≡ true) =
    and_parts _ _ of_prefix in
    let first : byte < 255 = leb-false _ _ (not-true _ parts.1) in
    in_range-some (byte ∷ bytes) x (ap (λ equal. equal && all_ff bytes) (ne_eqb byte 255 (λ same. omega arith))) legal
