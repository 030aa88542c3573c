-- Pieces of the keys between splits.
use Rattle.std.proofs.Common.{◌≡◌, ◌∙◌, sym, refl, ap, ℕ, zero, suc, ◌<◌, ◌≤◌, ◌==◌, arith, Bool, true, false}
use Rattle.std.proofs.Common.{◌||◌, not, nat_le, nat_lt, if◌then◌else◌, Some, None, List, [], ◌∷◌, get_or}
use Rattle.std.proofs.Common.{slice_get, length}
use Rattle.std.proofs.Common.{⊎_elim}
use Rattle.std.proofs.Math.Dec.{eqb-suc-zero, eqb-zero-suc, eqb-suc-suc}
use Rattle.std.specs.List.Sorted.{IsPartitionedBy, IsPartitionPoint}
use Rattle.std.proofs.lemmas.Bool.{cases_Bool, both_ways, and_parts, cond-true, cond-false, false_from_ne_true}
use Rattle.std.proofs.lemmas.Bool.{not-true, leb-true}
use Rattle.std.proofs.lemmas.Bool.{ltb-true, eqb-true, eq-eqb, not_from_false}
use Rattle.fdb_keys.specs.Points.{Point, point_lt}
use Rattle.fdb_keys.specs.Ranges.{in_range}
use Rattle.fdb_keys.specs.Limits.{bound_limit}
use Rattle.fdb_keys.specs.Texts.{is_after_ff, is_bound, range_fault}
use Rattle.fdb_keys.proofs.Exports.{lt_chain, lt_one_way, in_range_parts, in_range_from}
use Rattle.fdb_txn.specs.rules.Owners.{first_owner}
use Rattle.fdb_txn.proofs.rules.CornersLemmas.{empty_is_first}
use Rattle.fdb_txn.specs.rules.Splits.{rise_after, end_of_keys, piece_after, piece, PiecesPartTheKeys}

-- no piece after a point has a point before it
before-none : (begin : Point) (splits : List Point) (i : ℕ) (x : Point) → rise_after begin splits ≡ true
    → point_lt x begin ≡ true → in_range (piece_after begin splits i) x ≡ false
before-none begin [] i x rising before =
    false_from_ne_true _ (λ inside. both_ways (point_lt x begin) (in_range_parts (piece_after begin [] i) x inside).0
    before)
before-none begin (split ∷ splits) zero x rising before =
    false_from_ne_true _ (λ inside. both_ways (point_lt x begin)
    (in_range_parts (piece_after begin (split ∷ splits) zero) x inside).0 before)
before-none begin (split ∷ splits) (suc i) x rising before =
    let parts : (point_lt begin split ≡ true) × (rise_after split splits ≡ true) = and_parts _ _ rising in
    before-none split splits i x parts.1 (lt_chain x begin split before parts.0)

-- each key from a point on lies in the piece of its first owner alone
in-piece : (begin : Point) (splits : List Point) (i : ℕ) (x : Point) → rise_after begin splits ≡ true
    → i ≤ length splits → point_lt x begin ≡ false → point_lt x end_of_keys ≡ true
    → in_range (piece_after begin splits i) x ≡ (first_owner splits x == i)
in-piece begin [] zero x rising within from below = in_range_from (piece_after begin [] zero) x from below
in-piece begin [] (suc i) x rising within from below = absurd (omega (arith, within))
in-piece begin (split ∷ splits) zero x rising within from below = ⊎_elim
    (λ before. in_range_from (piece_after begin (split ∷ splits) zero) x from before
    ∙ sym (own-is (point_lt x split) before))
    (λ after. false_from_ne_true _ (λ inside. both_ways (point_lt x split) after
    (in_range_parts (piece_after begin (split ∷ splits) zero) x inside).1)
    ∙ sym (own-not (point_lt x split) after))
    (cases_Bool (point_lt x split))
  where
    own-is : (b : Bool) → b ≡ true → ((if b then 0 else suc (first_owner splits x)) == 0) ≡ true
    own-is true is = refl
    own-is false is = cc

    own-not : (b : Bool) → b ≡ false → ((if b then 0 else suc (first_owner splits x)) == 0) ≡ false
    own-not true is = cc
    own-not false is = eqb-suc-zero (first_owner splits x)
in-piece begin (split ∷ splits) (suc i) x rising within from below = ⊎_elim
    (λ before. before-none split splits i x parts.1 before ∙ sym (own-not (point_lt x split) before))
    (λ after. in-piece split splits i x parts.1 (omega (arith, within)) after below
    ∙ sym (own-is (point_lt x split) after))
    (cases_Bool (point_lt x split))
  where
    parts : (point_lt begin split ≡ true) × (rise_after split splits ≡ true)
    parts = and_parts _ _ rising

    own-not : (b : Bool) → b ≡ true → ((if b then 0 else suc (first_owner splits x)) == suc i) ≡ false
    own-not true is = eqb-zero-suc i
    own-not false is = cc

    own-is : (b : Bool) → b ≡ false → ((if b then 0 else suc (first_owner splits x)) == suc i)
        ≡ (first_owner splits x == i)
    own-is true is = cc
    own-is false is = eqb-suc-suc (first_owner splits x) i

pub pieces_part_the_keys : PiecesPartTheKeys
pieces_part_the_keys splits i x rising within below =
    in-piece [] splits i x rising within (empty_is_first x) below

-- a length within a limit isn't above it
not-above : (n limit : ℕ) → nat_le n limit ≡ true → nat_lt limit n ≡ false
not-above n limit within =
    false_from_ne_true _ (λ above. absurd (omega (arith, leb-true n limit within, ltb-true limit n above)))

-- bounds in their order are those of a range
pub range-made : (begin end : Point) → is_bound begin ≡ true → is_bound end ≡ true → point_lt end begin ≡ false
    → range_fault begin end ≡ None
range-made begin end from until order =
    let of_begin : (nat_le (length begin) bound_limit ≡ true) × (not (is_after_ff begin) ≡ true) = and_parts _ _ from in
    let of_end : (nat_le (length end) bound_limit ≡ true) × (not (is_after_ff end) ≡ true) = and_parts _ _ until in
    cond-false _ _ _
    (or_false _ _ (not-above _ _ of_begin.0) (not-above _ _ of_end.0))
    ∙ cond-false _ _ _ (or_false _ _ (not-true _ of_begin.1) (not-true _ of_end.1))
    ∙ cond-false _ _ _ order
  where
    or_false : (a b : Bool) → a ≡ false → b ≡ false → (a || b) ≡ false
    or_false true b is other = cc
    or_false false b is other = other

-- the empty text and the end of all keys are bounds
pub empty-is_bound : is_bound [] ≡ true
unfolding point_lt
empty-is_bound = refl

pub end-is_bound : is_bound end_of_keys ≡ true
unfolding point_lt
end-is_bound = refl

-- the text doesn't come before the split
abbrev pub reaches : Point → Point → Bool
reaches x split = not (point_lt x split)

-- splits that rise after a point that the text comes before aren't reached
none-reached : (x before : Point) (splits : List Point) → rise_after before splits ≡ true → point_lt x before ≡ true
    → (k : ℕ) (d : Point) → k < length splits → point_lt x (get_or splits k d) ≡ true
none-reached x before [] rising below k d within = absurd (omega (arith, within))
none-reached x before (split ∷ splits) rising below zero d within =
    let parts : (point_lt before split ≡ true) × (rise_after split splits ≡ true) = and_parts _ _ rising in
    lt_chain x before split below parts.0
none-reached x before (split ∷ splits) rising below (suc k) d within =
    let parts : (point_lt before split ≡ true) × (rise_after split splits ≡ true) = and_parts _ _ rising in
    none-reached x split splits parts.1 (lt_chain x before split below parts.0) k d (omega (arith, within))

-- a text reaches the first splits, and none after them
pub reached-first : (x before : Point) (splits : List Point) → rise_after before splits ≡ true
    → IsPartitionedBy (reaches x) splits
reached-first x before [] rising i j d order within reached = absurd (omega (arith, within))
reached-first x before (split ∷ splits) rising zero zero d order within reached = reached
reached-first x before (split ∷ splits) rising zero (suc j) d order within reached =
    let parts : (point_lt before split ≡ true) × (rise_after split splits ≡ true) = and_parts _ _ rising in
    not_from_false _ (false_from_ne_true _ (λ below. both_ways (point_lt x (get_or splits j d)) (not-true _ reached)
    (none-reached x split splits parts.1 below j d (omega (arith, within)))))
reached-first x before (split ∷ splits) rising (suc i) zero d order within reached = absurd (omega (arith, order))
reached-first x before (split ∷ splits) rising (suc i) (suc j) d order within reached =
    let parts : (point_lt before split ≡ true) × (rise_after split splits ≡ true) = and_parts _ _ rising in
    reached-first x split splits parts.1 i j d (omega (arith, order)) (omega (arith, within)) reached

true_from_not : (b : Bool) → not b ≡ false → b ≡ true
true_from_not true is = refl
true_from_not false is = cc

-- how many it reaches is its first owner
pub first_owner-reached : (x : Point) (splits : List Point) (n : ℕ) → n ≤ length splits
    → IsPartitionPoint (λ split. reaches x split ≡ true) (λ split. reaches x split ≡ false) splits n
    → n ≡ first_owner splits x
first_owner-reached x [] zero few point = refl
first_owner-reached x [] (suc n) few point = absurd (omega (arith, few))
first_owner-reached x (split ∷ splits) zero few point =
    sym (cond-true (point_lt x split) 0 (suc (first_owner splits x))
    (true_from_not (point_lt x split) (point.1 0 split (omega arith) (omega arith))))
first_owner-reached x (split ∷ splits) (suc n) few point =
    ap (λ (count : ℕ). suc count)
    (first_owner-reached x splits n (omega (arith, few)) (
      λ k d from below. point.0 (suc k) d (omega arith) (omega (arith, below)),
      λ k d from below. point.1 (suc k) d (omega (arith, from)) (omega (arith, below)),
    ))
    ∙ sym (cond-false (point_lt x split) 0 (suc (first_owner splits x))
    (not-true _ (point.0 0 split (omega arith) (omega arith))))

-- where the pieces after a point begin
begins-at : (before : Point) (splits : List Point) (i : ℕ) (split : Point) → slice_get splits i ≡ Some split
    → (piece_after before splits (suc i)).begin ≡ split
begins-at before [] i split there = cc
begins-at before (first ∷ []) zero split there = cc
begins-at before (first ∷ next ∷ splits) zero split there = cc
begins-at before (first ∷ splits) (suc i) split there = begins-at first splits i split there

pub first-begins : (splits : List Point) → (piece splits 0).begin ≡ []
first-begins [] = refl
first-begins (split ∷ splits) = refl

pub later-begins : (splits : List Point) (number i : ℕ) (split : Point) → number ≡ suc i
    → slice_get splits i ≡ Some split → (piece splits number).begin ≡ split
later-begins splits number i split is there =
    ap (λ (n : ℕ). (piece splits n).begin) is ∙ begins-at [] splits i split there

-- and where they end
pub ends-at : (before : Point) (splits : List Point) (i : ℕ) (split : Point) → slice_get splits i ≡ Some split
    → (piece_after before splits i).end ≡ split
ends-at before [] i split there = cc
ends-at before (first ∷ splits) zero split there = cc
ends-at before (first ∷ splits) (suc i) split there = ends-at first splits i split there

pub last-ends : (before : Point) (splits : List Point) (i : ℕ) → slice_get splits i ≡ None
    → (piece_after before splits i).end ≡ end_of_keys
last-ends before [] i past = refl
last-ends before (first ∷ splits) zero past = cc
last-ends before (first ∷ splits) (suc i) past = last-ends first splits i past

-- no piece ends before it begins
pub piece-order : (before : Point) (splits : List Point) (i : ℕ) → rise_after before splits ≡ true
    → is_bound (piece_after before splits i).begin ≡ true
    → point_lt (piece_after before splits i).end (piece_after before splits i).begin ≡ false
piece-order before [] i rising legal =
    let parts : (nat_le (length before) bound_limit ≡ true) × (not (is_after_ff before) ≡ true) = and_parts _ _ legal in
    not-true _ parts.1
piece-order before (split ∷ splits) zero rising legal =
    let parts : (point_lt before split ≡ true) × (rise_after split splits ≡ true) = and_parts _ _ rising in
    lt_one_way before split parts.0
piece-order before (split ∷ splits) (suc i) rising legal =
    let parts : (point_lt before split ≡ true) × (rise_after split splits ≡ true) = and_parts _ _ rising in
    piece-order split splits i parts.1 legal

-- the text lies in the piece of its first owner, and in no other
module _ (splits : List Point) (x : Point) (number : ℕ) (rising : rise_after [] splits ≡ true)
    (below : point_lt x end_of_keys ≡ true) (is : number ≡ first_owner splits x) (within : number ≤ length splits)
  where
    pub in-own-piece : in_range (piece splits number) x ≡ true
    in-own-piece = pieces_part_the_keys splits number x rising within below
        ∙ eq-eqb (first_owner splits x) number (sym is)

    pub only-own-piece : (other : ℕ) → other ≤ length splits → in_range (piece splits other) x ≡ true → other ≡ number
    only-own-piece other few inside =
        sym (eqb-true (first_owner splits x) other
        (sym (pieces_part_the_keys splits other x rising few below) ∙ inside)) ∙ sym is
