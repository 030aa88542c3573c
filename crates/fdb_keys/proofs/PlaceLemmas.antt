-- A range that is inserted into a sorted list goes in the place of the ranges that it touches.
use Rattle.std.proofs.Common.{◌≡◌, ◌∙◌, sym, ap, refl, ℕ, zero, suc, ◌+◌, ◌≤◌, ◌<◌, Bool, true, false, not, List, []}
use Rattle.std.proofs.Common.{◌∷◌, ◌++◌, take, drop, length, get_or, subst, ⊎_elim, arith}
use Rattle.std.specs.Bool.{⊤}
use Rattle.std.specs.List.{fold, prefix_len}
use Rattle.std.specs.List.Sorted.{IsPartitionedBy, IsPartitionPoint}
use Rattle.std.proofs.lemmas.Bool.{cases_Bool, cond-true, cond-false, not-true, not_from_false}
use Rattle.std.proofs.lemmas.List.{drop-drop}
use Rattle.std.proofs.lemmas.List.Sums.{prefix_len_is}
use Rattle.fdb_keys.specs.Points.{Point, point_lt}
use Rattle.fdb_keys.specs.Ranges.{Range, begins_after, is_apart}
use Rattle.fdb_keys.specs.Insertion.{lesser_point, greater_point, joined_range, inserted}
use Rattle.fdb_keys.proofs.PointOrder.{lt-itself, lt_one_way, lt_chain, le_chain, lt_le_chain, le_lt_chain}
use Rattle.fdb_keys.proofs.InsertionLemmas.{lesser-right, inserted-before, inserted-after, inserted-joined, apart_parts}
use Rattle.fdb_keys.proofs.InsertionLemmas.{begins_after-sooner}

-- the range ends before the point
abbrev pub ends_before : Point → Range → Bool
ends_before x range = point_lt range.end x

-- the range begins at the point or before it
abbrev pub begins_by : Point → Range → Bool
begins_by x range = not (point_lt x range.begin)

-- what begins after a point ends after it
begin_after : (x : Point) (ranges : List Range) → begins_after x ranges ≡ true → is_apart ranges ≡ true
    → (k : ℕ) (d : Range) → k < length ranges → point_lt x (get_or ranges k d).begin ≡ true
begin_after x [] after apart k d within = absurd (omega arith)
begin_after x (range ∷ ranges) after apart zero d within = after
begin_after x (range ∷ ranges) after apart (suc k) d within =
    let parts = apart_parts range ranges apart in
    begin_after x ranges
    (begins_after-sooner x range.end ranges (lt_chain x range.begin range.end after parts.0) parts.1) parts.2 k d
    (omega arith)

some_at : (ranges : List Range) → is_apart ranges ≡ true → (k : ℕ) (d : Range) → k < length ranges
    → point_lt (get_or ranges k d).begin (get_or ranges k d).end ≡ true
some_at [] apart k d within = absurd (omega arith)
some_at (range ∷ ranges) apart zero d within = (apart_parts range ranges apart).0
some_at (range ∷ ranges) apart (suc k) d within = some_at ranges (apart_parts range ranges apart).2 k d (omega arith)

-- sorted ranges end one after another, and begin so
pub ends_rise : (x : Point) (ranges : List Range) → is_apart ranges ≡ true → IsPartitionedBy (ends_before x) ranges
ends_rise x [] apart i j d low within before = absurd (omega arith)
ends_rise x (range ∷ ranges) apart zero zero d low within before = before
ends_rise x (range ∷ ranges) apart zero (suc j) d low within before =
    let parts = apart_parts range ranges apart in
    let next = get_or ranges j d in
    lt_chain range.end next.end x
    (lt_chain range.end next.begin next.end (begin_after range.end ranges parts.1 parts.2 j d (omega arith))
    (some_at ranges parts.2 j d (omega arith)))
    before
ends_rise x (range ∷ ranges) apart (suc i) zero d low within before = absurd (omega arith)
ends_rise x (range ∷ ranges) apart (suc i) (suc j) d low within before =
    ends_rise x ranges (apart_parts range ranges apart).2 i j d (omega arith) (omega arith) before

pub begins_rise : (x : Point) (ranges : List Range) → is_apart ranges ≡ true → IsPartitionedBy (begins_by x) ranges
begins_rise x [] apart i j d low within reached = absurd (omega arith)
begins_rise x (range ∷ ranges) apart zero zero d low within reached = reached
begins_rise x (range ∷ ranges) apart zero (suc j) d low within reached =
    let parts = apart_parts range ranges apart in
    let next = get_or ranges j d in
    not_from_false _
    (le_chain range.begin next.begin x
    (lt_one_way range.begin next.begin
    (lt_chain range.begin range.end next.begin parts.0
    (begin_after range.end ranges parts.1 parts.2 j d (omega arith))))
    (not-true _ reached))
begins_rise x (range ∷ ranges) apart (suc i) zero d low within reached = absurd (omega arith)
begins_rise x (range ∷ ranges) apart (suc i) (suc j) d low within reached =
    begins_rise x ranges (apart_parts range ranges apart).2 i j d (omega arith) (omega arith) reached

-- the partition point is how many pass from the front on
pub count_from_point : (p : Range → Bool) (ranges : List Range) (n : ℕ) → n ≤ length ranges
    → IsPartitionPoint (λ range. p range ≡ true) (λ range. p range ≡ false) ranges n → n ≡ prefix_len p ranges
count_from_point p ranges n within point =
    let some : Range = record { begin = []; end = [] } in
    sym (prefix_len_is p ranges n some within (λ k low. point.0 k some (omega arith) low)
    (λ low. point.1 n some (omega arith) low))

-- one range more at the front, which passes or not
counts_first : (p : Range → Bool) (range : Range) (ranges : List Range) → p range ≡ true
    → prefix_len p (range ∷ ranges) ≡ suc (prefix_len p ranges)
counts_first p range ranges passes = cond-true _ _ _ passes ∙ omega arith

counts_none : (p : Range → Bool) (range : Range) (ranges : List Range) → p range ≡ false
    → prefix_len p (range ∷ ranges) ≡ 0
counts_none p range ranges fails = cond-false _ _ _ fails

-- the rest of a sorted list is sorted
pub is_apart-drop : (n : ℕ) (ranges : List Range) → is_apart ranges ≡ true → is_apart (drop n ranges) ≡ true
is_apart-drop zero ranges apart = apart
is_apart-drop (suc n) [] apart = refl
is_apart-drop (suc n) (range ∷ ranges) apart = is_apart-drop n ranges (apart_parts range ranges apart).2

-- what comes right before the sorted ranges after it is inserted at their front
pub inserted-apart : (range : Range) (ranges : List Range) → is_apart (range ∷ ranges) ≡ true
    → inserted range ranges ≡ range ∷ ranges
unfolding inserted
inserted-apart range [] apart = refl
inserted-apart range (next ∷ ranges) apart =
    let parts = apart_parts range (next ∷ ranges) apart in
    let of_next = apart_parts next ranges parts.2 in
    inserted-after range next ranges
    (lt_one_way range.begin next.end
    (lt_chain range.begin range.end next.end parts.0 (lt_chain range.end next.begin next.end parts.1 of_next.0)))
    parts.1
    ∙ ap (λ (l : List Range). range ∷ l) (inserted-apart next ranges parts.2)

-- the range doesn't begin after the end of the first one
abbrev BeginsInReach : Range → List Range → Type 0
BeginsInReach carried [] = ⊤
BeginsInReach carried (range ∷ ranges) = point_lt range.end carried.begin ≡ false

-- from the begin of the first range on, the two points are before the same points
abbrev EndAlike : Point → Point → List Range → Type 0
EndAlike x y [] = ⊤
EndAlike x y (range ∷ ranges) = (z : Point) → point_lt z range.begin ≡ false → point_lt x z ≡ point_lt y z

-- what is joined with a range still begins in reach of the next one
in_reach-joined : (carried range : Range) (ranges : List Range) → is_apart (range ∷ ranges) ≡ true
    → BeginsInReach (joined_range carried range) ranges
in_reach-joined carried range [] apart = tt
in_reach-joined carried range (next ∷ ranges) apart =
    let parts = apart_parts range (next ∷ ranges) apart in
    let of_next = apart_parts next ranges parts.2 in
    lt_one_way (lesser_point carried.begin range.begin) next.end
    (le_lt_chain (lesser_point carried.begin range.begin) range.begin next.end (lesser-right carried.begin range.begin)
    (lt_chain range.begin range.end next.end parts.0 (lt_chain range.end next.begin next.end parts.1 of_next.0)))

greater_before : (x y z : Point) → point_lt y z ≡ true → point_lt (greater_point x y) z ≡ point_lt x z
greater_before x y z before =
    ⊎_elim
    (λ lesser. ap (λ (w : Point). point_lt w z) (cond-true _ _ _ lesser) ∙ before ∙ sym (lt_chain x y z lesser before))
    (λ greater. ap (λ (w : Point). point_lt w z) (cond-false _ _ _ greater))
    (cases_Bool (point_lt x y))

alike-joined : (end : Point) (carried range : Range) (ranges : List Range) → is_apart (range ∷ ranges) ≡ true
    → EndAlike carried.end end (range ∷ ranges)
    → EndAlike (joined_range carried range).end end ranges
alike-joined end carried range [] apart alike = tt
alike-joined end carried range (next ∷ ranges) apart alike = λ z from.
    let parts = apart_parts range (next ∷ ranges) apart in
    let after : point_lt range.end z ≡ true = lt_le_chain range.end next.begin z parts.1 from in
    greater_before carried.end range.end z after
    ∙ alike z (lt_one_way range.begin z (lt_chain range.begin range.end z parts.0 after))

-- a range that begins in reach of the first one is joined with those that begin by its end
inserted-in_reach : (end : Point) (carried : Range) (ranges : List Range) → is_apart ranges ≡ true
    → BeginsInReach carried ranges → EndAlike carried.end end ranges
    → inserted carried ranges ≡ fold joined_range carried (take (prefix_len (begins_by end) ranges) ranges) ∷ drop
    (prefix_len (begins_by end) ranges) ranges
unfolding inserted
inserted-in_reach end carried [] apart reach alike = refl
inserted-in_reach end carried (range ∷ ranges) apart reach alike =
    let parts = apart_parts range ranges apart in
    let same : point_lt carried.end range.begin ≡ point_lt end range.begin = alike range.begin
    (lt-itself range.begin) in
    let joined_by = λ (n : ℕ). fold joined_range carried (take n (range ∷ ranges)) ∷ drop n (range ∷ ranges) in
    ⊎_elim
    (λ after.
    inserted-after carried range ranges reach (same ∙ after)
    ∙ ap (λ (l : List Range). carried ∷ l) (inserted-apart range ranges apart)
    ∙ sym (ap joined_by (counts_none (begins_by end) range ranges (ap not after))))
    (λ reached.
    inserted-joined carried range ranges reach (same ∙ reached)
    ∙ inserted-in_reach end (joined_range carried range) ranges parts.2 (in_reach-joined carried range ranges apart)
    (alike-joined end carried range ranges apart alike)
    ∙ sym (ap joined_by (counts_first (begins_by end) range ranges (ap not reached))))
    (cases_Bool (point_lt end range.begin))

-- what ends before the range stays where it is
inserted-after_all : (carried : Range) (ranges : List Range)
    → inserted carried ranges ≡ take (prefix_len (ends_before carried.begin) ranges) ranges ++ inserted carried
    (drop (prefix_len (ends_before carried.begin) ranges) ranges)
unfolding inserted
inserted-after_all carried [] = refl
inserted-after_all carried (range ∷ ranges) =
    let parted_by = λ (n : ℕ). take n (range ∷ ranges) ++ inserted carried (drop n (range ∷ ranges)) in
    ⊎_elim
    (λ before.
    inserted-before carried range ranges before
    ∙ ap (λ (l : List Range). range ∷ l) (inserted-after_all carried ranges)
    ∙ sym (ap parted_by (counts_first (ends_before carried.begin) range ranges before)))
    (λ reach. sym (ap parted_by (counts_none (ends_before carried.begin) range ranges reach)))
    (cases_Bool (point_lt range.end carried.begin))

in_reach-after : (carried : Range) (ranges : List Range)
    → BeginsInReach carried (drop (prefix_len (ends_before carried.begin) ranges) ranges)
in_reach-after carried [] = tt
in_reach-after carried (range ∷ ranges) =
    let reach_by = λ (n : ℕ). BeginsInReach carried (drop n (range ∷ ranges)) in
    ⊎_elim
    (λ before. subst reach_by (sym (counts_first (ends_before carried.begin) range ranges before))
    (in_reach-after carried ranges))
    (λ reach. subst reach_by (sym (counts_none (ends_before carried.begin) range ranges reach)) reach)
    (cases_Bool (point_lt range.end carried.begin))

alike-itself : (x : Point) (ranges : List Range) → EndAlike x x ranges
alike-itself x [] = tt
alike-itself x (range ∷ ranges) = λ z from. refl

-- where the range goes, and what it becomes
pub inserted_in_place : (carried : Range) (ranges : List Range) (start count : ℕ) → is_apart ranges ≡ true
    → start ≡ prefix_len (ends_before carried.begin) ranges
    → count ≡ prefix_len (begins_by carried.end) (drop start ranges)
    → take start ranges ++ fold joined_range carried (take count (drop start ranges)) ∷ drop (start + count)
    ranges ≡ inserted carried ranges
inserted_in_place carried ranges start count apart starts counts =
    ap (λ (l : List Range). take start ranges ++ fold joined_range carried (take count (drop start ranges)) ∷ l)
    (sym (drop-drop count start ranges))
    ∙ ap (λ (n : ℕ). take start ranges ++ fold joined_range carried (take n (drop start ranges)) ∷ drop n
    (drop start ranges)) counts
    ∙ ap (λ (l : List Range). take start ranges ++ l)
    (sym (inserted-in_reach carried.end carried (drop start ranges) (is_apart-drop start ranges apart)
    (subst (λ (n : ℕ). BeginsInReach carried (drop n ranges)) (sym starts) (in_reach-after carried ranges))
    (alike-itself carried.end (drop start ranges))))
    ∙ ap (λ (n : ℕ). take n ranges ++ inserted carried (drop n ranges)) starts
    ∙ sym (inserted-after_all carried ranges)
