-- The parts of a range with newer versions have just its points with newer versions.
use Rattle.std.proofs.Common.{◌≡◌, ◌∙◌, sym, ap, refl, ℕ, max, Bool, true, false, not, ◌&&◌, ◌||◌, nat_lt}
use Rattle.std.proofs.Common.{List, [], ◌∷◌, ◌++◌, if◌then◌else◌, ⊎_elim}
use Rattle.std.specs.Cmp.{both_ways as same_tests}
use Rattle.std.specs.List.{AllByRecursion}
use Rattle.std.proofs.lemmas.Bool.{cases_Bool, cond-true, cond-false, lt-ltb, ltb-true, and_parts, not-true}
use Rattle.std.proofs.lemmas.List.{append_assoc}
use Rattle.std.proofs.lemmas.List.Folds.{list_any-append}
use Rattle.fdb_keys.specs.Points.{Point, point_lt}
use Rattle.fdb_keys.specs.Ranges.{Range, in_range, in_set}
use Rattle.fdb_keys.proofs.Exports.{in_between, lt_chain, lt_le_chain, lt_one_way}
use Rattle.fdb_interval.specs.Breakpoints.{Breaks, value_from, AreRising}
use Rattle.fdb_interval.specs.Newer.{newer_piece, newer_pieces}
use Rattle.fdb_interval.proofs.BreaksLemmas.{sift, sift_twice, all-sift, all_imply, rising-sift, before, beyond, inside}
use Rattle.fdb_interval.proofs.BreaksLemmas.{inside-is, value-after, value-before, value-behind}
use Rattle.fdb_interval.proofs.VersionsLemmas.{above, newer-above, above-is_newer}

-- ---- the walk
pub walked-on : (bar held : ℕ) (here : Point) (e : Point × ℕ) (left : Breaks ℕ) (end : Point)
    → (nat_lt bar held && nat_lt bar e.1) ≡ true
    → newer_pieces bar held here (e ∷ left) end ≡ newer_pieces bar held here left end
walked-on bar held here e left end both = cond-true _ _ _ both

pub walked-cut : (bar held : ℕ) (here : Point) (e : Point × ℕ) (left : Breaks ℕ) (end : Point) (pieces : List Range)
    → (nat_lt bar held && nat_lt bar e.1) ≡ false
    → pieces ++ newer_pieces bar held here (e ∷ left) end
    ≡ (pieces ++ newer_piece bar held here e.0) ++ newer_pieces bar e.1 e.0 left end
walked-cut bar held here e left end pieces one =
    ap (λ (l : List Range). pieces ++ l) (cond-false _ _ _ one)
    ∙ sym (append_assoc pieces (newer_piece bar held here e.0) (newer_pieces bar e.1 e.0 left end))

-- ---- the points
abbrev up_to_next : Point → Point → Range
up_to_next here next = record { begin = here; end = next }

none : (t : Bool) → false ≡ (t && false)
none true = refl
none false = refl

whole : (t : Bool) → t ≡ (t && true)
whole true = refl
whole false = refl

in_piece : (bar held : ℕ) (here next x : Point)
    → in_set (newer_piece bar held here next) x ≡ (in_range (up_to_next here next) x && nat_lt bar held)
in_piece bar held here next x = ⊎_elim
    (λ newer.
    ap (λ (l : List Range). in_set l x) (cond-true _ _ _ newer)
    ∙ in_between here next x
    ∙ whole (in_range (up_to_next here next) x)
    ∙ sym (ap (λ (t : Bool). in_range (up_to_next here next) x && t) newer))
    (λ older.
    ap (λ (l : List Range). in_set l x) (cond-false _ _ _ older)
    ∙ none (in_range (up_to_next here next) x)
    ∙ sym (ap (λ (t : Bool). in_range (up_to_next here next) x && t) older))
    (cases_Bool (nat_lt bar held))

-- which of two newer versions is held makes nothing newer or older
chosen : (bar a b n : ℕ) (t : Bool) → nat_lt bar a ≡ nat_lt bar b
    → nat_lt bar (if t then a else n) ≡ nat_lt bar (if t then b else n)
chosen bar a b n true same = same
chosen bar a b n false same = refl

alike : (bar a b : ℕ) (es : Breaks ℕ) (x : Point) → nat_lt bar a ≡ nat_lt bar b
    → nat_lt bar (value_from a es x) ≡ nat_lt bar (value_from b es x)
alike bar a b [] x same = same
alike bar a b (e ∷ es) x same =
    alike bar (if point_lt x e.0 then a else e.1) (if point_lt x e.0 then b else e.1) es x
    (chosen bar a b e.1 (point_lt x e.0) same)

one_of_two : (bar held next : ℕ) (t : Bool) → nat_lt bar held ≡ true → nat_lt bar next ≡ true
    → nat_lt bar held ≡ nat_lt bar (if t then held else next)
one_of_two bar held next true newer also = refl
one_of_two bar held next false newer also = newer ∙ sym also

-- a point before the breakpoint, and one from there on
sooner : (a h v : Bool) → (((not a && true) && h) || ((not true && true) && v)) ≡ ((not a && true) && h)
sooner true h v = refl
sooner false true v = refl
sooner false false v = refl

in_first : (a b c h v w : Bool) → b ≡ true → c ≡ true → w ≡ h
    → (((not a && b) && h) || ((not b && c) && v)) ≡ ((not a && c) && w)
in_first a b c h v w is_b is_c is_w =
    (λ i. ((not a && is_b i) && h) || ((not (is_b i) && is_c i) && v))
    ∙ sooner a h v
    ∙ sym (λ i. (not a && is_c i) && is_w i)

in_rest : (a b c h v w : Bool) → a ≡ false → b ≡ false → w ≡ v
    → (((not a && b) && h) || ((not b && c) && v)) ≡ ((not a && c) && w)
in_rest a b c h v w is_a is_b is_w =
    (λ i. ((not (is_a i) && is_b i) && h) || ((not (is_b i) && c) && v))
    ∙ sym (λ i. (not (is_a i) && c) && is_w i)

-- the parts on both sides of a breakpoint
parted : (bar held : ℕ) (here : Point) (e : Point × ℕ) (es : Breaks ℕ) (end x : Point) → point_lt here e.0 ≡ true
    → point_lt e.0 end ≡ true → AllByRecursion (λ (f : Point × ℕ). point_lt e.0 f.0 ≡ true) es
    → ((in_range (up_to_next here e.0) x && nat_lt bar held)
    || (in_range (up_to_next e.0 end) x && nat_lt bar (value_from e.1 es x)))
    ≡ (in_range (up_to_next here end) x && nat_lt bar (value_from held (e ∷ es) x))
parted bar held here e es end x after before_end rising = ⊎_elim
    (λ first.
    in_first (point_lt x here) (point_lt x e.0) (point_lt x end) (nat_lt bar held) (nat_lt bar (value_from e.1 es x))
    (nat_lt bar (value_from held (e ∷ es) x)) first (lt_chain x e.0 end first before_end)
    (ap (nat_lt bar) (ap (λ (n : ℕ). value_from n es x) (cond-true _ _ _ first)
    ∙ value-after held es x (all_imply (λ f. point_lt e.0 f.0 ≡ true) (λ f. point_lt x f.0 ≡ true)
    (λ f later. lt_chain x e.0 f.0 first later) es rising))))
    (λ reached.
    in_rest (point_lt x here) (point_lt x e.0) (point_lt x end) (nat_lt bar held) (nat_lt bar (value_from e.1 es x))
    (nat_lt bar (value_from held (e ∷ es) x)) (lt_one_way here x (lt_le_chain here e.0 x after reached)) reached
    (ap (nat_lt bar) (ap (λ (n : ℕ). value_from n es x) (cond-false _ _ _ reached))))
    (cases_Bool (point_lt x e.0))

in_pieces : (bar held : ℕ) (here : Point) (es : Breaks ℕ) (end x : Point) → AreRising es
    → AllByRecursion (λ (e : Point × ℕ). point_lt here e.0 ≡ true) es
    → AllByRecursion (λ (e : Point × ℕ). point_lt e.0 end ≡ true) es
    → in_set (newer_pieces bar held here es end) x
    ≡ (in_range (up_to_next here end) x && nat_lt bar (value_from held es x))
in_pieces bar held here [] end x rising after sooner = in_piece bar held here end x
in_pieces bar held here (e ∷ es) end x rising after sooner = ⊎_elim
    (λ both.
    let newer : (nat_lt bar held ≡ true) × (nat_lt bar e.1 ≡ true) = and_parts _ _ both in
    ap (λ (l : List Range). in_set l x) (walked-on bar held here e es end both)
    ∙ in_pieces bar held here es end x rising.1 after.1 sooner.1
    ∙ ap (λ (t : Bool). in_range (up_to_next here end) x && t)
    (alike bar held (if point_lt x e.0 then held else e.1) es x
    (one_of_two bar held e.1 (point_lt x e.0) newer.0 newer.1)))
    (λ one.
    ap (λ (l : List Range). in_set l x) (walked-cut bar held here e es end [] one)
    ∙ list_any-append (λ (r : Range). in_range r x) (newer_piece bar held here e.0) (newer_pieces bar e.1 e.0 es end)
    ∙ (λ i. in_piece bar held here e.0 x i || in_pieces bar e.1 e.0 es end x rising.1 rising.0 sooner.1 i)
    ∙ parted bar held here e es end x after.0 sooner.0 rising.0)
    (cases_Bool (nat_lt bar held && nat_lt bar e.1))

-- ---- the versions in the range
value-inside : (es : Breaks ℕ) (range : Range) (x : Point) → AreRising es → in_range range x ≡ true
    → value_from 0 es x
    ≡ value_from (value_from 0 es range.begin) (sift (inside range.begin range.end) es) x
value-inside es range x rising within =
    let parts = and_parts _ _ within in
    let held = value_from 0 es range.begin in
    value-behind 0 es range.begin x rising (not-true _ parts.0)
    ∙ value-before held (sift (beyond range.begin) es) range.end x (rising-sift (beyond range.begin) es rising) parts.1
    ∙ ap (λ (l : Breaks ℕ). value_from held l x)
    (sift_twice (before range.end) (beyond range.begin) (inside range.begin range.end)
    (λ y. sym (inside-is range.begin range.end y)) es)

where_true : (t a b : Bool) → (t ≡ true → a ≡ b) → (t && a) ≡ (t && b)
where_true true a b same = same refl
where_true false a b same = refl

pub newer_pieces-points : (floor version : ℕ) (es : Breaks ℕ) (range : Range) (x : Point) → AreRising es
    → in_set (newer_pieces (max version floor) (value_from 0 es range.begin) range.begin
    (sift (inside range.begin range.end) es) range.end) x
    ≡ (in_range range x && nat_lt version (above floor (value_from 0 es x)))
newer_pieces-points floor version es range x rising =
    let bar = max version floor in
    let held = value_from 0 es range.begin in
    in_pieces bar held range.begin (sift (inside range.begin range.end) es) range.end x
    (rising-sift (inside range.begin range.end) es rising)
    (all-sift (inside range.begin range.end) (λ y. point_lt range.begin y ≡ true)
    (λ y lies. (and_parts _ _ (sym (inside-is range.begin range.end y) ∙ lies)).0) es)
    (all-sift (inside range.begin range.end) (λ y. point_lt y range.end ≡ true)
    (λ y lies. (and_parts _ _ (sym (inside-is range.begin range.end y) ∙ lies)).1) es)
    ∙ where_true (in_range range x) _ _ (λ within.
    ap (nat_lt bar) (sym (value-inside es range x rising within))
    ∙ same_tests _ _
    (λ newer. lt-ltb _ _ (newer-above floor version (value_from 0 es x) (ltb-true _ _ newer)))
    (λ newer. lt-ltb _ _ (above-is_newer floor version (value_from 0 es x) (ltb-true _ _ newer))))
