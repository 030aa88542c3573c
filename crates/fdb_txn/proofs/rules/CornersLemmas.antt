-- Tests at the corners find what tests of all points, and of all versions, would.
use Rattle.std.proofs.Common.{◌≡◌, ◌↔◌, ◌≤◌, ◌∙◌, sym, ap, ap₂, refl, arith, ⊎_elim, ℕ, suc, Bool, true, false, not}
use Rattle.std.proofs.Common.{◌&&◌, ◌||◌, ◌==◌, nat_lt, nat_le, if◌then◌else◌, List, [], ◌∷◌, ◌++◌, map}
use Rattle.std.specs.Cmp.{IsStrictWeakOrder}
use Rattle.std.specs.List.{AllByRecursion, list_any}
use Rattle.std.proofs.lemmas.Bool.{cases_Bool, both_ways, true_from_ne_false, false_from_ne_true, or_left, or_right}
use Rattle.std.proofs.lemmas.Bool.{or_cases, and_parts, and_from, ltb-true, ltb-false, lt-ltb, le-ltb, leb-true, le-leb}
use Rattle.std.proofs.lemmas.Bool.{lt-leb, eqb-true, eq-eqb}
use Rattle.std.proofs.lemmas.List.MinMax.{IsStrictWeakOrder-by_number}
use Rattle.fdb_keys.specs.Points.{Point, point_lt}
use Rattle.fdb_keys.specs.Ranges.{Range, in_range, in_set}
use Rattle.fdb_keys.proofs.Exports.{all-parts, point_order}
use Rattle.fdb_txn.specs.book.Book.{DatedMove}
use Rattle.fdb_txn.specs.rules.Owners.{first_owner, owner, bounds, version_corners, owned, span_begin, asked_at}
use Rattle.fdb_txn.specs.rules.Admission.{overlaps_at}
use Rattle.fdb_txn.specs.laws.AdmissionLaws.{OverlapsAtSomePoint, AskedAtSomePoint, OwnedAtSomeVersion}

-- what passes the test of a list
pub some_of-any : {A : Type 0} (p : A → Bool) (xs : List A) → list_any p xs ≡ true → (x : A) × (p x ≡ true)
some_of-any p [] any = cc
some_of-any p (x ∷ xs) any = ⊎_elim (λ here. (x, here)) (λ there. some_of-any p xs there)
    (or_cases (p x) (list_any p xs) any)

-- one of a list may be put after the first
or-skip : (a b c : Bool) → (a || c) ≡ true → (a || (b || c)) ≡ true
or-skip true b c either = refl
or-skip false b c either = or_right b c either

-- x and y come before the same items
abbrev pub AreAlike : {A : Type 0} → (A → A → Bool) → List A → A → A → Type 0
AreAlike lt items x y = AllByRecursion (λ item. lt x item ≡ lt y item) items

module _ {A : Type 0} (lt : A → A → Bool) (order : IsStrictWeakOrder lt) where
  -- y ≤ x and x < z give y < z
  before-lower : (x y z : A) → lt x y ≡ false → lt x z ≡ true → lt y z ≡ true
  before-lower x y z lower before = true_from_ne_false _
      (λ not_before. both_ways _ (order.chain x y z lower not_before) before)

  not_before-itself : (x : A) → lt x x ≡ false
  not_before-itself x = false_from_ne_true _ (λ before. both_ways _ (order.one_way x x before) before)

  -- The greatest item that isn't above x, or the lowest one where that is greater, is alike to x.
  pub nearest : (x lowest : A) (items : List A) → lt x lowest ≡ false
      → (y : A) × ((p : A → Bool) → p y ≡ true → list_any p (lowest ∷ items) ≡ true) × (lt x y ≡ false)
      × (lt y lowest ≡ false)
      × AreAlike lt items x y
  nearest x lowest [] from = (lowest, λ p there. or_left _ _ there, from, not_before-itself lowest, tt)
  nearest x lowest (item ∷ items) from =
      let near = nearest x lowest items from in
      ⊎_elim
      (λ (above : lt x item ≡ true). (
        near.0,
        λ p there. or-skip (p lowest) (p item) (list_any p items) (near.1 p there),
        near.2,
        near.3,
        (above ∙ sym (before-lower x near.0 item near.2 above), near.4),
      ))
      (λ (within : lt x item ≡ false). ⊎_elim
      (λ (greater : lt lowest item ≡ true).
      let higher = nearest x item items within in (
        higher.0,
        λ p there. or_right (p lowest) (list_any p (item ∷ items)) (higher.1 p there),
        higher.2,
        order.chain higher.0 item lowest higher.3 (order.one_way lowest item greater),
        (within ∙ sym higher.3, higher.4),
      ))
      (λ (no_greater : lt lowest item ≡ false). (
        near.0,
        λ p there. or-skip (p lowest) (p item) (list_any p items) (near.1 p there),
        near.2,
        near.3,
        (within ∙ sym (order.chain near.0 lowest item near.3 no_greater), near.4),
      ))
      (cases_Bool (lt lowest item)))
      (cases_Bool (lt x item))

-- no point comes before the empty one
pub empty_is_first : (x : Point) → point_lt x [] ≡ false
unfolding point_lt
empty_is_first [] = refl
empty_is_first (n ∷ x) = refl

-- A test that answers alike at points that come before the same corners is passed by some point exactly where it is
-- passed by the empty point or by a corner.
pub corners_suffice : (p : Point → Bool) (points : List Point)
    → ((x y : Point) → AreAlike point_lt points x y → p x ≡ p y)
    → (list_any p ([] ∷ points) ≡ true) ↔ ((x : Point) × (p x ≡ true))
corners_suffice p points respects = (
  λ any. some_of-any p ([] ∷ points) any,
  λ some.
      let near = nearest point_lt point_order some.0 [] points (empty_is_first some.0) in
      near.1 p (sym (respects some.0 near.0 near.4) ∙ some.1),
)

-- points that come before the same bounds lie in the same ranges
pub alike-in_range : (range : Range) (x y : Point) → point_lt x range.begin ≡ point_lt y range.begin
    → point_lt x range.end ≡ point_lt y range.end
    → in_range range x ≡ in_range range y
alike-in_range range x y begin end = ap₂ (λ b e. not b && e) begin end

pub alike-in_set : (ranges : List Range) (x y : Point) → AreAlike point_lt (bounds ranges) x y
    → in_set ranges x ≡ in_set ranges y
alike-in_set [] x y alike = refl
alike-in_set (range ∷ ranges) x y alike =
    ap₂ (λ here there. here || there) (alike-in_range range x y alike.0 alike.1.0) (alike-in_set ranges x y alike.1.1)

-- the bounds of two lists of ranges in one
pub bounds-parts : (P : Point → Type 0) (xs ys : List Range) → AllByRecursion P (bounds (xs ++ ys))
    → AllByRecursion P (bounds xs) × AllByRecursion P (bounds ys)
bounds-parts P [] ys all = (tt, all)
bounds-parts P (x ∷ xs) ys all = let parts = bounds-parts P xs ys all.1.1 in ((all.0, (all.1.0, parts.0)), parts.1)

-- points that come before the same splits have one first owner
pub alike-first_owner : (splits : List Point) (x y : Point) → AreAlike point_lt splits x y
    → first_owner splits x ≡ first_owner splits y
alike-first_owner [] x y alike = refl
alike-first_owner (split ∷ splits) x y alike =
    ap₂ (λ (before : Bool) (others : ℕ). if before then 0 else suc others) alike.0
    (alike-first_owner splits x y alike.1)

-- points that come before the same splits and bounds of moves have one owner at each version
pub alike-owner : (splits : List Point) (moves : List DatedMove) (x y : Point) (v : ℕ) → AreAlike point_lt splits x y
    → AreAlike point_lt (bounds (map (λ (move : DatedMove). move.range) moves)) x y
    → owner splits moves x v ≡ owner splits moves y v
alike-owner splits [] x y v alike among_moves = alike-first_owner splits x y alike
alike-owner splits (move ∷ older) x y v alike among_moves =
    ap₂ (λ (here : Bool) (others : ℕ). if nat_le move.version v && here then move.target else others)
    (alike-in_range move.range x y among_moves.0 among_moves.1.0)
    (alike-owner splits older x y v alike among_moves.1.1)

-- tests that answer alike at each item answer alike of a list
pub alike-list_any : {A : Type 0} (p q : A → Bool) → ((x : A) → p x ≡ q x) → (xs : List A)
    → list_any p xs ≡ list_any q xs
alike-list_any p q same [] = refl
alike-list_any p q same (x ∷ xs) = ap₂ (λ here there. here || there) (same x) (alike-list_any p q same xs)

-- points alike at the corners of two sets: they lie in the same sets, and have one owner
module _ (splits : List Point) (moves : List DatedMove) (xs ys : List Range) (x y : Point)
    (alike : AreAlike point_lt
    (splits ++ (bounds (map (λ (move : DatedMove). move.range) moves) ++ bounds (xs ++ ys))) x y) where
  abbrev IsAlike : Point → Type 0
  IsAlike corner = point_lt x corner ≡ point_lt y corner

  at_splits : AreAlike point_lt splits x y
  at_splits = (all-parts IsAlike splits _ alike).0

  among_others : AreAlike point_lt (bounds (map (λ (move : DatedMove). move.range) moves) ++ bounds (xs ++ ys)) x y
  among_others = (all-parts IsAlike splits _ alike).1

  at_moves : AreAlike point_lt (bounds (map (λ (move : DatedMove). move.range) moves)) x y
  at_moves = (all-parts IsAlike (bounds (map (λ (move : DatedMove). move.range) moves)) _ among_others).0

  at_ranges : AreAlike point_lt (bounds (xs ++ ys)) x y
  at_ranges = (all-parts IsAlike (bounds (map (λ (move : DatedMove). move.range) moves)) _ among_others).1

  alike-first_set : in_set xs x ≡ in_set xs y
  alike-first_set = alike-in_set xs x y (bounds-parts IsAlike xs ys at_ranges).0

  alike-second_set : in_set ys x ≡ in_set ys y
  alike-second_set = alike-in_set ys x y (bounds-parts IsAlike xs ys at_ranges).1

  one_owner : (v : ℕ) → owner splits moves x v ≡ owner splits moves y v
  one_owner v = alike-owner splits moves x y v at_splits at_moves

-- two places overlap exactly where they do so at some point
pub overlaps_at_some_point : OverlapsAtSomePoint
overlaps_at_some_point splits i earlier later =
    corners_suffice (overlaps_at splits i earlier later) _ (λ x y alike.
    ap₂ (λ (in_sets : Bool) (o : ℕ). in_sets && (o == i))
    (ap₂ (λ (a b : Bool). a && b)
    (alike-first_set splits earlier.moves earlier.transaction.writes later.transaction.reads x y alike)
    (alike-second_set splits earlier.moves earlier.transaction.writes later.transaction.reads x y alike))
    (one_owner splits earlier.moves earlier.transaction.writes later.transaction.reads x y alike earlier.version))

-- points with one owner at each version are owned at the same versions
alike-owned : (splits : List Point) (i : ℕ) (moves : List DatedMove) (x y : Point) (low high : ℕ)
    → ((v : ℕ) → owner splits moves x v ≡ owner splits moves y v)
    → owned splits i moves x low high ≡ owned splits i moves y low high
alike-owned splits i moves x y low high one =
    alike-list_any _ _ (λ v. ap (λ (o : ℕ). nat_lt low v && nat_le v high && (o == i)) (one v))
    (version_corners low moves)

-- a resolver is asked exactly where it is on account of some point
pub asked_at_some_point : AskedAtSomePoint
asked_at_some_point splits i place =
    corners_suffice (asked_at splits i place) _ (λ x y alike.
    let one = one_owner splits place.moves place.transaction.writes place.transaction.reads x y alike in
    ap₂ (λ (a b : Bool). a || b)
    (ap₂ (λ (inside : Bool) (o : ℕ). inside && (o == i))
    (alike-first_set splits place.moves place.transaction.writes place.transaction.reads x y alike)
    (one place.version))
    (ap₂ (λ (inside has : Bool). inside && has)
    (alike-second_set splits place.moves place.transaction.writes place.transaction.reads x y alike)
    (alike-owned splits i place.moves x y (span_begin place) place.version one)))

-- versions after or at the same moves have one owner of each point
same_moves-owner : (splits : List Point) (moves : List DatedMove) (x : Point) (v w : ℕ)
    → AreAlike nat_lt (map (λ (move : DatedMove). move.version) moves) v w
    → owner splits moves x v ≡ owner splits moves x w
same_moves-owner splits [] x v w alike = refl
same_moves-owner splits (move ∷ older) x v w alike =
    ap₂ (λ (after : Bool) (others : ℕ). if after && in_range move.range x then move.target else others)
    (same_le move.version v w alike.0)
    (same_moves-owner splits older x v w alike.1)
  where
    same_le : (n v w : ℕ) → nat_lt v n ≡ nat_lt w n → nat_le n v ≡ nat_le n w
    same_le n v w same = ⊎_elim
        (λ (before : nat_lt v n ≡ true). lt-leb n v (ltb-true v n before)
        ∙ sym (lt-leb n w (ltb-true w n (sym same ∙ before))))
        (λ (after : nat_lt v n ≡ false). le-leb n v (ltb-false v n after)
        ∙ sym (le-leb n w (ltb-false w n (sym same ∙ after))))
        (cases_Bool (nat_lt v n))

-- resolver i owns the point at this version of the span
abbrev is_owned_at : List Point → ℕ → List DatedMove → Point → ℕ → ℕ → ℕ → Bool
is_owned_at splits i moves x low high v = nat_lt low v && nat_le v high && (owner splits moves x v == i)

-- a resolver owned a point exactly where it did so at some version
pub owned_at_some_version : OwnedAtSomeVersion
owned_at_some_version splits i moves x low high = (
  λ any.
      let some = some_of-any (is_owned_at splits i moves x low high) (version_corners low moves) any in
      let parts : (nat_lt low some.0 && nat_le some.0 high ≡ true)
      × ((owner splits moves x some.0 == i) ≡ true) = and_parts _ _ some.1 in
      let between : (nat_lt low some.0 ≡ true) × (nat_le some.0 high ≡ true) = and_parts _ _ parts.0 in
      (some.0, ltb-true low some.0 between.0, leb-true some.0 high between.1, eqb-true _ i parts.1),
  λ some.
      let near = nearest nat_lt (IsStrictWeakOrder-by_number (λ (v : ℕ). v)) some.0 (suc low)
      (map (λ (move : DatedMove). move.version) moves) (le-ltb some.0 (suc low) some.1) in
      let above : suc low ≤ near.0 = ltb-false near.0 (suc low) near.3 in
      let below : near.0 ≤ some.0 = ltb-false some.0 near.0 near.2 in
      near.1 (is_owned_at splits i moves x low high)
      (and_from _ _
      (and_from _ _ (lt-ltb low near.0 above) (le-leb near.0 high (omega (arith, below))))
      (eq-eqb _ i (sym (same_moves-owner splits moves x some.0 near.0 near.4) ∙ some.3))),
)
