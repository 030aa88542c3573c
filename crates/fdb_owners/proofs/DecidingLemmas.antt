-- Moves that share no point and do what others do one after another.
use Rattle.std.proofs.Common.{◌≡◌, ◌∙◌, sym, ap, ap₂, refl, subst, ℕ, suc, ◌+◌, ◌<◌, Bool, true, false, not, ◌&&◌, ◌||◌}
use Rattle.std.proofs.Common.{List, [], ◌∷◌, ◌++◌, filter, length, if◌then◌else◌, ⊎_elim}
use Rattle.std.specs.List.{AllByRecursion}
use Rattle.std.proofs.lemmas.Bool.{cases_Bool, both_ways, cond-true, cond-false}
use Rattle.std.proofs.lemmas.List.{length-append}
use Rattle.std.proofs.lemmas.List.Elements.{filter-append}
use Rattle.std.proofs.lemmas.List.Sums.{fold-append}
use Rattle.fdb_keys.specs.Points.{Point, point_lt}
use Rattle.fdb_keys.specs.Ranges.{Range, in_range, in_set, is_apart}
use Rattle.fdb_keys.proofs.Exports.{all-append, all-weaken, all_after, apart_parts, in_range_parts, in_set-before}
use Rattle.fdb_keys.proofs.Exports.{lt_chain}
use Rattle.fdb_txn.specs.declared.entry.Move.{Move}
use Rattle.fdb_owners.specs.Learning.{is_moved, moves_to, DecideSoFar}
use Rattle.fdb_owners.specs.Ownership.{target_after}

-- ---- where the last move that holds a point takes it
-- it tells nothing of where the point was before
target-moved : (moves : List Move) (x : Point) (before other : ℕ) → is_moved moves x ≡ true
    → target_after moves x before ≡ target_after moves x other
target-moved [] x before other moved = absurd (both_ways _ refl moved)
target-moved (move ∷ moves) x before other moved =
    either (in_range move.range x) (target-moved moves x before other) moved
  where
    either : (t : Bool) → (is_moved moves x ≡ true → target_after moves x before ≡ target_after moves x other)
        → (t || is_moved moves x) ≡ true
        → target_after moves x (if t then move.to else before) ≡ target_after moves x (if t then move.to else other)
    either true others moved = refl
    either false others moved = others moved

-- a point that none holds stays
target-unmoved : (moves : List Move) (x : Point) (before : ℕ) → is_moved moves x ≡ false
    → target_after moves x before ≡ before
target-unmoved [] x before none = refl
target-unmoved (move ∷ moves) x before none = either (in_range move.range x) (target-unmoved moves x before) none
  where
    either : (t : Bool) → (is_moved moves x ≡ false → target_after moves x before ≡ before)
        → (t || is_moved moves x) ≡ false → target_after moves x (if t then move.to else before) ≡ before
    either true others none = absurd (both_ways _ none refl)
    either false others none = others none

-- ---- ranges that go over to one owner
target-of-ranges : (owner : ℕ) (ranges : List Range) (x : Point) (before : ℕ)
    → target_after (moves_to owner ranges) x before ≡ (if in_set ranges x then owner else before)
target-of-ranges owner [] x before = refl
target-of-ranges owner (range ∷ ranges) x before =
    target-of-ranges owner ranges x (if in_range range x then owner else before)
    ∙ either (in_range range x) (in_set ranges x)
  where
    either : (t u : Bool) → (if u then owner else (if t then owner else before)) ≡ (if t || u then owner else before)
    either true true = refl
    either true false = refl
    either false u = refl

-- what lies in the first of ranges that are apart lies in no other one
in-first-alone : (range : Range) (ranges : List Range) (x : Point) → is_apart (range ∷ ranges) ≡ true
    → in_range range x ≡ true → in_set ranges x ≡ false
in-first-alone range ranges x apart inside =
    let parts = apart_parts range ranges apart in
    in_set-before x ranges
    (all-weaken (λ (r : Range). point_lt range.end r.begin ≡ true) (λ (r : Range). point_lt x r.begin ≡ true)
    (λ (r : Range) after. lt_chain x range.end r.begin (in_range_parts range x inside).1 after) ranges
    (all_after range.end ranges parts.2 parts.1))

once-of-ranges : (owner : ℕ) (ranges : List Range) (x : Point) → is_apart ranges ≡ true
    → length (filter (λ (move : Move). in_range move.range x) (moves_to owner ranges))
    ≡ (if in_set ranges x then 1 else 0)
once-of-ranges owner [] x apart = refl
once-of-ranges owner (range ∷ ranges) x apart =
    let others = once-of-ranges owner ranges x (apart_parts range ranges apart).2 in
    ⊎_elim
    (λ (inside : in_range range x ≡ true).
    ap length (cond-true _ _ _ inside)
    ∙ ap suc (others ∙ cond-false _ _ _ (in-first-alone range ranges x apart inside))
    ∙ sym (ap (λ (t : Bool). if t || in_set ranges x then 1 else 0) inside))
    (λ (outside : in_range range x ≡ false).
    ap length (cond-false _ _ _ outside)
    ∙ others
    ∙ sym (ap (λ (t : Bool). if t || in_set ranges x then 1 else 0) outside))
    (cases_Bool (in_range range x))

within-of-ranges : (resolvers owner : ℕ) (ranges : List Range) → owner < resolvers
    → AllByRecursion (λ (move : Move). move.to < resolvers) (moves_to owner ranges)
within-of-ranges resolvers owner [] within = tt
within-of-ranges resolvers owner (range ∷ ranges) within = (within, within-of-ranges resolvers owner ranges within)

-- ---- the moves from the last one on
pub decide-none : DecideSoFar [] [] []
decide-none = record {
  points = λ x. refl;
  decide = record { targets = λ x before. refl; once = λ x. refl; within = λ resolvers within. tt };
}

-- one more, of which is added what those after it don't cover
module _ (move : Move) (later decisive now : List Move) (covered left after : List Range)
    (so_far : DecideSoFar later covered decisive)
    (points : (x : Point) → in_set left x ≡ (in_range move.range x && not (in_set covered x)))
    (apart : is_apart left ≡ true) (adds : now ≡ decisive ++ moves_to move.to left) where
  left-points : (x : Point) → in_set left x ≡ (in_range move.range x && not (is_moved later x))
  left-points x = points x ∙ ap (λ (t : Bool). in_range move.range x && not t) (so_far.points x)

  targets-more : (x : Point) (before : ℕ) → target_after now x before ≡ target_after (move ∷ later) x before
  targets-more x before =
      ap (λ (moves : List Move). target_after moves x before) adds
      ∙ fold-append (λ (target : ℕ) (one : Move). if in_range one.range x then one.to else target) before decisive
      (moves_to move.to left)
      ∙ target-of-ranges move.to left x (target_after decisive x before)
      ∙ ap₂ (λ (t : Bool) (target : ℕ). if t then move.to else target) (left-points x)
      (so_far.decide.targets x before)
      ∙ either (in_range move.range x) (is_moved later x) (target-moved later x) (target-unmoved later x)
    where
      either : (t u : Bool) → ((a b : ℕ) → u ≡ true → target_after later x a ≡ target_after later x b)
          → ((a : ℕ) → u ≡ false → target_after later x a ≡ a)
          → (if t && not u then move.to else target_after later x before)
          ≡ target_after later x (if t then move.to else before)
      either true true moved unmoved = moved before move.to refl
      either true false moved unmoved = sym (unmoved move.to refl)
      either false u moved unmoved = refl

  once-more : (x : Point) → length (filter (λ (one : Move). in_range one.range x) now)
      ≡ (if is_moved (move ∷ later) x then 1 else 0)
  once-more x =
      ap (λ (moves : List Move). length (filter (λ (one : Move). in_range one.range x) moves)) adds
      ∙ ap length (filter-append (λ (one : Move). in_range one.range x) decisive (moves_to move.to left))
      ∙ length-append (filter (λ (one : Move). in_range one.range x) decisive)
      (filter (λ (one : Move). in_range one.range x) (moves_to move.to left))
      ∙ ap₂ (λ (n m : ℕ). n + m) (so_far.decide.once x)
      (once-of-ranges move.to left x apart ∙ ap (λ (t : Bool). if t then 1 else 0) (left-points x))
      ∙ either (in_range move.range x) (is_moved later x)
    where
      either : (t u : Bool) → ((if u then 1 else 0) + (if t && not u then 1 else 0)) ≡ (if t || u then 1 else 0)
      either true true = refl
      either true false = refl
      either false true = refl
      either false false = refl

  pub decide-more : ((x : Point) → in_set after x ≡ (in_range move.range x || in_set covered x))
      → DecideSoFar (move ∷ later) after now
  decide-more covers = record {
    points = λ x. covers x ∙ ap (λ (t : Bool). in_range move.range x || t) (so_far.points x);
    decide = record {
      targets = targets-more;
      once = once-more;
      within = λ resolvers within. subst (AllByRecursion (λ (one : Move). one.to < resolvers)) (sym adds)
          (all-append (λ (one : Move). one.to < resolvers) decisive (moves_to move.to left)
          (so_far.decide.within resolvers within.1) (within-of-ranges resolvers move.to left within.0));
    };
  }
