-- Why a range is not read, by why its points are not.
use Rattle.std.proofs.Common.{◌≡◌, ap, refl, Bool, true, false, ◌&&◌, ◌||◌, List, [], ◌∷◌, if◌then◌else◌, ◌∙◌, sym}
use Rattle.std.proofs.Common.{Option, Some, None}
use Rattle.std.specs.List.{filter, list_any}
use Rattle.std.proofs.lemmas.Bool.{and_parts, and_from, cond-true, both_ways}
use Rattle.std.specs.Prelude.{◌↔◌}
use Rattle.std.specs.Option.{option_or, is_some}
use Rattle.fdb_keys.specs.Points.{Point, point_lt}
use Rattle.fdb_keys.specs.Ranges.{Range, in_range}
use Rattle.fdb_keys.specs.declared.refusal.Refusal.{Refusal}
use Rattle.fdb_keys.specs.declared.refusal.Refusal.TheVariants.{TransactionTooOld}
use Rattle.fdb_keys.proofs.Exports.{point_order, le_lt_chain, in_range_parts, in_range_from}
use Rattle.fdb_txn.specs.rules.Owners.{first_owner}
use Rattle.fdb_txn.proofs.Exports.{some_of-any, nearest, alike-first_owner}
use Rattle.fdb_machine.specs.machine.ClientSteps.{shard_begins, is_too_old, first_fault, fault_among}

-- an item that passes one test is among those that pass another exactly where one passes both
any-filter : {A : Type 0} (inside test : A → Bool) (xs : List A)
    → list_any test (filter inside xs) ≡ list_any (λ x. inside x && test x) xs
any-filter inside test [] = refl
any-filter inside test (x ∷ xs) = by_test (inside x) (any-filter inside test xs)
  where
    by_test : (here : Bool)
        → list_any test (filter inside xs) ≡ list_any (λ x. inside x && test x) xs
        → list_any test (if here then x ∷ filter inside xs else filter inside xs)
        ≡ ((here && test x) || list_any (λ x. inside x && test x) xs)
    by_test true others = ap (λ (later : Bool). test x || later) others
    by_test false others = others

-- What a test finds where a shard begins in a range, and what it finds at a point of the range.
module _ (splits : List Point) (range : Range) (found : Point → Bool) where
  -- where a shard begins in the range is a point of it
  pub begin-point : list_any found (shard_begins splits range) ≡ true
      → (x : Point) × (in_range range x ≡ true) × (found x ≡ true)
  begin-point any =
      let one = some_of-any (λ y. in_range range y && found y) (range.begin ∷ splits)
      (sym (any-filter (in_range range) found (range.begin ∷ splits)) ∙ any) in
      let parts = and_parts (in_range range one.0) (found one.0) one.1 in
      (one.0, parts.0, parts.1)

  -- What it finds at a point it finds at the greatest of the range's begin and the splits that isn't above the point,
  -- where it is the same for all points that one shard holds: the shard that holds the one holds the other.
  pub point-begin : ((x y : Point) → first_owner splits x ≡ first_owner splits y → found x ≡ found y)
      → (x : Point) → in_range range x ≡ true → found x ≡ true → list_any found (shard_begins splits range) ≡ true
  point-begin held x inside passes =
      let bounds = in_range_parts range x inside in
      let near = nearest point_lt point_order x range.begin splits bounds.0 in
      any-filter (in_range range) found (range.begin ∷ splits)
      ∙ near.1 (λ y. in_range range y && found y)
      (and_from (in_range range near.0) (found near.0)
      (in_range_from range near.0 near.3 (le_lt_chain near.0 x range.end near.2 bounds.1))
      (sym (held x near.0 (alike-first_owner splits x near.0 near.4)) ∙ passes))

-- a fault is that the version is too old exactly where the test says so
too-old-is : (fault : Option Refusal) → (is_too_old fault ≡ true) ↔ (fault ≡ Some TransactionTooOld)
too-old-is None = ((λ is. cc), (λ is. cc))
too-old-is (Some why) = ((λ is. of_why why is), (λ is. ap is_too_old is))
  where
    of_why : (why : Refusal) → is_too_old (Some why) ≡ true → Some why ≡ Some TransactionTooOld
    of_why TransactionTooOld is = refl
    of_why why is = cc

module _ (fault : Point → Option Refusal) where
  -- the first fault of the points inside is one of them
  of-first : (inside : Point → Bool) (why : Refusal) (points : List Point)
      → first_fault fault (filter inside points) ≡ Some why
      → (x : Point) × (inside x ≡ true) × (fault x ≡ Some why)
  of-first inside why [] faulty = cc
  of-first inside why (point ∷ points) faulty =
      by_test (inside point) refl faulty (of-first inside why points)
    where
      HasOne : Type 0
      HasOne = (x : Point) × (inside x ≡ true) × (fault x ≡ Some why)

      by_own : inside point ≡ true → (own later : Option Refusal) → fault point ≡ own
          → option_or own later ≡ Some why → (later ≡ Some why → HasOne) → HasOne
      by_own here None later is faulty others = others faulty
      by_own here (Some first) later is faulty others = (point, here, is ∙ faulty)

      by_test : (here : Bool) → inside point ≡ here
          → first_fault fault (if here then point ∷ filter inside points else filter inside points) ≡ Some why
          → (first_fault fault (filter inside points) ≡ Some why → HasOne) → HasOne
      by_test true here faulty others = by_own here (fault point) _ refl faulty others
      by_test false here faulty others = others faulty

  -- where no fault is the first one, no point has one
  first-none : (points : List Point) → first_fault fault points ≡ None
      → list_any (λ y. is_some (fault y)) points ≡ false
  first-none [] faultless = refl
  first-none (point ∷ points) faultless = by_own (fault point) faultless (first-none points)
    where
      by_own : (own : Option Refusal) → option_or own (first_fault fault points) ≡ None
          → (first_fault fault points ≡ None → list_any (λ y. is_some (fault y)) points ≡ false)
          → (is_some own || list_any (λ y. is_some (fault y)) points) ≡ false
      by_own None faultless others = others faultless
      by_own (Some why) faultless others = cc

-- Why a range is refused, where a point's fault depends on the shard that holds it alone.
module _ (splits : List Point) (range : Range) (fault : Point → Option Refusal)
    (held : (x y : Point) → first_owner splits x ≡ first_owner splits y → fault x ≡ fault y) where
  -- what a test finds of a point's fault it finds where a shard begins in the range
  found-begin : (test : Option Refusal → Bool) (x : Point) → in_range range x ≡ true → test (fault x) ≡ true
      → list_any (λ y. test (fault y)) (shard_begins splits range) ≡ true
  found-begin test = point-begin splits range (λ y. test (fault y)) (λ y z same. ap test (held y z same))

  -- what the range is refused as, one of its points is
  pub of-range : (why : Refusal) → fault_among fault (shard_begins splits range) ≡ Some why
      → (x : Point) × (in_range range x ≡ true) × (fault x ≡ Some why)
  of-range why refused = by_test _ refl refused
    where
      by_test : (test : Bool) → list_any (λ y. is_too_old (fault y)) (shard_begins splits range) ≡ test
          → (if test then Some TransactionTooOld else first_fault fault (shard_begins splits range)) ≡ Some why
          → (x : Point) × (in_range range x ≡ true) × (fault x ≡ Some why)
      by_test true is refused =
          let one = begin-point splits range (λ y. is_too_old (fault y)) is in
          (one.0, one.1, (too-old-is (fault one.0)).0 one.2 ∙ refused)
      by_test false is refused = of-first fault (in_range range) why (range.begin ∷ splits) refused

  -- the version is too old for the range where it is for one of its points
  pub too-old-range : (x : Point) → in_range range x ≡ true → fault x ≡ Some TransactionTooOld
      → fault_among fault (shard_begins splits range) ≡ Some TransactionTooOld
  too-old-range x inside is = cond-true _ _ _ (found-begin is_too_old x inside ((too-old-is (fault x)).1 is))

  -- and where the range isn't refused, none of its points is
  pub served-range : (x : Point) → in_range range x ≡ true
      → fault_among fault (shard_begins splits range) ≡ None → fault x ≡ None
  served-range x inside faultless = by_own (fault x) refl
    where
      not_first : (test : Bool)
          → (if test then Some TransactionTooOld else first_fault fault (shard_begins splits range)) ≡ None
          → first_fault fault (shard_begins splits range) ≡ None
      not_first true none = cc
      not_first false none = none

      by_own : (own : Option Refusal) → fault x ≡ own → own ≡ None
      by_own None is = refl
      by_own (Some why) is = absurd (both_ways _
          (first-none fault (shard_begins splits range) (not_first _ faultless))
          (found-begin is_some x inside (ap is_some is)))
