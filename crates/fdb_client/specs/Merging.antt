-- A read of a range on its way: what it was given so far, and what is left of the range.
use Rattle.std.specs.Prelude.{◌≡◌, ◌<◌, ◌≤◌, ℕ, Bool, true, false, not, nat_eq, nat_lt, Option, Some, None, is_some}
use Rattle.std.specs.Prelude.{List, [], ◌++◌, ⊤, length, take, drop}
use Rattle.std.specs.FinMap.{get}
use Rattle.fdb_keys.specs.Cutting.{range_behind}
use Rattle.fdb_keys.specs.Points.{Point}
use Rattle.fdb_keys.specs.Ranges.{Range, in_range}
use Rattle.fdb_mutations.specs.Maps.{Map}
use Rattle.fdb_mutations.specs.Pairs.{pairs_in, is_limit_reached}
use Rattle.fdb_mutations.specs.PairLaws.{given_of}
use Rattle.fdb_client.specs.declared.left.Left.{Left}
use Rattle.fdb_client.specs.declared.own_writes.OwnWrites.{OwnWrites}
use Rattle.fdb_mutations.specs.declared.page.Page.{Page}
use Rattle.fdb_client.specs.LeftAt.{entry_of, HasNoEntry}
use Rattle.fdb_client.specs.OwnWrites.{value_over}

-- the copy has at each point what the writes make of what the map has there
abbrev pub IsCopyOf : (Point → Left) → Map → Map → Type 0
IsCopyOf left map copy = (x : Point) → get copy x ≡ value_over (left x) (get map x)

-- every point of the one range lies in the other
abbrev pub IsPartOf : Range → Range → Type 0
IsPartOf part range = (x : Point) → in_range part x ≡ true → in_range range x ≡ true

-- the map has no value in the range
abbrev pub HasNoValue : Map → Range → Type 0
HasNoValue map range = (x : Point) → in_range range x ≡ true → get map x ≡ None

-- the limit, if it is one, allows as many pairs
abbrev pub IsWithin : ℕ → List (Point × List ℕ) → Type 0
IsWithin limit given = nat_eq limit 0 ≡ false → length given ≤ limit

-- what comes before the next key, or all of the range where there is none
abbrev pub ahead_of : Range → Bool → Option Point → Range
ahead_of range is_reverse None = range
ahead_of range is_reverse (Some key) = range_behind range (not is_reverse) key

-- the key lies in the range, if there is one
abbrev pub LiesIn : Range → Option Point → Type 0
LiesIn range None = ⊤
LiesIn range (Some key) = in_range range key ≡ true

-- the first own key of the range, or the last one where the range is read from its end, if there is one
abbrev pub IsFirstOwn : OwnWrites → Range → Bool → Option Point → Type 0
IsFirstOwn own range is_reverse None = HasNoEntry own range
IsFirstOwn own range is_reverse (Some key) =
    (in_range range key ≡ true) × (is_some (entry_of own key) ≡ true)
    × HasNoEntry own (range_behind range (not is_reverse) key)

-- A page has the first pairs of the range on the map, and tells whether there is a further one.
pub record HasFirst (map : Map) (range : Range) (is_reverse : Bool) (page : Page) : Type 0 where
  pub first : page.pairs ≡ take (length page.pairs) (pairs_in map range is_reverse)
  pub more : page.more ≡ nat_lt (length page.pairs) (length (pairs_in map range is_reverse))

-- Of a range some pairs were given, and a part is left: with the pairs of the part they are all that there were.
pub record GoesOn (copy : Map) (is_reverse : Bool) (before : List (Point × List ℕ)) (range : Range)
    (given : List (Point × List ℕ)) (left : Range) : Type 0 where
  pub pairs : before ++ pairs_in copy range is_reverse ≡ given ++ pairs_in copy left is_reverse
  pub part : IsPartOf left range

-- Of the own keys those before the next key of the map were taken, unless the limit was reached on the way.
pub record TookOwn (map copy : Map) (is_reverse : Bool) (limit : ℕ) (next : Option Point)
    (before : List (Point × List ℕ)) (range : Range) (given : List (Point × List ℕ)) (left : Range) : Type 0 where
  pub goes_on : GoesOn copy is_reverse before range given left
  pub lies_in : LiesIn left next
  pub same : pairs_in map left is_reverse ≡ pairs_in map range is_reverse
  pub ahead : is_limit_reached limit given ≡ false → HasNoValue copy (ahead_of left is_reverse next)

-- The first pairs of the map were taken, and the own keys before them; where they are all, also those behind them;
-- unless the limit was reached on the way.
pub record TookPage (map copy : Map) (is_reverse : Bool) (limit count : ℕ) (more : Bool)
    (before : List (Point × List ℕ)) (range : Range) (given : List (Point × List ℕ)) (left : Range) : Type 0 where
  pub goes_on : GoesOn copy is_reverse before range given left
  pub rest : is_limit_reached limit given ≡ false
      → pairs_in map left is_reverse ≡ drop count (pairs_in map range is_reverse)
  pub ended : is_limit_reached limit given ≡ false → more ≡ false → HasNoValue copy left

-- What was given so far is of the range, what is left is a part of it, and the limit isn't reached.
pub record ReadsOn (left_at : Point → Left) (map : Map) (range : Range) (is_reverse : Bool) (limit : ℕ)
    (given : List (Point × List ℕ)) (left : Range) : Type 0 where
  pub within : IsWithin limit given
  pub room : is_limit_reached limit given ≡ false
  pub part : IsPartOf left range
  pub goes_on : (copy : Map) → IsCopyOf left_at map copy → GoesOn copy is_reverse [] range given left

-- A page more was taken. Either the read goes on, with fewer pairs left on the map, or all was given.
abbrev pub ReadsPage : (Point → Left) → Map → Range → Bool → ℕ → Range → List (Point × List ℕ) → Range → Bool → Type 0
ReadsPage left_at map range is_reverse limit before given left true =
    ReadsOn left_at map range is_reverse limit given left
    × (length (pairs_in map left is_reverse) < length (pairs_in map before is_reverse))
ReadsPage left_at map range is_reverse limit before given left false =
    (copy : Map) → IsCopyOf left_at map copy → given ≡ given_of copy range limit is_reverse
