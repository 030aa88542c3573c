-- What holds of the pairs of a map in a range, and of what a read of a range scanned.
use Rattle.std.specs.Prelude.{◌≡◌, ℕ, Bool, true, false, not, List, [], ◌∷◌, ◌++◌, Option, Some, None}
use Rattle.std.specs.FinMap.{get}
use Rattle.fdb_keys.specs.Cutting.{range_behind}
use Rattle.fdb_keys.specs.Points.{Point, point_lt}
use Rattle.fdb_keys.specs.Ranges.{Range, in_range, single_range}
use Rattle.fdb_mutations.specs.Maps.{Map}
use Rattle.fdb_mutations.specs.Pairs.{pairs_in, first_of, scanned}

-- A range that is cut at a point has the pairs of the part before it and of the part from it on.
abbrev pub RangeHasThePairsOfItsParts : Type 0
RangeHasThePairsOfItsParts =
    (map : Map) (range : Range) (point : Point)
    → point_lt point range.begin ≡ false → point_lt range.end point ≡ false
    → let before : Range = record { begin = range.begin; end = point } in
    let after : Range = record { begin = point; end = range.end } in
    (pairs_in map range false ≡ pairs_in map before false ++ pairs_in map after false)
    × (pairs_in map range true ≡ pairs_in map after true ++ pairs_in map before true)

-- the pair of a key, if it has a value
abbrev pub pair_of : Point → Option (List ℕ) → List (Point × List ℕ)
pair_of key None = []
pair_of key (Some value) = (key, value) ∷ []

-- The range of a key has its pair alone.
abbrev pub KeyHasItsPair : Type 0
KeyHasItsPair =
    (map : Map) (key : Point) (is_reverse : Bool)
    → pairs_in map (single_range key) is_reverse ≡ pair_of key (get map key)

-- both maps have the same value, or none, at each point of the range
abbrev pub AgreeIn : Range → Map → Map → Type 0
AgreeIn range map other = (x : Point) → in_range range x ≡ true → get map x ≡ get other x

-- Maps that agree in a range have the same pairs there.
abbrev pub SameValuesSamePairs : Type 0
SameValuesSamePairs =
    (map other : Map) (range : Range) (is_reverse : Bool) → AgreeIn range map other
    → pairs_in map range is_reverse ≡ pairs_in other range is_reverse

-- A range at whose points a map has no value has no pairs.
abbrev pub NoValuesNoPairs : Type 0
NoValuesNoPairs =
    (map : Map) (range : Range) (is_reverse : Bool)
    → ((x : Point) → in_range range x ≡ true → get map x ≡ None) → pairs_in map range is_reverse ≡ []

-- Where no pair comes before a key of the range, the pairs are that of the key, if it has one, and those behind it.
abbrev pub PairsFromAKeyOn : Type 0
PairsFromAKeyOn =
    (map : Map) (range : Range) (is_reverse : Bool) (key : Point) → in_range range key ≡ true
    → pairs_in map (range_behind range (not is_reverse) key) is_reverse ≡ []
    → pairs_in map range is_reverse
    ≡ pair_of key (get map key) ++ pairs_in map (range_behind range is_reverse key) is_reverse

-- what a read of the range is given
abbrev pub given_of : Map → Range → ℕ → Bool → List (Point × List ℕ)
given_of map range limit is_reverse = first_of limit (pairs_in map range is_reverse)

-- what such a read scanned
abbrev pub scanned_of : Map → Range → ℕ → Bool → Range
scanned_of map range limit is_reverse = scanned range limit is_reverse (given_of map range limit is_reverse)

-- What was scanned lies in the range.
abbrev pub ScannedLiesInTheRange : Type 0
ScannedLiesInTheRange =
    (map : Map) (range : Range) (limit : ℕ) (is_reverse : Bool) (x : Point)
    → in_range (scanned_of map range limit is_reverse) x ≡ true → in_range range x ≡ true

-- It has just the pairs that were given.
abbrev pub ScannedHasWhatWasGiven : Type 0
ScannedHasWhatWasGiven =
    (map : Map) (range : Range) (limit : ℕ) (is_reverse : Bool)
    → pairs_in map (scanned_of map range limit is_reverse) is_reverse ≡ given_of map range limit is_reverse

-- A map that agrees there gives the same.
abbrev pub ScannedDecidesWhatIsGiven : Type 0
ScannedDecidesWhatIsGiven =
    (map other : Map) (range : Range) (limit : ℕ) (is_reverse : Bool)
    → AgreeIn (scanned_of map range limit is_reverse) map other
    → given_of other range limit is_reverse ≡ given_of map range limit is_reverse
