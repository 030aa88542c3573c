-- What is found in a table by a value.
use Rattle.std.specs.Prelude.{◌≡◌, ◌↔◌, ℕ, Bool, true, List, [], ◌∷◌, ◌++◌, length, take, drop, Some, if◌then◌else◌}
use Rattle.std.specs.FinMap.{get}
use Rattle.std.specs.List.{list_any}
use Rattle.fdb_keys.specs.Ordered.{AreOrdered}
use Rattle.fdb_keys.specs.Points.{Point, point_eq, point_lt}
use Rattle.fdb_keys.specs.Prefixes.{prefix_range}
use Rattle.fdb_keys.specs.Ranges.{Range}
use Rattle.fdb_mutations.specs.Maps.{Map}
use Rattle.fdb_layers.specs.Table.{entry_key, record_key}

-- the ID is one of these
abbrev pub is_among : List (List ℕ) → List ℕ → Bool
is_among ids id = list_any (λ it. point_eq it id) ids

-- The IDs are those whose records hold the value, and no others. They are in order, so none of them stands there twice.
pub record AreFoundBy (map : Map) (value : List ℕ) (ids : List (List ℕ)) : Type 0 where
  pub hold : (id : List ℕ) → (is_among ids id ≡ true) ↔ (get map (record_key id) ≡ Some value)
  pub in_order : AreOrdered (λ one other. point_lt one other ≡ true) ids

-- the range of all index entries of the value
abbrev pub entries_range : List ℕ → Range
entries_range value = prefix_range (entry_key value [])

-- what stands behind the prefix in a key, if the key begins with it
abbrev pub behind : List ℕ → Point → List (List ℕ)
behind prefix key = if point_eq (take (length prefix) key) prefix then drop (length prefix) key ∷ [] else []

-- the same of all keys of the pairs
abbrev pub all_behind : List ℕ → List (Point × List ℕ) → List (List ℕ)
all_behind prefix [] = []
all_behind prefix (pair ∷ pairs) = behind prefix pair.0 ++ all_behind prefix pairs
