-- What a mutation names: one key, or all keys of a range.
use Rattle.std.specs.Prelude.{ℕ, ◌+◌, Bool, length}
use Rattle.fdb_keys.specs.Points.{Point, point_eq}
use Rattle.fdb_keys.specs.Ranges.{Range, in_range, single_range}
use Rattle.fdb_mutations.specs.declared.mutation.Named.{Named as Lent}
use Rattle.fdb_mutations.specs.declared.mutation.Named.TheVariants as lent

pub data NamedKeys : Type 0 where
  OneKey : (key : Point) → NamedKeys
  KeysIn : (range : Range) → NamedKeys

-- what is lent of a mutation
abbrev pub named_by : Lent → NamedKeys
named_by (lent.Key key) = OneKey key.now
named_by (lent.Range range) = KeysIn range.now

-- the point is among them
abbrev pub is_named : NamedKeys → Point → Bool
is_named (OneKey key) x = point_eq x key
is_named (KeysIn range) x = in_range range x

-- they are a range
abbrev pub range_of : NamedKeys → Range
range_of (OneKey key) = single_range key
range_of (KeysIn range) = range

-- how many bytes it takes to name them
abbrev pub naming_size : NamedKeys → ℕ
naming_size (OneKey key) = length key
naming_size (KeysIn range) = length range.begin + length range.end
