-- What `==` says: two values are equal exactly where they are the same.
use Rattle.std.specs.Prelude.{Bool}
use Rattle.fdb_keys.specs.declared.key.Key.{Key}
use Rattle.fdb_keys.specs.declared.key_range.KeyRange.{KeyRange}
use Rattle.fdb_keys.specs.declared.range_set.RangeSet.{RangeSet}
use Rattle.fdb_keys.specs.declared.refusal.Refusal.{Refusal}
use Rattle.fdb_keys.specs.contracts.key.KeyPartialEq.TheImpl as of_keys
use Rattle.fdb_keys.specs.contracts.key_range.KeyRangePartialEq.TheImpl as of_ranges
use Rattle.fdb_keys.specs.contracts.range_set.RangeSetPartialEq.TheImpl as of_range_sets
use Rattle.fdb_keys.specs.contracts.refusal.RefusalPartialEq.TheImpl as of_refusals

-- `==` of two keys
abbrev pub key_eq : Key → Key → Bool
key_eq = (of_keys.ghosts).eq

-- `==` of two ranges
abbrev pub range_eq : KeyRange → KeyRange → Bool
range_eq = (of_ranges.ghosts).eq

-- `==` of two sets of ranges
abbrev pub range_set_eq : RangeSet → RangeSet → Bool
range_set_eq = (of_range_sets.ghosts).eq

-- `==` of two refusals
abbrev pub refusal_eq : Refusal → Refusal → Bool
refusal_eq = (of_refusals.ghosts).eq
