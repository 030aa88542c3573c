-- What `<` and `cmp` say of two keys.
use Rattle.std.specs.Prelude.{Bool}
use Rattle.std.specs.Ordering.{partial_lt}
use Rattle.std.specs.declared.cmp.Ordering.{Ordering}
use Rattle.fdb_keys.specs.declared.key.Key.{Key}
use Rattle.fdb_keys.specs.contracts.key.KeyPartialOrd.TheImpl as of_comparisons
use Rattle.fdb_keys.specs.contracts.key.KeyOrd.TheImpl as of_order

-- `<` of two keys
abbrev pub key_lt : Key → Key → Bool
key_lt = partial_lt (of_comparisons.ghosts).partial_cmp

-- how `cmp` orders two keys
abbrev pub key_cmp : Key → Key → Ordering
key_cmp = (of_order.ghosts).cmp
