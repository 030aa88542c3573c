-- The limits of keys and bounds, as numbers of bytes.
use Rattle.std.specs.Prelude.{ℕ}

abbrev pub key_limit : ℕ
key_limit = 10000

-- one more than a key has, so that a bound can come right after every key
abbrev pub bound_limit : ℕ
bound_limit = 10001
