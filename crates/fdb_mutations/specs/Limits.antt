-- The limit of values, as a number of bytes.
use Rattle.std.specs.Prelude.{ℕ}

abbrev pub value_limit : ℕ
value_limit = 100000
