-- Who asks for a read version, and what it is granted.
use Rattle.std.specs.Prelude.{ℕ, max}

-- a client, and the greatest version that it has seen
abbrev pub Asker : Type 0
Asker = ℕ × ℕ

-- the client with its read version
abbrev pub granted : ℕ → Asker → Asker
granted committed asker = (asker.0, max committed asker.1)
