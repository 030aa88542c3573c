-- Pairs that are lent.
use Rattle.std.specs.Prelude.{ℕ, List, map}
use Rattle.std.proofs.Common.{Bor}
use Rattle.fdb_keys.specs.Points.{Point}

abbrev pub lent_pairs : List (Bor Point × Bor (List ℕ)) → List (Point × List ℕ)
lent_pairs pairs = map (λ pair. (pair.0.now, pair.1.now)) pairs
