-- What the keys of a workload are called, and what its transactions leave there.
use Rattle.std.specs.Prelude.{◌≡◌, ℕ, List, length, Some}
use Rattle.fdb_keys.specs.Points.{Point}
use Rattle.fdb_load.specs.declared.workload.Workload.{Workload}
use Rattle.fdb_load.specs.declared.workload.Workload.TheVariants.{Ring, Transfers, Counters}
use Rattle.fdb_load.specs.Rings.{IsOneCycle}
use Rattle.fdb_load.specs.Sums.{told_sum}

-- the letter that the names of its keys begin with
abbrev pub letter_of : Workload → ℕ
letter_of Ring = 114
letter_of Transfers = 116
letter_of Counters = 99

-- how many keys it has
abbrev pub keys_of : Workload → ℕ
keys_of Ring = 32
keys_of Transfers = 32
keys_of Counters = 4

-- The pairs are such as so many committed transactions of the workload leave: one cycle of all keys of the ring,
-- numbers with the sum of the first amounts of the accounts, and numbers with the sum of all that was added of the
-- counters.
abbrev pub AreLeft : Workload → List (Point × List ℕ) → ℕ → Type 0
AreLeft Ring pairs committed = IsOneCycle pairs
AreLeft Transfers pairs committed = (length pairs ≡ 32) × (told_sum pairs ≡ Some 32000)
AreLeft Counters pairs committed = (length pairs ≡ 4) × (told_sum pairs ≡ Some committed)
