-- Sums, rings, places and what workloads leave, computed.
use Rattle.std.specs.Prelude.{◌≡◌, ℕ, true, false, List, [], ◌∷◌, replicate, codes, Some, None}
use Rattle.fdb_keys.specs.Points.{Point}
use Rattle.fdb_txn.specs.declared.spot.Spot.TheVariants as spot
use Rattle.fdb_load.specs.declared.run.Place.{Place}
use Rattle.fdb_load.specs.declared.workload.Workload.TheVariants.{Ring, Transfers, Counters}
use Rattle.fdb_load.specs.Rings.{value_at, next_name, name_after, IsBackAfter}
use Rattle.fdb_load.specs.Runs.{is_before, spot_places}
use Rattle.fdb_load.specs.Sums.{told_sum}
use Rattle.fdb_load.specs.Workloads.{AreLeft}

-- a pair with a number below 256
abbrev pub small : ℕ → Point × List ℕ
small number = (codes "t/00", number ∷ replicate 7 0)

-- a pair with the greatest number
abbrev pub greatest : Point × List ℕ
greatest = (codes "t/00", replicate 8 255)

-- a pair with a value of so many bytes
abbrev pub of_bytes : ℕ → Point × List ℕ
of_bytes count = (codes "t/00", replicate count 1)

-- Numbers have a sum up to the greatest one, and where a value has fewer or more bytes there is none.
abbrev pub WorkedSums : Type 0
WorkedSums =
    (told_sum [] ≡ Some 0)
    × (told_sum (small 1 ∷ small 2 ∷ []) ≡ Some 3)
    × (told_sum ((codes "t/00", 1 ∷ 2 ∷ replicate 6 0) ∷ []) ≡ Some 513)
    × (told_sum (small 0 ∷ greatest ∷ []) ≡ Some 18446744073709551615)
    × (told_sum (small 1 ∷ greatest ∷ []) ≡ None)
    × (told_sum (small 1 ∷ of_bytes 7 ∷ []) ≡ None)
    × (told_sum (of_bytes 9 ∷ small 1 ∷ []) ≡ None)

-- the first key leads to the third, this to the second, and this to the first
abbrev pub three_keys : List (Point × List ℕ)
three_keys = (codes "r/00", codes "r/02") ∷ (codes "r/01", codes "r/00") ∷ (codes "r/02", codes "r/01") ∷ []

-- the first key leads to the second, and this to itself
abbrev pub aside : List (Point × List ℕ)
aside = (codes "r/00", codes "r/01") ∷ (codes "r/01", codes "r/01") ∷ []

-- a key without a pair, and one whose value is no name
abbrev pub broken : List (Point × List ℕ)
broken = (codes "r/00", codes "r/02") ∷ (codes "r/01", codes "r/000") ∷ []

-- Where each of some steps from the first key leads.
abbrev pub WorkedRings : Type 0
WorkedRings =
    (name_after three_keys 0 ≡ Some (codes "r/00"))
    × (name_after three_keys 1 ≡ Some (codes "r/02"))
    × (name_after three_keys 2 ≡ Some (codes "r/01"))
    × (name_after three_keys 3 ≡ Some (codes "r/00"))
    × (name_after three_keys 7 ≡ Some (codes "r/02"))
    × (name_after aside 9 ≡ Some (codes "r/01"))
    × (value_at broken (codes "r/02") ≡ None)
    × (next_name broken (codes "r/00") ≡ Some (codes "r/02"))
    × (next_name broken (codes "r/01") ≡ None)
    × (name_after broken 2 ≡ None)
    × (IsBackAfter three_keys 3)
    × (¬ IsBackAfter three_keys 2)
    × (¬ IsBackAfter three_keys 6)
    × (¬ IsBackAfter three_keys 0)

-- the accounts as they are at first, with 1,000 each
abbrev pub first_accounts : List (Point × List ℕ)
first_accounts = replicate 32 (codes "t/00", 232 ∷ 3 ∷ replicate 6 0)

-- What workloads leave, and what they don't.
abbrev pub WorkedWorkloads : Type 0
WorkedWorkloads =
    (¬ AreLeft Ring three_keys 0)
    × (AreLeft Transfers first_accounts 7)
    × (¬ AreLeft Transfers (replicate 32 (small 1)) 0)
    × (AreLeft Counters (small 1 ∷ small 2 ∷ small 3 ∷ small 4 ∷ []) 10)
    × (¬ AreLeft Counters (small 1 ∷ small 2 ∷ small 3 ∷ small 4 ∷ []) 9)
    × (¬ AreLeft Counters (small 1 ∷ small 2 ∷ small 7 ∷ []) 10)

-- the place of an entry, each by its number
abbrev pub numbered : ℕ → ℕ → Place
numbered entry position = record { index = entry; place = position }

-- Which places are before others, and where spots are.
abbrev pub WorkedPlaces : Type 0
WorkedPlaces =
    (is_before (numbered 0 1) (numbered 1 0) ≡ true)
    × (is_before (numbered 1 0) (numbered 1 1) ≡ true)
    × (is_before (numbered 1 1) (numbered 1 1) ≡ false)
    × (is_before (numbered 1 1) (numbered 1 0) ≡ false)
    × (is_before (numbered 1 0) (numbered 0 1) ≡ false)
    × (spot_places (spot.Entry 3 2 7000) ≡ numbered 3 2 ∷ [])
    × (spot_places (spot.ReadOnly 7000) ≡ [])
