-- Who admits a transaction, and which transactions are committed.
use Rattle.std.specs.Prelude.{ℕ, zero, suc, Bool, true, not, ◌&&◌, ◌==◌, nat_lt, List, [], ◌∷◌, ◌++◌, length}
use Rattle.std.specs.List.{list_any}
use Rattle.fdb_keys.specs.Points.{Point, point_lt}
use Rattle.fdb_keys.specs.Ranges.{Range, in_set}
use Rattle.fdb_txn.specs.book.Book.{Place}
use Rattle.fdb_txn.specs.rules.Owners.{owner, corners}

-- the set has a point
abbrev pub has_points : List Range → Bool
has_points ranges = list_any (λ (range : Range). point_lt range.begin range.end) ranges

-- the transaction is not old: it has no read range, or its read version isn't below the horizon
abbrev pub is_fresh : Place → Bool
is_fresh place = not (has_points place.transaction.reads && nat_lt place.transaction.read place.horizon)

-- the point was written at the earlier place, read at the later one, and resolver i owned it at the
-- earlier one's version
abbrev pub overlaps_at : List Point → ℕ → Place → Place → Point → Bool
overlaps_at splits i earlier later x =
    in_set earlier.transaction.writes x && in_set later.transaction.reads x
    && (owner splits earlier.moves x earlier.version == i)

abbrev pub overlaps : List Point → ℕ → Place → Place → Bool
overlaps splits i earlier later =
    list_any (overlaps_at splits i earlier later)
    (corners splits earlier.moves (earlier.transaction.writes ++ later.transaction.reads))

-- none of the earlier places, of which the newest is the first, that resolver i admitted overlaps the place
-- at a version above its read version
abbrev pub no_conflict : List Point → ℕ → List Place → Place → Bool
no_conflict splits i [] place = true
no_conflict splits i (earlier ∷ others) place =
    not (nat_lt place.transaction.read earlier.version && overlaps splits i earlier place
    && (is_fresh earlier && no_conflict splits i others earlier))
    && no_conflict splits i others place

-- resolver i admits the place after the earlier ones
abbrev pub admits : List Point → ℕ → List Place → Place → Bool
admits splits i earlier place = is_fresh place && no_conflict splits i earlier place

-- the test holds of every number below n
abbrev pub all_below : ℕ → (ℕ → Bool) → Bool
all_below zero test = true
all_below (suc n) test = test n && all_below n test

-- Every resolver admits the place, asked or not; there is one more of them than there are splits.
abbrev pub committed : List Point → List Place → Place → Bool
committed splits earlier place = all_below (suc (length splits)) (λ i. admits splits i earlier place)
