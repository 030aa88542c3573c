-- With which points a place conflicts, and which of them each resolver finds.
use Rattle.std.specs.Prelude.{ℕ, Bool, false, ◌&&◌, ◌||◌, nat_lt, List, [], ◌∷◌}
use Rattle.fdb_keys.specs.Points.{Point}
use Rattle.fdb_keys.specs.Ranges.{in_set}
use Rattle.fdb_txn.specs.book.Book.{Place}
use Rattle.fdb_txn.specs.rules.Owners.{owner}
use Rattle.fdb_txn.specs.rules.Admission.{overlaps_at, admits}

-- The conflict set of a place has each point of its read set that some earlier place wrote at a version above the
-- place's read version, if the point's owner at that version admitted the earlier place. The newest earlier place is
-- the first.
abbrev pub in_conflict : List Point → List Place → Place → Point → Bool
in_conflict splits [] place x = false
in_conflict splits (earlier ∷ others) place x =
    (in_set place.transaction.reads x && in_set earlier.transaction.writes x
    && nat_lt place.transaction.read earlier.version
    && admits splits (owner splits earlier.moves x earlier.version) others earlier)
    || in_conflict splits others place x

-- What resolver i finds of it: the points at which an earlier place that it admitted overlaps the place at it, at a
-- version above the place's read version.
abbrev pub in_conflict_of : List Point → ℕ → List Place → Place → Point → Bool
in_conflict_of splits i [] place x = false
in_conflict_of splits i (earlier ∷ others) place x =
    (nat_lt place.transaction.read earlier.version && overlaps_at splits i earlier place x
    && admits splits i others earlier)
    || in_conflict_of splits i others place x
