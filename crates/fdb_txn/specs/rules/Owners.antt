-- Which resolver owns a point at a version, and which resolvers are asked about a place.
use Rattle.std.specs.Prelude.{ℕ, suc, max, Bool, ◌&&◌, ◌||◌, ◌==◌, nat_lt, nat_le, List, [], ◌∷◌, ◌++◌, map}
use Rattle.std.specs.Prelude.{if◌then◌else◌}
use Rattle.std.specs.List.{list_any}
use Rattle.fdb_keys.specs.Points.{Point, point_lt}
use Rattle.fdb_keys.specs.Ranges.{Range, in_range, in_set}
use Rattle.fdb_txn.specs.book.Book.{DatedMove, Place}

-- the number of the piece between splits in which the point lies
abbrev pub first_owner : List Point → Point → ℕ
first_owner [] x = 0
first_owner (split ∷ splits) x = if point_lt x split then 0 else suc (first_owner splits x)

-- the target of the last move of version at most v whose range holds the point, else its first owner
abbrev pub owner : List Point → List DatedMove → Point → ℕ → ℕ
owner splits [] x v = first_owner splits x
owner splits (move ∷ older) x v =
    if nat_le move.version v && in_range move.range x then move.target else owner splits older x v

-- begin and end of each range
abbrev pub bounds : List Range → List Point
bounds [] = []
bounds (range ∷ ranges) = range.begin ∷ range.end ∷ bounds ranges

-- Between two neighbours among these points every range, set and owner concerned answers alike. So a test
-- of them holds at some point exactly where it holds at one of these.
abbrev pub corners : List Point → List DatedMove → List Range → List Point
corners splits moves ranges = [] ∷ (splits ++ (bounds (map (λ (move : DatedMove). move.range) moves) ++ bounds ranges))

-- the versions at which an owner may be another than at the version before, from just above v on
abbrev pub version_corners : ℕ → List DatedMove → List ℕ
version_corners v moves = suc v ∷ map (λ (move : DatedMove). move.version) moves

-- resolver i owned the point at some version above low and at most high
abbrev pub owned : List Point → ℕ → List DatedMove → Point → ℕ → ℕ → Bool
owned splits i moves x low high =
    list_any (λ v. nat_lt low v && nat_le v high && (owner splits moves x v == i)) (version_corners low moves)

-- reads are asked of whoever owned them at a version after this one
abbrev pub span_begin : Place → ℕ
span_begin place = max place.transaction.read place.horizon

-- resolver i is asked on account of the point
abbrev pub asked_at : List Point → ℕ → Place → Point → Bool
asked_at splits i place x =
    (in_set place.transaction.writes x && (owner splits place.moves x place.version == i))
    || (in_set place.transaction.reads x && owned splits i place.moves x (span_begin place) place.version)

-- Resolver i is asked about the place: it owns a point of the write set at the place's version, or owned a
-- point of the read set at some version of the span.
abbrev pub is_asked : List Point → ℕ → Place → Bool
is_asked splits i place =
    list_any (asked_at splits i place)
    (corners splits place.moves (place.transaction.writes ++ place.transaction.reads))
