-- The run of the committed transactions, one at a time from the empty map.
use Rattle.std.specs.Prelude.{ℕ, nat_le, List, [], ◌∷◌, if◌then◌else◌}
use Rattle.std.specs.FinMap.{empty}
use Rattle.fdb_keys.specs.Points.{Point}
use Rattle.fdb_mutations.specs.Maps.{Map}
use Rattle.fdb_mutations.specs.Mutations.{effects}
use Rattle.fdb_txn.specs.book.Book.{Place}
use Rattle.fdb_txn.specs.rules.Admission.{committed}
use Rattle.fdb_txn.specs.rules.Stamped.{stamped_at}

-- the map after these places, of which the newest is the first: each committed one leaves what its mutations do,
-- stamped by its version and its place
abbrev pub serial_map : List Point → List Place → Map
serial_map splits [] = empty
serial_map splits (place ∷ earlier) =
    if committed splits earlier place then effects (serial_map splits earlier) (stamped_at place)
    else serial_map splits earlier

-- the places of version at most v
abbrev pub up_to : ℕ → List Place → List Place
up_to v [] = []
up_to v (place ∷ earlier) = if nat_le place.version v then place ∷ up_to v earlier else up_to v earlier

-- the serial map at a version
abbrev pub serial_map_at : List Point → ℕ → List Place → Map
serial_map_at splits v places = serial_map splits (up_to v places)
