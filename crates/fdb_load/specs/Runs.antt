-- The run of transactions at some places of a book, one at a time.
use Rattle.std.specs.Prelude.{◌≡◌, ◌==◌, ◌&&◌, ◌||◌, ℕ, Bool, true, nat_lt, List, [], ◌∷◌, length}
use Rattle.std.specs.Prelude.{Option, Some, None, option_and_then, is_some}
use Rattle.std.specs.List.{slice_get, list_all, flat_map, AllAdjacentBelow}
use Rattle.std.specs.FinMap.{empty}
use Rattle.fdb_keys.specs.Ranges.{Range}
use Rattle.fdb_mutations.specs.Maps.{Map}
use Rattle.fdb_mutations.specs.Mutations.{effects}
use Rattle.fdb_mutations.specs.declared.mutation.Mutation.{Mutation}
use Rattle.fdb_txn.specs.book.Transactions.{Transaction}
use Rattle.fdb_txn.specs.declared.entry.Entry.{Entry}
use Rattle.fdb_txn.specs.declared.spot.Spot.{Spot}
use Rattle.fdb_txn.specs.rules.Stamped.{stamped_by}
use Rattle.fdb_txn.specs.declared.spot.Spot.TheVariants as spot
use Rattle.fdb_roles.specs.declared.placed.Placed.{Placed}
use Rattle.fdb_load.specs.declared.run.Place.{Place}

-- the transaction at a place, if there is such a place
abbrev pub txn_at : List Entry → Place → Option Transaction
txn_at entries place = option_and_then (λ entry. slice_get entry.batch place.place) (slice_get entries place.index)

abbrev pub mutations_of : Option Transaction → List Mutation
mutations_of None = []
mutations_of (Some txn) = txn.mutations

-- what the transaction at a place writes, if there is one: its mutations, with the stamp of its entry's version and its
-- place
abbrev pub written_in : ℕ → Option Entry → List Mutation
written_in p None = []
written_in p (Some entry) = stamped_by entry.version p (mutations_of (slice_get entry.batch p))

abbrev pub written_at : List Entry → Place → List Mutation
written_at entries place = written_in place.place (slice_get entries place.index)

-- the map after the transactions at these places
abbrev pub run_from : Map → List Entry → List Place → Map
run_from map entries [] = map
run_from map entries (place ∷ places) = run_from (effects map (written_at entries place)) entries places

-- the same of the empty map
abbrev pub run_of : List Entry → List Place → Map
run_of entries places = run_from empty entries places

-- there are transactions at all of them
abbrev pub have_places : List Entry → List Place → Bool
have_places entries places = list_all (λ place. is_some (txn_at entries place)) places

-- the range that has every key
abbrev pub every_key : Range
every_key = record { begin = []; end = 255 ∷ [] }

-- the place of a spot, if it is in an entry
abbrev pub spot_places : Spot → List Place
spot_places (spot.Entry index place version) = (record { index = index; place = place }) ∷ []
spot_places (spot.ReadOnly version) = []

-- the places of transactions with a receipt
abbrev pub receipt_places : List Placed → List Place
receipt_places placed = flat_map (λ (receipt : Placed). spot_places receipt.spot) placed

-- the place is in an earlier entry, or earlier in the same one
abbrev pub is_before : Place → Place → Bool
is_before place next =
    nat_lt place.index next.index || (place.index == next.index && nat_lt place.place next.place)

-- each place is before the next one, so they are in the order of the book, and no two are one
abbrev pub AreRising : List Place → Type 0
AreRising places = AllAdjacentBelow (λ place next. true ≡ is_before place next) places (length places)
