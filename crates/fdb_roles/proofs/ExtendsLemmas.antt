-- What stays of a book with more entries.
use Rattle.std.proofs.Common.{◌≡◌, ℕ, ◌≤◌, List, ◌++◌, ◌∙◌, refl, ◌<◌, [], ◌∷◌, arith, ap}
use Rattle.std.specs.List.{AllByRecursion}
use Rattle.std.proofs.lemmas.Bool.{cond-false, lt-leb}
use Rattle.fdb_keys.specs.Points.{Point}
use Rattle.fdb_txn.specs.book.Book.{Place}
use Rattle.fdb_txn.specs.rules.SerialMap.{up_to, serial_map, serial_map_at}
use Rattle.fdb_txn.specs.book.History.{IsHistory}

-- the places are the earlier ones after newer ones of at least the version
abbrev pub Extends : ℕ → List Place → List Place → Type 0
Extends version places earlier =
    (newer : List Place) × (places ≡ newer ++ earlier)
    × AllByRecursion (λ (place : Place). version ≤ place.version) newer

-- newer places of greater versions are left out
up_to-newer : (v version : ℕ) (newer earlier : List Place) → v < version
    → AllByRecursion (λ (place : Place). version ≤ place.version) newer
    → up_to v (newer ++ earlier) ≡ up_to v earlier
up_to-newer v version [] earlier above all = refl
up_to-newer v version (place ∷ newer) earlier above all =
    cond-false _ (place ∷ up_to v (newer ++ earlier)) (up_to v (newer ++ earlier))
    (lt-leb place.version v (omega (arith, all.0)))
    ∙ up_to-newer v version newer earlier above all.1

-- so below the version the map is that of the earlier places
pub map-extends : (splits : List Point) (v version : ℕ) (places earlier : List Place) → v < version
    → Extends version places earlier
    → serial_map_at splits v places ≡ serial_map_at splits v earlier
map-extends splits v version places earlier above extends =
    ap (serial_map_at splits v) extends.1
    ∙ ap (serial_map splits) (up_to-newer v version extends.0 earlier above extends.2)

-- the earlier places of a history are one
pub history-earlier : (resolvers : ℕ) (newer earlier : List Place) → IsHistory resolvers (newer ++ earlier)
    → IsHistory resolvers earlier
history-earlier resolvers [] earlier history = history
history-earlier resolvers (place ∷ newer) earlier history = history-earlier resolvers newer earlier history.2
