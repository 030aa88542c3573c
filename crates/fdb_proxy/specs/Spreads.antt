-- A transaction of a batch, spread over the resolvers that are asked about it.
use Rattle.std.specs.Prelude.{◌≡◌, ℕ, true, false, List, Option, MatchOption}
use Rattle.fdb_keys.specs.Points.{Point}
use Rattle.fdb_txn.specs.book.Book.{Place}
use Rattle.fdb_txn.specs.rules.Admission.{has_points}
use Rattle.fdb_txn.specs.rules.Owners.{is_asked}
use Rattle.fdb_txn.specs.rules.Resolvers.{part_reads, part_writes}
use Rattle.fdb_owners.specs.Spreads.{is_held, AreOwned}
use Rattle.fdb_resolver.specs.declared.part.Item.{Item}
use Rattle.fdb_resolver.specs.RuleLaws.{IsItemOf}
use Rattle.fdb_proxy.specs.declared.parting.Spread.{Spread}

-- each part of the spread is of one of so many resolvers, and has a point
pub record IsOwned (resolvers : ℕ) (spread : Spread) : Type 0 where
  pub reads : AreOwned resolvers spread.reads
  pub writes : AreOwned resolvers spread.writes

-- the parts give each resolver what it is sent of the place
pub record IsSpreadOf (splits : List Point) (place : Place) (spread : Spread) : Type 0 where
  pub read : spread.reading.read_version ≡ place.transaction.read
  pub has_reads : spread.reading.has_reads ≡ has_points place.transaction.reads
  pub reads : (i : ℕ) (x : Point) → is_held spread.reads i x ≡ part_reads splits i place x
  pub writes : (i : ℕ) (x : Point) → is_held spread.writes i x ≡ part_writes splits i place x

-- resolver i's item for the place with the number, none where it isn't asked about the place
abbrev pub IsItemIfAsked : List Point → ℕ → ℕ → Place → Option Item → Type 0
IsItemIfAsked splits i number place item =
    MatchOption item (is_asked splits i place ≡ false)
    (λ (given : Item). (is_asked splits i place ≡ true) × (given.place ≡ number) × IsItemOf splits i place given)
