-- What a resolver holds of a place, while the place's parts are given out one by one.
use Rattle.std.specs.Prelude.{◌≡◌, ◌<◌, ℕ, zero, suc, Bool, true, false, ◌&&◌, ◌||◌, ◌==◌, List, [], ◌∷◌, ◌++◌, Vec}
use Rattle.std.specs.Prelude.{Option, Some, None, MatchOption}
use Rattle.std.specs.Option.{option_to_list}
use Rattle.std.specs.declared.alloc.Global.{Global}
use Rattle.fdb_keys.specs.Points.{Point}
use Rattle.fdb_keys.specs.Ranges.{Range, in_set}
use Rattle.fdb_owners.specs.declared.parts.Owned.{Owned}
use Rattle.fdb_owners.specs.Spreads.{is_held}
use Rattle.fdb_resolver.specs.declared.part.Item.{Item}
use Rattle.fdb_resolver.specs.declared.part.Part.{Part}
use Rattle.fdb_proxy.specs.declared.parting.Kind.{Kind}
use Rattle.fdb_proxy.specs.declared.parting.Kind.TheVariants.{Reads, Writes}
use Rattle.fdb_proxy.specs.declared.parting.Reading.{Reading}
use Rattle.fdb_proxy.specs.declared.position.Position.{Position}

-- which points of the reads, and which of the writes, a resolver holds
abbrev pub Held : Type 0
Held = Kind → Point → Bool

abbrev pub is_kind : Kind → Kind → Bool
is_kind Reads Reads = true
is_kind Reads Writes = false
is_kind Writes Reads = false
is_kind Writes Writes = true

-- it holds these ranges too
abbrev pub with_ranges : Kind → List Range → Held → Held
with_ranges kind ranges held other x = is_kind other kind && in_set ranges x || held other x

-- resolver i holds its parts of these too
abbrev pub with_parts : Kind → List Owned → ℕ → Held → Held
with_parts kind parts i held other x = is_kind other kind && is_held parts i x || held other x

-- the item is of the place with the number, and has what is held of it
pub record IsItemWith (number : ℕ) (reading : Reading) (held : Held) (item : Item) : Type 0 where
  pub place : item.place ≡ number
  pub read : item.read_version ≡ reading.read_version
  pub has_reads : item.has_reads ≡ reading.has_reads
  pub reads : (x : Point) → in_set item.reads x ≡ held Reads x
  pub writes : (x : Point) → in_set item.writes x ≡ held Writes x

-- and something is
pub record IsItemHolding (number : ℕ) (reading : Reading) (held : Held) (item : Item) : Type 0 where
  pub has : IsItemWith number reading held item
  pub some : (kind : Kind) × (x : Point) × (held kind x ≡ true)

-- the place's item, none as long as nothing is held of it
abbrev pub IsItemSoFar : ℕ → Reading → Held → Option Item → Type 0
IsItemSoFar number reading held item =
    MatchOption item ((kind : Kind) (x : Point) → held kind x ≡ false) (IsItemHolding number reading held)

-- the items are those from before the place, and then its item so far
abbrev pub EndsWithItem : ℕ → Reading → Held → List Item → List Item → Type 0
EndsWithItem number reading held before items =
    (item : Option Item) × (items ≡ before ++ option_to_list item) × IsItemSoFar number reading held item

-- the item is of an earlier place
abbrev pub IsBelow : ℕ → Item → Type 0
IsBelow number item = item.place < number

-- there is an item, and it is of the place
abbrev pub is_at : ℕ → Option Item → Bool
is_at number None = false
is_at number (Some item) = item.place == number

-- the items of resolver i
abbrev pub items_at : List (Vec Item Global) → ℕ → List Item
items_at [] i = []
items_at (items ∷ lists) zero = items.items
items_at (items ∷ lists) (suc i) = items_at lists i

-- the part of resolver i has these items
pub record IsPartWith (position : Position) (i : ℕ) (given : List Item) (part : Part) : Type 0 where
  pub resolver : part.resolver ≡ i
  pub index : part.index ≡ position.index
  pub version : part.version ≡ position.version
  pub prev : part.prev ≡ position.prev
  pub horizon : part.horizon ≡ position.horizon
  pub items : part.items ≡ given
