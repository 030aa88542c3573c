-- A walk along the own writes of a range, in the order in which it is read.
use Rattle.std.specs.Borrow.{Bor}
use Rattle.std.specs.Prelude.{◌≡◌, Bool, true, not, if◌then◌else◌, List, [], ◌∷◌, reverse, ⊤, Option, Some, None}
use Rattle.std.specs.Option.{option_copied}
use Rattle.fdb_keys.specs.Cutting.{range_behind}
use Rattle.fdb_keys.specs.Points.{Point, point_eq, point_lt}
use Rattle.fdb_keys.specs.Ranges.{Range, in_range}
use Rattle.fdb_keys.specs.Texts.{is_key}
use Rattle.fdb_client.specs.declared.left.Left.{Left}
use Rattle.fdb_client.specs.declared.own_walk.OwnWalk.{OwnWalk}
use Rattle.fdb_client.specs.declared.own_writes.OwnWrites.{OwnWrites}
use Rattle.fdb_client.specs.LeftAt.{entry_of, HasNoEntry}

-- the entries are those of the range, in the order in which it is read
abbrev pub AreEntriesOf : OwnWrites → Range → Bool → List (Point × Left) → Type 0
AreEntriesOf own range is_reverse [] = HasNoEntry own range
AreEntriesOf own range is_reverse (entry ∷ entries) =
    (in_range range entry.0 ≡ true) × (entry_of own entry.0 ≡ Some entry.1)
    × HasNoEntry own (range_behind range (not is_reverse) entry.0)
    × AreEntriesOf own (range_behind range is_reverse entry.0) is_reverse entries

-- the entries of a map in the order in which a range of it is read
abbrev pub in_order : Bool → List (Point × Left) → List (Point × Left)
in_order is_reverse entries = if is_reverse then reverse entries else entries

-- what is lent of an entry, and those that come behind it
abbrev pub with_next : Option (Bor Point × Bor Left) → List (Point × Left) → List (Point × Left)
with_next None rest = []
with_next (Some entry) rest = (entry.0.now, entry.1.now) ∷ rest

-- the entries that the walk hasn't passed
abbrev pub to_come : Bool → OwnWalk → List (Point × Left)
to_come is_reverse walk = with_next walk.next (in_order is_reverse walk.rest)

-- the entries but for the first one, if that is the key's
abbrev pub past : Point → List (Point × Left) → List (Point × Left)
past key [] = []
past key (entry ∷ entries) = if point_eq entry.0 key then entries else entry ∷ entries

-- the first of the entries, if it is the key's
abbrev pub entry_at : Point → List (Point × Left) → Option Left
entry_at key [] = None
entry_at key (entry ∷ entries) = if point_eq entry.0 key then Some entry.1 else None

-- what of the range lies behind the last key, or all of it where there is none
abbrev pub behind_last : Range → Bool → Option Point → Range
behind_last range is_reverse None = range
behind_last range is_reverse (Some key) = range_behind range is_reverse key

-- what the walk hasn't passed of its range
abbrev pub left_of : Bool → OwnWalk → Range
left_of is_reverse walk = behind_last walk.range.now is_reverse (option_copied walk.last)

-- the last key, if there is one, is a legal key of the range
abbrev pub IsKeyOf : Range → Option Point → Type 0
IsKeyOf range None = ⊤
IsKeyOf range (Some key) = (is_key key ≡ true) × (in_range range key ≡ true)

-- What the walk hasn't passed of its range has the entries that are to come.
pub record IsAt (own : OwnWrites) (is_reverse : Bool) (walk : OwnWalk) : Type 0 where
  pub entries : AreEntriesOf own (left_of is_reverse walk) is_reverse (to_come is_reverse walk)
  pub last : IsKeyOf walk.range.now (option_copied walk.last)

-- the key of an entry that is lent
abbrev pub key_of : Option (Bor Point × Bor Left) → Option Point
key_of None = None
key_of (Some entry) = Some entry.0.now

-- x comes before y, in the order in which a range is read
abbrev pub comes_before : Bool → Point → Point → Bool
comes_before is_reverse x y = if is_reverse then point_lt y x else point_lt x y

-- the point comes before the next key, if there is one
abbrev pub is_ahead : Bool → Option Point → Point → Bool
is_ahead is_reverse None x = true
is_ahead is_reverse (Some key) x = comes_before is_reverse x key
