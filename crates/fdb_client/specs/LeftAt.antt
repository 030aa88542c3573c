-- What a transaction keeps of its own writes.
use Rattle.std.specs.Prelude.{◌≡◌, ◌&&◌, true, Option, None, is_some}
use Rattle.std.specs.Ordering.{nat_cmp}
use Rattle.std.specs.Cmp.Lexicographic.{slice_cmp}
use Rattle.std.specs.BTreeMap.{is_at}
use Rattle.std.specs.Map.{lookup}
use Rattle.fdb_keys.specs.Points.{Point}
use Rattle.fdb_keys.specs.Ranges.{Range, in_range, in_set}
use Rattle.fdb_keys.specs.Texts.{is_key}
use Rattle.fdb_client.specs.declared.left.Left.{Left}
use Rattle.fdb_client.specs.declared.own_writes.OwnWrites.{OwnWrites}
use Rattle.fdb_client.specs.OwnWrites.{kept_at, is_unreadable, is_value}

-- what is kept under a key of its own
abbrev pub entry_of : OwnWrites → Point → Option Left
entry_of own x = lookup (is_at (slice_cmp nat_cmp x)) own.keys.entries

-- what is kept for a point
abbrev pub left_at : OwnWrites → Point → Left
left_at own x = kept_at own.keys.entries own.cleared x

-- what has an entry is a legal key
abbrev pub HasLegalKeys : OwnWrites → Type 0
HasLegalKeys own = (x : Point) → is_some (entry_of own x) ≡ true → is_key x ≡ true

-- what was cleared with a range is decided, also where its key was written again
abbrev pub AreClearedDecided : OwnWrites → Type 0
AreClearedDecided own = (x : Point) → in_set own.cleared x ≡ true → is_value (left_at own x) ≡ true

-- no point of the range has an entry
abbrev pub HasNoEntry : OwnWrites → Range → Type 0
HasNoEntry own range = (x : Point) → in_range range x ≡ true → entry_of own x ≡ None

-- some point of the range is unreadable
abbrev pub HasUnreadable : OwnWrites → Range → Type 0
HasUnreadable own range = (x : Point) × ((in_range range x && is_unreadable (left_at own x)) ≡ true)
