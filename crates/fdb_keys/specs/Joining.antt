-- Many ranges put into a map at once, and taken out again where memory runs out.
use Rattle.std.specs.Prelude.{List, [], ◌∷◌, Option, Some, None, is_some, if◌then◌else◌}
use Rattle.std.specs.BTreeMap.{insert_entry, is_at}
use Rattle.std.specs.Cmp.Lexicographic.{slice_cmp}
use Rattle.std.specs.List.{flat_map, fold}
use Rattle.std.specs.Map.{lookup, remove_entry}
use Rattle.std.specs.Ordering.{nat_cmp}
use Rattle.fdb_keys.specs.Insertion.{with_range}
use Rattle.fdb_keys.specs.Points.{Point}
use Rattle.fdb_keys.specs.RangeMaps.{Entries, begins_within}
use Rattle.fdb_keys.specs.Ranges.{Range}
use Rattle.fdb_keys.specs.Touching.{joined_with_touched}

-- the added ranges, each joined with those of the sorted list that it touches, and with one another
abbrev pub all_joined : List Range → List Range → List Range
all_joined added ranges = fold (λ set range. with_range (joined_with_touched range ranges) set) [] added

-- the begins that lie within one of the ranges
abbrev pub begins_within_all : List Range → Entries → List Point
begins_within_all ranges entries = flat_map (λ range. begins_within range entries) ranges

-- the entries with each range under its begin
abbrev pub with_all : List Range → Entries → Entries
with_all ranges entries =
    fold (λ rest range. insert_entry (slice_cmp nat_cmp) rest range.begin range) entries ranges

-- the range that was under the begin, if any, is there again
abbrev pub put_back : Point → Option Range → Entries → Entries
put_back begin None entries = remove_entry (is_at (slice_cmp nat_cmp begin)) entries
put_back begin (Some range) entries =
    if is_some (lookup (is_at (slice_cmp nat_cmp begin)) entries)
    then insert_entry (slice_cmp nat_cmp) entries begin range
    else entries

-- all that was under the begins is there again, the last one first
abbrev pub all_put_back : List (Point × Option Range) → Entries → Entries
all_put_back [] entries = entries
all_put_back (held ∷ others) entries = put_back held.0 held.1 (all_put_back others entries)
