-- Ranges in a map, each under its begin.
use Rattle.std.specs.Prelude.{◌≡◌, true, List, map}
use Rattle.std.specs.BTreeMap.{is_at}
use Rattle.std.specs.BTreeMap.Range.{entries_between}
use Rattle.std.specs.Cmp.Lexicographic.{slice_cmp}
use Rattle.std.specs.List.{fold}
use Rattle.std.specs.Map.{keys_of, values_of, remove_entry}
use Rattle.std.specs.Ordering.{nat_cmp}
use Rattle.std.specs.declared.ops.Bound.TheVariants.{Included, Excluded}
use Rattle.fdb_keys.specs.Insertion.{inserted}
use Rattle.fdb_keys.specs.Points.{Point}
use Rattle.fdb_keys.specs.Ranges.{Range, is_apart}

-- the entries of a map from points to ranges
abbrev pub Entries : Type 0
Entries = List (Point × Range)

-- each range is under its begin
abbrev pub AreUnderBegins : Entries → Type 0
AreUnderBegins entries = keys_of entries ≡ map (λ range. range.begin) (values_of entries)

-- the later entries have the range too, joined with those that it touches
abbrev pub HasAlso : Range → Entries → Entries → Type 0
HasAlso range entries after =
    (values_of after ≡ inserted range (values_of entries)) × AreUnderBegins after × (is_apart (values_of after) ≡ true)

-- the begins that come after the range's begin, and by its end
abbrev pub begins_within : Range → Entries → List Point
begins_within range entries =
    keys_of (entries_between (slice_cmp nat_cmp) (Excluded range.begin) (Included range.end) entries)

-- the entries of a map without those under the points
abbrev pub without_points : {V : Type 0} → List Point → List (Point × V) → List (Point × V)
without_points points entries = fold (λ rest point. remove_entry (is_at (slice_cmp nat_cmp point)) rest) entries points
