-- Maps from points to values.
use Rattle.std.specs.Prelude.{ℕ, Bool, List}
use Rattle.std.specs.List.{list_all}
use Rattle.fdb_keys.specs.Points.{Point}
use Rattle.fdb_keys.specs.Texts.{is_key}
use Rattle.std.specs.Ordering.{nat_cmp}
use Rattle.std.specs.Cmp.Lexicographic.{slice_cmp}
use Rattle.std.specs.Coded.{Coded, coded_ℕ, coded_list}
use Rattle.std.specs.FinMap.{FinMap, code}

-- A finite map from points, in their order, to values.
abbrev pub Map : Type 0
Map = FinMap (slice_cmp nat_cmp) (List ℕ)

-- maps are stored as the lists of their pairs
abbrev pub map_code : Coded Map
map_code = code (coded_list coded_ℕ) (coded_list coded_ℕ)

-- all keys of the pairs are legal ones
abbrev pub has_legal_keys : List (Point × List ℕ) → Bool
has_legal_keys pairs = list_all (λ pair. is_key pair.0) pairs
