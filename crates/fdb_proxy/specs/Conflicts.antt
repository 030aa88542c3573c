-- What places are refused with: the points that resolvers found, joined place by place.
use Rattle.std.specs.Prelude.{ℕ, ◌==◌, List, [], ◌∷◌, map, length, get_or, if◌then◌else◌}
use Rattle.std.specs.List.{fold, list_all, range_with_len}
use Rattle.fdb_keys.specs.Ranges.{Range}
use Rattle.fdb_keys.specs.Insertion.{with_ranges}
use Rattle.fdb_resolver.specs.Rule.{Found}

-- a set with the points that a resolver found at place p
abbrev pub with_found : ℕ → Found → List Range → List Range
with_found p [] set = set
with_found p (one ∷ found) set = with_found p found (if one.0 == p then with_ranges one.1 set else set)

-- the points that all resolvers found at place p
abbrev pub conflict_by : List Found → ℕ → List Range
conflict_by all p = fold (λ (set : List Range) (found : Found). with_found p found set) [] all

-- of as many places
abbrev pub joined_by : List Found → ℕ → List (List Range)
joined_by all count = map (conflict_by all) (range_with_len 0 count)

-- the same, but no place at all where no resolver found anything
abbrev pub conflicts_by : List Found → ℕ → List (List Range)
conflicts_by all count = if list_all (λ (found : Found). length found == 0) all then [] else joined_by all count

-- the set of place p, which has no point where it isn't in the list
abbrev pub set_at : ℕ → List (List Range) → List Range
set_at p conflicts = get_or conflicts p []
