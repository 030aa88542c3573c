-- What a page of a range has.
use Rattle.std.specs.Prelude.{◌≡◌, ◌<◌, ◌≤◌, ℕ, Bool, true, false, nat_eq, nat_lt, take, length}
use Rattle.fdb_keys.specs.Ranges.{Range}
use Rattle.fdb_mutations.specs.Maps.{Map}
use Rattle.fdb_mutations.specs.Pairs.{pairs_in}
use Rattle.fdb_mutations.specs.declared.page.Page.{Page}

-- A page has the first pairs of the range on the map, no more than the limit says, if it isn't 0. There is more
-- exactly where the range has a further pair, and then the page has one at least.
pub record IsPage (map : Map) (range : Range) (limit : ℕ) (is_reverse : Bool) (page : Page) : Type 0 where
  pub first : page.pairs ≡ take (length page.pairs) (pairs_in map range is_reverse)
  pub within : nat_eq limit 0 ≡ false → length page.pairs ≤ limit
  pub more : page.more ≡ nat_lt (length page.pairs) (length (pairs_in map range is_reverse))
  pub goes_on : page.more ≡ true → 0 < length page.pairs
