-- The first pairs of a range, gathered from shards that are lent one after another.
use Rattle.std.specs.Prelude.{◌≡◌, ◌≤◌, ℕ, Bool, true, not, ◌&&◌, ◌||◌, nat_eq, nat_lt, List, [], ◌++◌, length}
use Rattle.std.specs.Prelude.{Option, Some, None, IfSome, if◌then◌else◌}
use Rattle.std.specs.Option.{is_none}
use Rattle.fdb_keys.specs.Points.{Point, point_lt}
use Rattle.fdb_keys.specs.Ranges.{Range, in_range}
use Rattle.fdb_keys.specs.declared.refusal.Refusal.{Refusal}
use Rattle.fdb_keys.specs.declared.refusal.Refusal.TheVariants.{KeyOutsideLegalRange, Unknown}
use Rattle.fdb_mutations.specs.Maps.{Map}
use Rattle.fdb_mutations.specs.Pairs.{first_of, pairs_in, wanted}
use Rattle.fdb_mutations.specs.declared.page.Page.{Page}
use Rattle.fdb_txn.specs.declared.entry.Entry.{Entry}
use Rattle.fdb_storage.specs.Shards.{read_fault}
use Rattle.fdb_proxy.specs.declared.config.Config.{Config}
use Rattle.fdb_client.specs.Pages.{IsPage}
use Rattle.fdb_roles.specs.Wanted.{left_of, AreFew}
use Rattle.fdb_sections.specs.LentShards.{pairs_at}
use Rattle.fdb_sections.specs.ShardsAtFronts.{ShardAtFront}
use Rattle.fdb_sections.specs.ShardViews.{run_of}

-- the front is the reader's, the limit is the one that was asked for, and the rest is what is to be looked at yet
pub record Gathering : Type 0 where
  pub version : ℕ
  pub front : List Entry
  pub range : Range
  pub limit : ℕ
  pub is_reverse : Bool
  pub rest : Option Range

-- how many pairs a page has at most that is asked for so many, where 0 asks for all
abbrev pub most_of : ℕ → ℕ
most_of limit = if nat_eq limit 0 || nat_lt 256 limit then 256 else limit

-- how many are gathered at most: one more, which tells whether there are more
abbrev pub gathered_of : ℕ → ℕ
gathered_of limit = wanted (most_of limit)

-- the points from the one up to but not including the other one, if there are any
abbrev pub some_between : Point → Point → Option Range
some_between begin end = if point_lt begin end then Some (record { begin = begin; end = end }) else None

-- the pairs of what is to be looked at yet
abbrev pub pairs_of_rest : Map → Bool → Option Range → List (Point × List ℕ)
pairs_of_rest run is_reverse None = []
pairs_of_rest run is_reverse (Some rest) = pairs_in run rest is_reverse

-- What was gathered, and then what the rest has, begins with the first pairs of the range, as many as are gathered at
-- most.
pub record IsGathered (config : Config) (it : Gathering) (pairs : List (Point × List ℕ)) : Type 0 where
  pub few : AreFew (gathered_of it.limit) pairs
  pub first : first_of (gathered_of it.limit) (pairs_in (run_of config it.version it.front) it.range it.is_reverse)
      ≡ first_of (gathered_of it.limit)
      (pairs ++ pairs_of_rest (run_of config it.version it.front) it.is_reverse it.rest)

-- a shard holds what is read first of a part: its begin, or from the end what comes right before its end
abbrev pub holds_first : Bool → Range → Range → Bool
holds_first is_reverse part own =
    if is_reverse then point_lt own.begin part.end && not (point_lt own.end part.end) else in_range own part.begin

-- what of a part is read behind a shard's keys
abbrev pub part_behind : Bool → Range → Range → Option Range
part_behind is_reverse part own =
    if is_reverse then some_between part.begin own.begin else some_between own.end part.end

-- why nothing is taken of a shard for a part: it doesn't hold what is read first, or refuses the version
abbrev pub part_fault : ℕ → Bool → Range → ShardAtFront → Option Refusal
part_fault version is_reverse part at =
    if holds_first is_reverse part at.shard.range then read_fault at.shard true version else Some Unknown

-- and for what is gathered: nothing is to be looked at any more
abbrev pub rest_fault : ℕ → Bool → Option Range → ShardAtFront → Option Refusal
rest_fault version is_reverse None at = Some Unknown
rest_fault version is_reverse (Some rest) at = part_fault version is_reverse rest at

abbrev pub take_fault : Gathering → ShardAtFront → Option Refusal
take_fault it at = rest_fault it.version it.is_reverse it.rest at

-- What a shard that holds what is read first of a part has of it was added, up to so many, and what lies behind it is
-- to be looked at, unless as many are there.
pub record HasTakenPart (run : Map) (wanting : ℕ) (is_reverse : Bool) (part : Range) (at : ShardAtFront)
    (old new : List (Point × List ℕ)) (rest : Option Range) : Type 0 where
  pub holds : holds_first is_reverse part at.shard.range ≡ true
  pub pairs : new ≡ first_of wanting (old ++ pairs_at run part is_reverse at)
  pub left : rest
      ≡ (if is_none (left_of wanting (length new)) then None else part_behind is_reverse part at.shard.range)

-- what is left of the rest is what lies behind the shard, unless it isn't wanted
abbrev pub IsLeftOf : Bool → Option Range → Range → Option Range → Type 0
IsLeftOf is_reverse old own left =
    IfSome left (λ (rest : Range). IfSome old (λ (part : Range). part_behind is_reverse part own ≡ Some rest))

-- nothing but the rest changes
abbrev pub HasTaken : Gathering → ShardAtFront → Gathering → Type 0
HasTaken old at new =
    (new ≡ record old { rest = new.rest }) × IsLeftOf old.is_reverse old.rest at.shard.range new.rest

-- why there is no page yet
abbrev pub page_fault : Option Range → Option Refusal
page_fault None = None
page_fault (Some rest) = Some KeyOutsideLegalRange

-- the page that was asked for, of few pairs
abbrev pub IsPageOf : Config → Gathering → Page → Type 0
IsPageOf config it page =
    IsPage (run_of config it.version it.front) it.range it.limit it.is_reverse page × (length page.pairs ≤ 256)
