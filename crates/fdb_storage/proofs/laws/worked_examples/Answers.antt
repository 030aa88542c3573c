use Rattle.std.proofs.Common.{◌≡◌, ◌∙◌, sym, ap, ap₂, refl, arith, ℕ, ◌+◌, max, ◌≤◌, Bool, true, false, nat_lt}
use Rattle.std.proofs.Common.{List, fold, length, Option, is_some, if◌then◌else◌}
use Rattle.std.specs.FinMap.{from_entries}
use Rattle.std.specs.List.Sorted.{IsStrictlySortedBy}
use Rattle.fdb_keys.specs.Points.{Point, point_lt}
use Rattle.fdb_keys.specs.Ranges.{Range, in_range}
use Rattle.fdb_mutations.specs.Examples.{one}
use Rattle.fdb_mutations.specs.Maps.{Map}
use Rattle.fdb_mutations.specs.Pairs.{pairs_in, first_of}
use Rattle.fdb_txn.specs.rules.Messages.{value_with, value_in}
use Rattle.fdb_storage.specs.Examples.{span}
use Rattle.fdb_mutations.specs.declared.page.Page.{Page}
use Rattle.fdb_storage.specs.Shards.{Shard, value_at, kept_of, HasValuesOf, IsNewShard, IsPage, HasApplied}
use Rattle.fdb_storage.specs.Shards.{HasForgotten}
use Rattle.fdb_storage.specs.ValueExamples.{changes, growing, peek, rewriting}
use Rattle.fdb_storage.specs.VersionLists.{same_value, kept_from}
use Rattle.fdb_storage.specs.KeyPages.{pairs_at, pairs_of}
use Rattle.fdb_storage.specs.VersionMaps.{AreSorted}
use Rattle.fdb_storage.proofs.PairsLemmas.{has-pairs, pairs-in_map}
use Rattle.fdb_txn.proofs.Exports.{count-alike}
use Rattle.fdb_storage.proofs.laws.worked_examples.Goals as goal

abbrev Pairs : Type 0
Pairs = List (Point × List ℕ)

abbrev page_with : Pairs → Bool → Page
page_with pairs more = record { pairs = pairs; more = more }

abbrev page_by : Pairs → ℕ → Page
page_by all limit = page_with (first_of limit all) (nat_lt (length (first_of limit all)) (length all))

-- a page is the one that the pairs of the shard's keys make
page_is : (shard : Shard) (v : ℕ) → AreSorted shard.keys → (range : Range) (limit : ℕ) (is_reverse : Bool) (page : Page)
    → IsPage shard range v limit is_reverse page → page ≡ page_by (pairs_of shard.keys v range is_reverse) limit
page_is shard v sorted range limit is_reverse page is =
    let map : Map = from_entries (pairs_at v shard.keys) in
    let has : HasValuesOf shard v range map = λ x inside. has-pairs v x shard.keys sorted in
    let every : pairs_in map range is_reverse ≡ pairs_of shard.keys v range is_reverse =
    sym (pairs-in_map v range is_reverse shard.keys map sorted has) in
    let given : page.pairs ≡ first_of limit (pairs_of shard.keys v range is_reverse) =
    (is map has).0 ∙ ap (first_of limit) every in
    ap₂ page_with given ((is map has).1
    ∙ ap₂ (λ (some whole : Pairs). nat_lt (length some) (length whole)) given every)

pub returns-clause-values : goal.returns-clause-values
unfolding point_lt
returns-clause-values c = (
  refl,
  refl,
  refl,
  refl,
  refl,
  refl,
  refl,
  refl,
  refl,
  refl,
  refl,
  refl,
  refl,
)

rising : AreSorted growing.keys
unfolding IsStrictlySortedBy
rising = ((refl, (refl, tt)), ((refl, tt), (tt, tt)))

pub returns-clause-pages : goal.returns-clause-pages
unfolding point_lt
returns-clause-pages c = λ page. (
  page_is growing 100 rising (span 10 20) 0 false page,
  page_is growing 100 rising (span 10 20) 2 false page,
  page_is growing 100 rising (span 10 20) 3 false page,
  page_is growing 100 rising (span 10 20) 4 false page,
  page_is growing 100 rising (span 10 20) 2 true page,
  page_is growing 100 rising (span 13 18) 1 false page,
  page_is growing 100 rising (span 13 17) 1 false page,
  page_is growing 100 rising (span 18 20) 1 false page,
  page_is growing 60 rising (span 10 20) 2 false page,
  page_is growing 99 rising (span 10 20) 1 true page,
  page_is growing 59 rising (span 10 20) 0 false page,
)

pub returns-clause-replays : goal.returns-clause-replays
returns-clause-replays c = (
  refl,
  refl,
  refl,
  refl,
  refl,
  refl,
  refl,
  refl,
  refl,
  refl,
  refl,
  refl,
  refl,
  refl,
  refl,
  refl,
  refl,
  refl,
  refl,
)

below : (v : ℕ) (new : Shard) → new.version ≡ 200 → v ≤ 200 → v ≤ new.version
below v new is within = omega (arith, is, within)

above : (v : ℕ) (new : Shard) → new.floor ≡ 80 → 80 ≤ v → new.floor ≤ v
above v new is within = omega (arith, is, within)

pub returns-clause-applied : goal.returns-clause-applied
unfolding point_lt
returns-clause-applied c = λ new applied. (
  applied.tag,
  applied.range,
  applied.version,
  applied.floor,
  applied.works,
  applied.before 50 (one 12) (omega arith) (omega arith) refl,
  applied.before 60 (one 12) (omega arith) (omega arith) refl,
  applied.before 99 (one 17) (omega arith) (omega arith) refl,
  applied.before 100 (one 17) (omega arith) (omega arith) refl,
  applied.after 199 (one 12) (omega arith) (below 199 new applied.version (omega arith)) refl,
  applied.after 200 (one 12) (omega arith) (below 200 new applied.version (omega arith)) refl,
  applied.after 200 (one 17) (omega arith) (below 200 new applied.version (omega arith)) refl,
)

pub returns-clause-forgotten : goal.returns-clause-forgotten
unfolding point_lt
returns-clause-forgotten c = λ new. (
  (λ forgotten. forgotten.floor),
  (λ forgotten. (
    forgotten.tag,
    forgotten.range,
    forgotten.version,
    forgotten.floor,
    forgotten.works,
    forgotten.values 80 (one 12) (above 80 new forgotten.floor (omega arith)) (omega arith) refl,
    forgotten.values 99 (one 17) (above 99 new forgotten.floor (omega arith)) (omega arith) refl,
    forgotten.values 100 (one 17) (above 100 new forgotten.floor (omega arith)) (omega arith) refl,
  )),
)

-- a new shard answers what the messages leave
followed : (empty new : Shard) → IsNewShard 3 (span 10 20) empty → HasApplied empty (peek 0 100 changes) new → (v : ℕ)
    (x : Point) → v ≤ 100 → in_range (span 10 20) x ≡ true → value_at new v x ≡ value_in v x changes
followed empty new is_new applied v x below inside =
    applied.after v x (omega (arith, is_new.version)) (omega (arith, below, applied.version))
    (ap (λ (range : Range). in_range range x) is_new.range ∙ inside)
    ∙ ap (λ (before : Option (List ℕ)). fold (value_with v x) before changes) (is_new.empty empty.version x)

pub returns-clause-followed : goal.returns-clause-followed
unfolding point_lt
returns-clause-followed c = λ empty new is_new applied. (
  followed empty new is_new applied 59 (one 12) (omega arith) refl,
  followed empty new is_new applied 60 (one 12) (omega arith) refl,
  followed empty new is_new applied 79 (one 12) (omega arith) refl,
  followed empty new is_new applied 80 (one 12) (omega arith) refl,
  followed empty new is_new applied 60 (one 15) (omega arith) refl,
  followed empty new is_new applied 79 (one 15) (omega arith) refl,
  followed empty new is_new applied 80 (one 15) (omega arith) refl,
  followed empty new is_new applied 99 (one 15) (omega arith) refl,
  followed empty new is_new applied 100 (one 15) (omega arith) refl,
  followed empty new is_new applied 99 (one 17) (omega arith) refl,
  followed empty new is_new applied 100 (one 17) (omega arith) refl,
  followed empty new is_new applied 100 (one 13) (omega arith) refl,
)

-- values that agree from the floor on are kept alike
kept-same : (one other : ℕ → Option (List ℕ)) (floor through : ℕ) → floor ≤ through
    → ((v : ℕ) → floor ≤ v → v ≤ through → one v ≡ other v)
    → kept_from one floor through ≡ kept_from other floor through
kept-same one other floor through serves same =
    ap₂ (λ (count : ℕ) (value : Option (List ℕ)). count + (if is_some value then 1 else 0))
    (count-alike same_value one other floor through same)
    (same floor (omega arith) serves)

-- what the messages leave at a key is kept, and from the last version on
module _ (empty old new : Shard) (is_new : IsNewShard 3 (span 10 20) empty)
    (applied : HasApplied empty (peek 0 300 rewriting) old) (forgotten : HasForgotten old 300 new) (x : Point)
    (inside : in_range (span 10 20) x ≡ true) where
  held : in_range empty.range x ≡ true
  held = ap (λ (range : Range). in_range range x) is_new.range ∙ inside

  old_floor : old.floor ≡ 0
  old_floor = applied.floor ∙ is_new.floor

  new_floor : new.floor ≡ 300
  new_floor = forgotten.floor ∙ ap (λ (n : ℕ). max n 300) old_floor

  new_version : new.version ≡ 300
  new_version = forgotten.version ∙ applied.version

  old_value : (v : ℕ) → v ≤ 300 → value_at old v x ≡ value_in v x rewriting
  old_value v below =
      applied.after v x (omega (arith, is_new.version)) (omega (arith, below, applied.version)) held
      ∙ ap (λ (before : Option (List ℕ)). fold (value_with v x) before rewriting) (is_new.empty empty.version x)

  kept_old : kept_of old x ≡ kept_from (λ (v : ℕ). value_in v x rewriting) 0 300
  kept_old =
      ap₂ (λ (floor through : ℕ). kept_from (λ (v : ℕ). value_at old v x) floor through) old_floor applied.version
      ∙ kept-same (λ (v : ℕ). value_at old v x) (λ (v : ℕ). value_in v x rewriting) 0 300 (omega arith)
      (λ v from below. old_value v below)

  kept_new : kept_of new x ≡ kept_from (λ (v : ℕ). value_in v x rewriting) 300 300
  kept_new =
      ap₂ (λ (floor through : ℕ). kept_from (λ (v : ℕ). value_at new v x) floor through) new_floor new_version
      ∙ kept-same (λ (v : ℕ). value_at new v x) (λ (v : ℕ). value_in v x rewriting) 300 300 (omega arith)
      (λ v from below.
      forgotten.values v x (omega (arith, new_floor, from)) (omega (arith, applied.version, below))
      (ap (λ (range : Range). in_range range x) applied.range ∙ held)
      ∙ old_value v below)

pub returns-clause-kept : goal.returns-clause-kept
unfolding point_lt
returns-clause-kept c = λ empty old new is_new applied forgotten. (
  kept_old empty old new is_new applied forgotten (one 12) refl,
  kept_new empty old new is_new applied forgotten (one 12) refl,
  kept_old empty old new is_new applied forgotten (one 13) refl,
  kept_new empty old new is_new applied forgotten (one 13) refl,
)

pub returns-clause-copied : goal.returns-clause-copied
unfolding point_lt
returns-clause-copied c = λ old new. (
  (λ copied. (
    (λ none. copied.inside (one 15) refl refl none),
    (λ none. copied.inside (one 17) refl refl none),
    copied.outside (one 12) refl,
    copied.outside (one 25) refl,
  )),
  (λ copied none. copied.inside (one 17) refl refl none),
)
