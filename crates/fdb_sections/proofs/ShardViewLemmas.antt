-- What a shard answers is what stands on the serial map of the reader's front.
use Rattle.std.proofs.Common.{◌≡◌, ◌∙◌, refl, sym, ap, subst, ◌≤◌, le_of_lt, ℕ, Bool, true, false, List, length}
use Rattle.std.proofs.Common.{None, Ok, ⊎_elim}
use Rattle.std.specs.Prelude.{nat_lt}
use Rattle.std.specs.FinMap.{get}
use Rattle.std.proofs.lemmas.Bool.{cases_lt}
use Rattle.fdb_keys.specs.Answers.{Answers}
use Rattle.fdb_keys.specs.Points.{Point}
use Rattle.fdb_keys.specs.Ranges.{Range, in_range, is_within}
use Rattle.fdb_keys.proofs.Exports.{within-points}
use Rattle.fdb_mutations.specs.Maps.{Map}
use Rattle.fdb_mutations.specs.Pairs.{first_of, pairs_in}
use Rattle.fdb_txn.specs.declared.entry.Entry.{Entry}
use Rattle.fdb_txn.specs.book.Book.{last_version}
use Rattle.fdb_txn.specs.book.History.{AreEntries}
use Rattle.fdb_book.specs.Fronts.{IsPrefix}
use Rattle.fdb_storage.specs.Shards as shards
use Rattle.fdb_storage.specs.Shards.{value_at}
use Rattle.fdb_proxy.specs.declared.config.Config.{Config}
use Rattle.fdb_client.specs.Pages.{IsPage}
use Rattle.fdb_mutations.specs.declared.page.Page.{Page}
use Rattle.fdb_roles.proofs.Exports.{answers-fault, gives, fronts_have_one_run, entries-linked, page-first}
use Rattle.fdb_sections.specs.ShardsAtFronts.{ShardAtFront, IsThere}
use Rattle.fdb_sections.specs.ShardViews.{ShardView, HasTheRunOf, range_fault, run_map, served}

-- two fronts of one book have one serial map at a version that both reach
pub one-run : (config : Config) (resolvers version : ℕ) (own other : List Entry) → AreEntries resolvers 0 own
    → AreEntries resolvers 0 other → (length own ≤ length other → IsPrefix own other)
    → (length other ≤ length own → IsPrefix other own) → version ≤ last_version other
    → HasTheRunOf config version own other
one-run config resolvers version own other of_own of_other shorter longer within reached = ⊎_elim
    (λ fewer. fronts_have_one_run config.resolver_splits own other (shorter (le_of_lt fewer))
    (entries-linked resolvers 0 other of_other) version reached)
    (λ more. sym (fronts_have_one_run config.resolver_splits other own (longer more)
    (entries-linked resolvers 0 own of_own) version within))
    (cases_lt (length own) (length other))

module _ (config : Config) (view : ShardView) (there : IsThere config view.at)
    (one : HasTheRunOf config view.version view.at.front view.front) where
  -- at a key that it holds, a shard that serves the version has what the reader's front leaves there
  pub value-is : view.at.shard.is_failed ≡ false → view.at.shard.floor ≤ view.version
      → view.version ≤ view.at.shard.version → (x : Point) → in_range view.at.shard.range x ≡ true
      → value_at view.at.shard view.version x ≡ get (run_map config view) x
  value-is works from until x inside =
      let at = there.1 works in
      at.serves view.version x from until (ap (λ (keys : Range). in_range keys x) (sym at.range) ∙ inside)
      ∙ ap (λ (map : Map). get map x) (one (subst (λ (last : ℕ). view.version ≤ last) at.version until))

  -- the first pairs of what it has are those of the serial map
  pub first-are : (range : Range) (limit : ℕ) (is_reverse : Bool) (found : Page) → range_fault view range ≡ None
      → shards.IsPage view.at.shard range view.version limit is_reverse found
      → (found.pairs ≡ first_of limit (pairs_in (run_map config view) range is_reverse))
      × (found.more ≡ nat_lt (length found.pairs) (length (pairs_in (run_map config view) range is_reverse)))
  first-are range limit is_reverse found none is =
      let shard = view.at.shard in
      let may = served shard (is_within range shard.range) view.version none in
      is (run_map config view) (λ x inside. sym (value-is may.1 may.2 may.3 x
      ((within-points range shard.range).0 may.0 x inside)))

  -- so a page of it is one of the serial map
  pub page-is : (range : Range) (limit : ℕ) (is_reverse : Bool) (found : Page) → range_fault view range ≡ None
      → shards.IsPage view.at.shard range view.version limit is_reverse found
      → IsPage (run_map config view) range limit is_reverse found
  page-is range limit is_reverse found none is =
      let first = first-are range limit is_reverse found none is in
      page-first (run_map config view) range limit is_reverse found first.0 first.1

-- Of the shard's parts what is said of the whole view: a range is refused alike,
pub fault-is : (at : ShardAtFront) (own view : ShardView) (range : Range) → at ≡ own.at → own ≡ view
    → shards.range_fault at.shard range own.version ≡ range_fault view range
fault-is at own view range is also =
    ap (λ (it : ShardAtFront). shards.range_fault it.shard range own.version) is
    ∙ ap (λ (it : ShardView). range_fault it range) also

-- and its pairs are given alike
module _ (config : Config) (at : ShardAtFront) (own view : ShardView) (is : at ≡ own.at) (also : own ≡ view)
    (there : IsThere config at) (one : HasTheRunOf config own.version own.at.front own.front) where
  pub gives-page : (range : Range) (limit : ℕ) (is_reverse : Bool) (found : Page)
      → Answers {T = Page} (Ok found) (shards.range_fault at.shard range own.version)
      (shards.IsPage at.shard range own.version limit is_reverse)
      → Answers {T = Page} (Ok found) (range_fault view range)
      (IsPage (run_map config view) range limit is_reverse)
  gives-page range limit is_reverse found answers =
      let given = answers-fault (shards.range_fault at.shard range own.version) found
      (shards.IsPage at.shard range own.version limit is_reverse) answers in
      let none : range_fault view range ≡ None = sym (fault-is at own view range is also) ∙ given.0 in
      gives (range_fault view range) found (IsPage (run_map config view) range limit is_reverse) none
      (subst (λ (it : ShardView). IsPage (run_map config it) range limit is_reverse found) also
      (page-is config own (subst (IsThere config) is there) one range limit is_reverse found
      (sym (fault-is at own own range is refl) ∙ given.0)
      (subst (λ (it : ShardAtFront). shards.IsPage it.shard range own.version limit is_reverse found) is given.1)))

  pub gives-first : (range : Range) (limit : ℕ) (is_reverse : Bool) (found : Page)
      → Answers {T = Page} (Ok found) (shards.range_fault at.shard range own.version)
      (shards.IsPage at.shard range own.version limit is_reverse)
      → (range_fault view range ≡ None)
      × (found.pairs ≡ first_of limit (pairs_in (run_map config view) range is_reverse))
  gives-first range limit is_reverse found answers =
      let given = answers-fault (shards.range_fault at.shard range own.version) found
      (shards.IsPage at.shard range own.version limit is_reverse) answers in
      let none : range_fault view range ≡ None = sym (fault-is at own view range is also) ∙ given.0 in (
        none,
        subst (λ (it : ShardView). found.pairs ≡ first_of limit (pairs_in (run_map config it) range is_reverse)) also
            (first-are config own (subst (IsThere config) is there) one range limit is_reverse found
            (sym (fault-is at own own range is refl) ∙ given.0)
            (subst (λ (it : ShardAtFront). shards.IsPage it.shard range own.version limit is_reverse found) is
            given.1)).0,
      )
