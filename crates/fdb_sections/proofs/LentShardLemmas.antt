-- What shards in a row give of a range, one after another.
use Rattle.std.proofs.Common.{◌≡◌, ◌∙◌, refl, sym, ap, ap₂, subst, ◌<◌, ◌≤◌, ℕ, ◌-◌, Bool, true, false, ◌&&◌, ◌||◌, not}
use Rattle.std.proofs.Common.{arith}
use Rattle.std.proofs.Common.{List, [], ◌∷◌, ◌++◌, length, take, drop, get_or, Bor, Option, Some, None, Result, Ok, Err}
use Rattle.std.proofs.Common.{⊎_elim}
use Rattle.std.specs.Prelude.{nat_lt, if◌then◌else◌}
use Rattle.std.specs.List.{filter}
use Rattle.std.specs.Option.{option_or}
use Rattle.std.proofs.Math.Seq.{take-length}
use Rattle.std.proofs.lemmas.Bool.{cases_Bool, and_parts, and_from, both_ways, not-true, or_cases, or_left, or_right}
use Rattle.std.proofs.lemmas.List.{append-nil, append_assoc}
use Rattle.std.proofs.lemmas.Bool.{false_from_ne_true}
use Rattle.fdb_keys.specs.Answers.{Answers, AnswersExactly}
use Rattle.fdb_keys.specs.Clipping.{clipped_range, in_clipped}
use Rattle.fdb_keys.specs.Points.{Point, point_lt}
use Rattle.fdb_keys.specs.Ranges.{Range, in_range, is_within}
use Rattle.fdb_keys.specs.declared.refusal.Refusal.{Refusal}
use Rattle.fdb_keys.specs.declared.refusal.Refusal.TheVariants.{KeyOutsideLegalRange, Unknown}
use Rattle.fdb_keys.proofs.Exports.{in_clipped-points, le_chain, lt_le_chain, lt_chain, lt_one_way, in_range_parts}
use Rattle.fdb_keys.proofs.Exports.{in_range_from, within-points}
use Rattle.fdb_interval.proofs.Exports.{all_imply}
use Rattle.fdb_mutations.specs.Maps.{Map}
use Rattle.fdb_mutations.specs.Pairs.{first_of, pairs_in, wanted}
use Rattle.fdb_mutations.proofs.Exports.{parted, filter_all, filter_both, filter_none, ordered-filter, ordered-pairs_in}
use Rattle.fdb_mutations.proofs.Exports.{all_in-pairs_in, pairs_in-part}
use Rattle.fdb_storage.specs.Shards.{read_fault}
use Rattle.fdb_proxy.specs.declared.config.Config.{Config}
use Rattle.fdb_client.specs.Pages.{IsPage}
use Rattle.fdb_mutations.specs.declared.page.Page.{Page}
use Rattle.fdb_roles.specs.Wanted.{left_of, AreFew}
use Rattle.fdb_roles.proofs.Exports.{gives, first-again, first-left, first-full, first-none, page-first}
use Rattle.fdb_sections.specs.LentShards.{LentShards, lent_shards, range_fault}
use Rattle.fdb_sections.specs.LentShards.{is_held, AreInARow, HoldAll, pairs_at, pairs_held, next_fault, row_fault}
use Rattle.fdb_sections.specs.LentShards.{row_begin}
use Rattle.fdb_sections.specs.LentShards.{lending_fault}
use Rattle.fdb_sections.specs.ShardsAtFronts.{ShardAtFront}
use Rattle.fdb_sections.specs.ShardViews.{run_of}

-- the first of what is lent, and the others
pub lent-first : (shards : List (Bor ShardAtFront)) (first : Bor ShardAtFront) → 1 ≤ length shards
    → first ≡ get_or shards 0 first
    → lent_shards shards ≡ first.now ∷ lent_shards (take (length shards - 1) (drop 1 shards))
lent-first [] first some is = absurd (omega arith)
lent-first (x ∷ xs) first some is =
    let count : length (x ∷ xs) - 1 ≡ length xs = omega arith in
    ap₂ (λ (one : Bor ShardAtFront) (others : List (Bor ShardAtFront)). one.now ∷ lent_shards others) (sym is)
    (sym (ap (λ (n : ℕ). take n xs) count ∙ take-length xs))

-- ---- shards that are lent hold the range in a row
-- a shard that is lent from a point on begins there, ends behind it and serves the version
next-serves : (version : ℕ) (from : Point) (at : ShardAtFront) → next_fault version from at ≡ None
    → (in_range at.shard.range from ≡ true) × (point_lt at.shard.range.begin from ≡ false)
    × (read_fault at.shard true version ≡ None)
next-serves version from at none =
    by_test (in_range at.shard.range from && not (point_lt at.shard.range.begin from)) refl none
  where
    by_test : (test : Bool) → (in_range at.shard.range from && not (point_lt at.shard.range.begin from)) ≡ test
        → (if test then read_fault at.shard true version else Some Unknown) ≡ None
        → (in_range at.shard.range from ≡ true) × (point_lt at.shard.range.begin from ≡ false)
        × (read_fault at.shard true version ≡ None)
    by_test true is served =
        let parts = and_parts (in_range at.shard.range from) (not (point_lt at.shard.range.begin from)) is in
        (parts.0, not-true _ parts.1, served)
    by_test false is served = cc

-- what has the one fault or, where it has none, the other one
pub has-own : {T U : Type 0} (own next : Option Refusal) (why : Refusal) (P : T → Type 0) (Q : U → Type 0)
    → AnswersExactly {T = T} (Err why) own P → AnswersExactly {T = U} (Err why) (option_or own next) Q
has-own None next why P Q answers = absurd answers
has-own (Some fault) next why P Q answers = answers

pub has-next : {T U : Type 0} (own next : Option Refusal) (given : T) (result : Result U Refusal) (P : T → Type 0)
    (Q : U → Type 0) → AnswersExactly (Ok given) own P → AnswersExactly result next Q
    → AnswersExactly result (option_or own next) Q
has-next None next given result P Q passed answers = answers
has-next (Some fault) next given result P Q passed answers = absurd passed

-- what has no fault in either part
neither : (own next : Option Refusal) → option_or own next ≡ None → (own ≡ None) × (next ≡ None)
neither None next none = (refl, none)
neither (Some why) next none = cc

module _ (version : ℕ) (until : Point) where
  -- They are in a row, hold nothing before the point, and all from it on up to the other one.
  pub row-holds : (from : Point) (shards : List ShardAtFront) → row_fault version until from shards ≡ None
      → AreInARow version shards × ((x : Point) → is_held shards x ≡ true → point_lt x from ≡ false)
      × ((x : Point) → point_lt x until ≡ true → point_lt x from ≡ false → is_held shards x ≡ true)
  row-holds from [] none = (
    tt,
    λ x held. cc,
    λ x below behind. absurd (by_test (point_lt from until) refl none x below
        behind),
  )
    where
      by_test : (some : Bool) → point_lt from until ≡ some → (if some then Some KeyOutsideLegalRange else None) ≡ None
          → (x : Point) → point_lt x until ≡ true → point_lt x from ≡ false → ⊥
      by_test true is none x below behind = cc
      by_test false is none x below behind =
          both_ways (point_lt x from) behind (lt_le_chain x until from below is)
  row-holds from (at ∷ others) none =
      let parts = neither (next_fault version from at) (row_fault version until at.shard.range.end others) none in
      let next = next-serves version from at parts.0 in
      let bounds = in_range_parts at.shard.range from next.0 in
      let rest = row-holds at.shard.range.end others parts.1 in (
        (next.2, rest.1, rest.0),
        λ x held. ⊎_elim
            (λ here. le_chain from at.shard.range.begin x next.1 (in_range_parts at.shard.range x here).0)
            (λ there. le_chain from at.shard.range.end x (lt_one_way from at.shard.range.end bounds.1) (rest.1 x there))
            (or_cases (in_range at.shard.range x) (is_held others x) held),
        λ x below behind. ⊎_elim
            (λ before. or_left (in_range at.shard.range x) (is_held others x)
            (in_range_from at.shard.range x (le_chain at.shard.range.begin from x bounds.0 behind) before))
            (λ after. or_right (in_range at.shard.range x) (is_held others x) (rest.2 x below after))
            (cases_Bool (point_lt x at.shard.range.end)),
      )

-- no point of the range comes before the row's begin
begins-before : (range : Range) (shards : List ShardAtFront) (x : Point) → in_range range x ≡ true
    → point_lt x (row_begin range shards) ≡ false
begins-before range [] x inside = (in_range_parts range x inside).0
begins-before range (at ∷ others) x inside = by_test (in_range at.shard.range range.begin) refl
  where
    by_test : (holds : Bool) → in_range at.shard.range range.begin ≡ holds
        → point_lt x (if holds then at.shard.range.begin else range.begin) ≡ false
    by_test true is =
        le_chain at.shard.range.begin range.begin x (in_range_parts at.shard.range range.begin is).0
        (in_range_parts range x inside).0
    by_test false is = (in_range_parts range x inside).0

-- so shards that are lent for a range hold all of it
pub lent-hold : (version : ℕ) (range : Range) (shards : List ShardAtFront) → lending_fault version range shards ≡ None
    → AreInARow version shards × HoldAll range shards
lent-hold version range shards none =
    let row = row-holds version range.end (row_begin range shards) shards none in (
      row.0,
      λ x inside. row.2 x (in_range_parts range x inside).1 (begins-before range shards x inside),
    )

-- ---- the pairs that they hold
-- of two tests, of which the one holds only below a point and the other one only from there on
below-is : (own held below : Bool) → (own ≡ true → below ≡ true) → (held ≡ true → below ≡ false)
    → own ≡ ((own || held) && below)
below-is true held true inside behind = refl
below-is true held false inside behind = sym (inside refl)
below-is false true true inside behind = sym (behind refl)
below-is false true false inside behind = refl
below-is false false below inside behind = refl

above-is : (own held below : Bool) → (own ≡ true → below ≡ true) → (held ≡ true → below ≡ false)
    → held ≡ ((own || held) && not below)
above-is true true true inside behind = behind refl
above-is true true false inside behind = refl
above-is true false true inside behind = refl
above-is true false false inside behind = inside refl
above-is false true true inside behind = behind refl
above-is false true false inside behind = refl
above-is false false below inside behind = refl

not-not : (own held below : Bool) → own ≡ ((own || held) && below) → own ≡ ((own || held) && not (not below))
not-not own held true is = is
not-not own held false is = is

module _ (run : Map) (range : Range) (at : ShardAtFront) (others : List ShardAtFront)
    (behind : (x : Point) → is_held others x ≡ true → point_lt x at.shard.range.end ≡ false) where
  own-is : (x : Point)
      → in_range at.shard.range x ≡ (is_held (at ∷ others) x && point_lt x at.shard.range.end)
  own-is x = below-is (in_range at.shard.range x) (is_held others x) (point_lt x at.shard.range.end)
      (λ inside. (in_range_parts at.shard.range x inside).1) (behind x)

  others-are : (x : Point)
      → is_held others x ≡ (is_held (at ∷ others) x && not (point_lt x at.shard.range.end))
  others-are x = above-is (in_range at.shard.range x) (is_held others x) (point_lt x at.shard.range.end)
      (λ inside. (in_range_parts at.shard.range x inside).1) (behind x)

  -- those of a shard come before those of the ones behind it,
  pub own-first : pairs_held run range false (at ∷ others)
      ≡ pairs_at run range false at ++ pairs_held run range false others
  own-first =
      let all = pairs_in run range false in
      parted (λ a b. point_lt a.0 b.0) (λ pair. point_lt pair.0 at.shard.range.end)
      (λ a b before past. le_chain at.shard.range.end a.0 b.0 past (lt_one_way a.0 b.0 before))
      (pairs_held run range false (at ∷ others))
      (ordered-filter (λ a b. point_lt a.0 b.0) (λ pair. is_held (at ∷ others) pair.0) all
      (ordered-pairs_in run range false))
      ∙ sym (ap₂ (λ (front back : List (Point × List ℕ)). front ++ back)
      (filter_both (λ pair. is_held (at ∷ others) pair.0) (λ pair. point_lt pair.0 at.shard.range.end)
      (λ pair. in_range at.shard.range pair.0) (λ pair. own-is pair.0) all)
      (filter_both (λ pair. is_held (at ∷ others) pair.0) (λ pair. not (point_lt pair.0 at.shard.range.end))
      (λ pair. is_held others pair.0) (λ pair. others-are pair.0) all))

  -- and behind them from the end
  pub own-last : pairs_held run range true (at ∷ others)
      ≡ pairs_held run range true others ++ pairs_at run range true at
  own-last =
      let all = pairs_in run range true in
      parted (λ a b. point_lt b.0 a.0) (λ pair. not (point_lt pair.0 at.shard.range.end))
      (λ a b before past. ap not (lt_chain b.0 a.0 at.shard.range.end before (below a.0 past)))
      (pairs_held run range true (at ∷ others))
      (ordered-filter (λ a b. point_lt b.0 a.0) (λ pair. is_held (at ∷ others) pair.0) all
      (ordered-pairs_in run range true))
      ∙ sym (ap₂ (λ (front back : List (Point × List ℕ)). front ++ back)
      (filter_both (λ pair. is_held (at ∷ others) pair.0) (λ pair. not (point_lt pair.0 at.shard.range.end))
      (λ pair. is_held others pair.0) (λ pair. others-are pair.0) all)
      (filter_both (λ pair. is_held (at ∷ others) pair.0) (λ pair. not (not (point_lt pair.0 at.shard.range.end)))
      (λ pair. in_range at.shard.range pair.0)
      (λ pair. not-not (in_range at.shard.range pair.0) (is_held others pair.0) (point_lt pair.0 at.shard.range.end)
      (own-is pair.0)) all))
    where
      below : (x : Point) → not (point_lt x at.shard.range.end) ≡ false → point_lt x at.shard.range.end ≡ true
      below x past = by_test (point_lt x at.shard.range.end) past
        where
          by_test : (test : Bool) → not test ≡ false → test ≡ true
          by_test true is = refl
          by_test false is = cc

-- so the first shard's stand before or behind those of the others
module _ (run : Map) (range : Range) (version : ℕ) (shards : List ShardAtFront) (at : ShardAtFront)
    (others : List ShardAtFront) (is : shards ≡ at ∷ others) (row : AreInARow version shards) where
  pub held-forward : (is_reverse : Bool) → is_reverse ≡ false
      → pairs_held run range is_reverse shards
      ≡ pairs_at run range is_reverse at ++ pairs_held run range is_reverse others
  held-forward true forward = cc
  held-forward false forward =
      ap (pairs_held run range false) is ∙ own-first run range at others (subst (AreInARow version) is row).1

  pub held-backward : (is_reverse : Bool) → is_reverse ≡ true
      → pairs_held run range is_reverse shards
      ≡ pairs_held run range is_reverse others ++ pairs_at run range is_reverse at
  held-backward true backward =
      ap (pairs_held run range true) is ∙ own-last run range at others (subst (AreInARow version) is row).1
  held-backward false backward = cc

-- no shards hold no pairs
pub none-held : (shards : List (Bor ShardAtFront)) → length shards < 1 → (run : Map) (range : Range) (is_reverse : Bool)
    → pairs_held run range is_reverse (lent_shards shards) ≡ []
none-held [] none run range is_reverse = nothing (pairs_in run range is_reverse)
  where
    nothing : (pairs : List (Point × List ℕ)) → filter (λ pair. is_held [] pair.0) pairs ≡ []
    nothing [] = refl
    nothing (pair ∷ pairs) = nothing pairs
none-held (at ∷ shards) none run range is_reverse = absurd (omega arith)

-- shards that hold all of a range hold all of its pairs
pub all-held : (run : Map) (range whole : Range) (is_reverse : Bool) (shards : List ShardAtFront)
    → is_within range whole ≡ true → HoldAll whole shards
    → pairs_held run range is_reverse shards ≡ pairs_in run range is_reverse
all-held run range whole is_reverse shards within holds =
    filter_all (λ pair. is_held shards pair.0) (pairs_in run range is_reverse)
    (all_imply (λ pair. in_range range pair.0 ≡ true) (λ pair. is_held shards pair.0 ≡ true)
    (λ pair inside. holds pair.0 ((within-points range whole).0 within pair.0 inside))
    (pairs_in run range is_reverse) (all_in-pairs_in run range is_reverse))

-- ---- what is given of them
-- where no more than are wanted are there, they are the first of themselves
pub few-are-first : (wanted : ℕ) (xs : List (Point × List ℕ)) → AreFew wanted xs → xs ≡ first_of wanted (xs ++ [])
few-are-first wanted xs few = by_left (left_of wanted (length xs)) refl
  where
    by_left : (left : Option ℕ) → left_of wanted (length xs) ≡ left → xs ≡ first_of wanted (xs ++ [])
    by_left (Some limit) is =
        sym (append-nil xs) ∙ sym (ap (λ (none : List (Point × List ℕ)). xs ++ none) (first-none limit))
        ∙ first-left wanted xs [] limit is
    by_left None is = first-full wanted xs [] few is

-- what is added after more was added is added at once
pub added-again : (wanted : ℕ) (xs some more given all : List (Point × List ℕ)) → given ≡ first_of wanted (xs ++ some)
    → all ≡ first_of wanted (given ++ more) → all ≡ first_of wanted (xs ++ (some ++ more))
added-again wanted xs some more given all first added =
    added
    ∙ ap (λ (items : List (Point × List ℕ)). first_of wanted (items ++ more)) first
    ∙ first-again wanted (xs ++ some) more
    ∙ ap (first_of wanted) (append_assoc xs some more)

-- what a shard holds of a range
module _ (range whole part : Range) (clipped : clipped_range range whole ≡ Some part) where
  part-of : (x : Point) → in_range part x ≡ (in_range range x && in_range whole x)
  part-of x = ap (λ (clip : Option Range). in_clipped clip x) (sym clipped) ∙ in_clipped-points range whole x

  pub part-within : is_within part whole ≡ true
  part-within = (within-points part whole).1
      (λ x inside. (and_parts (in_range range x) (in_range whole x) (sym (part-of x) ∙ inside)).1)

  pub part-pairs : (run : Map) (is_reverse : Bool)
      → pairs_in run part is_reverse ≡ filter (λ pair. in_range whole pair.0) (pairs_in run range is_reverse)
  part-pairs run is_reverse = pairs_in-part run range part (in_range whole) part-of is_reverse

-- one that holds nothing of it has no pair of it
pub no-pairs : (range whole : Range) → clipped_range range whole ≡ None → (run : Map) (is_reverse : Bool)
    → filter (λ pair. in_range whole pair.0) (pairs_in run range is_reverse) ≡ []
no-pairs range whole clipped run is_reverse =
    filter_none (λ pair. in_range whole pair.0) (pairs_in run range is_reverse)
    (all_imply (λ pair. in_range range pair.0 ≡ true) (λ pair. in_range whole pair.0 ≡ false)
    (λ pair inside. outside pair.0 inside) (pairs_in run range is_reverse) (all_in-pairs_in run range is_reverse))
  where
    outside : (x : Point) → in_range range x ≡ true → in_range whole x ≡ false
    outside x inside = false_from_ne_true _ (λ held.
        let apart : false ≡ (in_range range x && in_range whole x) =
        ap (λ (clip : Option Range). in_clipped clip x) (sym clipped) ∙ in_clipped-points range whole x in
        both_ways _ (sym apart) (and_from _ _ inside held))

-- ---- what is answered of a range that they are lent for
-- The shards are seen as their own record has them.
module _ (config : Config) (own it : LentShards) (shards : List ShardAtFront) (is : own ≡ it)
    (holds : HoldAll own.range shards) where
  pub gives-page : (range : Range) (limit count : ℕ) (is_reverse : Bool) (found : List (Point × List ℕ)) (page : Page)
      → is_within range own.range ≡ true → count ≡ wanted limit
      → found ≡ first_of count (pairs_held (run_of config own.version own.front) range is_reverse shards)
      → ((all : List (Point × List ℕ)) → found ≡ first_of (wanted limit) all
      → (page.pairs ≡ first_of limit all) × (page.more ≡ nat_lt (length page.pairs) (length all)))
      → Answers {T = Page} (Ok page) (range_fault it range)
      (IsPage (run_of config it.version it.front) range limit is_reverse)
  gives-page range limit count is_reverse found page within counted first cut =
      let run = run_of config own.version own.front in
      let all = pairs_in run range is_reverse in
      let same : pairs_held run range is_reverse shards ≡ all = all-held run range own.range is_reverse shards within
      holds in
      let parts = cut all (first ∙ ap₂ (λ (n : ℕ) (pairs : List (Point × List ℕ)). first_of n pairs) counted same) in
      gives (range_fault it range) page (IsPage (run_of config it.version it.front) range limit is_reverse)
      (subst (λ (seen : LentShards). range_fault seen range ≡ None) is (rw within refl))
      (subst (λ (seen : LentShards). IsPage (run_of config seen.version seen.front) range limit is_reverse page) is
      (page-first run range limit is_reverse page parts.0 parts.1))

  pub all-pairs : (found : List (Point × List ℕ))
      → found ≡ first_of 0 (pairs_held (run_of config own.version own.front) own.range false shards)
      → found ≡ pairs_in (run_of config it.version it.front) it.range false
  all-pairs found first =
      subst (λ (seen : LentShards). found ≡ pairs_in (run_of config seen.version seen.front) seen.range false) is
      (first ∙ all-held (run_of config own.version own.front) own.range own.range false shards
      ((within-points own.range own.range).1 (λ x inside. inside)) holds)
