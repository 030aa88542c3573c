-- What is gathered from shards one after another.
use Rattle.std.proofs.Common.{◌≡◌, ◌∙◌, refl, sym, ap, ap₂, subst, ◌≤◌, ℕ, Bool, true, false, ◌&&◌, ◌||◌, not, arith}
use Rattle.std.proofs.Common.{List, [], ◌∷◌, ◌++◌, length, Option, Some, None, Ok}
use Rattle.std.specs.Prelude.{nat_eq, nat_lt, if◌then◌else◌, cond}
use Rattle.std.specs.Cmp.{both_ways}
use Rattle.std.specs.List.{filter, AllByRecursion}
use Rattle.std.specs.Option.{is_none, is_some}
use Rattle.std.proofs.lemmas.Bool.{and_parts, and_from, not-true, not_from_true, not_from_false, ltb-false, ltb-true}
use Rattle.std.proofs.lemmas.Bool.{both_ways as clash}
use Rattle.std.proofs.lemmas.List.{append_assoc}
use Rattle.fdb_keys.specs.Answers.{AnswersExactly}
use Rattle.fdb_keys.specs.Points.{Point, point_lt}
use Rattle.fdb_keys.specs.Ranges.{Range, in_range}
use Rattle.fdb_keys.proofs.Exports.{le_chain, lt_le_chain, lt_chain, lt_one_way, in_range_parts, in_range_from}
use Rattle.fdb_keys.proofs.Exports.{in_range-empty}
use Rattle.fdb_interval.proofs.Exports.{all_imply}
use Rattle.fdb_mutations.specs.Maps.{Map}
use Rattle.fdb_mutations.specs.Pairs.{first_of, pairs_in, wanted}
use Rattle.fdb_mutations.specs.declared.page.Page.{Page}
use Rattle.fdb_mutations.proofs.Exports.{parted, filter_none, ordered-pairs_in, all_in-pairs_in, pairs_in-part}
use Rattle.fdb_proxy.specs.declared.config.Config.{Config}
use Rattle.fdb_client.specs.Pages.{IsPage}
use Rattle.fdb_roles.specs.Wanted.{left_of, AreFew}
use Rattle.fdb_roles.proofs.Exports.{first-again, first-few, first-full, page-first}
use Rattle.fdb_sections.specs.Gathering.{Gathering, IsGathered, IsPageOf, HasTakenPart, most_of, gathered_of}
use Rattle.fdb_sections.specs.Gathering.{some_between}
use Rattle.fdb_sections.specs.Gathering.{pairs_of_rest, holds_first, page_fault, part_behind}
use Rattle.fdb_sections.specs.LentShards.{pairs_at}
use Rattle.fdb_sections.specs.ShardsAtFronts.{ShardAtFront}
use Rattle.fdb_sections.specs.ShardViews.{run_of}
use Rattle.fdb_sections.proofs.LentShardLemmas.{few-are-first}

-- ---- what is read of a part, of a shard and then behind it
-- two tests that agree wherever a third one holds keep the same of what passes that one
filter-alike : {A : Type 0} (p q r : A → Bool) → ((x : A) → r x ≡ true → p x ≡ q x) → (xs : List A)
    → AllByRecursion (λ x. r x ≡ true) xs → filter p xs ≡ filter q xs
filter-alike p q r alike [] all = refl
filter-alike {A} p q r alike (x ∷ xs) all =
    ap₂ (λ (b : Bool) (ys : List A). cond b (x ∷ ys) ys) (alike x all.0) (filter-alike p q r alike xs all.1)

-- what isn't false
is-true : (test : Bool) → not test ≡ false → test ≡ true
is-true true fails = refl
is-true false fails = cc

module _ (run : Map) (part own : Range) where
  -- a part that isn't empty, or nothing
  rest-between : (begin end : Point) (test : Point → Bool) (is_reverse : Bool)
      → (point_lt begin end ≡ true
      → (x : Point) → in_range (record { begin = begin; end = end }) x ≡ (in_range part x && test x))
      → (point_lt begin end ≡ false → (x : Point) → in_range part x ≡ true → test x ≡ false)
      → filter (λ pair. test pair.0) (pairs_in run part is_reverse)
      ≡ pairs_of_rest run is_reverse (some_between begin end)
  rest-between begin end test is_reverse some none = by_test (point_lt begin end) refl
    where
      by_test : (is : Bool) → point_lt begin end ≡ is
          → filter (λ pair. test pair.0) (pairs_in run part is_reverse)
          ≡ pairs_of_rest run is_reverse (if is then Some (record { begin = begin; end = end }) else None)
      by_test true is =
          sym (pairs_in-part run part (record { begin = begin; end = end }) test (some is) is_reverse)
      by_test false is =
          filter_none (λ pair. test pair.0) (pairs_in run part is_reverse)
          (all_imply (λ pair. in_range part pair.0 ≡ true) (λ pair. test pair.0 ≡ false)
          (λ pair inside. none is pair.0 inside) (pairs_in run part is_reverse) (all_in-pairs_in run part is_reverse))

  -- in key order, of a shard that holds the part's begin
  forward-parted : in_range own part.begin ≡ true
      → pairs_in run part false
      ≡ filter (λ pair. in_range own pair.0) (pairs_in run part false)
      ++ pairs_of_rest run false (some_between own.end part.end)
  forward-parted holds =
      let all = pairs_in run part false in
      let bounds = in_range_parts own part.begin holds in
      parted (λ a b. point_lt a.0 b.0) (λ pair. point_lt pair.0 own.end)
      (λ a b before past. le_chain own.end a.0 b.0 past (lt_one_way a.0 b.0 before)) all
      (ordered-pairs_in run part false)
      ∙ ap₂ (λ (front back : List (Point × List ℕ)). front ++ back)
      (filter-alike (λ pair. point_lt pair.0 own.end) (λ pair. in_range own pair.0) (λ pair. in_range part pair.0)
      (λ pair inside. both_ways _ _
      (λ below. in_range_from own pair.0
      (le_chain own.begin part.begin pair.0 bounds.0 (in_range_parts part pair.0 inside).0) below)
      (λ within. (in_range_parts own pair.0 within).1)) all (all_in-pairs_in run part false))
      (rest-between own.end part.end (λ x. not (point_lt x own.end)) false
      (λ some x. both_ways _ _
      (λ behind.
      let parts = in_range_parts (record { begin = own.end; end = part.end }) x behind in
      and_from _ _ (in_range_from part x
      (le_chain part.begin own.end x (lt_one_way part.begin own.end bounds.1) parts.0) parts.1)
      (not_from_false _ parts.0))
      (λ both.
      let parts = and_parts _ _ both in
      in_range_from (record { begin = own.end; end = part.end }) x (not-true _ parts.1)
      (in_range_parts part x parts.0).1))
      (λ none x inside. not_from_true _ (lt_le_chain x part.end own.end (in_range_parts part x inside).1 none)))

  -- and from the end, of a shard that holds what comes right before it
  backward-parted : point_lt own.begin part.end ≡ true → point_lt own.end part.end ≡ false
      → pairs_in run part true
      ≡ filter (λ pair. in_range own pair.0) (pairs_in run part true)
      ++ pairs_of_rest run true (some_between part.begin own.begin)
  backward-parted before until =
      let all = pairs_in run part true in
      parted (λ a b. point_lt b.0 a.0) (λ pair. not (point_lt pair.0 own.begin))
      (λ a b later past. not_from_true _ (lt_chain b.0 a.0 own.begin later (is-true _ past))) all
      (ordered-pairs_in run part true)
      ∙ ap₂ (λ (front back : List (Point × List ℕ)). front ++ back)
      (filter-alike (λ pair. not (point_lt pair.0 own.begin)) (λ pair. in_range own pair.0)
      (λ pair. in_range part pair.0)
      (λ pair inside. both_ways _ _
      (λ from. in_range_from own pair.0 (not-true _ from)
      (lt_le_chain pair.0 part.end own.end (in_range_parts part pair.0 inside).1 until))
      (λ within. not_from_false _ (in_range_parts own pair.0 within).0)) all (all_in-pairs_in run part true))
      (rest-between part.begin own.begin (λ x. not (not (point_lt x own.begin))) true
      (λ some x. both_ways _ _
      (λ behind.
      let parts = in_range_parts (record { begin = part.begin; end = own.begin }) x behind in
      and_from _ _ (in_range_from part x parts.0 (lt_chain x own.begin part.end parts.1 before))
      (not_from_false _ (not_from_true _ parts.1)))
      (λ both.
      let parts = and_parts _ _ both in
      in_range_from (record { begin = part.begin; end = own.begin }) x (in_range_parts part x parts.0).0
      (is-true _ (not-true _ parts.1))))
      (λ none x inside. not_from_true _
      (not_from_false _ (le_chain own.begin part.begin x none (in_range_parts part x inside).0))))

-- so what a shard has of the part comes before what lies behind it, in the order that is read
pub rest-parted : (run : Map) (is_reverse : Bool) (part own : Range) → holds_first is_reverse part own ≡ true
    → pairs_in run part is_reverse
    ≡ filter (λ pair. in_range own pair.0) (pairs_in run part is_reverse)
    ++ pairs_of_rest run is_reverse (part_behind is_reverse part own)
rest-parted run false part own holds = forward-parted run part own holds
rest-parted run true part own holds =
    let parts : (point_lt own.begin part.end ≡ true) × (not (point_lt own.end part.end) ≡ true) =
    and_parts _ _ holds in
    backward-parted run part own parts.0 (not-true _ parts.1)

-- ---- what is gathered
-- nothing, of a range of which nothing was looked at
pub none-gathered : (config : Config) (it : Gathering) → it.rest ≡ some_between it.range.begin it.range.end
    → IsGathered config it []
none-gathered config it is =
    let run = run_of config it.version it.front in
    let all = pairs_in run it.range it.is_reverse in
    record {
      few = λ _. omega arith;
      first = ap (first_of (gathered_of it.limit)) (by_test (point_lt it.range.begin it.range.end) refl
          ∙ sym (ap (pairs_of_rest run it.is_reverse) is));
    }
  where
    nothing : (pairs : List (Point × List ℕ)) → ((x : Point) → in_range it.range x ≡ false)
        → AllByRecursion (λ pair. in_range it.range pair.0 ≡ true) pairs → pairs ≡ []
    nothing [] none all = refl
    nothing (pair ∷ pairs) none all = absurd (clash _ (none pair.0) all.0)

    by_test : (some : Bool) → point_lt it.range.begin it.range.end ≡ some
        → pairs_in (run_of config it.version it.front) it.range it.is_reverse
        ≡ pairs_of_rest (run_of config it.version it.front) it.is_reverse
        (if some then Some (record { begin = it.range.begin; end = it.range.end }) else None)
    by_test true some = refl
    by_test false some =
        nothing (pairs_in (run_of config it.version it.front) it.range it.is_reverse)
        (λ x. in_range-empty it.range x (not_from_false _ some))
        (all_in-pairs_in (run_of config it.version it.front) it.range it.is_reverse)

-- and what a shard has of the rest is added, up to as many as are wanted
pub taken : (config : Config) (it : Gathering) (pairs : List (Point × List ℕ)) (part : Range) (at : ShardAtFront)
    (more : List (Point × List ℕ)) (left : Option Range) → IsGathered config it pairs → it.rest ≡ Some part
    → HasTakenPart (run_of config it.version it.front) (gathered_of it.limit) it.is_reverse part at pairs more left
    → IsGathered config (record it { rest = left }) more
taken config it pairs part at more left gathered rest took =
    let run = run_of config it.version it.front in
    let wanting = gathered_of it.limit in
    let own = pairs_at run part it.is_reverse at in
    let behind = part_behind it.is_reverse part at.shard.range in
    let last = pairs_of_rest run it.is_reverse behind in
    let few : AreFew wanting more = subst (AreFew wanting) (sym took.pairs) (first-few wanting (pairs ++ own)) in
    let whole : first_of wanting (pairs_in run it.range it.is_reverse) ≡ first_of wanting (more ++ last) =
    gathered.first
    ∙ ap (λ (some : Option Range). first_of wanting (pairs ++ pairs_of_rest run it.is_reverse some)) rest
    ∙ ap (λ (xs : List (Point × List ℕ)). first_of wanting (pairs ++ xs))
    (rest-parted run it.is_reverse part at.shard.range took.holds)
    ∙ ap (first_of wanting) (sym (append_assoc pairs own last))
    ∙ sym (first-again wanting (pairs ++ own) last)
    ∙ ap (λ (xs : List (Point × List ℕ)). first_of wanting (xs ++ last)) (sym took.pairs) in
    record {
      few = few;
      first = whole ∙ by_left run wanting behind few (left_of wanting (length more)) refl
          ∙ ap (λ (some : Option Range). first_of wanting (more ++ pairs_of_rest run it.is_reverse some))
          (sym took.left);
    }
  where
    by_left : (run : Map) (wanting : ℕ) (behind : Option Range) → AreFew wanting more → (room : Option ℕ)
        → left_of wanting (length more) ≡ room
        → first_of wanting (more ++ pairs_of_rest run it.is_reverse behind)
        ≡ first_of wanting (more ++ pairs_of_rest run it.is_reverse (if is_none room then None else behind))
    by_left run wanting behind few (Some limit) room = refl
    by_left run wanting behind few None room =
        sym (first-full wanting more (pairs_of_rest run it.is_reverse behind) few room)
        ∙ first-full wanting more [] few room

-- ---- the page of what was gathered
module _ (limit : ℕ) where
  most-some : nat_eq (most_of limit) 0 ≡ false
  most-some = by_tests (nat_eq limit 0) (nat_lt 256 limit) refl
    where
      by_tests : (all many : Bool) → nat_eq limit 0 ≡ all
          → nat_eq (if all || many then 256 else limit) 0 ≡ false
      by_tests true many is = refl
      by_tests false true is = refl
      by_tests false false is = is

  most-few : most_of limit ≤ 256
  most-few = by_tests (nat_eq limit 0) (nat_lt 256 limit) refl
    where
      by_tests : (all many : Bool) → nat_lt 256 limit ≡ many
          → (if all || many then 256 else limit) ≤ 256
      by_tests true many is = omega arith
      by_tests false true is = omega arith
      by_tests false false is = ltb-false 256 limit is

  most-within : nat_eq limit 0 ≡ false → most_of limit ≤ limit
  most-within some = by_tests (nat_eq limit 0) (nat_lt 256 limit) refl refl
    where
      by_tests : (all many : Bool) → nat_eq limit 0 ≡ all → nat_lt 256 limit ≡ many
          → (if all || many then 256 else limit) ≤ limit
      by_tests true many is above = absurd (clash _ some is)
      by_tests false true is above = omega (arith, ltb-true 256 limit above)
      by_tests false false is above = omega arith

-- It is the page that was asked for, since one of fewer pairs is one of more, and of any number.
is-page : (config : Config) (it : Gathering) (pairs : List (Point × List ℕ)) (page : Page)
    → IsGathered config it pairs → it.rest ≡ None
    → ((all : List (Point × List ℕ)) → pairs ≡ first_of (wanted (most_of it.limit)) all
    → (page.pairs ≡ first_of (most_of it.limit) all) × (page.more ≡ nat_lt (length page.pairs) (length all)))
    → IsPageOf config it page
is-page config it pairs page gathered none cut =
    let run = run_of config it.version it.front in
    let wanting = gathered_of it.limit in
    let all = pairs_in run it.range it.is_reverse in
    let are : pairs ≡ first_of wanting all =
    few-are-first wanting pairs gathered.few
    ∙ sym (gathered.first
    ∙ ap (λ (rest : Option Range). first_of wanting (pairs ++ pairs_of_rest run it.is_reverse rest)) none) in
    let parts = cut all are in
    let own : IsPage run it.range (most_of it.limit) it.is_reverse page =
    page-first run it.range (most_of it.limit) it.is_reverse page parts.0 parts.1 in
    let few = own.within (most-some it.limit) in (
      record {
        first = own.first;
        within = λ some. omega (arith, few, most-within it.limit some);
        more = own.more;
        goes_on = own.goes_on;
      },
      omega (arith, few, most-few it.limit),
    )

-- so it is given, where nothing is to be looked at any more
pub gives-gathered : (config : Config) (own it : Gathering) (pairs : List (Point × List ℕ)) (page : Page) → own ≡ it
    → is_some own.rest ≡ false → IsGathered config own pairs
    → ((all : List (Point × List ℕ)) → pairs ≡ first_of (wanted (most_of own.limit)) all
    → (page.pairs ≡ first_of (most_of own.limit) all) × (page.more ≡ nat_lt (length page.pairs) (length all)))
    → AnswersExactly {T = Page} (Ok page) (page_fault it.rest) (IsPageOf config it)
gives-gathered config own it pairs page is none gathered cut =
    subst (λ (seen : Gathering). AnswersExactly {T = Page} (Ok page) (page_fault seen.rest) (IsPageOf config seen)) is
    (by_rest own.rest refl none)
  where
    by_rest : (rest : Option Range) → own.rest ≡ rest → is_some rest ≡ false
        → AnswersExactly {T = Page} (Ok page) (page_fault rest) (IsPageOf config own)
    by_rest None same none = is-page config own pairs page gathered same cut
    by_rest (Some rest) same none = cc
