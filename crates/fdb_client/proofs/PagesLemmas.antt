-- A page of a snapshot that is merged with the own writes, pair by pair.
use Rattle.std.proofs.Common.{◌≡◌, ◌∙◌, sym, ap, refl, ◌⊎◌, inl, inr, ⊎_elim, subst, if◌then◌else◌, ℕ, ◌<◌, ◌+◌, ◌&&◌}
use Rattle.std.proofs.Common.{nat_eq, Bool, true, false, not, min, List, [], ◌∷◌, ◌++◌, length, take, drop, Some, None}
use Rattle.std.proofs.Common.{arith}
use Rattle.std.specs.List.{AllByRecursion, slice_get}
use Rattle.std.proofs.lemmas.Bool.{and_parts, and_right, both_ways, cases_Bool, cond-false, cond-true, eq-eqb, eqb-true}
use Rattle.std.proofs.lemmas.Bool.{ltb-false, ltb-true, not-true}
use Rattle.std.proofs.Math.Bool.{and-true}
use Rattle.std.proofs.lemmas.List.{append-nil, take-append-drop, drop_all, drop_more, get_or-take, length-drop}
use Rattle.std.proofs.lemmas.List.{length-take, take-append-le, take_all}
use Rattle.std.proofs.Math.Seq.{take-length}
use Rattle.std.proofs.lemmas.Option.{get_or_from_slice_get, slice_get_within}
use Rattle.std.proofs.Math.ListN.{get_or}
use Rattle.fdb_keys.specs.Cutting.{range_behind}
use Rattle.fdb_keys.specs.Points.{Point}
use Rattle.fdb_keys.specs.Ranges.{Range, in_range}
use Rattle.fdb_keys.proofs.Exports.{behind-inside}
use Rattle.fdb_mutations.specs.Maps.{Map}
use Rattle.fdb_mutations.specs.Pairs.{first_of, is_limit_reached, pairs_in}
use Rattle.fdb_mutations.specs.PairLaws.{given_of, pair_of}
use Rattle.fdb_mutations.proofs.Exports.{no_pairs, all_at, all_in-pairs_in, no_values}
use Rattle.fdb_client.specs.declared.left.Left.{Left}
use Rattle.fdb_client.specs.declared.own_writes.OwnWrites.{OwnWrites}
use Rattle.fdb_mutations.specs.declared.page.Page.{Page}
use Rattle.fdb_client.specs.LeftAt.{left_at}
use Rattle.fdb_client.specs.Merging.{GoesOn, HasFirst, HasNoValue, IsCopyOf, IsWithin, ReadsOn, ReadsPage, TookOwn}
use Rattle.fdb_client.specs.Merging.{TookPage}
use Rattle.fdb_client.specs.OwnWrites.{value_over}
use Rattle.fdb_client.proofs.MergingLemmas.{goes_on-start, goes_on-take, goes_on-both, pair-copy, pair-inside, pair-map}
use Rattle.fdb_client.proofs.MergingLemmas.{pair-none}

-- as many pairs of the page were taken
pub record PageSoFar (map copy : Map) (is_reverse : Bool) (count : ℕ) (before : List (Point × List ℕ)) (range : Range)
    (given : List (Point × List ℕ)) (left : Range) : Type 0 where
  pub goes_on : GoesOn copy is_reverse before range given left
  pub rest : pairs_in map left is_reverse ≡ drop count (pairs_in map range is_reverse)

abbrev pub PagesSoFar : OwnWrites → Page → Bool → ℕ → ℕ
    → List (Point × List ℕ) → Range → List (Point × List ℕ) → Range → Type 0
PagesSoFar own page is_reverse limit count before range given left =
    IsWithin limit given
    × ((map copy : Map) → IsCopyOf (left_at own) map copy → HasFirst map range is_reverse page
    → PageSoFar map copy is_reverse count before range given left)

pub pages-start : (own : OwnWrites) (page : Page) (is_reverse : Bool) (limit : ℕ) (given : List (Point × List ℕ))
    (range : Range) → IsWithin limit given → PagesSoFar own page is_reverse limit 0 given range given range
pages-start own page is_reverse limit given range within = (
  within,
  λ map copy is_copy first. record {
    goes_on = goes_on-start copy is_reverse given range;
    rest = refl;
  },
)

-- the next pair of the page is the first one of what is left
next_pair : (all pairs : List (Point × List ℕ)) (i : ℕ) (pair : Point × List ℕ) → pairs ≡ take (length pairs) all
    → slice_get pairs i ≡ Some pair → drop i all ≡ pair ∷ drop (i + 1) all
next_pair all pairs i pair first at =
    let within : i < length pairs = slice_get_within pairs i pair at in
    let shown : length pairs ≡ min (length pairs) (length all) = ap length first ∙ length-take (length pairs) all in
    let inside : i < length all = lt_min within shown in
    drop_more all i pair inside
    ∙ ap (λ (p : Point × List ℕ). p ∷ drop (i + 1) all)
    (sym (get_or-take (length pairs) all i pair within)
    ∙ ap (λ (ps : List (Point × List ℕ)). get_or ps i pair) (sym first)
    ∙ get_or_from_slice_get pairs i pair pair at)
  where
    lt_min : i < length pairs → length pairs ≡ min (length pairs) (length all) → i < length all
    lt_min within shown = omega (arith, within, shown)

module _ (own : OwnWrites) (page : Page) (is_reverse : Bool) (limit count : ℕ)
    (before given : List (Point × List ℕ)) (range left : Range) (key : Point) (value : List ℕ)
    (so_far : PagesSoFar own page is_reverse limit count before range given left)
    (at : slice_get page.pairs count ≡ Some (key, value))
    (map copy : Map) (is_copy : IsCopyOf (left_at own) map copy) (first : HasFirst map range is_reverse page) where
  next-is : pairs_in map left is_reverse ≡ (key, value) ∷ drop (count + 1) (pairs_in map range is_reverse)
  next-is = (so_far.1 map copy is_copy first).rest
      ∙ next_pair (pairs_in map range is_reverse) page.pairs count (key, value) first.first at

  pub next-inside : in_range left key ≡ true
  next-inside = pair-inside own map copy is_copy is_reverse left key value _ next-is

  pub next-none : HasNoValue map (range_behind left (not is_reverse) key)
  next-none = pair-none own map copy is_copy is_reverse left key value _ next-is

  module _ (since : List (Point × List ℕ)) (part : Range)
      (took : TookOwn map copy is_reverse limit (Some key) given left since part) where
    -- the limit was reached by an own key
    pub next-full : (more : Bool) (length : ℕ) → is_limit_reached limit since ≡ true
        → TookPage map copy is_reverse limit length more before range since part
    next-full more length full = record {
      goes_on = goes_on-both copy is_reverse before given since range left part
          (so_far.1 map copy is_copy first).goes_on took.goes_on;
      rest = λ some. absurd (both_ways _ some full);
      ended = λ some. absurd (both_ways _ some full);
    }

    -- or the pair is taken
    pub next-taken : is_limit_reached limit since ≡ false → PageSoFar map copy is_reverse (count + 1) before range
        (since ++ pair_of key (value_over (left_at own key) (Some value))) (range_behind part is_reverse key)
    next-taken room =
        let is = took.same ∙ next-is in
        record {
          goes_on = goes_on-take copy is_reverse before since
              (pair_of key (value_over (left_at own key) (Some value))) range part (range_behind part is_reverse key)
              (goes_on-both copy is_reverse before given since range left part
              (so_far.1 map copy is_copy first).goes_on took.goes_on)
              (behind-inside part is_reverse key took.lies_in)
              (pair-copy own map copy is_copy is_reverse part key value _ is (took.ahead room));
          rest = pair-map own map copy is_copy is_reverse part key value _ is;
        }

-- all pairs of the page were taken
module _ (own : OwnWrites) (page : Page) (is_reverse : Bool) (limit : ℕ)
    (before given : List (Point × List ℕ)) (range left : Range)
    (so_far : PagesSoFar own page is_reverse limit (length page.pairs) before range given left)
    (map copy : Map) (is_copy : IsCopyOf (left_at own) map copy) (first : HasFirst map range is_reverse page) where
  -- and further ones follow
  pub page-more : page.more ≡ true
      → TookPage map copy is_reverse limit (length page.pairs) page.more before range given left
  page-more more = record {
    goes_on = (so_far.1 map copy is_copy first).goes_on;
    rest = λ _. (so_far.1 map copy is_copy first).rest;
    ended = λ _ last. absurd (both_ways _ last more);
  }

  -- or there are no others
  all-taken : page.more ≡ false → drop (length page.pairs) (pairs_in map range is_reverse) ≡ []
  all-taken last = drop_all (length page.pairs) (pairs_in map range is_reverse) (ltb-false _ _ (sym first.more ∙ last))

  pub page-none : page.more ≡ false → HasNoValue map left
  page-none last = no_pairs map left is_reverse ((so_far.1 map copy is_copy first).rest ∙ all-taken last)

  pub page-last : (since : List (Point × List ℕ)) (part : Range)
      → TookOwn map copy is_reverse limit None given left since part
      → TookPage map copy is_reverse limit (length page.pairs) page.more before range since part
  page-last since part took = record {
    goes_on = goes_on-both copy is_reverse before given since range left
        part (so_far.1 map copy is_copy first).goes_on took.goes_on;
    rest = λ _. took.same ∙ (so_far.1 map copy is_copy first).rest;
    ended = λ room _. took.ahead room;
  }

-- ---- the whole read
-- the limit was reached: the rest doesn't matter
given-full : (copy : Map) (range left : Range) (is_reverse : Bool) (limit : ℕ) (given : List (Point × List ℕ))
    → GoesOn copy is_reverse [] range given left → is_limit_reached limit given ≡ true
    → given ≡ given_of copy range limit is_reverse
given-full copy range left is_reverse limit given goes full =
    let parts = and_parts (not (nat_eq limit 0)) (nat_eq (length given) limit) full in
    let count : length given ≡ limit = eqb-true (length given) limit parts.1 in
    sym (cond-false (nat_eq limit 0) _ _ (not-true (nat_eq limit 0) parts.0)
    ∙ ap (take limit) goes.pairs
    ∙ ap (λ (n : ℕ). take n (given ++ pairs_in copy left is_reverse)) (sym count)
    ∙ take-append-le (length given) given (pairs_in copy left is_reverse) (omega arith)
    ∙ take-length given)

-- nothing is left: all pairs were given
given-all : (copy : Map) (range left : Range) (is_reverse : Bool) (limit : ℕ) (given : List (Point × List ℕ))
    → GoesOn copy is_reverse [] range given left → IsWithin limit given → HasNoValue copy left
    → given ≡ given_of copy range limit is_reverse
given-all copy range left is_reverse limit given goes within none =
    sym (ap (first_of limit) all ∙ by_limit (nat_eq limit 0) refl)
  where
    all : pairs_in copy range is_reverse ≡ given
    all = goes.pairs ∙ ap (λ (rest : List (Point × List ℕ)). given ++ rest) (no_values copy left is_reverse none)
        ∙ append-nil given

    by_limit : (none : Bool) → nat_eq limit 0 ≡ none → first_of limit given ≡ given
    by_limit true is = cond-true (nat_eq limit 0) _ _ is
    by_limit false is = cond-false (nat_eq limit 0) _ _ is ∙ take_all limit given (within is)

pub read-start : (left_at : Point → Left) (map : Map) (range : Range) (is_reverse : Bool) (limit : ℕ)
    → ReadsOn left_at map range is_reverse limit [] range
read-start left_at map range is_reverse limit = record {
  within = λ some. omega arith;
  room = by_limit (nat_eq limit 0) refl;
  part = λ x inside. inside;
  goes_on = λ copy is_copy. goes_on-start copy is_reverse [] range;
}
  where
    by_limit : (none : Bool) → nat_eq limit 0 ≡ none → is_limit_reached limit [] ≡ false
    by_limit true is = ap (λ (test : Bool). not test && nat_eq 0 limit) is
    by_limit false is = ap (λ (test : Bool). not (nat_eq limit 0) && test) (other (cases_Bool (nat_eq 0 limit)))
        ∙ and_right (not (nat_eq limit 0)) false refl
      where
        other : (nat_eq 0 limit ≡ true) ⊎ (nat_eq 0 limit ≡ false) → nat_eq 0 limit ≡ false
        other (inr differs) = differs
        other (inl same) = absurd (both_ways _ is (eq-eqb limit 0 (sym (eqb-true 0 limit same))))

module _ (left_at : Point → Left) (map : Map) (range left : Range) (is_reverse : Bool) (limit : ℕ)
    (given since : List (Point × List ℕ)) (part : Range) (page : Page)
    (so_far : ReadsOn left_at map range is_reverse limit given left)
    (took : (copy : Map) → IsCopyOf left_at map copy
    → TookPage map copy is_reverse limit (length page.pairs) page.more given left since part) where
  read-goes : (copy : Map) → IsCopyOf left_at map copy → GoesOn copy is_reverse [] range since part
  read-goes copy is_copy = goes_on-both copy is_reverse [] given since range left part (so_far.goes_on copy is_copy)
      (took copy is_copy).goes_on

  read-fewer : (copy : Map) → IsCopyOf left_at map copy → HasFirst map left is_reverse page
      → (page.more ≡ true → 0 < length page.pairs) → page.more ≡ true → is_limit_reached limit since ≡ false
      → length (pairs_in map part is_reverse) < length (pairs_in map left is_reverse)
  read-fewer copy is_copy first some more room =
      let rest : length (pairs_in map part is_reverse)
      ≡ length (drop (length page.pairs) (pairs_in map left is_reverse)) = ap length ((took copy is_copy).rest room) in
      let fewer : length page.pairs < length (pairs_in map left is_reverse) = ltb-true _ _ (sym first.more ∙ more) in
      omega (arith, some more, fewer, rest, length-drop (length page.pairs) (pairs_in map left is_reverse))

  -- one more page was taken
  pub reads-page : (copy : Map) → IsCopyOf left_at map copy → HasFirst map left is_reverse page
      → (page.more ≡ true → 0 < length page.pairs) → IsWithin limit since
      → (more : Bool) → more ≡ (page.more && not (is_limit_reached limit since))
      → ReadsPage left_at map range is_reverse limit left since part more
  reads-page copy is_copy first some within true is =
      let parts = and_parts page.more (not (is_limit_reached limit since)) (sym is) in
      let room : is_limit_reached limit since ≡ false = not-true _ parts.1 in (
        record { within = within; room = room; part = (read-goes copy is_copy).part; goes_on = read-goes },
        read-fewer copy is_copy first some parts.0 room,
      )
  reads-page copy is_copy first some within false is = λ other is_other. ⊎_elim
      (λ (full : is_limit_reached limit since ≡ true).
      given-full other range part is_reverse limit since (read-goes other is_other) full)
      (λ (room : is_limit_reached limit since ≡ false).
      given-all other range part is_reverse limit since (read-goes other is_other) within
      ((took other is_other).ended room (last room)))
      (cases_Bool (is_limit_reached limit since))
    where
      last : is_limit_reached limit since ≡ false → page.more ≡ false
      last room = sym (and-true page.more) ∙ ap (λ (full : Bool). page.more && not full) (sym room) ∙ sym is

-- how a read is between two pages
abbrev pub ReadIs : (Point → Left) → Map → Range → Bool → ℕ → List (Point × List ℕ) → Range → Bool → Type 0
ReadIs left_at map range is_reverse limit given left true = ReadsOn left_at map range is_reverse limit given left
ReadIs left_at map range is_reverse limit given left false =
    (copy : Map) → IsCopyOf left_at map copy → given ≡ given_of copy range limit is_reverse

pub read-is : (left_at : Point → Left) (map : Map) (range : Range) (is_reverse : Bool) (limit : ℕ) (before : Range)
    (given : List (Point × List ℕ)) (left : Range) (more : Bool)
    → ReadsPage left_at map range is_reverse limit before given left more
    → ReadIs left_at map range is_reverse limit given left more
read-is left_at map range is_reverse limit before given left true reads = reads.0
read-is left_at map range is_reverse limit before given left false reads = reads

-- how many pairs of the map it may still take
abbrev pub left_over : Bool → ℕ → ℕ
left_over true pairs = pairs + 1
left_over false pairs = 0

pub left_over-smaller : (left_at : Point → Left) (map : Map) (range : Range) (is_reverse : Bool) (limit : ℕ)
    (before : Range) (given : List (Point × List ℕ)) (left : Range) (more : Bool)
    → ReadsPage left_at map range is_reverse limit before given left more
    → left_over more (length (pairs_in map left is_reverse)) < left_over true (length (pairs_in map before is_reverse))
left_over-smaller left_at map range is_reverse limit before given left true reads = omega (arith, reads.1)
left_over-smaller left_at map range is_reverse limit before given left false reads = omega arith

-- ---- what was given
-- its keys lie in the range
pub given-inside : (map : Map) (range : Range) (limit : ℕ) (is_reverse : Bool) (given : List (Point × List ℕ)) (i : ℕ)
    (pair : Point × List ℕ) → given ≡ given_of map range limit is_reverse → slice_get given i ≡ Some pair
    → in_range range pair.0 ≡ true
given-inside map range limit is_reverse given i pair are at =
    all_at (λ p. in_range range p.0 ≡ true) given (others (nat_eq limit 0)) i pair at
    (subst (AllByRecursion (λ p. in_range range p.0 ≡ true))
    (sym (ap (λ (first : List (Point × List ℕ)). first ++ others (nat_eq limit 0)) are ∙ parts (nat_eq limit 0)))
    (all_in-pairs_in map range is_reverse))
  where
    others : Bool → List (Point × List ℕ)
    others none = if none then [] else drop limit (pairs_in map range is_reverse)

    parts : (none : Bool) → (if none then pairs_in map range is_reverse else take limit (pairs_in map range is_reverse))
        ++ others none ≡ pairs_in map range is_reverse
    parts true = append-nil (pairs_in map range is_reverse)
    parts false = take-append-drop limit (pairs_in map range is_reverse)
