-- One key more of a read of a range: a key of the own writes, or the first pair of the map.
use Rattle.std.proofs.Common.{◌≡◌, ◌≢◌, ◌∙◌, sym, ap, refl, subst, ℕ, ◌≤◌, Bool, true, false, not, ◌&&◌, nat_eq, List}
use Rattle.std.proofs.Common.{[], ◌∷◌, ◌++◌, length, arith, Option, Some, None, if◌then◌else◌}
use Rattle.std.specs.FinMap.{get}
use Rattle.std.proofs.lemmas.Bool.{both_ways, eq-eqb}
use Rattle.std.proofs.lemmas.List.{append_assoc, length-append}
use Rattle.fdb_keys.specs.Cutting.{range_behind}
use Rattle.fdb_keys.specs.Points.{Point}
use Rattle.fdb_keys.specs.Ranges.{Range, in_range, in_set}
use Rattle.fdb_keys.proofs.Exports.{after_next, behind-inside, in_range_parts, in_range_from, below_next}
use Rattle.fdb_mutations.specs.Maps.{Map}
use Rattle.fdb_mutations.specs.Pairs.{is_limit_reached, pairs_in}
use Rattle.fdb_mutations.specs.PairLaws.{pair_of}
use Rattle.fdb_mutations.proofs.Exports.{first-inside, first-is, no_pairs, none-before, no_values, pairs_from_a_key_on}
use Rattle.fdb_client.specs.declared.left.Left.{Left}
use Rattle.fdb_client.specs.declared.left.Left.TheVariants.{Value, Changes}
use Rattle.fdb_client.specs.declared.own_writes.OwnWrites.{OwnWrites}
use Rattle.fdb_client.specs.LeftAt.{left_at, entry_of, HasNoEntry}
use Rattle.fdb_client.specs.Merging.{GoesOn, HasNoValue, IsCopyOf, IsFirstOwn, IsPartOf, IsWithin, LiesIn, TookOwn}
use Rattle.fdb_client.specs.Merging.{ahead_of}
use Rattle.fdb_client.specs.OwnWrites.{kept_of, value_over}

-- ---- parts of a range
pub part-part : (a b c : Range) → IsPartOf a b → IsPartOf b c → IsPartOf a c
part-part a b c first second x inside = second x (first x inside)

-- what comes before the next key lies in the range
ahead-part : (range : Range) (is_reverse : Bool) (next : Option Point) → LiesIn range next
    → IsPartOf (ahead_of range is_reverse next) range
ahead-part range is_reverse None lies x inside = inside
ahead-part range is_reverse (Some key) lies x inside = behind-inside range (not is_reverse) key lies x inside

-- what of it lies before a key of it is what of the range lies before that key
pub before-ahead : (range : Range) (is_reverse : Bool) (next : Option Point) (key : Point)
    → range_behind (ahead_of range is_reverse next) (not is_reverse) key ≡ range_behind range (not is_reverse) key
before-ahead range is_reverse None key = refl
before-ahead range false (Some other) key = refl
before-ahead range true (Some other) key = refl

-- and what of it lies behind the key is what then comes before the next key
behind-ahead : (range : Range) (is_reverse : Bool) (next : Option Point) (key : Point)
    → ahead_of (range_behind range is_reverse key) is_reverse next
    ≡ range_behind (ahead_of range is_reverse next) is_reverse key
behind-ahead range is_reverse None key = refl
behind-ahead range false (Some other) key = refl
behind-ahead range true (Some other) key = refl

-- the next key then still lies in the range
next-behind : (range : Range) (is_reverse : Bool) (next : Option Point) (key : Point) → LiesIn range next
    → in_range (ahead_of range is_reverse next) key ≡ true → LiesIn (range_behind range is_reverse key) next
next-behind range is_reverse None key lies inside = tt
next-behind range false (Some other) key lies inside =
    let here = in_range_parts (range_behind range true other) key inside in
    in_range_from (range_behind range false key) other (below_next key other ∙ ap not here.1)
    (in_range_parts range other lies).1
next-behind range true (Some other) key lies inside =
    let here = in_range_parts (range_behind range false other) key inside in
    in_range_from (range_behind range true key) other (in_range_parts range other lies).0
    (after_next other key here.0)

-- ---- what stands where nothing was written
untouched : (cleared : List Range) (x : Point) (found : Option Left) (old : Option (List ℕ)) → found ≡ None → old ≡ None
    → value_over (kept_of cleared x found) old ≡ None
untouched cleared x found old none absent =
    ap (λ (left : Option Left). value_over (kept_of cleared x left) old) none
    ∙ ap (value_over (kept_of cleared x None)) absent
    ∙ either (in_set cleared x)
  where
    either : (test : Bool) → value_over (if test then Value None else Changes []) None ≡ None
    either true = refl
    either false = refl

module _ (own : OwnWrites) (map copy : Map) (is_copy : IsCopyOf (left_at own) map copy) where
  -- where neither the map nor the writes have anything, the copy has nothing
  pub no-value : (range : Range) → HasNoEntry own range → HasNoValue map range → HasNoValue copy range
  no-value range no_entry absent x inside =
      is_copy x ∙ untouched own.cleared x (entry_of own x) (get map x) (no_entry x inside) (absent x inside)

  -- ---- a key of the own writes before the next key of the map
  module _ (is_reverse : Bool) (left : Range) (next : Option Point) (key : Point)
      (inside : in_range (ahead_of left is_reverse next) key ≡ true)
      (first : HasNoEntry own (range_behind (ahead_of left is_reverse next) (not is_reverse) key))
      (lies : LiesIn left next) (none : HasNoValue map (ahead_of left is_reverse next)) where
    pub own-inside : in_range left key ≡ true
    own-inside = ahead-part left is_reverse next lies key inside

    none_before : HasNoValue map (range_behind left (not is_reverse) key)
    none_before = subst (HasNoValue map) (before-ahead left is_reverse next key)
        (λ x there. none x (behind-inside (ahead_of left is_reverse next) (not is_reverse) key inside x there))

    -- the copy's pairs are that of the key and those behind it
    pub own-copy : pairs_in copy left is_reverse
        ≡ pair_of key (value_over (left_at own key) None) ++ pairs_in copy (range_behind left is_reverse key) is_reverse
    own-copy =
        pairs_from_a_key_on copy left is_reverse key own-inside
        (no_values copy (range_behind left (not is_reverse) key) is_reverse
        (no-value (range_behind left (not is_reverse) key)
        (subst (HasNoEntry own) (before-ahead left is_reverse next key) first) none_before))
        ∙ ap (λ (value : Option (List ℕ)).
        pair_of key value ++ pairs_in copy (range_behind left is_reverse key) is_reverse)
        (is_copy key ∙ ap (value_over (left_at own key)) (none key inside))

    -- and the map's pairs are those behind it
    pub own-map : pairs_in map (range_behind left is_reverse key) is_reverse ≡ pairs_in map left is_reverse
    own-map = sym (pairs_from_a_key_on map left is_reverse key own-inside
        (no_values map (range_behind left (not is_reverse) key) is_reverse none_before)
        ∙ ap (λ (value : Option (List ℕ)).
        pair_of key value ++ pairs_in map (range_behind left is_reverse key) is_reverse)
        (none key inside))

    pub own-lies : LiesIn (range_behind left is_reverse key) next
    own-lies = next-behind left is_reverse next key lies inside

    pub own-none : HasNoValue map (ahead_of (range_behind left is_reverse key) is_reverse next)
    own-none = subst (HasNoValue map) (sym (behind-ahead left is_reverse next key))
        (λ x there. none x (behind-inside (ahead_of left is_reverse next) is_reverse key inside x there))

  -- ---- the first pair of the map, once nothing comes before it
  module _ (is_reverse : Bool) (left : Range) (key : Point) (value : List ℕ) (rest : List (Point × List ℕ))
      (first : pairs_in map left is_reverse ≡ (key, value) ∷ rest) where
    pub pair-inside : in_range left key ≡ true
    pair-inside = first-inside map left key value rest is_reverse first

    pub pair-none : HasNoValue map (range_behind left (not is_reverse) key)
    pair-none = no_pairs map (range_behind left (not is_reverse) key) is_reverse
        (none-before map left key value rest is_reverse first)

    pub pair-map : pairs_in map (range_behind left is_reverse key) is_reverse ≡ rest
    pair-map = (first-is map left key value rest is_reverse first).1

    pub pair-copy : HasNoValue copy (range_behind left (not is_reverse) key) → pairs_in copy left is_reverse
        ≡ pair_of key (value_over (left_at own key) (Some value))
        ++ pairs_in copy (range_behind left is_reverse key) is_reverse
    pair-copy none =
        pairs_from_a_key_on copy left is_reverse key pair-inside
        (no_values copy (range_behind left (not is_reverse) key) is_reverse none)
        ∙ ap (λ (there : Option (List ℕ)).
        pair_of key there ++ pairs_in copy (range_behind left is_reverse key) is_reverse)
        (is_copy key ∙ ap (value_over (left_at own key)) (first-is map left key value rest is_reverse first).0)

-- ---- a read goes on
pub goes_on-start : (copy : Map) (is_reverse : Bool) (before : List (Point × List ℕ)) (range : Range)
    → GoesOn copy is_reverse before range before range
goes_on-start copy is_reverse before range = record { pairs = refl; part = λ x inside. inside }

pub goes_on-take : (copy : Map) (is_reverse : Bool) (before given more : List (Point × List ℕ))
    (range left part : Range)
    → GoesOn copy is_reverse before range given left → IsPartOf part left
    → pairs_in copy left is_reverse ≡ more ++ pairs_in copy part is_reverse
    → GoesOn copy is_reverse before range (given ++ more) part
goes_on-take copy is_reverse before given more range left part goes inside taken = record {
  pairs = goes.pairs ∙ ap (λ (pairs : List (Point × List ℕ)). given ++ pairs) taken
      ∙ sym (append_assoc given more (pairs_in copy part is_reverse));
  part = part-part part left range inside goes.part;
}

pub goes_on-both : (copy : Map) (is_reverse : Bool) (before given after : List (Point × List ℕ))
    (range left last : Range)
    → GoesOn copy is_reverse before range given left → GoesOn copy is_reverse given left after last
    → GoesOn copy is_reverse before range after last
goes_on-both copy is_reverse before given after range left last first second = record {
  pairs = first.pairs ∙ second.pairs;
  part = part-part last left range second.part first.part;
}

-- Some own keys were taken, all of them before the next key of the map.
pub record TookSoFar (map copy : Map) (is_reverse : Bool) (next : Option Point)
    (before : List (Point × List ℕ)) (range : Range) (given : List (Point × List ℕ)) (left : Range) : Type 0 where
  pub goes_on : GoesOn copy is_reverse before range given left
  pub same : pairs_in map left is_reverse ≡ pairs_in map range is_reverse
  pub none : HasNoValue map (ahead_of left is_reverse next)

pub so_far-start : (map copy : Map) (is_reverse : Bool) (next : Option Point) (given : List (Point × List ℕ))
    (range : Range) → HasNoValue map (ahead_of range is_reverse next)
    → TookSoFar map copy is_reverse next given range given range
so_far-start map copy is_reverse next given range none = record {
  goes_on = goes_on-start copy is_reverse given range;
  same = refl;
  none = none;
}

module _ (own : OwnWrites) (map copy : Map) (is_copy : IsCopyOf (left_at own) map copy) (is_reverse : Bool)
    (next : Option Point) (before given : List (Point × List ℕ)) (range left : Range)
    (so_far : TookSoFar map copy is_reverse next before range given left) (lies : LiesIn left next) where
  -- one more own key
  pub so_far-take : (key : Point) → in_range (ahead_of left is_reverse next) key ≡ true
      → HasNoEntry own (range_behind (ahead_of left is_reverse next) (not is_reverse) key)
      → TookSoFar map copy is_reverse next before range (given ++ pair_of key (value_over (left_at own key) None))
      (range_behind left is_reverse key)
  so_far-take key inside first = record {
    goes_on = goes_on-take copy is_reverse before given (pair_of key (value_over (left_at own key) None)) range left
        (range_behind left is_reverse key) so_far.goes_on
        (behind-inside left is_reverse key
        (own-inside own map copy is_copy is_reverse left next key inside first lies so_far.none))
        (own-copy own map copy is_copy is_reverse left next key inside first lies so_far.none);
    same = own-map own map copy is_copy is_reverse left next key inside first lies so_far.none ∙ so_far.same;
    none = own-none own map copy is_copy is_reverse left next key inside first lies so_far.none;
  }

  -- no own key is left before the next key of the map
  pub took-all : (limit : ℕ) → HasNoEntry own (ahead_of left is_reverse next)
      → TookOwn map copy is_reverse limit next before range given left
  took-all limit no_entry = record {
    goes_on = so_far.goes_on;
    lies_in = lies;
    same = so_far.same;
    ahead = λ _. no-value own map copy is_copy (ahead_of left is_reverse next) no_entry so_far.none;
  }

  -- or the limit was reached
  pub took-full : (limit : ℕ) → is_limit_reached limit given ≡ true
      → TookOwn map copy is_reverse limit next before range given left
  took-full limit full = record {
    goes_on = so_far.goes_on;
    lies_in = lies;
    same = so_far.same;
    ahead = λ some. absurd (both_ways _ some full);
  }

-- a pair more, where the limit wasn't reached
pub within-take : (limit : ℕ) (given : List (Point × List ℕ)) (key : Point) (value : Option (List ℕ))
    → is_limit_reached limit given ≡ false → IsWithin limit given → IsWithin limit (given ++ pair_of key value)
within-take limit given key value room within some =
    let fits : length given ≤ limit = within some in
    let differs : nat_eq (length given) limit ≡ false =
    sym (ap (λ (none : Bool). not none && nat_eq (length given) limit) some) ∙ room in
    let other : length given ≢ limit = λ same. both_ways _ differs (eq-eqb (length given) limit same) in
    omega (arith, fits, other, one_more value, length-append given (pair_of key value))
  where
    one_more : (value : Option (List ℕ)) → length (pair_of key value) ≤ 1
    one_more None = omega arith
    one_more (Some there) = omega arith

-- ---- the own keys before the next key of the map, one by one
abbrev pub OwnSoFar : OwnWrites → Bool → ℕ → Option Point → List (Point × List ℕ) → Range → List (Point × List ℕ)
    → Range → Type 0
OwnSoFar own is_reverse limit next before range given left =
    IsWithin limit given × LiesIn left next
    × ((map copy : Map) → IsCopyOf (left_at own) map copy → HasNoValue map (ahead_of range is_reverse next)
    → TookSoFar map copy is_reverse next before range given left)

pub own-start : (own : OwnWrites) (is_reverse : Bool) (limit : ℕ) (next : Option Point)
    (given : List (Point × List ℕ)) (range : Range) → IsWithin limit given → LiesIn range next
    → OwnSoFar own is_reverse limit next given range given range
own-start own is_reverse limit next given range within lies =
    (within, lies, λ map copy is_copy none. so_far-start map copy is_reverse next given range none)

module _ (own : OwnWrites) (is_reverse : Bool) (limit : ℕ) (next : Option Point)
    (before given : List (Point × List ℕ)) (range left : Range)
    (so_far : OwnSoFar own is_reverse limit next before range given left) where
  pub own-take : (key : Point) → IsFirstOwn own (ahead_of left is_reverse next) is_reverse (Some key)
      → is_limit_reached limit given ≡ false
      → OwnSoFar own is_reverse limit next before range (given ++ pair_of key (value_over (left_at own key) None))
      (range_behind left is_reverse key)
  own-take key first room = (
    within-take limit given key (value_over (left_at own key) None) room so_far.0,
    next-behind left is_reverse next key so_far.1 first.0,
    λ map copy is_copy none. so_far-take own map copy is_copy is_reverse next before given range left
        (so_far.2 map copy is_copy none) so_far.1 key first.0 first.2,
  )

  pub own-all : IsFirstOwn own (ahead_of left is_reverse next) is_reverse None → (map copy : Map)
      → IsCopyOf (left_at own) map copy → HasNoValue map (ahead_of range is_reverse next)
      → TookOwn map copy is_reverse limit next before range given left
  own-all no_entry map copy is_copy none = took-all own map copy is_copy is_reverse next before given range left
      (so_far.2 map copy is_copy none) so_far.1 limit no_entry

  pub own-full : is_limit_reached limit given ≡ true → (map copy : Map)
      → IsCopyOf (left_at own) map copy → HasNoValue map (ahead_of range is_reverse next)
      → TookOwn map copy is_reverse limit next before range given left
  own-full full map copy is_copy none = took-full own map copy is_copy is_reverse next before given range left
      (so_far.2 map copy is_copy none) so_far.1 limit full
