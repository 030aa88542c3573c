-- What a resolver holds of a place, while the place's parts are given out one by one.
use Rattle.std.proofs.Common.{◌≡◌, ◌∙◌, sym, ap, ap₂, subst, refl, ℕ, zero, suc, ◌+◌, ◌-◌, ◌<◌, ◌==◌, Bool, true}
use Rattle.std.proofs.Common.{false, ◌&&◌}
use Rattle.std.proofs.Common.{◌||◌, List, [], ◌∷◌, ◌++◌, append-nil, length, length-append, slice_get, get_or, set}
use Rattle.std.proofs.Common.{drop, Option, Some, None}
use Rattle.std.proofs.Common.{⊎_elim, arith, Vec}
use Rattle.std.specs.Option.{option_to_list}
use Rattle.std.specs.List.{AllByRecursion}
use Rattle.std.specs.declared.alloc.Global.{Global}
use Rattle.std.proofs.lemmas.Bool.{or_left, or_right, false_from_ne_true, both_ways, cases_Bool, eqb-true}
use Rattle.std.proofs.lemmas.Bool.{eqb-false, eq-eqb}
use Rattle.std.proofs.lemmas.List.{set_at}
use Rattle.std.proofs.lemmas.List.Folds.{list_any-append}
use Rattle.std.proofs.Math.Bool.{or-false}
use Rattle.fdb_keys.specs.Points.{Point}
use Rattle.fdb_keys.specs.Ranges.{Range, in_set}
use Rattle.fdb_keys.proofs.Exports.{all-append, all-weaken}
use Rattle.fdb_txn.specs.book.Book.{Place}
use Rattle.fdb_txn.specs.rules.Admission.{has_points}
use Rattle.fdb_txn.proofs.Exports.{points_from-in_set, point_of-set}
use Rattle.fdb_owners.specs.declared.parts.Owned.{Owned}
use Rattle.fdb_owners.specs.Spreads.{is_held}
use Rattle.fdb_resolver.specs.declared.part.Item.{Item}
use Rattle.fdb_proxy.specs.declared.parting.Kind.{Kind}
use Rattle.fdb_proxy.specs.declared.parting.Kind.TheVariants.{Reads, Writes}
use Rattle.fdb_proxy.specs.declared.parting.Reading.{Reading}
use Rattle.fdb_proxy.specs.declared.parting.Spread.{Spread}
use Rattle.fdb_proxy.specs.Spreads.{IsSpreadOf, IsItemIfAsked}
use Rattle.fdb_proxy.specs.Held.{Held, is_kind, with_ranges, with_parts, IsItemWith, IsItemSoFar}
use Rattle.fdb_proxy.specs.Held.{EndsWithItem, IsBelow, is_at, items_at}
use Rattle.fdb_proxy.proofs.PartingLemmas.{unasked, asked}

-- the items of a resolver are those of its list
pub items_at-is : (lists : List (Vec Item Global)) (i : ℕ) (d : Vec Item Global) → i < length lists
    → items_at lists i ≡ (get_or lists i d).items
items_at-is [] i d within = absurd (omega (arith, within))
items_at-is (items ∷ lists) zero d within = refl
items_at-is (items ∷ lists) (suc i) d within = items_at-is lists i d (omega (arith, within))

-- after one of the lists was changed
pub items_at-set_same : (lists : List (Vec Item Global)) (i : ℕ) (items : Vec Item Global) → i < length lists
    → items_at (set lists i items) i ≡ items.items
items_at-set_same [] i items within = absurd (omega (arith, within))
items_at-set_same (first ∷ lists) zero items within = refl
items_at-set_same (first ∷ lists) (suc i) items within = items_at-set_same lists i items (omega (arith, within))

pub items_at-set_other : (lists : List (Vec Item Global)) (i j : ℕ) (items : Vec Item Global) → (j == i) ≡ false
    → items_at (set lists j items) i ≡ items_at lists i
items_at-set_other [] i j items other = refl
items_at-set_other (first ∷ lists) zero zero items other = absurd (both_ways (0 == 0) other refl)
items_at-set_other (first ∷ lists) zero (suc j) items other = refl
items_at-set_other (first ∷ lists) (suc i) zero items other = refl
items_at-set_other (first ∷ lists) (suc i) (suc j) items other =
    items_at-set_other lists i j items
    (false_from_ne_true _ (λ same. let equal = eqb-true j i same in
    both_ways (suc j == suc i) other (eq-eqb (suc j) (suc i) (omega (arith, equal)))))

-- one list more
pub items_at-push_same : (lists : List (Vec Item Global)) (i : ℕ) (items : Vec Item Global) → length lists ≡ i
    → items_at (lists ++ items ∷ []) i ≡ items.items
items_at-push_same [] zero items count = refl
items_at-push_same [] (suc i) items count = absurd (omega (arith, count))
items_at-push_same (first ∷ lists) zero items count = absurd (omega (arith, count))
items_at-push_same (first ∷ lists) (suc i) items count = items_at-push_same lists i items (omega (arith, count))

pub items_at-push_other : (lists : List (Vec Item Global)) (i : ℕ) (items : Vec Item Global) → i < length lists
    → items_at (lists ++ items ∷ []) i ≡ items_at lists i
items_at-push_other [] i items within = absurd (omega (arith, within))
items_at-push_other (first ∷ lists) zero items within = refl
items_at-push_other (first ∷ lists) (suc i) items within = items_at-push_other lists i items (omega (arith, within))

-- none of the items of earlier places is of this one
below-not_at : (number : ℕ) (items : List Item) (i : ℕ) → AllByRecursion (IsBelow number) items
    → is_at number (slice_get items i) ≡ false
below-not_at number [] i below = refl
below-not_at number (item ∷ items) zero below =
    false_from_ne_true _ (λ same. let equal = eqb-true item.place number same in absurd (omega (arith, equal, below.0)))
below-not_at number (item ∷ items) (suc i) below = below-not_at number items i below.1

-- the last item
last-is : (items : List Item) (item : Item)
    → slice_get (items ++ item ∷ []) (length (items ++ item ∷ []) - 1) ≡ Some item
last-is [] item = refl
last-is (first ∷ items) item =
    ap (λ (i : ℕ). slice_get (first ∷ items ++ item ∷ []) i)
    (let count = length-append items (item ∷ []) in
    let same : length (first ∷ items ++ item ∷ []) - 1 ≡ suc (length (items ++ item ∷ []) - 1) = omega (arith, count) in
    same)
    ∙ last-is items item

-- where there is an item of the place, the list has one
pub some-at : (number : ℕ) (items : List Item) (i : ℕ) → is_at number (slice_get items i) ≡ true → 0 < length items
some-at number [] i here = cc
some-at number (item ∷ items) i here = omega arith

-- what is held alike makes the same items
pub so_far-same : (number : ℕ) (reading : Reading) (one other : Held) (same : (kind : Kind) (x : Point)
    → one kind x ≡ other kind x) (item : Option Item) → IsItemSoFar number reading one item
    → IsItemSoFar number reading other item
so_far-same number reading one other same None none = λ kind x. sym (same kind x) ∙ none kind x
so_far-same number reading one other same (Some item) it =
    record {
      has = record {
        place = it.has.place;
        read = it.has.read;
        has_reads = it.has.has_reads;
        reads = λ x. it.has.reads x ∙ same Reads x;
        writes = λ x. it.has.writes x ∙ same Writes x;
      };
      some = (it.some.0, it.some.1, sym (same it.some.0 it.some.1) ∙ it.some.2);
    }

pub ends-same : (number : ℕ) (reading : Reading) (one other : Held) (before items : List Item)
    → ((kind : Kind) (x : Point) → one kind x ≡ other kind x) → EndsWithItem number reading one before items
    → EndsWithItem number reading other before items
ends-same number reading one other before items same ends =
    (ends.0, ends.1, so_far-same number reading one other same ends.0 ends.2)

-- an item where nothing of the place was held
module _ (number : ℕ) (reading : Reading) (held : Held) (before items now : List Item) (index : ℕ)
    (below : AllByRecursion (IsBelow number) before) (ends : EndsWithItem number reading held before items) where
  -- the items end with its item after one was pushed that has nothing
  pub opened-new : (item : Item) → is_at number (slice_get items (length items - 1)) ≡ false
      → now ≡ items ++ item ∷ [] → index ≡ length now - 1 → item.place ≡ number
      → item.read_version ≡ reading.read_version → item.has_reads ≡ reading.has_reads → item.reads ≡ []
      → item.writes ≡ []
      → (it : Item) × (now ≡ before ++ it ∷ []) × (index ≡ length before) × IsItemWith number reading held it
  opened-new item not_at pushed at place read has_reads no_reads no_writes =
      from ends.0 ends.1 ends.2
    where
      from : (given : Option Item) → items ≡ before ++ option_to_list given → IsItemSoFar number reading held given
          → (it : Item) × (now ≡ before ++ it ∷ []) × (index ≡ length before) × IsItemWith number reading held it
      from None is none =
          let same : items ≡ before = is ∙ append-nil before in
          let pushed_to : now ≡ before ++ item ∷ [] = pushed ∙ ap (λ (list : List Item). list ++ item ∷ []) same in
          let count = ap (λ (list : List Item). length list) pushed_to in
          let sum = length-append before (item ∷ []) in (
            item,
            pushed_to,
            omega (arith, at, count, sum),
            record {
              place = place;
              read = read;
              has_reads = has_reads;
              reads = λ x. ap (λ (set : List Range). in_set set x) no_reads ∙ sym (none Reads x);
              writes = λ x. ap (λ (set : List Range). in_set set x) no_writes ∙ sym (none Writes x);
            },
          )
      from (Some last) is it =
          let there : slice_get items (length items - 1) ≡ Some last =
          ap (λ (list : List Item). slice_get list (length list - 1)) is ∙ last-is before last in
          absurd (both_ways (is_at number (slice_get items (length items - 1))) not_at
          (ap (is_at number) there ∙ eq-eqb last.place number it.has.place))

  -- and they do where it was there
  pub opened-old : is_at number (slice_get items (length items - 1)) ≡ true → now ≡ items → index ≡ length now - 1
      → (it : Item) × (now ≡ before ++ it ∷ []) × (index ≡ length before) × IsItemWith number reading held it
  opened-old here same at = from ends.0 ends.1 ends.2
    where
      from : (given : Option Item) → items ≡ before ++ option_to_list given → IsItemSoFar number reading held given
          → (it : Item) × (now ≡ before ++ it ∷ []) × (index ≡ length before) × IsItemWith number reading held it
      from None is none =
          let nothing : items ≡ before = is ∙ append-nil before in
          absurd (both_ways (is_at number (slice_get items (length items - 1)))
          (ap (λ (list : List Item). is_at number (slice_get list (length list - 1))) nothing
          ∙ below-not_at number before (length before - 1) below) here)
      from (Some last) is it =
          let all : now ≡ before ++ last ∷ [] = same ∙ is in
          let count = ap (λ (list : List Item). length list) all in
          let sum = length-append before (last ∷ []) in
          (last, all, omega (arith, at, count, sum), it.has)

is_kind-itself : (kind : Kind) → is_kind kind kind ≡ true
is_kind-itself Reads = refl
is_kind-itself Writes = refl

-- a part's ranges came to the last item
pub ends-held : (number : ℕ) (reading : Reading) (held : Held) (before items now : List Item) (index : ℕ)
    (item later : Item) (kind : Kind) (ranges : List Range) → has_points ranges ≡ true
    → items ≡ before ++ item ∷ [] → index ≡ length before → now ≡ set items index later
    → IsItemWith number reading (with_ranges kind ranges held) later
    → EndsWithItem number reading (with_ranges kind ranges held) before now
ends-held number reading held before items now index item later kind ranges some is at sets with =
    let point = point_of-set ranges some in (
      Some later,
      sets ∙ ap (λ (list : List Item). set list index later) is ∙ set_at before item [] later index (sym at),
      record {
        has = with;
        some = (kind, point.0, or_left _ _ (ap₂ (λ (a b : Bool). a && b) (is_kind-itself kind) point.1));
      },
    )

-- no part gives nothing more
pub with_parts-none : (kind : Kind) (i : ℕ) (held : Held) (other : Kind) (x : Point)
    → held other x ≡ with_parts kind [] i held other x
with_parts-none Reads i held Reads x = refl
with_parts-none Reads i held Writes x = refl
with_parts-none Writes i held Reads x = refl
with_parts-none Writes i held Writes x = refl

-- one part more, which is the resolver's
pub with_parts-own : (kind : Kind) (parts : List Owned) (part : Owned) (i : ℕ) (held : Held)
    → (part.resolver == i) ≡ true → (other : Kind) (x : Point)
    → with_ranges kind part.ranges (with_parts kind parts i held) other x
    ≡ with_parts kind (parts ++ part ∷ []) i held other x
with_parts-own kind parts part i held own other x =
    regroup (is_kind other kind) (in_set part.ranges x) (is_held parts i x) (held other x)
    ∙ ap (λ (b : Bool). is_kind other kind && b || held other x)
    (sym (list_any-append (λ (one : Owned). (one.resolver == i) && in_set one.ranges x) parts (part ∷ [])
    ∙ ap (λ (b : Bool). is_held parts i x || (b && in_set part.ranges x || false)) own
    ∙ ap (λ (b : Bool). is_held parts i x || b) (or-false (in_set part.ranges x))))
  where
    regroup : (k r p h : Bool) → (k && r || (k && p || h)) ≡ (k && (p || r) || h)
    regroup false r p h = refl
    regroup true true true h = refl
    regroup true true false h = refl
    regroup true false true h = refl
    regroup true false false h = refl

-- and which isn't
pub with_parts-other : (kind : Kind) (parts : List Owned) (part : Owned) (i : ℕ) (held : Held)
    → (part.resolver == i) ≡ false → (other : Kind) (x : Point)
    → with_parts kind parts i held other x ≡ with_parts kind (parts ++ part ∷ []) i held other x
with_parts-other kind parts part i held not_own other x =
    ap (λ (b : Bool). is_kind other kind && b || held other x)
    (sym (list_any-append (λ (one : Owned). (one.resolver == i) && in_set one.ranges x) parts (part ∷ [])
    ∙ ap (λ (b : Bool). is_held parts i x || (b && in_set part.ranges x || false)) not_own
    ∙ or-false (is_held parts i x)))

-- one part more was given out
pub held-next : (number : ℕ) (reading : Reading) (kind : Kind) (parts more : List Owned) (part : Owned) (i : ℕ)
    (held : Held) (before : List Item) (lists now : List (Vec Item Global)) (items : Vec Item Global)
    → more ≡ parts ++ part ∷ [] → part.resolver < length lists → now ≡ set lists part.resolver items
    → EndsWithItem number reading (with_parts kind parts i held) before (items_at lists i)
    → ((one : Held) → EndsWithItem number reading one before (items_at lists part.resolver)
    → EndsWithItem number reading (with_ranges kind part.ranges one) before items.items)
    → EndsWithItem number reading (with_parts kind more i held) before (items_at now i)
held-next number reading kind parts more part i held before lists now items adds within sets ends step =
    subst (λ (all : List Owned). EndsWithItem number reading (with_parts kind all i held) before (items_at now i))
    (sym adds)
    (⊎_elim
    (λ (own : (part.resolver == i) ≡ true).
    let same : part.resolver ≡ i = eqb-true part.resolver i own in
    ends-same number reading (with_ranges kind part.ranges (with_parts kind parts i held))
    (with_parts kind (parts ++ part ∷ []) i held) before (items_at now i)
    (with_parts-own kind parts part i held own)
    (subst (EndsWithItem number reading (with_ranges kind part.ranges (with_parts kind parts i held)) before)
    (sym (ap (λ (all : List (Vec Item Global)). items_at all i) sets
    ∙ ap (items_at (set lists part.resolver items)) (sym same)
    ∙ items_at-set_same lists part.resolver items within))
    (step (with_parts kind parts i held)
    (subst (EndsWithItem number reading (with_parts kind parts i held) before) (ap (items_at lists) (sym same)) ends))))
    (λ (not_own : (part.resolver == i) ≡ false).
    ends-same number reading (with_parts kind parts i held)
    (with_parts kind (parts ++ part ∷ []) i held) before (items_at now i)
    (with_parts-other kind parts part i held not_own)
    (subst (EndsWithItem number reading (with_parts kind parts i held) before)
    (sym (ap (λ (all : List (Vec Item Global)). items_at all i) sets
    ∙ items_at-set_other lists i part.resolver items not_own)) ends))
    (cases_Bool (part.resolver == i)))

-- at first nothing of a place is held
abbrev pub nothing_held : Held
nothing_held kind x = false

pub ends-at_first : (number : ℕ) (reading : Reading) (items : List Item)
    → EndsWithItem number reading nothing_held items items
ends-at_first number reading items = (None, sym (append-nil items), λ kind x. refl)

-- what resolver i holds of the whole place
abbrev pub all_held : Spread → ℕ → Held
all_held spread i = with_parts Writes spread.writes i (with_parts Reads spread.reads i nothing_held)

all_held-reads : (spread : Spread) (i : ℕ) (x : Point) → all_held spread i Reads x ≡ is_held spread.reads i x
all_held-reads spread i x = or-false (is_held spread.reads i x)

all_held-writes : (spread : Spread) (i : ℕ) (x : Point) → all_held spread i Writes x ≡ is_held spread.writes i x
all_held-writes spread i x = or-false (is_held spread.writes i x)

-- the place's item is then what the resolver is sent
item-whole : (splits : List Point) (i number : ℕ) (place : Place) (spread : Spread) → IsSpreadOf splits place spread
    → (item : Option Item) → IsItemSoFar number spread.reading (all_held spread i) item
    → IsItemIfAsked splits i number place item
item-whole splits i number place spread are None none =
    unasked splits i place spread [] [] are (λ x. sym (none Reads x) ∙ all_held-reads spread i x)
    (λ x. sym (none Writes x) ∙ all_held-writes spread i x) refl refl
item-whole splits i number place spread are (Some item) it =
    let of_reads : (x : Point) → in_set item.reads x ≡ is_held spread.reads i x =
    λ x. it.has.reads x ∙ all_held-reads spread i x in
    let of_writes : (x : Point) → in_set item.writes x ≡ is_held spread.writes i x =
    λ x. it.has.writes x ∙ all_held-writes spread i x in (
      asked splits i place spread item.reads item.writes are of_reads of_writes
          (some-points it.some.0 it.some.1 it.some.2),
      it.has.place,
      record {
        read = it.has.read ∙ are.read;
        has_reads = it.has.has_reads ∙ are.has_reads;
        reads = λ x. of_reads x ∙ are.reads i x;
        writes = λ x. of_writes x ∙ are.writes i x;
      },
    )
  where
    some-points : (kind : Kind) (x : Point) → all_held spread i kind x ≡ true
        → (has_points item.reads || has_points item.writes) ≡ true
    some-points Reads x held =
        or_left (has_points item.reads) (has_points item.writes)
        (points_from-in_set item.reads x (it.has.reads x ∙ held))
    some-points Writes x held =
        or_right (has_points item.reads) (has_points item.writes)
        (points_from-in_set item.writes x (it.has.writes x ∙ held))

pub place-whole : (number : ℕ) (spread : Spread) (i : ℕ) (before items : List Item)
    → AllByRecursion (IsBelow number) before → EndsWithItem number spread.reading (all_held spread i) before items
    → (item : Option Item) × (items ≡ before ++ option_to_list item) × AllByRecursion (IsBelow (suc number)) items
    × ((splits : List Point) (of : Place) → IsSpreadOf splits of spread → IsItemIfAsked splits i number of item)
place-whole number spread i before items below ends = (
  ends.0,
  ends.1,
  subst (AllByRecursion (IsBelow (suc number))) (sym ends.1)
      (all-append (IsBelow (suc number)) before (option_to_list ends.0)
      (all-weaken _ _ (λ (one : Item) earlier. omega (arith, earlier)) before below) (its-place ends.0 ends.2)),
  λ splits of are. item-whole splits i number of spread are ends.0 ends.2,
)
  where
    its-place : (item : Option Item) → IsItemSoFar number spread.reading (all_held spread i) item
        → AllByRecursion (IsBelow (suc number)) (option_to_list item)
    its-place None none = tt
    its-place (Some item) it = let place = it.has.place in (omega (arith, place), tt)

-- one list without items more
pub empty-next : (lists now : List (Vec Item Global)) (items : Vec Item Global) (n : ℕ) → length lists ≡ n
    → ((i : ℕ) → i < n → items_at lists i ≡ []) → items.items ≡ [] → now ≡ lists ++ items ∷ [] → (i : ℕ) → i < n + 1
    → items_at now i ≡ []
empty-next lists now items n count empty none adds i within = ⊎_elim
    (λ (last : (i == n) ≡ true). let same = eqb-true i n last in
    ap (λ (all : List (Vec Item Global)). items_at all i) adds
    ∙ items_at-push_same lists i items (omega (arith, same, count)) ∙ none)
    (λ (other : (i == n) ≡ false).
    let earlier = eqb-false i n other in
    let below : i < n = omega (arith, within, earlier) in
    ap (λ (all : List (Vec Item Global)). items_at all i) adds
    ∙ items_at-push_other lists i items (omega (arith, below, count)) ∙ empty i below)
    (cases_Bool (i == n))

-- the lists that are left begin with that of the next number
pub next-left : (lists : List (Vec Item Global)) (n : ℕ) (items : Vec Item Global) (rest : List (Vec Item Global))
    → drop n lists ≡ items ∷ rest
    → (n < length lists) × (rest ≡ drop (suc n) lists) × (items_at lists n ≡ items.items)
next-left [] zero items rest is = cc
next-left [] (suc n) items rest is = cc
next-left (first ∷ lists) zero items rest is =
    let same : first ≡ items = cc in
    let others : lists ≡ rest = cc in
    (omega arith, sym others, ap (λ (list : Vec Item Global). list.items) same)
next-left (first ∷ lists) (suc n) items rest is =
    let later = next-left lists n items rest is in
    let within = later.0 in
    (omega (arith, within), later.1, later.2)
