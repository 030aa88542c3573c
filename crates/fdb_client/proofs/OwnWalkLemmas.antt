-- A walk along the own writes of a range: how it begins, and what it passes.
use Rattle.std.proofs.Common.{◌≡◌, ◌∙◌, sym, ap, ap₂, refl, subst, ⊎_elim, Bool, true, false, not, cond}
use Rattle.std.proofs.Common.{Bor, List, [], ◌∷◌, filter, reverse, Option, Some, None, Less, Equal, Greater}
use Rattle.std.specs.Ordering.{nat_cmp, is_lt, is_eq, ordering_reverse}
use Rattle.std.specs.declared.cmp.Ordering.{Ordering}
use Rattle.std.specs.Cmp.Lexicographic.{slice_cmp, bytes_decides}
use Rattle.std.specs.BTreeMap.{IsOrdered}
use Rattle.std.specs.BTreeMap.Range.{entries_between}
use Rattle.std.specs.declared.ops.Bound.TheVariants.{Included, Excluded}
use Rattle.std.specs.List.{AllByRecursion}
use Rattle.std.specs.List.Sorted.{IsStrictlySortedBy}
use Rattle.std.specs.Map.{keys_of}
use Rattle.std.specs.Option.{option_copied}
use Rattle.std.specs.Prelude.{is_some}
use Rattle.std.proofs.lemmas.Bool.{cases_Bool, both_ways, cond-true, cond-false}
use Rattle.std.proofs.lemmas.Cmp.{nat_list_cmp_total}
use Rattle.std.proofs.lemmas.List.{reverse-append, reverse-reverse}
use Rattle.std.proofs.lemmas.Map.Text.{is_eq-slice_cmp}
use Rattle.std.proofs.lemmas.Option.{none-some}
use Rattle.fdb_keys.specs.Cutting.{range_behind}
use Rattle.fdb_keys.specs.Ordered.{AreOrdered}
use Rattle.fdb_keys.specs.Points.{Point, point_eq, point_lt}
use Rattle.fdb_keys.specs.Ranges.{Range, in_range}
use Rattle.fdb_keys.specs.Texts.{is_key}
use Rattle.fdb_keys.proofs.Exports.{after_next, all-filter, all-weaken, behind-inside, below_next, in_range_from}
use Rattle.fdb_keys.proofs.Exports.{in_range_parts, le_lt_chain, lt-itself, lt_chain, lt_le_chain}
use Rattle.fdb_keys.proofs.Exports.{lt_one_way, not_behind-itself, ordered-push}
use Rattle.fdb_mutations.proofs.Exports.{all-passes, all-reverse, between-within, ordered-filter}
use Rattle.fdb_client.specs.declared.left.Left.{Left}
use Rattle.fdb_client.specs.declared.own_walk.OwnWalk.{OwnWalk}
use Rattle.fdb_client.specs.declared.own_writes.OwnWrites.{OwnWrites}
use Rattle.fdb_client.specs.LeftAt.{entry_of, left_at, HasNoEntry}
use Rattle.fdb_client.specs.Merging.{IsFirstOwn, LiesIn, ahead_of}
use Rattle.fdb_client.specs.OwnWalk.{AreEntriesOf, IsAt, IsKeyOf, behind_last, comes_before, entry_at}
use Rattle.fdb_client.specs.OwnWalk.{in_order, is_ahead, left_of, past, to_come}
use Rattle.fdb_client.specs.OwnWrites.{kept_of}
use Rattle.fdb_client.proofs.LeftAtLemmas.{found}
use Rattle.fdb_client.proofs.MergingLemmas.{before-ahead}

-- ---- points before and behind a key
-- what lies behind a key comes after it
behind-comes : (range : Range) (is_reverse : Bool) (key x : Point)
    → in_range (range_behind range is_reverse key) x ≡ true → comes_before is_reverse key x ≡ true
behind-comes range false key x there = after_next key x (in_range_parts (range_behind range false key) x there).0
behind-comes range true key x there = (in_range_parts (range_behind range true key) x there).1

-- and a point of the range that comes after it lies behind it
pub comes-behind : (range : Range) (is_reverse : Bool) (key x : Point) → in_range range x ≡ true
    → comes_before is_reverse key x ≡ true → in_range (range_behind range is_reverse key) x ≡ true
comes-behind range false key x inside after =
    in_range_from (range_behind range false key) x (below_next key x ∙ ap not after)
    (in_range_parts range x inside).1
comes-behind range true key x inside after =
    in_range_from (range_behind range true key) x (in_range_parts range x inside).0 after

-- it doesn't come before the key, too
one_way : (is_reverse : Bool) (x y : Point) → comes_before is_reverse x y ≡ true → comes_before is_reverse y x ≡ false
one_way false x y before = lt_one_way x y before
one_way true x y before = lt_one_way y x before

chain : (is_reverse : Bool) (x y z : Point) → comes_before is_reverse x y ≡ true → comes_before is_reverse y z ≡ true
    → comes_before is_reverse x z ≡ true
chain false x y z first second = lt_chain x y z first second
chain true x y z first second = lt_chain z y x second first

comes-itself : (is_reverse : Bool) (x : Point) → comes_before is_reverse x x ≡ false
comes-itself false x = lt-itself x
comes-itself true x = lt-itself x

turned : (is_reverse : Bool) (x y : Point) → comes_before (not is_reverse) y x ≡ comes_before is_reverse x y
turned false x y = refl
turned true x y = refl

-- a point that one comes before is another one
differs : (is_reverse : Bool) (x y : Point) → comes_before is_reverse x y ≡ true → point_eq x y ≡ false
differs is_reverse x y before = ⊎_elim
    (λ (same : point_eq x y ≡ true). absurd (both_ways _ (comes-itself is_reverse x)
    (ap (comes_before is_reverse x) ((bytes_decides x y).0 same) ∙ before)))
    (λ other. other) (cases_Bool (point_eq x y))

-- what lies behind a key isn't the key
not-itself : (range : Range) (is_reverse : Bool) (key x : Point)
    → in_range (range_behind range is_reverse key) x ≡ true → point_eq x key ≡ false
not-itself range is_reverse key x there = ⊎_elim
    (λ (same : point_eq x key ≡ true). absurd (both_ways _ (not_behind-itself range is_reverse key)
    (ap (in_range (range_behind range is_reverse key)) (sym ((bytes_decides x key).0 same)) ∙ there)))
    (λ other. other) (cases_Bool (point_eq x key))

-- what lies behind the last key and then behind another one is what lies behind that one
pub behind-behind : (range : Range) (is_reverse : Bool) (last : Option Point) (key : Point)
    → range_behind (behind_last range is_reverse last) is_reverse key ≡ range_behind range is_reverse key
behind-behind range is_reverse None key = refl
behind-behind range false (Some last) key = refl
behind-behind range true (Some last) key = refl

-- ---- entries in an order
-- The list has the entries of the range, in the order in which it is read.
record Lists (own : OwnWrites) (range : Range) (is_reverse : Bool) (list : List (Point × Left)) : Type 0 where
  ordered : AreOrdered (λ (a b : Point × Left). comes_before is_reverse a.0 b.0 ≡ true) list
  inside : AllByRecursion (λ (entry : Point × Left). in_range range entry.0 ≡ true) list
  are : AllByRecursion (λ (entry : Point × Left). entry_of own entry.0 ≡ Some entry.1) list
  others : (x : Point) → in_range range x ≡ true
      → AllByRecursion (λ (entry : Point × Left). point_eq x entry.0 ≡ false) list → entry_of own x ≡ None

-- what holds of two things holds of both
all-both : {A : Type 0} (P Q R : A → Type 0) → ((x : A) → P x → Q x → R x) → (xs : List A) → AllByRecursion P xs
    → AllByRecursion Q xs → AllByRecursion R xs
all-both P Q R step [] ps qs = tt
all-both P Q R step (x ∷ xs) ps qs = (step x ps.0 qs.0, all-both P Q R step xs ps.1 qs.1)

are_entries : (own : OwnWrites) (range : Range) (is_reverse : Bool) (list : List (Point × Left))
    → Lists own range is_reverse list → AreEntriesOf own range is_reverse list
are_entries own range is_reverse [] lists = λ x inside. lists.others x inside tt
are_entries own range is_reverse (entry ∷ list) lists = (
  lists.inside.0,
  lists.are.0,
  λ x there. lists.others x (behind-inside range (not is_reverse) entry.0 lists.inside.0 x there) (
    not-itself range (not is_reverse) entry.0 x there,
    all-weaken (λ (later : Point × Left). comes_before is_reverse entry.0 later.0 ≡ true) _
        (λ later after. differs is_reverse x later.0 (chain is_reverse x entry.0 later.0
        (sym (turned is_reverse x entry.0) ∙ behind-comes range (not is_reverse) entry.0 x there) after))
        list lists.ordered.0,
  ),
  are_entries own (range_behind range is_reverse entry.0) is_reverse list (record {
    ordered = lists.ordered.1;
    inside = all-both (λ (later : Point × Left). comes_before is_reverse entry.0 later.0 ≡ true)
        (λ (later : Point × Left). in_range range later.0 ≡ true) _
        (λ later after inside. comes-behind range is_reverse entry.0 later.0 inside after)
        list lists.ordered.0 lists.inside.1;
    are = lists.are.1;
    others = λ x there rest. lists.others x (behind-inside range is_reverse entry.0 lists.inside.0 x there)
        (not-itself range is_reverse entry.0 x there, rest);
  }),
)

-- ---- the entries of a map
abbrev inside_of : Range → List (Point × Left) → List (Point × Left)
inside_of range entries = filter (λ (entry : Point × Left). in_range range entry.0) entries

less_before : (x y : Point) → slice_cmp nat_cmp x y ≡ Less → point_lt x y ≡ true
unfolding point_lt
less_before x y less = ap is_lt less

-- the keys of a map rise
rising : (entries : List (Point × Left)) → IsStrictlySortedBy (slice_cmp nat_cmp) (keys_of entries)
    → AreOrdered (λ (a b : Point × Left). point_lt a.0 b.0 ≡ true) entries
unfolding IsStrictlySortedBy
rising [] sorted = tt
rising (entry ∷ entries) sorted = (after entries sorted.0, rising entries sorted.1)
  where
    after : (later : List (Point × Left)) → AllByRecursion (λ y. slice_cmp nat_cmp entry.0 y ≡ Less) (keys_of later)
        → AllByRecursion (λ (b : Point × Left). point_lt entry.0 b.0 ≡ true) later
    after [] all = tt
    after (other ∷ later) all = (less_before entry.0 other.0 all.0, after later all.1)

-- each entry is what is under its key
found-each : (entries : List (Point × Left)) → AreOrdered (λ (a b : Point × Left). point_lt a.0 b.0 ≡ true) entries
    → AllByRecursion (λ (entry : Point × Left). found entries entry.0 ≡ Some entry.1) entries
found-each [] ordered = tt
found-each (entry ∷ entries) ordered = (
  cond-true _ (Some entry.1) (found entries entry.0)
      (is_eq-slice_cmp entry.0 entry.0 ∙ (bytes_decides entry.0 entry.0).1 refl),
  all-both (λ (later : Point × Left). point_lt entry.0 later.0 ≡ true)
      (λ (later : Point × Left). found entries later.0 ≡ Some later.1) _
      (λ later after is.
      cond-false _ (Some entry.1) (found entries later.0)
      (is_eq-slice_cmp later.0 entry.0 ∙ differs true later.0 entry.0 after)
      ∙ is)
      entries ordered.0 (found-each entries ordered.1),
)

-- a point of the range that isn't among the keys has no entry
found-none : (range : Range) (entries : List (Point × Left)) (x : Point) → in_range range x ≡ true
    → AllByRecursion (λ (entry : Point × Left). point_eq x entry.0 ≡ false) (inside_of range entries)
    → found entries x ≡ None
found-none range [] x inside others = refl
found-none range (entry ∷ entries) x inside others =
    let rest = inside_of range entries in
    let other : point_eq x entry.0 ≡ false = ⊎_elim
    (λ (same : point_eq x entry.0 ≡ true).
    (subst (AllByRecursion (λ (one : Point × Left). point_eq x one.0 ≡ false))
    (cond-true (in_range range entry.0) (entry ∷ rest) rest
    (ap (in_range range) (sym ((bytes_decides x entry.0).0 same)) ∙ inside)) others).0)
    (λ differs. differs) (cases_Bool (point_eq x entry.0)) in
    cond-false _ (Some entry.1) (found entries x) (is_eq-slice_cmp x entry.0 ∙ other)
    ∙ found-none range entries x inside (later (in_range range entry.0) others)
  where
    later : (here : Bool) → AllByRecursion (λ (one : Point × Left). point_eq x one.0 ≡ false)
        (cond here (entry ∷ inside_of range entries) (inside_of range entries))
        → AllByRecursion (λ (one : Point × Left). point_eq x one.0 ≡ false) (inside_of range entries)
    later true all = all.1
    later false all = all

-- in both directions
ordered-back : (list : List (Point × Left)) → AreOrdered (λ (a b : Point × Left). point_lt a.0 b.0 ≡ true) list
    → AreOrdered (λ (a b : Point × Left). point_lt b.0 a.0 ≡ true) (reverse list)
ordered-back [] ordered = tt
ordered-back (entry ∷ list) ordered =
    subst (AreOrdered (λ (a b : Point × Left). point_lt b.0 a.0 ≡ true)) (sym (reverse-append (entry ∷ []) list))
    (ordered-push (λ (a b : Point × Left). point_lt b.0 a.0 ≡ true) (reverse list) entry
    (ordered-back list ordered.1)
    (all-reverse (λ (later : Point × Left). point_lt entry.0 later.0 ≡ true) list ordered.0))

all-back : (P : Point × Left → Type 0) (list : List (Point × Left)) → AllByRecursion P (reverse list)
    → AllByRecursion P list
all-back P list all = subst (AllByRecursion P) (reverse-reverse list) (all-reverse P (reverse list) all)

pub walk-start : (own : OwnWrites) (range : Range) (is_reverse : Bool) (begin end : Point)
    (items : List (Point × Left)) → begin ≡ range.begin → end ≡ range.end
    → items ≡ entries_between (slice_cmp nat_cmp) (Included begin) (Excluded end) own.keys.entries
    → IsOrdered (slice_cmp nat_cmp) own.keys
    → AreEntriesOf own range is_reverse (in_order is_reverse items)
walk-start own range is_reverse begin end items begins ends are sorted =
    subst (λ (list : List (Point × Left)). AreEntriesOf own range is_reverse (in_order is_reverse list))
    (sym (are
    ∙ ap₂ (λ (from until : Point). entries_between (slice_cmp nat_cmp) (Included from) (Excluded until)
    own.keys.entries) begins ends
    ∙ between-within range own.keys.entries)) (both is_reverse)
  where
    list : List (Point × Left)
    list = inside_of range own.keys.entries

    rises : AreOrdered (λ (a b : Point × Left). point_lt a.0 b.0 ≡ true) own.keys.entries
    rises = rising own.keys.entries sorted

    ordered : AreOrdered (λ (a b : Point × Left). point_lt a.0 b.0 ≡ true) list
    ordered = ordered-filter (λ (a b : Point × Left). point_lt a.0 b.0)
        (λ (entry : Point × Left). in_range range entry.0) own.keys.entries rises

    inside : AllByRecursion (λ (entry : Point × Left). in_range range entry.0 ≡ true) list
    inside = all-passes (λ (entry : Point × Left). in_range range entry.0) own.keys.entries

    each : AllByRecursion (λ (entry : Point × Left). entry_of own entry.0 ≡ Some entry.1) list
    each = all-filter (λ (entry : Point × Left). entry_of own entry.0 ≡ Some entry.1)
        (λ (entry : Point × Left). in_range range entry.0) own.keys.entries (found-each own.keys.entries rises)

    both : (is_reverse : Bool) → AreEntriesOf own range is_reverse (in_order is_reverse list)
    both false = are_entries own range false list (record {
      ordered = ordered;
      inside = inside;
      are = each;
      others = λ x within others. found-none range own.keys.entries x within others;
    })
    both true = are_entries own range true (reverse list) (record {
      ordered = ordered-back list ordered;
      inside = all-reverse (λ (entry : Point × Left). in_range range entry.0 ≡ true) list inside;
      are = all-reverse (λ (entry : Point × Left). entry_of own entry.0 ≡ Some entry.1) list each;
      others = λ x within others. found-none range own.keys.entries x within
          (all-back (λ (entry : Point × Left). point_eq x entry.0 ≡ false) list others);
    })

-- what is left once a key is passed
pub left-passed : (is_reverse : Bool) (before walk : OwnWalk) (key : Point) → walk.range ≡ before.range
    → option_copied walk.last ≡ Some key
    → left_of is_reverse walk ≡ range_behind (left_of is_reverse before) is_reverse key
left-passed is_reverse before walk key range last =
    ap₂ (λ (lent : Bor Range) (passed : Option Point). behind_last lent.now is_reverse passed) range last
    ∙ sym (behind-behind before.range.now is_reverse (option_copied before.last) key)

-- so it is at the walk's begin
pub at-start : (own : OwnWrites) (range : Range) (is_reverse : Bool) (walk : OwnWalk) (list : List (Point × Left))
    → left_of is_reverse walk ≡ range → to_come is_reverse walk ≡ list → option_copied walk.last ≡ None
    → AreEntriesOf own range is_reverse list → IsAt own is_reverse walk
at-start own range is_reverse walk list left come none are = record {
  entries = subst (λ (entries : List (Point × Left)). AreEntriesOf own (left_of is_reverse walk) is_reverse entries)
      (sym come) (subst (λ (part : Range). AreEntriesOf own part is_reverse list) (sym left) are);
  last = subst (IsKeyOf walk.range.now) (sym none) tt;
}

-- ---- a key of the range that no entry comes before
-- of two points one comes before the other, or they are the same
neither : (order : Ordering) → is_lt order ≡ false → is_lt (ordering_reverse order) ≡ false → is_eq order ≡ true
neither Less not_before not_after = absurd (both_ways _ not_before refl)
neither Equal not_before not_after = refl
neither Greater not_before not_after = absurd (both_ways _ not_after refl)

pub same-unless : (x y : Point) → point_lt x y ≡ false → point_lt y x ≡ false → point_eq x y ≡ true
unfolding point_lt
same-unless x y not_before not_after =
    sym (is_eq-slice_cmp x y)
    ∙ neither (slice_cmp nat_cmp x y) not_before (ap is_lt (sym (nat_list_cmp_total.antisymm y x)) ∙ not_after)

-- a point that doesn't come before the key, and isn't the key, comes after it
after-unless : (is_reverse : Bool) (key x : Point) → comes_before is_reverse x key ≡ false → point_eq x key ≡ false
    → comes_before is_reverse key x ≡ true
after-unless false key x not_before other = ⊎_elim (λ after. after)
    (λ not_after. absurd (both_ways _ other (same-unless x key not_before not_after))) (cases_Bool (point_lt key x))
after-unless true key x not_before other = ⊎_elim (λ after. after)
    (λ not_after. absurd (both_ways _ other (same-unless x key not_after not_before))) (cases_Bool (point_lt x key))

module _ (own : OwnWrites) (range : Range) (is_reverse : Bool) (key : Point) (inside : in_range range key ≡ true)
    (first : HasNoEntry own (range_behind range (not is_reverse) key)) where
  -- an entry of another key comes after the key
  after-key : (entry : Point × Left) → in_range range entry.0 ≡ true → entry_of own entry.0 ≡ Some entry.1
      → point_eq entry.0 key ≡ false → comes_before is_reverse key entry.0 ≡ true
  after-key entry within is other = ⊎_elim
      (λ (before : comes_before is_reverse entry.0 key ≡ true).
      absurd (none-some entry.1 (sym (first entry.0 (comes-behind range (not is_reverse) key entry.0 within
      (turned is_reverse entry.0 key ∙ before))) ∙ is)))
      (λ (not_before : comes_before is_reverse entry.0 key ≡ false).
      after-unless is_reverse key entry.0 not_before other)
      (cases_Bool (comes_before is_reverse entry.0 key))

  -- what is under the key
  pub key-entry : (list : List (Point × Left)) → AreEntriesOf own range is_reverse list
      → entry_of own key ≡ entry_at key list
  key-entry [] are = are key inside
  key-entry (entry ∷ list) are = ⊎_elim
      (λ (same : point_eq entry.0 key ≡ true).
      ap (entry_of own) (sym ((bytes_decides entry.0 key).0 same)) ∙ are.1 ∙ sym (cond-true _ (Some entry.1) None same))
      (λ (other : point_eq entry.0 key ≡ false).
      are.2 key (comes-behind range (not is_reverse) entry.0 key inside
      (turned is_reverse key entry.0 ∙ after-key entry are.0 are.1 other))
      ∙ sym (cond-false _ (Some entry.1) None other))
      (cases_Bool (point_eq entry.0 key))

  -- once the key is passed
  pub key-past : (list : List (Point × Left)) → AreEntriesOf own range is_reverse list
      → AreEntriesOf own (range_behind range is_reverse key) is_reverse (past key list)
  key-past [] are = λ x there. are x (behind-inside range is_reverse key inside x there)
  key-past (entry ∷ list) are = ⊎_elim
      (λ (same : point_eq entry.0 key ≡ true).
      subst (AreEntriesOf own (range_behind range is_reverse key) is_reverse)
      (sym (cond-true _ list (entry ∷ list) same))
      (subst (λ (x : Point). AreEntriesOf own (range_behind range is_reverse x) is_reverse list)
      ((bytes_decides entry.0 key).0 same) are.3))
      (λ (other : point_eq entry.0 key ≡ false).
      let behind : in_range (range_behind range is_reverse key) entry.0 ≡ true =
      comes-behind range is_reverse key entry.0 are.0 (after-key entry are.0 are.1 other) in
      subst (AreEntriesOf own (range_behind range is_reverse key) is_reverse)
      (sym (cond-false _ list (entry ∷ list) other)) (
        behind,
        are.1,
        λ x there. are.2 x (comes-behind range (not is_reverse) entry.0 x
            (behind-inside range is_reverse key inside x
            (behind-inside (range_behind range is_reverse key) (not is_reverse) entry.0 behind x there))
            (behind-comes (range_behind range is_reverse key) (not is_reverse) entry.0 x there)),
        subst (λ (part : Range). AreEntriesOf own part is_reverse list)
            (sym (behind-behind range is_reverse (Some key) entry.0)) are.3,
      ))
      (cases_Bool (point_eq entry.0 key))

-- ---- the next entry before the next key of the map
module _ (own : OwnWrites) (range : Range) (is_reverse : Bool) where
  -- there is none
  pub none-first : (next : Option Point) → LiesIn range next → AreEntriesOf own range is_reverse []
      → HasNoEntry own (ahead_of range is_reverse next)
  none-first None lies are = are
  none-first (Some key) lies are = λ x there. are x (behind-inside range (not is_reverse) key lies x there)

  -- the next entry comes later
  pub later-first : (next : Option Point) (entry : Point × Left) (list : List (Point × Left)) → LiesIn range next
      → AreEntriesOf own range is_reverse (entry ∷ list) → is_ahead is_reverse next entry.0 ≡ false
      → HasNoEntry own (ahead_of range is_reverse next)
  later-first None entry list lies are later = absurd (both_ways _ later refl)
  later-first (Some key) entry list lies are later = λ x there.
      are.2 x (comes-behind range (not is_reverse) entry.0 x (behind-inside range (not is_reverse) key lies x there)
      (turned is_reverse x entry.0 ∙ sooner is_reverse x
      (sym (turned is_reverse x key) ∙ behind-comes range (not is_reverse) key x there) later))
    where
      sooner : (is_reverse : Bool) (x : Point) → comes_before is_reverse x key ≡ true
          → comes_before is_reverse entry.0 key ≡ false → comes_before is_reverse x entry.0 ≡ true
      sooner false x before later = lt_le_chain x key entry.0 before later
      sooner true x before later = le_lt_chain entry.0 key x later before

  -- it is the first one
  pub own-first : (next : Option Point) (entry : Point × Left) (list : List (Point × Left)) → LiesIn range next
      → AreEntriesOf own range is_reverse (entry ∷ list) → is_ahead is_reverse next entry.0 ≡ true
      → IsFirstOwn own (ahead_of range is_reverse next) is_reverse (Some entry.0)
  own-first next entry list lies are ahead = (
    inside next lies ahead,
    ap is_some are.1,
    subst (HasNoEntry own) (sym (before-ahead range is_reverse next entry.0)) are.2,
  )
    where
      inside : (next : Option Point) → LiesIn range next → is_ahead is_reverse next entry.0 ≡ true
          → in_range (ahead_of range is_reverse next) entry.0 ≡ true
      inside None lies ahead = are.0
      inside (Some key) lies ahead =
          comes-behind range (not is_reverse) key entry.0 are.0 (turned is_reverse entry.0 key ∙ ahead)

-- ---- what an entry leaves
pub left-entry : (own : OwnWrites) (x : Point) (left : Left) → entry_of own x ≡ Some left → left_at own x ≡ left
left-entry own x left is = ap (kept_of own.cleared x) is

-- the last key that was passed is one of the range
pub key-of-range : (range : Range) (is_reverse : Bool) (last : Option Point) (key : Point) → IsKeyOf range last
    → in_range (behind_last range is_reverse last) key ≡ true → in_range range key ≡ true
key-of-range range is_reverse None key is inside = inside
key-of-range range is_reverse (Some last) key is inside = behind-inside range is_reverse last is.1 key inside

-- once a key is passed
pub at-passed : (own : OwnWrites) (is_reverse : Bool) (before walk : OwnWalk) (key : Point)
    (list : List (Point × Left)) → IsAt own is_reverse before → is_key key ≡ true
    → in_range (left_of is_reverse before) key ≡ true → walk.range ≡ before.range
    → option_copied walk.last ≡ Some key → to_come is_reverse walk ≡ list
    → AreEntriesOf own (range_behind (left_of is_reverse before) is_reverse key) is_reverse list
    → IsAt own is_reverse walk
at-passed own is_reverse before walk key list at legal inside range last come are = record {
  entries = subst (λ (entries : List (Point × Left)). AreEntriesOf own (left_of is_reverse walk) is_reverse entries)
      (sym come) (subst (λ (part : Range). AreEntriesOf own part is_reverse list)
      (sym (left-passed is_reverse before walk key range last)) are);
  last = subst (IsKeyOf walk.range.now) (sym last) (
    legal,
    ap (λ (whole : Range). in_range whole key) (ap (λ (lent : Bor Range). lent.now) range)
        ∙ key-of-range before.range.now is_reverse (option_copied before.last) key at.last inside,
  );
}
