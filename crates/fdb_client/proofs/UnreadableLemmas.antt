-- The unreadable keys of a program, and of what is kept of its writes.
use Rattle.std.proofs.Common.{◌≡◌, ◌∙◌, sym, ap, refl, Bool, true, false, not, ◌&&◌, ◌||◌, if◌then◌else◌, List, [], ◌∷◌}
use Rattle.std.proofs.Common.{◌++◌, ◌↔◌, ap₂, Option, None, ⊎_elim}
use Rattle.std.specs.Cmp.Lexicographic.{bytes_decides}
use Rattle.std.proofs.lemmas.Bool.{and_parts, both_ways, cases_Bool, or_parts, or_right}
use Rattle.std.specs.List.{list_any}
use Rattle.fdb_keys.specs.Points.{Point, point_eq, point_lt}
use Rattle.fdb_keys.specs.Ranges.{Range, in_range, in_set}
use Rattle.fdb_keys.specs.Cutting.{range_behind}
use Rattle.fdb_keys.proofs.Exports.{behind-inside}
use Rattle.fdb_mutations.specs.declared.mutation.Mutation.{Mutation}
use Rattle.fdb_mutations.specs.declared.mutation.Mutation.TheVariants.{Set, Clear, ClearRange, Stamped}
use Rattle.fdb_mutations.specs.Mutations.{names, new_value, is_blind}
use Rattle.fdb_mutations.specs.Stamping.{is_stamped}
use Rattle.fdb_client.specs.declared.left.Left.{Left}
use Rattle.fdb_client.specs.declared.left.Left.TheVariants.{Value, Unreadable, Changes}
use Rattle.fdb_client.specs.declared.program.Op.{Op}
use Rattle.fdb_client.specs.declared.program.Op.TheVariants.{Get, Write, AddRead, AddWrite}
use Rattle.fdb_client.specs.declared.program.Op.TheVariants as operation
use Rattle.fdb_client.specs.OwnWrites.{kept_of, left_after, left_by_ops, is_unreadable, is_value}
use Rattle.fdb_client.specs.declared.own_writes.OwnWrites.{OwnWrites}
use Rattle.fdb_client.specs.LeftAt.{entry_of, left_at, HasUnreadable}
use Rattle.fdb_client.specs.OwnWalk.{AreEntriesOf}
use Rattle.fdb_client.specs.Programs.{decided}
use Rattle.fdb_client.specs.Unreadable.{add_stamped, stamped_keys, unreadable, unreadable_by, unreadable_in}
use Rattle.fdb_client.proofs.OwnWalkLemmas.{comes-behind, left-entry, same-unless}
use Rattle.fdb_client.proofs.OwnWritesLemmas.{decided-left, stamped-is_blind}

-- what one more mutation leaves is unreadable where it is a Stamped, or where it isn't blind and what was left was so
after-is_unreadable : (left : Left) (mutation : Mutation)
    → is_unreadable (left_after left mutation)
    ≡ (if is_blind mutation then is_stamped mutation else is_unreadable left)
after-is_unreadable (Value value) mutation =
    by_blind (is_stamped mutation) (is_blind mutation) (stamped-is_blind mutation)
  where
    by_blind : (waits blind : Bool) → (not waits || blind) ≡ true
        → is_unreadable (if waits then Unreadable (new_value mutation value) else Value (new_value mutation value))
        ≡ (if blind then waits else false)
    by_blind true true decides = refl
    by_blind true false decides = sym decides
    by_blind false true decides = refl
    by_blind false false decides = refl
after-is_unreadable (Unreadable value) mutation = by_blind (is_stamped mutation) (is_blind mutation)
  where
    by_blind : (waits blind : Bool)
        → is_unreadable (if blind && not waits then Value (new_value mutation value)
        else Unreadable (new_value mutation value))
        ≡ (if blind then waits else true)
    by_blind true true = refl
    by_blind true false = refl
    by_blind false true = refl
    by_blind false false = refl
after-is_unreadable (Changes mutations) mutation =
    by_blind (is_stamped mutation) (is_blind mutation) (stamped-is_blind mutation)
  where
    by_blind : (waits blind : Bool) → (not waits || blind) ≡ true
        → is_unreadable (if waits then Unreadable (new_value mutation None)
        else (if blind then Value (new_value mutation None) else Changes (mutations ++ mutation ∷ [])))
        ≡ (if blind then waits else false)
    by_blind true true decides = refl
    by_blind true false decides = sym decides
    by_blind false true decides = refl
    by_blind false false decides = refl

-- what a program's writes leave at a point is unreadable exactly where the point is
pub unreadable-left : (ops : List Op) (x : Point) → is_unreadable (left_by_ops ops x) ≡ unreadable ops x
unreadable-left [] x = refl
unreadable-left (Get key snapshot ∷ earlier) x = unreadable-left earlier x
unreadable-left (operation.Range range limit is_reverse snapshot ∷ earlier) x = unreadable-left earlier x
unreadable-left (AddRead range ∷ earlier) x = unreadable-left earlier x
unreadable-left (AddWrite range ∷ earlier) x = unreadable-left earlier x
unreadable-left (Write mutation ∷ earlier) x =
    by_name (names mutation x)
    ∙ ap (λ (before : Bool). if is_blind mutation && names mutation x then is_stamped mutation else before)
    (unreadable-left earlier x)
  where
    by_name : (named : Bool)
        → is_unreadable (if named then left_after (left_by_ops earlier x) mutation else left_by_ops earlier x)
        ≡ (if is_blind mutation && named then is_stamped mutation else is_unreadable (left_by_ops earlier x))
    by_name true =
        after-is_unreadable (left_by_ops earlier x) mutation
        ∙ ap (λ (blind : Bool). if blind then is_stamped mutation else is_unreadable (left_by_ops earlier x))
        (and-true (is_blind mutation))
      where
        and-true : (b : Bool) → b ≡ (b && true)
        and-true true = refl
        and-true false = refl
    by_name false =
        ap (λ (none : Bool). if none then is_stamped mutation else is_unreadable (left_by_ops earlier x))
        (and-false (is_blind mutation))
      where
        and-false : (b : Bool) → false ≡ (b && false)
        and-false true = refl
        and-false false = refl

-- an unreadable point is decided
pub unreadable-decided : (ops : List Op) (x : Point) → unreadable ops x ≡ true → decided ops x ≡ true
unreadable-decided ops x is =
    sym (decided-left ops x) ∙ value (left_by_ops ops x) (unreadable-left ops x ∙ is)
  where
    value : (left : Left) → is_unreadable left ≡ true → is_value left ≡ true
    value (Value there) unreadable = refl
    value (Unreadable there) unreadable = refl
    value (Changes mutations) unreadable = unreadable

-- ---- the keys of the Stamped mutations
-- what one mutation makes unreadable is the key of a Stamped
add-stamped : (mutation : Mutation) (x : Point) (keys : List Point) (before : Bool)
    → (before ≡ true → list_any (point_eq x) keys ≡ true) → unreadable_by mutation x before ≡ true
    → list_any (point_eq x) (add_stamped (Write mutation) keys) ≡ true
add-stamped (Stamped key operand offset) x keys before listed is = by_name (point_eq x key) is
  where
    by_name : (named : Bool) → (if named then true else before) ≡ true
        → (named || list_any (point_eq x) keys) ≡ true
    by_name true is = refl
    by_name false is = listed is
add-stamped (Set key value) x keys before listed is = listed (unless (names (Set key value) x) before is)
  where
    unless : (named before : Bool) → (if named then false else before) ≡ true → before ≡ true
    unless true true is = refl
    unless true false is = is
    unless false before is = is
add-stamped (Clear key) x keys before listed is = listed (unless (names (Clear key) x) before is)
  where
    unless : (named before : Bool) → (if named then false else before) ≡ true → before ≡ true
    unless true true is = refl
    unless true false is = is
    unless false before is = is
add-stamped (ClearRange range) x keys before listed is = listed (unless (names (ClearRange range) x) before is)
  where
    unless : (named before : Bool) → (if named then false else before) ≡ true → before ≡ true
    unless true true is = refl
    unless true false is = is
    unless false before is = is
add-stamped mutation x keys before listed is = listed is

-- each unreadable point is among them
pub unreadable-listed : (ops : List Op) (x : Point) → unreadable ops x ≡ true
    → list_any (point_eq x) (stamped_keys ops) ≡ true
unreadable-listed [] x is = is
unreadable-listed (Get key snapshot ∷ earlier) x is = unreadable-listed earlier x is
unreadable-listed (operation.Range range limit is_reverse snapshot ∷ earlier) x is = unreadable-listed earlier x is
unreadable-listed (AddRead range ∷ earlier) x is = unreadable-listed earlier x is
unreadable-listed (AddWrite range ∷ earlier) x is = unreadable-listed earlier x is
unreadable-listed (Write mutation ∷ earlier) x is =
    add-stamped mutation x (stamped_keys earlier) (unreadable earlier x) (unreadable-listed earlier x) is

-- a mutation that is no Stamped adds none
pub unstamped : (mutation : Mutation) (keys : List Point) → is_stamped mutation ≡ false
    → add_stamped (Write mutation) keys ≡ keys
unstamped (Stamped key operand offset) keys other = absurd (both_ways true other refl)
unstamped mutation keys other = refl

-- ---- in a range
-- some item passes the test
some-passes : (test : Point → Bool) (keys : List Point) → list_any test keys ≡ true
    → (x : Point) × (test x ≡ true)
some-passes test [] none = absurd (both_ways false refl none)
some-passes test (key ∷ keys) some = by_test (test key) refl some (some-passes test keys)
  where
    by_test : (is : Bool) → test key ≡ is → (is || list_any test keys) ≡ true
        → (list_any test keys ≡ true → (x : Point) × (test x ≡ true)) → (x : Point) × (test x ≡ true)
    by_test true passes some rest = (key, passes)
    by_test false passes some rest = rest some

-- and one that does is enough
passes-some : (test : Point → Bool) (keys : List Point) (x : Point) → list_any (point_eq x) keys ≡ true
    → test x ≡ true → list_any test keys ≡ true
passes-some test [] x none passes = none
passes-some test (key ∷ keys) x listed passes =
    by_key (point_eq x key) refl listed (λ there. passes-some test keys x there passes)
  where
    by_key : (same : Bool) → point_eq x key ≡ same → (same || list_any (point_eq x) keys) ≡ true
        → (list_any (point_eq x) keys ≡ true → list_any test keys ≡ true) → (test key || list_any test keys) ≡ true
    by_key true same listed rest = ap (λ (is : Bool). is || list_any test keys)
        (sym (ap test ((bytes_decides x key).0 same)) ∙ passes)
    by_key false same listed rest = or_right (test key) (list_any test keys) (rest listed)

-- a key of the range is unreadable exactly where there is such a point
pub unreadable-some : (ops : List Op) (range : Range) → unreadable_in ops range ≡ true
    → (x : Point) × ((in_range range x && unreadable ops x) ≡ true)
unreadable-some ops range =
    some-passes (λ (x : Point). in_range range x && unreadable ops x) (stamped_keys ops)

pub some-unreadable : (ops : List Op) (range : Range) (x : Point) → (in_range range x && unreadable ops x) ≡ true
    → unreadable_in ops range ≡ true
some-unreadable ops range x is =
    passes-some (λ (key : Point). in_range range key && unreadable ops key) (stamped_keys ops) x
    (unreadable-listed ops x (and_parts (in_range range x) (unreadable ops x) is).1) is

-- ---- entry by entry
-- one of the entries is unreadable
abbrev pub has_unreadable : List (Point × Left) → Bool
has_unreadable entries = list_any (λ (entry : Point × Left). is_unreadable entry.1) entries

-- a point that has no entry is readable
without-entry : (own : OwnWrites) (x : Point) → entry_of own x ≡ None → is_unreadable (left_at own x) ≡ false
without-entry own x none =
    ap (λ (left : Option Left). is_unreadable (kept_of own.cleared x left)) none ∙ either (in_set own.cleared x)
  where
    either : (cleared : Bool) → is_unreadable (if cleared then Value None else Changes []) ≡ false
    either true = refl
    either false = refl

-- one of the entries of a range is unreadable exactly where one of its points is
pub entry-unreadable : (own : OwnWrites) (range : Range) (entries : List (Point × Left))
    → AreEntriesOf own range false entries → has_unreadable entries ≡ true → HasUnreadable own range
entry-unreadable own range [] are none = absurd (both_ways false refl none)
entry-unreadable own range (entry ∷ entries) are some =
    by_entry (is_unreadable entry.1) refl some
    (entry-unreadable own (range_behind range false entry.0) entries are.3)
  where
    by_entry : (is : Bool) → is_unreadable entry.1 ≡ is → (is || has_unreadable entries) ≡ true
        → (has_unreadable entries ≡ true → HasUnreadable own (range_behind range false entry.0))
        → HasUnreadable own range
    by_entry true is some rest = (
      entry.0,
      ap₂ (λ (inside there : Bool). inside && there) are.0
          (ap is_unreadable (left-entry own entry.0 entry.1 are.1) ∙ is),
    )
    by_entry false is some rest =
        let found = rest some in
        let parts = and_parts _ _ found.1 in (
          found.0,
          ap₂ (λ (inside there : Bool). inside && there)
              (behind-inside range false entry.0 are.0 found.0 parts.0) parts.1,
        )

pub none-unreadable : (own : OwnWrites) (range : Range) (entries : List (Point × Left))
    → AreEntriesOf own range false entries → has_unreadable entries ≡ false → (x : Point)
    → in_range range x ≡ true → is_unreadable (left_at own x) ≡ false
none-unreadable own range [] are none x inside = without-entry own x (are x inside)
none-unreadable own range (entry ∷ entries) are none x inside =
    let parts = or_parts (is_unreadable entry.1) (has_unreadable entries) none in
    ⊎_elim
    (λ before. without-entry own x (are.2 x (comes-behind range true entry.0 x inside before)))
    (λ not_before. ⊎_elim
    (λ after. none-unreadable own (range_behind range false entry.0) entries are.3 parts.1 x
    (comes-behind range false entry.0 x inside after))
    (λ not_after. ap is_unreadable
    (ap (left_at own) ((bytes_decides x entry.0).0 (same-unless x entry.0 not_before not_after))
    ∙ left-entry own entry.0 entry.1 are.1) ∙ parts.0)
    (cases_Bool (point_lt entry.0 x)))
    (cases_Bool (point_lt x entry.0))

pub says-unreadable : (own : OwnWrites) (range : Range) (entries : List (Point × Left))
    → AreEntriesOf own range false entries → (is : Bool) → has_unreadable entries ≡ is
    → (is ≡ true) ↔ HasUnreadable own range
says-unreadable own range entries are is has =
    ((λ yes. entry-unreadable own range entries are (has ∙ yes)), (λ found. by_has is has found))
  where
    by_has : (is : Bool) → has_unreadable entries ≡ is → HasUnreadable own range → is ≡ true
    by_has true has found = refl
    by_has false has found =
        let parts = and_parts _ _ found.1 in
        sym (none-unreadable own range entries are has found.0 parts.0) ∙ parts.1

pub unreadable-first : (entry : Point × Left) (entries : List (Point × Left)) → is_unreadable entry.1 ≡ true
    → has_unreadable (entry ∷ entries) ≡ true
unreadable-first entry entries is = ap (λ (here : Bool). here || has_unreadable entries) is

-- what is kept of a program's writes has an unreadable point in a range exactly where the program has
pub kept-unreadable_in : (ops : List Op) (own : OwnWrites) → ((x : Point) → left_at own x ≡ left_by_ops ops x)
    → (range : Range) (is : Bool) → (is ≡ true) ↔ HasUnreadable own range → unreadable_in ops range ≡ is
kept-unreadable_in ops own there range is tied = by_both is (unreadable_in ops range)
    (λ yes. let found = tied.0 yes in
    some-unreadable ops range found.0
    (ap (λ (unread : Bool). in_range range found.0 && unread) (sym (same found.0)) ∙ found.1))
    (λ some. let found = unreadable-some ops range some in
    tied.1 (found.0, ap (λ (unread : Bool). in_range range found.0 && unread) (same found.0) ∙ found.1))
  where
    same : (x : Point) → is_unreadable (left_at own x) ≡ unreadable ops x
    same x = ap is_unreadable (there x) ∙ unreadable-left ops x

    by_both : (a b : Bool) → (a ≡ true → b ≡ true) → (b ≡ true → a ≡ true) → b ≡ a
    by_both true b forth back = forth refl
    by_both false true forth back = sym (back refl)
    by_both false false forth back = refl
