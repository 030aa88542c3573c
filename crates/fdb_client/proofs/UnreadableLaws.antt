-- Unreadable keys count as pairs, and what a stamp is never shows.
use Rattle.std.proofs.Common.{◌≡◌, ◌∙◌, sym, ap, ap₂, refl, ℕ, Bool, true, false, ◌&&◌, ◌||◌, cond, if◌then◌else◌}
use Rattle.std.proofs.Common.{List, [], ◌∷◌, map, filter, Option, Some}
use Rattle.std.specs.Prelude.{is_some}
use Rattle.std.specs.FinMap.{get, get-insert}
use Rattle.std.specs.List.{list_any, AllByRecursion}
use Rattle.std.specs.Cmp.Lexicographic.{bytes_decides}
use Rattle.std.proofs.lemmas.Bool.{and_parts, both_ways, not-true, or_parts}
use Rattle.std.proofs.lemmas.Cmp.{nat_list_cmp_total}
use Rattle.std.proofs.lemmas.Map.Text.{is_eq-slice_cmp}
use Rattle.fdb_keys.specs.Points.{Point, point_eq}
use Rattle.fdb_keys.specs.Ranges.{Range, in_range, single_range}
use Rattle.fdb_keys.proofs.Exports.{in_range-single}
use Rattle.fdb_mutations.specs.declared.mutation.Mutation.{Mutation}
use Rattle.fdb_mutations.specs.declared.mutation.Mutation.TheVariants.{Stamped}
use Rattle.fdb_mutations.specs.Maps.{Map}
use Rattle.fdb_mutations.specs.Naming.{NamedKeys, is_named}
use Rattle.fdb_mutations.specs.Mutations.{names, named, new_value, is_blind}
use Rattle.fdb_mutations.specs.Pairs.{pairs_in, scanned}
use Rattle.fdb_mutations.specs.PairLaws.{given_of, scanned_of, ScannedHasWhatWasGiven}
use Rattle.fdb_mutations.specs.Stamping.{is_stamped, stamped}
use Rattle.fdb_mutations.proofs.Exports.{all_in-pairs_in, at_every_point, blind_is_blind, decides_what_is_given}
use Rattle.fdb_mutations.proofs.Exports.{no_pairs, pairs_in-part, stamps_keep_names}
use Rattle.fdb_client.specs.declared.program.Op.{Op}
use Rattle.fdb_client.specs.declared.program.Op.TheVariants.{Get, Write, AddRead, AddWrite}
use Rattle.fdb_client.specs.declared.program.Op.TheVariants as operation
use Rattle.fdb_client.specs.declared.program.Reply.{Reply}
use Rattle.fdb_client.specs.declared.program.Reply.TheVariants as answer
use Rattle.fdb_client.specs.Programs.{copy, reply_on}
use Rattle.fdb_client.specs.Unreadable.{counted, is_readable, reads_readable, stamped_keys, stamped_op, unreadable}
use Rattle.fdb_client.specs.Unreadable.{unreadable_by}
use Rattle.fdb_client.specs.Unreadable.{unreadable_in, with_pairs_at, UnreadableCountAsPairs, StampsNeverShow}
use Rattle.fdb_client.proofs.UnreadableLemmas.{some-unreadable, unreadable-listed, unreadable-some}

-- ---- the copy in which each unreadable key has a pair
with_pairs-at : (there : Map) (keys : List Point) (x : Point)
    → get (with_pairs_at there keys) x ≡ (if list_any (point_eq x) keys then Some [] else get there x)
with_pairs-at there [] x = refl
with_pairs-at there (key ∷ keys) x =
    get-insert nat_list_cmp_total (with_pairs_at there keys) key [] x
    ∙ ap₂ (λ (same : Bool) (value : Option (List ℕ)). cond same (Some []) value) (is_eq-slice_cmp x key)
    (with_pairs-at there keys x)
    ∙ either (point_eq x key) (list_any (point_eq x) keys)
  where
    either : (same listed : Bool) → cond same (Some []) (if listed then Some [] else get there x)
        ≡ (if same || listed then Some [] else get there x)
    either true listed = refl
    either false listed = refl

-- a point of some keys that passes the test is one of those that pass it, and no other is
passing : (test : Point → Bool) (keys : List Point) (x : Point)
    → list_any (point_eq x) (filter test keys) ≡ (list_any (point_eq x) keys && test x)
passing test [] x = refl
passing test (key ∷ keys) x =
    by_test (test key) refl
    ∙ ap (λ (rest : Bool). point_eq x key && test key || rest) (passing test keys x)
    ∙ by_key (point_eq x key) refl
  where
    by_test : (is : Bool) → test key ≡ is
        → list_any (point_eq x) (if is then key ∷ filter test keys else filter test keys)
        ≡ (point_eq x key && is || list_any (point_eq x) (filter test keys))
    by_test true is = ap (λ (here : Bool). here || list_any (point_eq x) (filter test keys)) (and-true (point_eq x key))
      where
        and-true : (b : Bool) → b ≡ (b && true)
        and-true true = refl
        and-true false = refl
    by_test false is =
        ap (λ (here : Bool). here || list_any (point_eq x) (filter test keys)) (and-false (point_eq x key))
      where
        and-false : (b : Bool) → false ≡ (b && false)
        and-false true = refl
        and-false false = refl

    by_key : (same : Bool) → point_eq x key ≡ same
        → (same && test key || list_any (point_eq x) keys && test x)
        ≡ ((same || list_any (point_eq x) keys) && test x)
    by_key true same =
        ap (λ (is : Bool). is || list_any (point_eq x) keys && test x) (ap test (sym ((bytes_decides x key).0 same)))
        ∙ either (test x) (list_any (point_eq x) keys)
      where
        either : (is listed : Bool) → (is || listed && is) ≡ is
        either true listed = refl
        either false true = refl
        either false false = refl
    by_key false same = refl

-- it has a pair at each unreadable point, and elsewhere what the copy has
pub counted-at : (there : Map) (ops : List Op) (x : Point)
    → get (counted there ops) x ≡ (if unreadable ops x then Some [] else get (copy there ops) x)
counted-at there ops x =
    with_pairs-at (copy there ops) (filter (unreadable ops) (stamped_keys ops)) x
    ∙ ap (λ (listed : Bool). if listed then Some [] else get (copy there ops) x)
    (passing (unreadable ops) (stamped_keys ops) x
    ∙ either (list_any (point_eq x) (stamped_keys ops)) (unreadable ops x) (unreadable-listed ops x))
  where
    either : (listed is : Bool) → (is ≡ true → listed ≡ true) → (listed && is) ≡ is
    either true is there = refl
    either false true there = there refl
    either false false there = refl

-- ---- what is read of it
-- where no key is unreadable none of the pairs is that of an unreadable one
none-given : (test : Point → Bool) (pairs : List (Point × List ℕ))
    → AllByRecursion (λ (pair : Point × List ℕ). test pair.0 ≡ false) pairs
    → list_any (λ (pair : Point × List ℕ). test pair.0) pairs ≡ false
none-given test [] none = refl
none-given test (pair ∷ pairs) none =
    ap₂ (λ (here there : Bool). here || there) none.0 (none-given test pairs none.1)

readable-pairs : (ops : List Op) (range : Range) (pairs : List (Point × List ℕ))
    → ((x : Point) → in_range range x ≡ true → unreadable ops x ≡ false)
    → AllByRecursion (λ (pair : Point × List ℕ). in_range range pair.0 ≡ true) pairs
    → AllByRecursion (λ (pair : Point × List ℕ). unreadable ops pair.0 ≡ false) pairs
readable-pairs ops range [] readable all = tt
readable-pairs ops range (pair ∷ pairs) readable all =
    (readable pair.0 all.0, readable-pairs ops range pairs readable all.1)

-- a range without an unreadable key
none-in : (ops : List Op) (range : Range) → unreadable_in ops range ≡ false → (x : Point) → in_range range x ≡ true
    → unreadable ops x ≡ false
none-in ops range none x inside = by_point (unreadable ops x) refl
  where
    by_point : (is : Bool) → unreadable ops x ≡ is → is ≡ false
    by_point false is = refl
    by_point true is = absurd (both_ways _ none
        (some-unreadable ops range x (ap₂ (λ (here there : Bool). here && there) inside is)))

no-point : (ops : List Op) (range : Range) → ((x : Point) → in_range range x ≡ true → unreadable ops x ≡ false)
    → unreadable_in ops range ≡ false
no-point ops range none = by_range (unreadable_in ops range) refl
  where
    by_range : (is : Bool) → unreadable_in ops range ≡ is → is ≡ false
    by_range false is = refl
    by_range true is =
        let found = unreadable-some ops range is in
        let parts = and_parts _ _ found.1 in
        absurd (both_ways _ (none found.0 parts.0) parts.1)

-- pairs of which none is that of an unreadable key have no pair of one
without-key : (ops : List Op) (pairs : List (Point × List ℕ)) (x : Point) → unreadable ops x ≡ true
    → list_any (λ (pair : Point × List ℕ). unreadable ops pair.0) pairs ≡ false
    → filter (λ (pair : Point × List ℕ). point_eq pair.0 x) pairs ≡ []
without-key ops [] x is none = refl
without-key ops (pair ∷ pairs) x is none =
    let parts = or_parts _ _ none in
    by_key (point_eq pair.0 x) refl parts.0 (without-key ops pairs x is parts.1)
  where
    by_key : (same : Bool) → point_eq pair.0 x ≡ same → unreadable ops pair.0 ≡ false
        → filter (λ (one : Point × List ℕ). point_eq one.0 x) pairs ≡ []
        → (if same then pair ∷ filter (λ (one : Point × List ℕ). point_eq one.0 x) pairs
        else filter (λ (one : Point × List ℕ). point_eq one.0 x) pairs) ≡ []
    by_key true same readable rest =
        absurd (both_ways _ readable (ap (unreadable ops) ((bytes_decides pair.0 x).0 same) ∙ is))
    by_key false same readable rest = rest

-- so where no pair of a range is one, no key of the range is unreadable, if each of these has a pair
all-given : (held : Map) (ops : List Op) (range : Range) (is_reverse : Bool)
    → ((x : Point) → unreadable ops x ≡ true → get held x ≡ Some [])
    → list_any (λ (pair : Point × List ℕ). unreadable ops pair.0) (pairs_in held range is_reverse) ≡ false
    → (x : Point) → in_range range x ≡ true → unreadable ops x ≡ false
all-given held ops range is_reverse has none x inside = by_point (unreadable ops x) refl
  where
    there : (y : Point) → in_range (single_range x) y ≡ (in_range range y && point_eq y x)
    there y = in_range-single x y ∙ by_key (point_eq y x) refl
      where
        by_key : (same : Bool) → point_eq y x ≡ same → same ≡ (in_range range y && same)
        by_key true same =
            ap (λ (here : Bool). here && true) (sym (ap (in_range range) ((bytes_decides y x).0 same) ∙ inside))
        by_key false same = either (in_range range y)
          where
            either : (b : Bool) → false ≡ (b && false)
            either true = refl
            either false = refl

    by_point : (is : Bool) → unreadable ops x ≡ is → is ≡ false
    by_point false is = refl
    by_point true is =
        let empty : pairs_in held (single_range x) is_reverse ≡ [] =
        pairs_in-part held range (single_range x) (λ (y : Point). point_eq y x) there is_reverse
        ∙ without-key ops (pairs_in held range is_reverse) x is none in
        ap is_some (sym (has x is) ∙ no_pairs held (single_range x) is_reverse empty x
        (in_range-single x x ∙ (bytes_decides x x).1 refl))

pub unreadable-count : ScannedHasWhatWasGiven → UnreadableCountAsPairs
unreadable-count has there ops range limit is_reverse =
    by_both (unreadable_in ops (scanned_of before range limit is_reverse)) (given_one given) unscanned ungiven
  where
    before : Map
    before = copy there ops

    after : Map
    after = counted there ops

    given : List (Point × List ℕ)
    given = given_of after range limit is_reverse

    given_one : List (Point × List ℕ) → Bool
    given_one pairs = list_any (λ (pair : Point × List ℕ). unreadable ops pair.0) pairs

    agree : (x : Point) → unreadable ops x ≡ false → get before x ≡ get after x
    agree x is = sym (counted-at there ops x
        ∙ ap (λ (unread : Bool). if unread then Some [] else get (copy there ops) x) is)

    -- what was scanned has no unreadable key, so no pair of one is given
    unscanned : unreadable_in ops (scanned_of before range limit is_reverse) ≡ false → given_one given ≡ false
    unscanned none =
        let part = scanned_of before range limit is_reverse in
        ap given_one (decides_what_is_given before after range limit is_reverse
        (λ x inside. agree x (none-in ops part none x inside)) ∙ sym (has before range limit is_reverse))
        ∙ none-given (unreadable ops) (pairs_in before part is_reverse)
        (readable-pairs ops part (pairs_in before part is_reverse) (none-in ops part none)
        (all_in-pairs_in before part is_reverse))

    -- no pair of one is given, so what was scanned has none
    ungiven : given_one given ≡ false → unreadable_in ops (scanned_of before range limit is_reverse) ≡ false
    ungiven none =
        let part = scanned_of after range limit is_reverse in
        let readable : (x : Point) → in_range part x ≡ true → unreadable ops x ≡ false =
        all-given after ops part is_reverse
        (λ x is. counted-at there ops x
        ∙ ap (λ (unread : Bool). if unread then Some [] else get (copy there ops) x) is)
        (ap given_one (has after range limit is_reverse) ∙ none) in
        ap (λ (pairs : List (Point × List ℕ)). unreadable_in ops (scanned range limit is_reverse pairs))
        (decides_what_is_given after before range limit is_reverse
        (λ x inside. sym (agree x (readable x inside))))
        ∙ no-point ops part readable

    by_both : (a b : Bool) → (a ≡ false → b ≡ false) → (b ≡ false → a ≡ false) → a ≡ b
    by_both true true forth back = refl
    by_both true false forth back = back refl
    by_both false b forth back = sym (forth refl)

-- ---- stamps
-- a mutation that is no Stamped makes the same at a readable point
unstamped-step : (mutation : Mutation) (x : Point) (now old : Option (List ℕ)) (before : Bool)
    → is_stamped mutation ≡ false → unreadable_by mutation x before ≡ false → (before ≡ false → now ≡ old)
    → (if names mutation x then new_value mutation now else now)
    ≡ (if names mutation x then new_value mutation old else old)
unstamped-step mutation x now old before other readable same =
    by_blind (is_blind mutation) (names mutation x) refl readable
  where
    by_blind : (blind named : Bool) → is_blind mutation ≡ blind
        → (if blind && named then is_stamped mutation else before) ≡ false
        → (if named then new_value mutation now else now) ≡ (if named then new_value mutation old else old)
    by_blind true true blind readable = blind_is_blind mutation blind now old
    by_blind true false blind readable = same readable
    by_blind false named blind readable =
        ap (λ (value : Option (List ℕ)). if named then new_value mutation value else value) (same readable)

-- a mutation makes the same at a readable point with a stamp
stamp-step : (stamp : List ℕ) (mutation : Mutation) (x : Point) (now old : Option (List ℕ)) (before : Bool)
    → unreadable_by mutation x before ≡ false → (before ≡ false → now ≡ old)
    → (if names mutation x then new_value (stamped stamp mutation) now else now)
    ≡ (if names mutation x then new_value mutation old else old)
stamp-step stamp (Stamped key operand offset) x now old before readable same = by_key (point_eq x key) readable
  where
    by_key : (named : Bool) → (if named then true else before) ≡ false
        → (if named then new_value (stamped stamp (Stamped key operand offset)) now else now)
        ≡ (if named then new_value (Stamped key operand offset) old else old)
    by_key true readable = absurd (both_ways true readable refl)
    by_key false readable = same readable
stamp-step stamp mutation x now old before readable same = unstamped-step mutation x now old before refl readable same

-- so the copies with and without the stamp agree at each readable point
stamp-agrees : (there : Map) (stamp : List ℕ) (ops : List Op) (x : Point) → unreadable ops x ≡ false
    → get (copy there (map (stamped_op stamp) ops)) x ≡ get (copy there ops) x
stamp-agrees there stamp [] x readable = refl
stamp-agrees there stamp (Get key snapshot ∷ earlier) x readable = stamp-agrees there stamp earlier x readable
stamp-agrees there stamp (operation.Range range limit is_reverse snapshot ∷ earlier) x readable =
    stamp-agrees there stamp earlier x readable
stamp-agrees there stamp (AddRead range ∷ earlier) x readable = stamp-agrees there stamp earlier x readable
stamp-agrees there stamp (AddWrite range ∷ earlier) x readable = stamp-agrees there stamp earlier x readable
stamp-agrees there stamp (Write mutation ∷ earlier) x readable =
    let now = copy there (map (stamped_op stamp) earlier) in
    at_every_point now (stamped stamp mutation) x
    ∙ ap (λ (keys : NamedKeys). if is_named keys x then new_value (stamped stamp mutation) (get now x) else get now x)
    (stamps_keep_names stamp mutation)
    ∙ stamp-step stamp mutation x (get now x) (get (copy there earlier) x) (unreadable earlier x) readable
    (stamp-agrees there stamp earlier x)
    ∙ sym (at_every_point (copy there earlier) mutation x)

-- and what reads no unreadable key replies the same
stamp-replies : (there : Map) (stamp : List ℕ) (earlier : List Op) (op : Op) → reads_readable there earlier op ≡ true
    → reply_on (copy there (map (stamped_op stamp) earlier)) (stamped_op stamp op)
    ≡ reply_on (copy there earlier) op
stamp-replies there stamp earlier (Get key snapshot) readable =
    ap answer.Value (stamp-agrees there stamp earlier key (not-true _ readable))
stamp-replies there stamp earlier (operation.Range range limit is_reverse snapshot) readable =
    ap answer.Pairs (decides_what_is_given (copy there earlier) (copy there (map (stamped_op stamp) earlier)) range
    limit is_reverse (λ x inside. sym (stamp-agrees there stamp earlier x
    (none-in earlier (scanned_of (copy there earlier) range limit is_reverse) (not-true _ readable) x inside))))
stamp-replies there stamp earlier (Write mutation) readable = refl
stamp-replies there stamp earlier (AddRead range) readable = refl
stamp-replies there stamp earlier (AddWrite range) readable = refl

pub stamps_never_show : StampsNeverShow
stamps_never_show there stamp [] readable = refl
stamps_never_show there stamp (op ∷ earlier) readable =
    let parts = and_parts (reads_readable there earlier op) (is_readable there earlier) readable in
    ap₂ (λ (reply : Reply) (replies : List Reply). reply ∷ replies) (stamp-replies there stamp earlier op parts.0)
    (stamps_never_show there stamp earlier parts.1)
