-- A page of a walk has the first pairs of what was left, and the rest has the others.
use Rattle.std.proofs.Common.{◌≡◌, ◌∙◌, sym, ap, refl, subst, ℕ, ◌-◌, ◌<◌, ◌+◌, suc, Bool, true, false, not, ◌&&◌}
use Rattle.std.proofs.Common.{List, [], ◌∷◌, ◌++◌, length, take, drop, filter, Option, Some, None, nat_eq, ⊎_elim}
use Rattle.std.proofs.Common.{arith}
use Rattle.std.specs.Prelude.{if◌then◌else◌}
use Rattle.std.specs.Option.{unwrap_or}
use Rattle.std.specs.Cmp.{both_ways as same_tests}
use Rattle.std.specs.List.{AllByRecursion, slice_get}
use Rattle.std.proofs.lemmas.Bool.{cases_Bool, cases_order, both_ways, and_parts, and_from, not-true}
use Rattle.std.proofs.lemmas.Bool.{cond-true, cond-false, eqb-true, eq-eqb}
use Rattle.std.proofs.lemmas.List.{take_all, take-append-drop, length-append, length-take-le, append-nil, append_assoc}
use Rattle.fdb_keys.specs.Cutting.{range_behind}
use Rattle.fdb_keys.specs.Points.{Point, point_lt}
use Rattle.fdb_keys.specs.Ranges.{Range, in_range}
use Rattle.fdb_keys.proofs.Exports.{after_next, all-parts, behind-inside, below_next, in_range_from, in_range_parts}
use Rattle.fdb_keys.proofs.Exports.{lt-itself, lt_one_way}
use Rattle.fdb_mutations.specs.Maps.{Map}
use Rattle.fdb_mutations.specs.PairLaws.{given_of}
use Rattle.fdb_mutations.specs.Pairs.{pairs_in, first_of, is_limit_reached}
use Rattle.fdb_mutations.proofs.Exports.{all_in-pairs_in, filter_all, ordered-pairs_in, pairs_in-part}
use Rattle.fdb_sections.specs.Sessions.{Session}
use Rattle.fdb_runtime.specs.Walks.{behind_last, rest_of, WalksOn}
use Rattle.fdb_runtime.specs.declared.pages.Pages.{Pages}
use Rattle.fdb_layers.specs.Reads.{count_left, pairs_left, run_read, HasOnlyRead, HasWrittenNone}
use Rattle.fdb_layers.proofs.RangesLemmas.{AreInOrder}
use Rattle.fdb_layers.proofs.ReadsLemmas.{page-is, page-only-read}

abbrev pub Pair : Type 0
Pair = Point × List ℕ

-- ---- the pairs behind one of them
behind-kept : (front : List Pair) (last : Pair) (rest : List Pair) → AreInOrder (front ++ last ∷ rest)
    → filter (λ (pair : Pair). point_lt last.0 pair.0) (front ++ last ∷ rest) ≡ rest
behind-kept [] last rest rise =
    cond-false (point_lt last.0 last.0) (last ∷ filter (λ (pair : Pair). point_lt last.0 pair.0) rest) _
    (lt-itself last.0)
    ∙ filter_all (λ (pair : Pair). point_lt last.0 pair.0) rest rise.0
behind-kept (first ∷ front) last rest rise =
    let later = (all-parts (λ (pair : Pair). point_lt first.0 pair.0 ≡ true) front (last ∷ rest) rise.0).1 in
    cond-false (point_lt last.0 first.0)
    (first ∷ filter (λ (pair : Pair). point_lt last.0 pair.0) (front ++ last ∷ rest)) _
    (lt_one_way first.0 last.0 later.0)
    ∙ behind-kept front last rest rise.1

in_behind : (range : Range) (key x : Point) → in_range range key ≡ true
    → in_range (range_behind range false key) x ≡ (in_range range x && point_lt key x)
in_behind range key x inside = same_tests _ _
    (λ there. and_from (in_range range x) (point_lt key x) (behind-inside range false key inside x there)
    (after_next key x (in_range_parts (range_behind range false key) x there).0))
    (λ both. let parts = and_parts (in_range range x) (point_lt key x) both in
    in_range_from (range_behind range false key) x (below_next key x ∙ ap not parts.1)
    (in_range_parts range x parts.0).1)

pairs-behind : (map : Map) (range : Range) (front : List Pair) (last : Pair) (rest : List Pair)
    → pairs_in map range false ≡ front ++ last ∷ rest
    → pairs_in map (range_behind range false last.0) false ≡ rest
pairs-behind map range front last rest are =
    let inside : in_range range last.0 ≡ true =
    (all-parts (λ (pair : Pair). in_range range pair.0 ≡ true) front (last ∷ rest)
    (subst (AllByRecursion (λ (pair : Pair). in_range range pair.0 ≡ true)) are (all_in-pairs_in map range false))).1.0
    in
    pairs_in-part map range (range_behind range false last.0) (λ x. point_lt last.0 x)
    (λ x. in_behind range last.0 x inside) false
    ∙ ap (filter (λ (pair : Pair). point_lt last.0 pair.0)) are
    ∙ behind-kept front last rest (subst AreInOrder are (ordered-pairs_in map range false))

-- ---- the last one of some pairs
record HasLast (pairs : List Pair) : Type 0 where
  front : List Pair
  last : Pair
  are : pairs ≡ front ++ last ∷ []
  is_last : slice_get pairs (length pairs - 1) ≡ Some last

has-last : (first : Pair) (pairs : List Pair) → HasLast (first ∷ pairs)
has-last first [] = record { front = []; last = first; are = refl; is_last = refl }
has-last first (second ∷ pairs) =
    let later = has-last second pairs in
    let at : length (first ∷ second ∷ pairs) - 1 ≡ suc (length (second ∷ pairs) - 1) = omega arith in
    record {
      front = first ∷ later.front;
      last = later.last;
      are = ap (λ (more : List Pair). first ∷ more) later.are;
      is_last = ap (slice_get (first ∷ second ∷ pairs)) at ∙ later.is_last;
    }

-- ---- where the limit was reached, and where it wasn't
all-given : (limit : ℕ) (pairs : List Pair) → nat_eq (length (take limit pairs)) limit ≡ false
    → take limit pairs ≡ pairs
all-given limit pairs more = ⊎_elim
    (λ (same : limit ≡ length pairs). take_all limit pairs (omega (arith, same)))
    (⊎_elim
    (λ (less : limit < length pairs).
    absurd (both_ways _ more
    (eq-eqb (length (take limit pairs)) limit (length-take-le limit pairs (omega (arith, less))))))
    (λ (greater : length pairs < limit). take_all limit pairs (omega (arith, greater))))
    (cases_order limit (length pairs))

whole-given : (limit : ℕ) (pairs : List Pair) → is_limit_reached limit (first_of limit pairs) ≡ false
    → first_of limit pairs ≡ pairs
whole-given limit pairs unreached = ⊎_elim
    (λ none. cond-true (nat_eq limit 0) pairs (take limit pairs) none)
    (λ some. let first : first_of limit pairs ≡ take limit pairs = cond-false (nat_eq limit 0) _ _ some in
    first ∙ all-given limit pairs
    (ap (λ (given : List Pair). nat_eq (length given) limit) (sym first)
    ∙ sym (ap (λ zero. not zero && nat_eq (length (first_of limit pairs)) limit) some)
    ∙ unreached))
    (cases_Bool (nat_eq limit 0))

-- The pairs of the range, when some of them were given, are these and those of the rest behind them.
reached-rest : (map : Map) (range : Range) (limit : ℕ) (given : List Pair) (others : List Pair)
    → pairs_in map range false ≡ given ++ others → is_limit_reached limit given ≡ true
    → pairs_in map range false ≡ given ++ pairs_left map (rest_of range limit given)
reached-rest map range limit [] others are reached =
    let parts = and_parts (not (nat_eq limit 0)) (nat_eq 0 limit) reached in
    absurd (both_ways _ (not-true (nat_eq limit 0) parts.0) (eq-eqb limit 0 (sym (eqb-true 0 limit parts.1))))
reached-rest map range limit (first ∷ given) others are reached =
    let it = has-last first given in
    let whole : pairs_in map range false ≡ it.front ++ it.last ∷ others =
    are ∙ ap (λ (pairs : List Pair). pairs ++ others) it.are ∙ append_assoc it.front (it.last ∷ []) others in
    let rest : rest_of range limit (first ∷ given) ≡ Some (range_behind range false it.last.0) =
    cond-true (is_limit_reached limit (first ∷ given)) _ None reached ∙ ap (behind_last range) it.is_last in
    are ∙ ap (λ (pairs : List Pair). (first ∷ given) ++ pairs)
    (sym (ap (pairs_left map) rest ∙ pairs-behind map range it.front it.last others whole))

pub page-and-rest : (map : Map) (range : Range) (limit : ℕ) (given : List Pair) → given ≡ given_of map range limit false
    → pairs_in map range false ≡ given ++ pairs_left map (rest_of range limit given)
page-and-rest map range limit given is = ⊎_elim
    (λ reached. let parts = and_parts (not (nat_eq limit 0)) (nat_eq (length given) limit) reached in
    reached-rest map range limit given (drop limit (pairs_in map range false))
    (sym (ap (λ (pairs : List Pair). pairs ++ drop limit (pairs_in map range false))
    (is ∙ cond-false (nat_eq limit 0) (pairs_in map range false) (take limit (pairs_in map range false))
    (not-true (nat_eq limit 0) parts.0))
    ∙ take-append-drop limit (pairs_in map range false))) reached)
    (λ unreached. let none : rest_of range limit given ≡ None =
    cond-false (is_limit_reached limit given) _ None unreached in
    sym (ap (λ (rest : Option Range). given ++ pairs_left map rest) none
    ∙ append-nil given ∙ is
    ∙ whole-given limit (pairs_in map range false)
    (ap (is_limit_reached limit) (sym is) ∙ unreached)))
    (cases_Bool (is_limit_reached limit given))

-- where none was given, none was left
pub no-page : (map : Map) (range : Range) (limit : ℕ) → [] ≡ given_of map range limit false
    → pairs_in map range false ≡ []
no-page map range limit is =
    page-and-rest map range limit [] is ∙ ap (pairs_left map) (no-rest (is_limit_reached limit []))
  where
    no-rest : (reached : Bool) → (if reached then behind_last range None else None) ≡ None
    no-rest true = refl
    no-rest false = refl

-- ---- a page of a walk that hasn't ended
-- What was left are the page's pairs and those that are left behind it, and the walk is nearer to its end.
pub record IsPage (map : Map) (old : Option Range) (page : Option (List Pair)) (new : Option Range) : Type 0 where
  pub are : pairs_left map old ≡ unwrap_or page [] ++ pairs_left map new
  pub fewer : count_left map new < count_left map old

fewer-behind : (map : Map) (range : Range) (page : List Pair) (new : Option Range) → (page ≡ [] → ⊥)
    → pairs_in map range false ≡ page ++ pairs_left map new → count_left map new < count_left map (Some range)
fewer-behind map range [] new some are = absurd (some refl)
fewer-behind map range (pair ∷ page) None some are = omega arith
fewer-behind map range (pair ∷ page) (Some rest) some are =
    let count : length (pairs_in map range false) ≡ length ((pair ∷ page) ++ pairs_in map rest false) =
    ap (λ (pairs : List Pair). length pairs) are in
    let parts : length ((pair ∷ page) ++ pairs_in map rest false)
    ≡ length (pair ∷ page) + length (pairs_in map rest false) =
    length-append (pair ∷ page) (pairs_in map rest false) in
    omega (arith, count, parts)

walked-by : (splits : List Point) (before after : Session) (old new : Pages) (page : Option (List Pair))
    (rest : Option Range) → (rest ≡ None → ⊥) → HasWrittenNone before.current
    → WalksOn splits old rest before page after new
    → HasOnlyRead before after × IsPage (run_read splits before) rest page new.rest
walked-by splits before after old new page None some unwritten walks = absurd (some refl)
walked-by splits before after old new None (Some range) some unwritten walks = (
  page-only-read splits before after range old.limit old.snapshot [] unwritten walks.0.0,
  record {
    are = no-page map range old.limit (page-is splits before after range old.limit old.snapshot [] unwritten walks.0.0)
        ∙ sym (ap (pairs_left map) walks.0.1);
    fewer = subst (λ (rest : Option Range). count_left map rest < count_left map (Some range)) (sym walks.0.1)
        (omega arith);
  },
)
  where
    map : Map
    map = run_read splits before
walked-by splits before after old new (Some page) (Some range) some unwritten walks = (
  page-only-read splits before after range old.limit old.snapshot page unwritten walks.0.0,
  record { are = are; fewer = fewer-behind map range page new.rest walks.0.1 are },
)
  where
    map : Map
    map = run_read splits before

    are : pairs_in map range false ≡ page ++ pairs_left map new.rest
    are = page-and-rest map range old.limit page
        (page-is splits before after range old.limit old.snapshot page unwritten walks.0.0)
        ∙ ap (λ (rest : Option Range). page ++ pairs_left map rest) (sym walks.0.2)

module _ (splits : List Point) (before after : Session) (old : Pages) (some : old.rest ≡ None → ⊥)
    (unwritten : HasWrittenNone before.current) where
  pub walked : (new : Pages) (page : Option (List Pair)) → WalksOn splits old old.rest before page after new
      → HasOnlyRead before after × IsPage (run_read splits before) old.rest page new.rest
  walked new page walks = walked-by splits before after old new page old.rest some unwritten walks
