-- The IDs behind the index entries of a value are those of the records that hold it.
use Rattle.std.proofs.Common.{◌≡◌, ◌∙◌, sym, ap, ap₂, subst, refl, ℕ, suc, Bool, true, false, ◌&&◌, ◌||◌, ◌<◌}
use Rattle.std.proofs.Common.{if◌then◌else◌, ⊎_elim, List, [], ◌∷◌, ◌++◌, length, take, drop, Option, Some, None}
use Rattle.std.proofs.Common.{Less, arith}
use Rattle.std.specs.Prelude.{codes, IfSome}
use Rattle.std.specs.Cmp.{nat_cmp_is}
use Rattle.std.specs.Cmp.Lexicographic.{bytes_decides, slice_cmp}
use Rattle.std.specs.Coded.{coded_option, coded_list, coded_ℕ}
use Rattle.std.specs.FinMap.{get}
use Rattle.std.specs.List.{AllByRecursion}
use Rattle.std.specs.Ordering.{is_lt, nat_cmp, ordering_then}
use Rattle.std.proofs.lemmas.Bool.{and_from, and_parts, cases_Bool, cond-false, cond-true, or_cases, or_left, or_right}
use Rattle.std.proofs.lemmas.Cmp.{nat_cmp_total, tied_itself}
use Rattle.std.proofs.lemmas.List.{append-nil, take-append-drop}
use Rattle.std.proofs.lemmas.List.Folds.{list_any-append}
use Rattle.std.proofs.Math.Bool.{Bool-set}
use Rattle.std.proofs.Math.Logic.{∥∥₁_elim}
use Rattle.std.proofs.Math.Seq.{drop-append_seam, take-append_seam}
use base.Stored.{Coded-set}
use Rattle.fdb_keys.specs.Ordered.{AreOrdered}
use Rattle.fdb_keys.specs.Points.{Point, point_eq, point_lt}
use Rattle.fdb_keys.specs.Prefixes.{after_prefix, all_ff, prefix_range}
use Rattle.fdb_keys.specs.Ranges.{Range, in_range}
use Rattle.fdb_keys.proofs.Exports.{all-append, in_range_from}
use Rattle.fdb_mutations.specs.Maps.{Map}
use Rattle.fdb_mutations.specs.Pairs.{pairs_in}
use Rattle.fdb_mutations.proofs.Exports.{ordered-pairs_in}
use Rattle.fdb_txn.specs.declared.entry.Entry.{Entry}
use Rattle.fdb_client.specs.declared.program.Transcript.{Transcript}
use Rattle.fdb_sections.specs.Asking.{HoldsOnRun}
use Rattle.fdb_layers.specs.Finding.{AreFoundBy, all_behind, behind, is_among}
use Rattle.fdb_layers.specs.Operations.{WritesNoValue}
use Rattle.fdb_layers.specs.Table.{AreIndexed, entry_key, record_key, value_size}
use Rattle.fdb_layers.proofs.CountingLemmas.{run}
use Rattle.fdb_layers.proofs.OperationsLemmas.{itself}
use Rattle.fdb_layers.proofs.RangesLemmas.{AreInOrder, has_pair, range_has_pair}

-- ---- texts with the same front
pub first-less : (x y : ℕ) (xs ys : List ℕ) → x < y → point_lt (x ∷ xs) (y ∷ ys) ≡ true
unfolding point_lt
first-less x y xs ys less = ap (λ first. is_lt (ordering_then first (slice_cmp nat_cmp xs ys)))
    (sym (nat_cmp_is x y Less less))

first-same : (x : ℕ) (xs ys : List ℕ) → point_lt (x ∷ xs) (x ∷ ys) ≡ point_lt xs ys
unfolding point_lt
first-same x xs ys = ap (λ first. is_lt (ordering_then first (slice_cmp nat_cmp xs ys))) (tied_itself nat_cmp_total x)

before-none : (xs : List ℕ) → point_lt xs [] ≡ false
unfolding point_lt
before-none [] = refl
before-none (x ∷ xs) = refl

-- their order is that of what stands behind it
lt-behind : (front a b : List ℕ) → point_lt (front ++ a) (front ++ b) ≡ point_lt a b
lt-behind [] a b = refl
lt-behind (x ∷ front) a b = first-same x (front ++ a) (front ++ b) ∙ lt-behind front a b

from-front : (front a : List ℕ) → point_lt (front ++ a) front ≡ false
from-front [] a = before-none a
from-front (x ∷ front) a = first-same x (front ++ a) front ∙ from-front front a

until-after : (byte : ℕ) (bytes a : List ℕ) → point_lt ((byte ∷ bytes) ++ a) (after_prefix (byte ∷ bytes)) ≡ true
until-after byte [] a = first-less byte (suc byte) a [] (omega arith)
until-after byte (next ∷ bytes) a = ⊎_elim
    (λ all. ap (point_lt (byte ∷ ((next ∷ bytes) ++ a)))
    (cond-true (all_ff (next ∷ bytes)) (suc byte ∷ []) (byte ∷ after_prefix (next ∷ bytes)) all)
    ∙ first-less byte (suc byte) ((next ∷ bytes) ++ a) [] (omega arith))
    (λ some. ap (point_lt (byte ∷ ((next ∷ bytes) ++ a)))
    (cond-false (all_ff (next ∷ bytes)) (suc byte ∷ []) (byte ∷ after_prefix (next ∷ bytes)) some)
    ∙ first-same byte ((next ∷ bytes) ++ a) (after_prefix (next ∷ bytes)) ∙ until-after next bytes a)
    (cases_Bool (all_ff (next ∷ bytes)))

-- what begins with a prefix lies in its range
pub in-prefix : (byte : ℕ) (bytes a : List ℕ) → in_range (prefix_range (byte ∷ bytes)) ((byte ∷ bytes) ++ a) ≡ true
in-prefix byte bytes a = in_range_from (prefix_range (byte ∷ bytes)) ((byte ∷ bytes) ++ a)
    (from-front (byte ∷ bytes) a) (until-after byte bytes a)

-- ---- what stands behind a prefix in keys
-- a key that begins so is the prefix and what stands behind it
parts-are : (prefix : List ℕ) (key : Point) → point_eq (take (length prefix) key) prefix ≡ true
    → key ≡ prefix ++ drop (length prefix) key
parts-are prefix key begins =
    sym (take-append-drop (length prefix) key)
    ∙ ap (λ (front : List ℕ). front ++ drop (length prefix) key)
    ((bytes_decides (take (length prefix) key) prefix).0 begins)

begins-so : (prefix a : List ℕ) → point_eq (take (length prefix) (prefix ++ a)) prefix ≡ true
begins-so prefix a = (bytes_decides (take (length prefix) (prefix ++ a)) prefix).1 (take-append_seam prefix a)

the-one : (b : Bool) → (b || false) ≡ true → b ≡ true
the-one true is = refl
the-one false is = is

among-one : (there : Bool) (it id : List ℕ) → is_among (if there then it ∷ [] else []) id ≡ true
    → (there ≡ true) × (it ≡ id)
among-one true it id among = (refl, (bytes_decides it id).0 (the-one (point_eq it id) among))
among-one false it id among = absurd (let wrong : false ≡ true = among in cc)

one-among : (there : Bool) (it id : List ℕ) → there ≡ true → it ≡ id
    → is_among (if there then it ∷ [] else []) id ≡ true
one-among true it id is same = or_left (point_eq it id) false ((bytes_decides it id).1 same)
one-among false it id is same = absurd (let wrong : false ≡ true = is in cc)

among-behind : (prefix : List ℕ) (key : Point) (id : List ℕ) → is_among (behind prefix key) id ≡ true
    → key ≡ prefix ++ id
among-behind prefix key id among =
    let found : (point_eq (take (length prefix) key) prefix ≡ true) × (drop (length prefix) key ≡ id) =
    among-one (point_eq (take (length prefix) key) prefix) (drop (length prefix) key) id among in
    parts-are prefix key found.0 ∙ ap (λ (rest : List ℕ). prefix ++ rest) found.1

behind-among : (prefix : List ℕ) (key : Point) (id : List ℕ) → key ≡ prefix ++ id
    → is_among (behind prefix key) id ≡ true
behind-among prefix key id is = subst (λ (k : Point). is_among (behind prefix k) id ≡ true) (sym is)
    (one-among (point_eq (take (length prefix) (prefix ++ id)) prefix) (drop (length prefix) (prefix ++ id)) id
    (begins-so prefix id) (drop-append_seam prefix id))

-- an ID is among those behind the prefix exactly where a pair has the prefix and the ID as its key
among-pair : (prefix : List ℕ) (pairs : List (Point × List ℕ)) (id : List ℕ)
    → is_among (all_behind prefix pairs) id ≡ true
    → (content : List ℕ) × (has_pair pairs (prefix ++ id) content ≡ true)
among-pair prefix [] id among = absurd (let wrong : false ≡ true = among in cc)
among-pair prefix (pair ∷ pairs) id among = ⊎_elim
    (λ here. (
      pair.1,
      or_left (point_eq pair.0 (prefix ++ id) && point_eq pair.1 pair.1) (has_pair pairs (prefix ++ id) pair.1)
          (and_from (point_eq pair.0 (prefix ++ id)) (point_eq pair.1 pair.1)
          ((bytes_decides pair.0 (prefix ++ id)).1 (among-behind prefix pair.0 id here)) (itself pair.1)),
    ))
    (λ later. let more : (content : List ℕ) × (has_pair pairs (prefix ++ id) content ≡ true) =
    among-pair prefix pairs id later in (
      more.0,
      or_right (point_eq pair.0 (prefix ++ id) && point_eq pair.1 more.0) (has_pair pairs (prefix ++ id) more.0)
          more.1,
    ))
    (or_cases (is_among (behind prefix pair.0) id) (is_among (all_behind prefix pairs) id)
    (sym (list_any-append (λ it. point_eq it id) (behind prefix pair.0) (all_behind prefix pairs)) ∙ among))

pair-among : (prefix : List ℕ) (pairs : List (Point × List ℕ)) (id content : List ℕ)
    → has_pair pairs (prefix ++ id) content ≡ true → is_among (all_behind prefix pairs) id ≡ true
pair-among prefix [] id content has = absurd (let wrong : false ≡ true = has in cc)
pair-among prefix (pair ∷ pairs) id content has =
    list_any-append (λ it. point_eq it id) (behind prefix pair.0) (all_behind prefix pairs)
    ∙ ⊎_elim
    (λ first. or_left (is_among (behind prefix pair.0) id) (is_among (all_behind prefix pairs) id)
    (behind-among prefix pair.0 id ((bytes_decides pair.0 (prefix ++ id)).0
    (and_parts (point_eq pair.0 (prefix ++ id)) (point_eq pair.1 content) first).0)))
    (λ later. or_right (is_among (behind prefix pair.0) id) (is_among (all_behind prefix pairs) id)
    (pair-among prefix pairs id content later))
    (or_cases (point_eq pair.0 (prefix ++ id) && point_eq pair.1 content) (has_pair pairs (prefix ++ id) content) has)

-- ---- the IDs are in the order of the keys
abbrev pub AreAfter : List ℕ → List (List ℕ) → Type 0
AreAfter id others = AllByRecursion (λ other. point_lt id other ≡ true) others

abbrev pub AreIDsInOrder : List (List ℕ) → Type 0
AreIDsInOrder ids = AreOrdered (λ one other. point_lt one other ≡ true) ids

all-maybe : (P : List ℕ → Type 0) (there : Bool) (it : List ℕ) → (there ≡ true → P it)
    → AllByRecursion P (if there then it ∷ [] else [])
all-maybe P true it holds = (holds refl, tt)
all-maybe P false it holds = tt

ordered-maybe : (there : Bool) (it : List ℕ) (ids : List (List ℕ)) → (there ≡ true → AreAfter it ids)
    → AreIDsInOrder ids → AreIDsInOrder ((if there then it ∷ [] else []) ++ ids)
ordered-maybe true it ids later ordered = (later refl, ordered)
ordered-maybe false it ids later ordered = ordered

after-behind : (prefix id : List ℕ) (pairs : List (Point × List ℕ))
    → AllByRecursion (λ pair. point_lt (prefix ++ id) pair.0 ≡ true) pairs → AreAfter id (all_behind prefix pairs)
after-behind prefix id [] later = tt
after-behind prefix id (pair ∷ pairs) later =
    all-append (λ other. point_lt id other ≡ true) (behind prefix pair.0) (all_behind prefix pairs)
    (all-maybe (λ other. point_lt id other ≡ true) (point_eq (take (length prefix) pair.0) prefix)
    (drop (length prefix) pair.0)
    (λ begins. sym (lt-behind prefix id (drop (length prefix) pair.0))
    ∙ ap (point_lt (prefix ++ id)) (sym (parts-are prefix pair.0 begins)) ∙ later.0))
    (after-behind prefix id pairs later.1)

ordered-behind : (prefix : List ℕ) (pairs : List (Point × List ℕ)) → AreInOrder pairs
    → AreIDsInOrder (all_behind prefix pairs)
ordered-behind prefix [] ordered = tt
ordered-behind prefix (pair ∷ pairs) ordered =
    ordered-maybe (point_eq (take (length prefix) pair.0) prefix) (drop (length prefix) pair.0)
    (all_behind prefix pairs)
    (λ begins. after-behind prefix (drop (length prefix) pair.0) pairs
    (subst (λ (key : Point). AllByRecursion (λ pair. point_lt key pair.0 ≡ true) pairs)
    (parts-are prefix pair.0 begins) ordered.0))
    (ordered-behind prefix pairs ordered.1)

-- ---- what is found on a map of which index and records agree
module _ (map : Map) (value : List ℕ) (long : length value ≡ value_size) where
  abbrev prefix : List ℕ
  prefix = entry_key value []

  abbrev pairs : List (Point × List ℕ)
  pairs = pairs_in map (prefix_range prefix) false

  entry-is : (id : List ℕ) → prefix ++ id ≡ entry_key value id
  entry-is id = ap (λ (v : List ℕ). codes "i/" ++ (v ++ id)) (append-nil value)

  found-hold : (id : List ℕ) → is_among (all_behind prefix pairs) id ≡ true → AreIndexed map
      → get map (record_key id) ≡ Some value
  found-hold id among are =
      let pair : (content : List ℕ) × (has_pair pairs (prefix ++ id) content ≡ true) =
      among-pair prefix pairs id among in
      are.finds id value pair.0 long (ap (λ (key : Point). get map key) (sym (entry-is id))
      ∙ ((range_has_pair map (prefix_range prefix) false (prefix ++ id) pair.0).0 pair.1).1)

  hold-found : (id : List ℕ) → get map (record_key id) ≡ Some value → AreIndexed map
      → is_among (all_behind prefix pairs) id ≡ true
  hold-found id holds are = pair-among prefix pairs id []
      ((range_has_pair map (prefix_range prefix) false (prefix ++ id) []).1 (
        in-prefix 105 (47 ∷ (value ++ [])) id,
        ap (λ (key : Point). get map key) (entry-is id) ∙ are.found id value holds,
      ))

  pub are-found : ∥ AreIndexed map ∥₁ → AreFoundBy map value (all_behind prefix pairs)
  are-found kept = record {
    hold = λ id. (
      (λ among. ∥∥₁_elim kept
          (Coded-set (coded_option (coded_list coded_ℕ)) (get map (record_key id)) (Some value))
          (λ are. found-hold id among are)),
      (λ holds. ∥∥₁_elim kept (Bool-set (is_among (all_behind prefix pairs) id) true)
          (λ are. hold-found id holds are)),
    );
    in_order = ordered-behind prefix pairs (ordered-pairs_in map (prefix_range prefix) false);
  }

-- what the pairs of a read show, on the map of the open transaction
pub finds : (splits : List Point) (front : List Entry) (current : Option Transcript) (value : List ℕ)
    → length value ≡ value_size → (start : List ℕ) (range : Range) (given : List (Point × List ℕ))
    (ids : List (List ℕ)) → start ≡ entry_key value [] → range ≡ prefix_range start → ids ≡ all_behind start given
    → IfSome current WritesNoValue
    → IfSome current (λ (transcript : Transcript). WritesNoValue transcript
    → given ≡ pairs_in (run splits front transcript) range false)
    → HoldsOnRun AreIndexed splits front
    → IfSome current (λ (transcript : Transcript). AreFoundBy (run splits front transcript) value ids)
finds splits front None value long start range given ids start-is range-is ids-are none given-are kept = tt
finds splits front (Some transcript) value long start range given ids start-is range-is ids-are none given-are kept =
    let map : Map = run splits front transcript in
    let its : Range = prefix_range (entry_key value []) in
    let range-its : range ≡ its = range-is ∙ ap prefix_range start-is in
    let all : given ≡ pairs_in map its false =
    given-are none ∙ ap (λ (of : Range). pairs_in map of false) range-its in
    let are : ids ≡ all_behind (entry_key value []) (pairs_in map its false) =
    ids-are ∙ ap₂ (λ (own : List ℕ) (some : List (Point × List ℕ)). all_behind own some) start-is all in
    subst (λ (them : List (List ℕ)). AreFoundBy map value them) (sym are)
    (are-found map value long (kept transcript.read_version))
