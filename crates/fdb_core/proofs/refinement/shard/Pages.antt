-- The pairs of a range, read shard after shard.
use Rattle.std.proofs.Common.{◌≡◌, ◌∙◌, refl, sym, ap, ap₂, ◌<◌, ◌≤◌, ℕ, suc, ◌+◌, ◌-◌, Bool, true, false, ◌&&◌, not}
use Rattle.std.proofs.Common.{List, [], ◌∷◌, ◌++◌, length, ⊎_elim, arith}
use Rattle.std.specs.Prelude.{nat_lt, nat_le, ◌==◌, if◌then◌else◌}
use Rattle.std.specs.Cmp.{both_ways as same_test}
use Rattle.std.specs.List.{filter, AllByRecursion}
use Rattle.std.proofs.lemmas.Bool.{cases_Bool, both_ways, and_parts, and_from, cond-true, cond-false, not_from_false}
use Rattle.std.proofs.lemmas.Bool.{not-true, ltb-true, ltb-false, lt-ltb, le-ltb, leb-true, leb-false, le-leb, lt-leb}
use Rattle.std.proofs.lemmas.Bool.{eqb-true, eq-eqb}
use Rattle.fdb_keys.specs.Points.{Point, point_lt}
use Rattle.fdb_keys.specs.Ranges.{Range, in_range}
use Rattle.fdb_keys.specs.Texts.{is_bound}
use Rattle.fdb_keys.proofs.Exports.{lt_chain}
use Rattle.fdb_interval.proofs.Exports.{all_imply}
use Rattle.fdb_mutations.specs.Pairs.{first_of, pairs_in}
use Rattle.fdb_mutations.proofs.Exports.{parted, filter_all, filter_both, filter_none, ordered-filter, comes_before}
use Rattle.fdb_mutations.proofs.Exports.{ordered-pairs_in, all_in-pairs_in}
use Rattle.fdb_txn.specs.rules.Owners.{first_owner}
use Rattle.fdb_txn.specs.rules.Splits.{piece}
use Rattle.fdb_txn.proofs.Exports.{pieces_part_the_keys}
use Rattle.fdb_roles.proofs.Exports.{first-again}
use Rattle.fdb_core.specs.refinement.shard.Reads.{ShardReads, AreReadable, run_map, pairs_held}
use Rattle.fdb_core.proofs.refinement.shard.Reads.{below-end, owner-within}

-- ---- which shards were read
-- a later key has no earlier owner
owner-rises : (splits : List Point) (x y : Point) → point_lt x y ≡ true → first_owner splits x ≤ first_owner splits y
owner-rises [] x y before = omega arith
owner-rises (split ∷ splits) x y before = ⊎_elim
    (λ sooner.
    let none : first_owner (split ∷ splits) x ≡ 0 = cond-true (point_lt x split) _ _ sooner in
    omega (arith, none))
    (λ later.
    let past = cond-false (point_lt x split) 0 (suc (first_owner splits x)) later in
    let past_too = cond-false (point_lt y split) 0 (suc (first_owner splits y)) (reached later) in
    omega (arith, past, past_too, owner-rises splits x y before))
    (cases_Bool (point_lt x split))
  where
    reached : point_lt x split ≡ false → point_lt y split ≡ false
    reached later = ⊎_elim
        (λ sooner. absurd (both_ways _ later (lt_chain x y split before sooner)))
        (λ no. no)
        (cases_Bool (point_lt y split))

all-of : {A : Type 0} (P : A → Type 0) → ((x : A) → P x) → (xs : List A) → AllByRecursion P xs
all-of P each [] = tt
all-of P each (x ∷ xs) = (each x, all-of P each xs)

-- tests that agree at each item keep the same items
filter_alike : {A : Type 0} (p q : A → Bool) (xs : List A) → AllByRecursion (λ x. p x ≡ q x) xs
    → filter p xs ≡ filter q xs
filter_alike p q [] alike = refl
filter_alike {A} p q (x ∷ xs) alike =
    ap₂ (λ (passes : Bool) (rest : List A). if passes then x ∷ rest else rest) alike.0 (filter_alike p q xs alike.1)

module _ (reads : ShardReads) where
  abbrev pub holder : Point → ℕ
  holder x = first_owner reads.config.shard_splits x

  -- the number of the shard that is read after the first n, in key order or from the end
  abbrev pub read_next : Bool → ℕ → ℕ
  read_next is_reverse n = if is_reverse then length reads.shards - 1 - n else n

  -- one of the first n that are read holds the point
  abbrev pub is_read : Bool → ℕ → Point → Bool
  is_read false n x = nat_lt (holder x) n
  is_read true n x = nat_le (length reads.shards) (holder x + n)

  -- of the pairs of a range those that the first n have
  abbrev pub pairs_read : Range → Bool → ℕ → List (Point × List ℕ)
  pairs_read range is_reverse n =
      filter (λ pair. is_read is_reverse n pair.0) (pairs_in (run_map reads) range is_reverse)

  -- the next one has what one more of them has beside the others
  is_next : (is_reverse : Bool) (n : ℕ) → n < length reads.shards → (x : Point)
      → (holder x == read_next is_reverse n) ≡ (is_read is_reverse (n + 1) x && not (is_read is_reverse n x))
  is_next false n within x = same_test _ _
      (λ is.
      let same = eqb-true (holder x) n is in
      and_from _ _ (lt-ltb (holder x) (n + 1) (omega (arith, same)))
      (not_from_false _ (le-ltb (holder x) n (omega (arith, same)))))
      (λ both.
      let parts : (nat_lt (holder x) (n + 1) ≡ true) × (not (nat_lt (holder x) n) ≡ true) = and_parts _ _ both in
      eq-eqb (holder x) n
      (omega (arith, ltb-true (holder x) (n + 1) parts.0, ltb-false (holder x) n (not-true _ parts.1))))
  is_next true n within x = same_test _ _
      (λ is.
      let same = eqb-true (holder x) (length reads.shards - 1 - n) is in
      and_from _ _ (le-leb (length reads.shards) (holder x + (n + 1)) (omega (arith, same, within)))
      (not_from_false _ (lt-leb (length reads.shards) (holder x + n) (omega (arith, same, within)))))
      (λ both.
      let parts : (nat_le (length reads.shards) (holder x + (n + 1)) ≡ true)
      × (not (nat_le (length reads.shards) (holder x + n)) ≡ true) = and_parts _ _ both in
      eq-eqb (holder x) (length reads.shards - 1 - n)
      (omega (
        arith,
        leb-true (length reads.shards) (holder x + (n + 1)) parts.0,
        leb-false (length reads.shards) (holder x + n) (not-true _ parts.1),
      )))

  still_read : (is_reverse : Bool) (n : ℕ) (x : Point)
      → is_read is_reverse n x ≡ (is_read is_reverse (n + 1) x && is_read is_reverse n x)
  still_read false n x = same_test _ _
      (λ read. and_from _ _ (lt-ltb (holder x) (n + 1) (omega (arith, ltb-true (holder x) n read))) read)
      (λ both. (and_parts _ _ both).1)
  still_read true n x = same_test _ _
      (λ read. and_from _ _ (le-leb (length reads.shards) (holder x + (n + 1))
      (omega (arith, leb-true (length reads.shards) (holder x + n) read))) read)
      (λ both. (and_parts _ _ both).1)

  -- behind a key that isn't read yet none is
  unread-behind : (is_reverse : Bool) (n : ℕ) (x y : Point) → comes_before is_reverse x y ≡ true
      → is_read is_reverse n x ≡ false → is_read is_reverse n y ≡ false
  unread-behind false n x y before unread =
      le-ltb (holder y) n (omega (
        arith,
        ltb-false (holder x) n unread,
        owner-rises reads.config.shard_splits x y before,
      ))
  unread-behind true n x y before unread =
      lt-leb (length reads.shards) (holder y + n)
      (omega (
        arith,
        leb-false (length reads.shards) (holder x + n) unread,
        owner-rises reads.config.shard_splits y x before,
      ))

  -- with one more shard its pairs follow
  pairs-next : (range : Range) (is_reverse : Bool) (n : ℕ) → n < length reads.shards
      → pairs_read range is_reverse (n + 1)
      ≡ pairs_read range is_reverse n
      ++ filter (λ pair. holder pair.0 == read_next is_reverse n) (pairs_in (run_map reads) range is_reverse)
  pairs-next range is_reverse n within =
      let all = pairs_in (run_map reads) range is_reverse in
      parted (λ a b. comes_before is_reverse a.0 b.0) (λ pair. is_read is_reverse n pair.0)
      (λ a b before unread. unread-behind is_reverse n a.0 b.0 before unread)
      (pairs_read range is_reverse (n + 1))
      (ordered-filter (λ a b. comes_before is_reverse a.0 b.0) (λ pair. is_read is_reverse (n + 1) pair.0) all
      (ordered-pairs_in (run_map reads) range is_reverse))
      ∙ sym (ap₂ (λ (front back : List (Point × List ℕ)). front ++ back)
      (filter_both (λ pair. is_read is_reverse (n + 1) pair.0) (λ pair. is_read is_reverse n pair.0)
      (λ pair. is_read is_reverse n pair.0) (λ pair. still_read is_reverse n pair.0) all)
      (filter_both (λ pair. is_read is_reverse (n + 1) pair.0) (λ pair. not (is_read is_reverse n pair.0))
      (λ pair. holder pair.0 == read_next is_reverse n) (λ pair. is_next is_reverse n within pair.0) all))

  -- before the first shard nothing is read
  pub pairs-none : (range : Range) (is_reverse : Bool) → AreReadable reads → pairs_read range is_reverse 0 ≡ []
  pairs-none range is_reverse readable =
      filter_none (λ pair. is_read is_reverse 0 pair.0) (pairs_in (run_map reads) range is_reverse)
      (all-of (λ pair. is_read is_reverse 0 pair.0 ≡ false) (λ pair. unread is_reverse pair.0) _)
    where
      unread : (way : Bool) (x : Point) → is_read way 0 x ≡ false
      unread false x = le-ltb (holder x) 0 (omega arith)
      unread true x =
          lt-leb (length reads.shards) (holder x + 0) (omega (arith, owner-within reads readable x))

  -- and after the last one all is
  pub pairs-all : (range : Range) (is_reverse : Bool) → AreReadable reads
      → pairs_read range is_reverse (length reads.shards) ≡ pairs_in (run_map reads) range is_reverse
  pairs-all range is_reverse readable =
      filter_all (λ pair. is_read is_reverse (length reads.shards) pair.0) (pairs_in (run_map reads) range is_reverse)
      (all-of (λ pair. is_read is_reverse (length reads.shards) pair.0 ≡ true) (λ pair. read is_reverse pair.0) _)
    where
      read : (way : Bool) (x : Point) → is_read way (length reads.shards) x ≡ true
      read false x = lt-ltb (holder x) (length reads.shards) (owner-within reads readable x)
      read true x = le-leb (length reads.shards) (holder x + length reads.shards) (omega arith)

  -- the pairs that a shard holds are those of the keys that it owns
  held-are : (range : Range) (is_reverse : Bool) (i : ℕ) → AreReadable reads → is_bound range.end ≡ true
      → i < length reads.shards
      → pairs_held reads i range is_reverse
      ≡ filter (λ pair. holder pair.0 == i) (pairs_in (run_map reads) range is_reverse)
  held-are range is_reverse i readable legal within =
      filter_alike (λ pair. in_range (piece reads.config.shard_splits i) pair.0) (λ pair. holder pair.0 == i)
      (pairs_in (run_map reads) range is_reverse)
      (all_imply (λ pair. in_range range pair.0 ≡ true)
      (λ pair. in_range (piece reads.config.shard_splits i) pair.0 ≡ (holder pair.0 == i))
      (λ pair inside. pieces_part_the_keys reads.config.shard_splits i pair.0 readable.splits
      (omega (arith, within, readable.as_many)) (below-end range pair.0 legal inside))
      (pairs_in (run_map reads) range is_reverse) (all_in-pairs_in (run_map reads) range is_reverse))

  -- so with the pairs that the next one holds those of one more are read
  pub first-read : (range : Range) (is_reverse : Bool) (wanted n number : ℕ) → AreReadable reads
      → is_bound range.end ≡ true → n < length reads.shards → number ≡ read_next is_reverse n
      → (pairs : List (Point × List ℕ)) → pairs ≡ first_of wanted (pairs_read range is_reverse n)
      → first_of wanted (pairs ++ pairs_held reads number range is_reverse)
      ≡ first_of wanted (pairs_read range is_reverse (n + 1))
  first-read range is_reverse wanted n number readable legal within is pairs so_far =
      ap₂ (λ (front back : List (Point × List ℕ)). first_of wanted (front ++ back)) so_far
      (ap (λ (i : ℕ). pairs_held reads i range is_reverse) is
      ∙ held-are range is_reverse (read_next is_reverse n) readable legal (next-within is_reverse))
      ∙ first-again wanted (pairs_read range is_reverse n) _
      ∙ ap (first_of wanted) (sym (pairs-next range is_reverse n within))
    where
      next-within : (way : Bool) → read_next way n < length reads.shards
      next-within false = within
      next-within true = omega (arith, within)
