-- What the shards answer, at a version that they serve, is what stands on the serial map.
use Rattle.std.proofs.Common.{◌≡◌, ◌∙◌, refl, sym, ap, ap₂, ◌<◌, ◌≤◌, ℕ, zero, suc, Bool, true, false, ◌&&◌, ◌||◌}
use Rattle.std.proofs.Common.{List, [], ◌∷◌, length, map, Option, Some, None, ⊎_elim, slice_get, arith}
use Rattle.std.specs.Prelude.{nat_lt, ◌==◌, unwrap_or, if◌then◌else◌}
use Rattle.std.specs.Cmp.{both_ways as same_test}
use Rattle.std.specs.List.{list_any}
use Rattle.std.specs.FinMap.{get}
use Rattle.std.specs.Option.{option_map}
use Rattle.std.proofs.lemmas.Bool.{cases_Bool, both_ways, and_parts, and_from, or_left, or_right, cond-true, cond-false}
use Rattle.std.proofs.lemmas.Bool.{not-true, ltb-true, ltb-false, eqb-true, eq-eqb, false_from_ne_true}
use Rattle.std.proofs.lemmas.Option.{slice_get-map, slice_get_within}
use Rattle.fdb_keys.specs.Points.{Point, point_lt}
use Rattle.fdb_keys.specs.Clipping.{clipped_range, in_clipped}
use Rattle.fdb_keys.specs.Ranges.{Range, in_range, is_within, ranges_meet}
use Rattle.fdb_keys.specs.Texts.{is_bound}
use Rattle.fdb_keys.specs.declared.refusal.Refusal.{Refusal}
use Rattle.fdb_keys.specs.declared.refusal.Refusal.TheVariants.{Failed, FutureVersion, TransactionTooOld}
use Rattle.fdb_keys.proofs.Exports.{in_clipped-points, lt_le_chain, in_range_parts, common_from_meet, meet_from_common}
use Rattle.fdb_keys.proofs.Exports.{within-points}
use Rattle.fdb_mutations.specs.Pairs.{pairs_in}
use Rattle.fdb_mutations.proofs.Exports.{filter_none, pairs_in-part, all_in-pairs_in}
use Rattle.fdb_interval.proofs.Exports.{all_imply}
use Rattle.fdb_txn.specs.rules.Owners.{first_owner}
use Rattle.fdb_txn.specs.rules.Splits.{end_of_keys, piece}
use Rattle.fdb_txn.proofs.Exports.{owner-exists, pieces_part_the_keys}
use Rattle.fdb_storage.specs.Shards.{serving_fault, value_at, HasValuesOf}
use Rattle.fdb_storage.specs.Shards as storage
use Rattle.fdb_core.specs.declared.roles.shard.ShardRole.{ShardRole}
use Rattle.fdb_machine.specs.machine.ClientSteps.{fault_among, shard_begins}
use Rattle.fdb_machine.specs.machine.RoleSteps.{shard_fault}
use Rattle.fdb_core.specs.refinement.log.Ties.{progress_of}
use Rattle.fdb_core.specs.refinement.shard.RangeFaults.{held_by_one}
use Rattle.fdb_machine.proofs.Exports.{of-range, too-old-range, served-range, begin-point, point-begin}
use Rattle.fdb_core.specs.refinement.shard.RangeFaults.{failed_by_one, unrefused}
use Rattle.fdb_core.specs.refinement.shard.Reads.{ShardReads, AreReadable, has_failed_at, point_fault, range_fault}
use Rattle.fdb_core.specs.refinement.shard.Reads.{run_map, pairs_held}
use Rattle.fdb_roles.proofs.Exports.{within-item}

-- an item that passes a test, with its number, where the list has one
some-at : {A : Type 0} (p : A → Bool) (xs : List A) → list_any p xs ≡ true
    → (i : ℕ) × (x : A) × (slice_get xs i ≡ Some x) × (p x ≡ true)
some-at p [] is = cc
some-at p (x ∷ xs) is = ⊎_elim
    (λ here. (0, x, refl, here))
    (λ not_here. let later = some-at p xs (sym (ap (λ (b : Bool). b || list_any p xs) not_here) ∙ is) in
    (suc later.0, later.1, later.2, later.3))
    (cases_Bool (p x))

-- an item that passes it is such a one
any-at : {A : Type 0} (p : A → Bool) (xs : List A) (i : ℕ) (x : A) → slice_get xs i ≡ Some x → p x ≡ true
    → list_any p xs ≡ true
any-at p [] i x there passes = cc
any-at p (y ∷ ys) zero x there passes =
    let same : y ≡ x = cc in or_left (p y) (list_any p ys) (ap p same ∙ passes)
any-at p (y ∷ ys) (suc i) x there passes = or_right (p y) (list_any p ys) (any-at p ys i x there passes)

-- a point of a range with a legal end comes before the end of the keys
pub below-end : (range : Range) (x : Point) → is_bound range.end ≡ true → in_range range x ≡ true
    → point_lt x end_of_keys ≡ true
below-end range x legal inside =
    lt_le_chain x range.end end_of_keys (in_range_parts range x inside).1 (not-true _ (and_parts _ _ legal).1)

-- a version that is served lies from the floor through the greatest one
serving : (version floor greatest : ℕ) → serving_fault version floor greatest ≡ None
    → (floor ≤ version) × (version ≤ greatest)
serving version floor greatest served = by_tests (nat_lt version floor) (nat_lt greatest version) refl refl served
  where
    by_tests : (old future : Bool) → nat_lt version floor ≡ old → nat_lt greatest version ≡ future
        → (if old then Some TransactionTooOld else (if future then Some FutureVersion else None)) ≡ None
        → (floor ≤ version) × (version ≤ greatest)
    by_tests true future is_old is_future none = cc
    by_tests false true is_old is_future none = cc
    by_tests false false is_old is_future none = (ltb-false version floor is_old, ltb-false greatest version is_future)

-- what is refused, and not as too old, is refused as not served yet
not-old : (version floor greatest : ℕ) (why : Refusal) → serving_fault version floor greatest ≡ Some why
    → nat_lt version floor ≡ false → (nat_lt greatest version ≡ true) × (why ≡ FutureVersion)
not-old version floor greatest why refused young =
    by_test (nat_lt greatest version) (sym (cond-false (nat_lt version floor) _ _ young) ∙ refused)
  where
    by_test : (future : Bool) → (if future then Some FutureVersion else None) ≡ Some why
        → (future ≡ true) × (why ≡ FutureVersion)
    by_test true is = let same : FutureVersion ≡ why = cc in (refl, sym same)
    by_test false is = cc

-- the shard has failed
abbrev is_failed_role : ShardRole → Bool
is_failed_role role = role.state.is_failed

-- the shard holds some of the range, and has failed
abbrev pub is_failed_in : Range → ShardRole → Bool
is_failed_in range role = ranges_meet role.state.range range && role.state.is_failed

-- or no longer serves the version
abbrev pub is_behind_floor : ℕ → Range → ShardRole → Bool
is_behind_floor version range role = ranges_meet role.state.range range && nat_lt version role.state.floor

-- or doesn't serve it yet
abbrev pub is_ahead_of : ℕ → Range → ShardRole → Bool
is_ahead_of version range role = ranges_meet role.state.range range && nat_lt role.state.version version

module _ (reads : ShardReads) (readable : AreReadable reads) where
  abbrev pub owner : Point → ℕ
  owner x = first_owner reads.config.shard_splits x

  pub owner-within : (x : Point) → owner x < length reads.shards
  owner-within x =
      let few : owner x < suc (length reads.config.shard_splits) =
      owner-exists reads.config.shard_splits 0 [] x 0 tt in
      omega (arith, few, readable.as_many)

  -- a shard holds those keys that it owns
  held-by : (i : ℕ) (role : ShardRole) (x : Point) → slice_get reads.shards i ≡ Some role
      → point_lt x end_of_keys ≡ true → in_range role.state.range x ≡ (owner x == i)
  held-by i role x there below =
      let inside = slice_get_within reads.shards i role there in
      ap (λ (range : Range). in_range range x) (readable.each i role there).range
      ∙ pieces_part_the_keys reads.config.shard_splits i x readable.splits (omega (arith, inside, readable.as_many))
      below

  -- and is who fails,
  failed-of : (i : ℕ) (role : ShardRole) (x : Point) → slice_get reads.shards i ≡ Some role → owner x ≡ i
      → has_failed_at reads x ≡ role.state.is_failed
  failed-of i role x there owns =
      ap (λ (flag : Option Bool). unwrap_or flag false)
      (ap (slice_get (map is_failed_role reads.shards)) owns ∙ slice_get-map is_failed_role reads.shards i
      ∙ ap (option_map is_failed_role) there)

  -- or doesn't serve them
  fault-of : (i : ℕ) (role : ShardRole) (x : Point) → slice_get reads.shards i ≡ Some role → owner x ≡ i
      → point_fault reads x ≡ serving_fault reads.version role.state.floor role.state.version
  fault-of i role x there owns =
      ap (shard_fault reads.book reads.version)
      (ap (slice_get (map progress_of reads.shards)) owns ∙ slice_get-map progress_of reads.shards i
      ∙ ap (option_map progress_of) there)
      ∙ ap (serving_fault reads.version role.state.floor) (sym (readable.each i role there).version)

  -- at a key that it owns and serves it has what the run has, if it works
  value-of : (i : ℕ) (role : ShardRole) (x : Point) → slice_get reads.shards i ≡ Some role
      → in_range role.state.range x ≡ true → role.state.is_failed ≡ false
      → serving_fault reads.version role.state.floor role.state.version ≡ None
      → value_at role.state reads.version x ≡ get (run_map reads) x
  value-of i role x there inside works served =
      let bounds = serving reads.version role.state.floor role.state.version served in
      let it = readable.each i role there in
      it.serves works x bounds.0 bounds.1 (ap (λ (range : Range). in_range range x) (sym it.range) ∙ inside)

  module _ (range : Range) (legal : is_bound range.end ≡ true) where
    -- the points from which on a shard holds some of the range, and why one of them isn't served
    abbrev begins : List Point
    begins = shard_begins reads.config.shard_splits range

    abbrev served_fault : Option Refusal
    served_fault = fault_among (point_fault reads) begins

    -- a shard that holds some of the range holds a point of it, and is who refuses that
    met : (i : ℕ) (role : ShardRole) → slice_get reads.shards i ≡ Some role
        → ranges_meet role.state.range range ≡ true
        → (x : Point) × (in_range range x ≡ true) × (owner x ≡ i)
    met i role there meets =
        let common = common_from_meet role.state.range range meets in
        let owns = sym (held-by i role common.0 there (below-end range common.0 legal common.2)) ∙ common.1 in
        (common.0, common.2, eqb-true (owner common.0) i owns)

    -- and each point of the range is held by a shard that holds some of it
    asked : (x : Point) → in_range range x ≡ true
        → (role : ShardRole) × (slice_get reads.shards (owner x) ≡ Some role)
        × (ranges_meet role.state.range range ≡ true)
    asked x inside =
        let one = within-item reads.shards (owner x) (owner-within x) in
        let held : in_range one.0.state.range x ≡ true =
        held-by (owner x) one.0 x one.1 (below-end range x legal inside) ∙ eq-eqb (owner x) (owner x) refl in
        (one.0, one.1, meet_from_common one.0.state.range range x held inside)

    -- a shard has failed that holds some of the range where one has that begins in it
    some_failed : list_any (has_failed_at reads) begins ≡ list_any (is_failed_in range) reads.shards
    some_failed = same_test _ _
        (λ failed.
        let point = begin-point reads.config.shard_splits range (has_failed_at reads) failed in
        let one = asked point.0 point.1 in
        any-at (is_failed_in range) reads.shards (owner point.0) one.0 one.1
        (and_from _ _ one.2 (sym (failed-of (owner point.0) one.0 point.0 one.1 refl) ∙ point.2)))
        (λ failed.
        let one = some-at (is_failed_in range) reads.shards failed in
        let parts = and_parts _ _ one.3 in
        let point = met one.0 one.1 one.2 parts.0 in
        point-begin reads.config.shard_splits range (has_failed_at reads) (failed_by_one reads) point.0 point.1
        (failed-of one.0 one.1 point.0 one.2 point.2 ∙ parts.1))

    -- the range is too old for the shards where one of them forgot the version
    too-old : list_any (is_behind_floor reads.version range) reads.shards ≡ true
        → served_fault ≡ Some TransactionTooOld
    too-old is =
        let one = some-at (is_behind_floor reads.version range) reads.shards is in
        let parts = and_parts _ _ one.3 in
        let point = met one.0 one.1 one.2 parts.0 in
        too-old-range reads.config.shard_splits range (point_fault reads) (held_by_one reads) point.0 point.1
        (fault-of one.0 one.1 point.0 one.2 point.2 ∙ cond-true (nat_lt reads.version one.1.state.floor) _ _ parts.1)

    module _ (young : list_any (is_behind_floor reads.version range) reads.shards ≡ false) where
      still : (i : ℕ) (role : ShardRole) → slice_get reads.shards i ≡ Some role
          → ranges_meet role.state.range range ≡ true → nat_lt reads.version role.state.floor ≡ false
      still i role there meets = ⊎_elim
          (λ old. absurd (both_ways _ young (any-at (is_behind_floor reads.version range) reads.shards i role there
          (and_from _ _ meets old))))
          (λ no. no)
          (cases_Bool (nat_lt reads.version role.state.floor))

      -- otherwise it is not served yet, by a shard that isn't so far
      later : (why : Refusal) → served_fault ≡ Some why
          → (list_any (is_ahead_of reads.version range) reads.shards ≡ true) × (why ≡ FutureVersion)
      later why refused =
          let point = of-range reads.config.shard_splits range (point_fault reads) (held_by_one reads) why refused in
          let one = asked point.0 point.1 in
          let is = not-old reads.version one.0.state.floor one.0.state.version why
          (sym (fault-of (owner point.0) one.0 point.0 one.1 refl) ∙ point.2)
          (still (owner point.0) one.0 one.1 one.2) in (
            any-at (is_ahead_of reads.version range) reads.shards (owner point.0) one.0 one.1
                (and_from _ _ one.2 is.0),
            is.1,
          )

      -- and where there is such a shard
      not-yet : list_any (is_ahead_of reads.version range) reads.shards ≡ true
          → served_fault ≡ Some FutureVersion
      not-yet is = by_fault served_fault refl
        where
          by_fault : (fault : Option Refusal) → served_fault ≡ fault → fault ≡ Some FutureVersion
          by_fault None served =
              let one = some-at (is_ahead_of reads.version range) reads.shards is in
              let parts = and_parts _ _ one.3 in
              let point = met one.0 one.1 one.2 parts.0 in
              let bounds = serving reads.version one.1.state.floor one.1.state.version
              (sym (fault-of one.0 one.1 point.0 one.2 point.2)
              ∙ served-range reads.config.shard_splits range (point_fault reads) (held_by_one reads) point.0 point.1
              served) in
              absurd (omega (arith, bounds.1, ltb-true one.1.state.version reads.version parts.1))
          by_fault (Some why) refused = ap (λ (refusal : Refusal). Some refusal) (later why refused).1

      -- so where there is none it is served
      all-serve : list_any (is_ahead_of reads.version range) reads.shards ≡ false → served_fault ≡ None
      all-serve none = by_fault served_fault refl
        where
          by_fault : (fault : Option Refusal) → served_fault ≡ fault → fault ≡ None
          by_fault None served = refl
          by_fault (Some why) refused = absurd (both_ways _ none (later why refused).0)

    -- why a range is not served, by the shards that hold some of it
    served_fault-is : served_fault
        ≡ (if list_any (is_behind_floor reads.version range) reads.shards then Some TransactionTooOld
        else (if list_any (is_ahead_of reads.version range) reads.shards then Some FutureVersion else None))
    served_fault-is = ⊎_elim
        (λ old. too-old old ∙ sym (cond-true _ _ _ old))
        (λ young. ⊎_elim
        (λ ahead. not-yet young ahead ∙ sym (cond-true _ _ _ ahead) ∙ sym (cond-false _ _ _ young))
        (λ reached. all-serve young reached ∙ sym (cond-false _ _ _ reached) ∙ sym (cond-false _ _ _ young))
        (cases_Bool (list_any (is_ahead_of reads.version range) reads.shards)))
        (cases_Bool (list_any (is_behind_floor reads.version range) reads.shards))

    -- and why it is refused
    pub range_fault-is : range_fault reads range
        ≡ (if list_any (is_failed_in range) reads.shards then Some Failed
        else (if list_any (is_behind_floor reads.version range) reads.shards then Some TransactionTooOld
        else (if list_any (is_ahead_of reads.version range) reads.shards then Some FutureVersion else None)))
    range_fault-is =
        ap₂ (λ (failed : Bool) (fault : Option Refusal). if failed then Some Failed else fault) some_failed
        served_fault-is

    module _ (served : range_fault reads range ≡ None) where
      -- a shard that holds some of a range that isn't refused works,
      shard-works : (i : ℕ) (role : ShardRole) → slice_get reads.shards i ≡ Some role
          → ranges_meet role.state.range range ≡ true → role.state.is_failed ≡ false
      shard-works i role there meets = false_from_ne_true _ (λ failed.
          both_ways _ (sym some_failed ∙ (unrefused (list_any (has_failed_at reads) begins) served_fault served).0)
          (any-at (is_failed_in range) reads.shards i role there (and_from _ _ meets failed)))

      -- and serves the version
      shard-served : (i : ℕ) (role : ShardRole) → slice_get reads.shards i ≡ Some role
          → ranges_meet role.state.range range ≡ true
          → serving_fault reads.version role.state.floor role.state.version ≡ None
      shard-served i role there meets =
          let point = met i role there meets in
          sym (fault-of i role point.0 there point.2)
          ∙ served-range reads.config.shard_splits range (point_fault reads) (held_by_one reads) point.0 point.1
          (unrefused (list_any (has_failed_at reads) begins) served_fault served).1

      module _ (i : ℕ) (role : ShardRole) (there : slice_get reads.shards i ≡ Some role) (part : Range)
          (clipped : clipped_range range role.state.range ≡ Some part) where
        part-of : (x : Point) → in_range part x ≡ (in_range range x && in_range role.state.range x)
        part-of x =
            ap (λ (clip : Option Range). in_clipped clip x) (sym clipped)
            ∙ in_clipped-points range role.state.range x

        meets-part : ranges_meet role.state.range range ≡ true
        meets-part = ⊎_elim
            (λ meets.
            let common = common_from_meet range role.state.range meets in
            meet_from_common role.state.range range common.0 common.2 common.1)
            (λ apart.
            let nothing : None ≡ Some part = sym (cond-false (ranges_meet range role.state.range) _ _ apart)
            ∙ clipped in
            cc)
            (cases_Bool (ranges_meet range role.state.range))

        -- it gives a page of what it holds of the range
        pub page-served : storage.range_fault role.state part reads.version ≡ None
        page-served =
            let within : is_within part role.state.range ≡ true =
            (within-points part role.state.range).1
            (λ x inside. (and_parts (in_range range x) _ (sym (part-of x) ∙ inside)).1) in
            rw (shard-works i role there meets-part, within) (shard-served i role there meets-part)

        -- which is one of the serial map
        pub has-values : HasValuesOf role.state reads.version part (run_map reads)
        has-values x inside = sym
            (value-of i role x there (and_parts (in_range range x) _ (sym (part-of x) ∙ inside)).1
            (shard-works i role there meets-part) (shard-served i role there meets-part))

        -- with the pairs whose keys it holds
        pub pairs-of-part : (is_reverse : Bool)
            → pairs_in (run_map reads) part is_reverse ≡ pairs_held reads i range is_reverse
        pairs-of-part is_reverse =
            pairs_in-part (run_map reads) range part (in_range (piece reads.config.shard_splits i))
            (λ x. part-of x
            ∙ ap (λ (whole : Range). in_range range x && in_range whole x)
            (readable.each i role there).range) is_reverse

      -- one that holds nothing of it has no pair of it
      pub none-held : (i : ℕ) (role : ShardRole) → slice_get reads.shards i ≡ Some role
          → clipped_range range role.state.range ≡ None → (is_reverse : Bool) → pairs_held reads i range is_reverse ≡ []
      none-held i role there clipped is_reverse =
          filter_none (λ pair. in_range (piece reads.config.shard_splits i) pair.0)
          (pairs_in (run_map reads) range is_reverse)
          (all_imply (λ pair. in_range range pair.0 ≡ true)
          (λ pair. in_range (piece reads.config.shard_splits i) pair.0 ≡ false)
          (λ pair inside. outside pair.0 inside) (pairs_in (run_map reads) range is_reverse)
          (all_in-pairs_in (run_map reads) range is_reverse))
        where
          outside : (x : Point) → in_range range x ≡ true → in_range (piece reads.config.shard_splits i) x ≡ false
          outside x inside = false_from_ne_true _ (λ held.
              let apart : false ≡ (in_range range x && in_range role.state.range x) =
              ap (λ (clip : Option Range). in_clipped clip x) (sym clipped)
              ∙ in_clipped-points range role.state.range x in
              both_ways _ (sym apart) (and_from _ _ inside
              (ap (λ (whole : Range). in_range whole x) (readable.each i role there).range ∙ held)))
