-- What one mutation does to a map, point by point.
use Rattle.std.proofs.Common.{◌≡◌, ◌∙◌, sym, ap, refl, ℕ, Bool, true, false, not, ◌&&◌, cond, List, Option, Some, None}
use Rattle.std.proofs.Common.{if◌then◌else◌, ⊎_elim}
use Rattle.std.specs.FinMap.{get, get-insert, get-remove, get-retain_keys, slice_cmp-IsAntisymmetric}
use Rattle.std.specs.FinMap.{nat_cmp-IsAntisymmetric}
use Rattle.std.specs.Cmp.Lexicographic.{bytes_decides}
use Rattle.std.proofs.lemmas.Bool.{cases_Bool, both_ways, and_parts, and_from, cond-true, cond-false}
use Rattle.std.proofs.lemmas.Bool.{false_from_ne_true}
use Rattle.std.proofs.lemmas.Cmp.{nat_list_cmp_total}
use Rattle.std.proofs.lemmas.Map.Text.{is_eq-slice_cmp}
use Rattle.fdb_keys.specs.Points.{Point, point_eq}
use Rattle.fdb_keys.specs.Ranges.{Range, in_range, single_range, ranges_meet}
use Rattle.fdb_keys.specs.Clipping.{common_range, clipped_range}
use Rattle.fdb_keys.proofs.Exports.{HaveCommonPoint, common_from_meet, meet_from_common, in_range-single, in_common}
use Rattle.fdb_mutations.specs.declared.mutation.Mutation.{Mutation}
use Rattle.fdb_mutations.specs.declared.mutation.Mutation.TheVariants.{Set, Clear, ClearRange, Stamped}
use Rattle.fdb_mutations.specs.Maps.{Map}
use Rattle.fdb_mutations.specs.Naming.{NamedKeys, OneKey, KeysIn, is_named, range_of}
use Rattle.fdb_mutations.specs.Mutations.{EffectAtEveryPoint, BlindIsBlind, RangesAreCleared, effect, effect_of, named}
use Rattle.fdb_mutations.specs.Mutations.{names, named_range, new_value, is_blind, with_value, with_new, within}
use Rattle.fdb_mutations.specs.Mutations.{clipped_mutation}

-- a map with a value at a key has it there, and elsewhere what it had
get-with_value : (map : Map) (key : Point) (value : Option (List ℕ)) (x : Point)
    → get (with_value map key value) x ≡ (if point_eq x key then value else get map x)
get-with_value map key None x =
    get-remove nat_list_cmp_total map key x ∙ ap (λ same. cond same None (get map x)) (is_eq-slice_cmp x key)
get-with_value map key (Some value) x =
    get-insert nat_list_cmp_total map key value x
    ∙ ap (λ same. cond same (Some value) (get map x)) (is_eq-slice_cmp x key)

-- a new value at one key
at_key : (map : Map) (key : Point) (new : Option (List ℕ) → Option (List ℕ)) (x : Point)
    → get (with_new map (OneKey key) new) x ≡ (if point_eq x key then new (get map x) else get map x)
at_key map key new x =
    get-with_value map key (new (get map key)) x
    ∙ ⊎_elim
    (λ here. ap (λ (y : Point). if point_eq x key then new (get map y) else get map x)
    (sym ((bytes_decides x key).0 here)))
    (λ elsewhere. cond-false (point_eq x key) (new (get map key)) (get map x) elsewhere
    ∙ sym (cond-false (point_eq x key) (new (get map x)) (get map x) elsewhere))
    (cases_Bool (point_eq x key))

turned : (b : Bool) (x y : Option (List ℕ)) → cond (not b) x y ≡ cond b y x
turned true x y = refl
turned false x y = refl

-- no value at the keys of a range
in_cleared : (map : Map) (range : Range) (x : Point)
    → get (with_new map (KeysIn range) (λ old. None)) x ≡ (if in_range range x then None else get map x)
in_cleared map range x =
    get-retain_keys map (λ y. not (in_range range y)) x
    (λ y tied. ap (λ (z : Point). not (in_range range z))
    (sym (slice_cmp-IsAntisymmetric nat_cmp-IsAntisymmetric x y tied)))
    ∙ turned (in_range range x) (get map x) None

-- At a point that a mutation names stands the new value, and at every other what stood there.
pub at_every_point : EffectAtEveryPoint
unfolding effect
at_every_point map (ClearRange range) x = in_cleared map range x
at_every_point map mutation x = at_key map _ (new_value mutation) x

-- A blind mutation makes the same of any two values.
pub blind_is_blind : BlindIsBlind
blind_is_blind (Set key value) blind a b = refl
blind_is_blind (Clear key) blind a b = refl
blind_is_blind (ClearRange range) blind a b = refl
blind_is_blind (Stamped key operand offset) blind a b = refl
blind_is_blind mutation blind a b = absurd (both_ways false refl blind)

-- what is named is the points of its range
in_range-range_of : (keys : NamedKeys) (x : Point) → in_range (range_of keys) x ≡ is_named keys x
in_range-range_of (OneKey key) x = in_range-single key x
in_range-range_of (KeysIn range) x = refl

-- a mutation names the points of its range
pub in_named_range : (mutation : Mutation) (x : Point) → in_range (named_range mutation) x ≡ names mutation x
in_named_range mutation x = in_range-range_of (named mutation) x

-- the range of a key meets a range exactly where the key lies in it
pub meets-single : (key : Point) (range : Range) → ranges_meet (single_range key) range ≡ in_range range key
meets-single key range = ⊎_elim
    (λ inside. meet_from_common (single_range key) range key
    (in_range-single key key ∙ (bytes_decides key key).1 refl) inside
    ∙ sym inside)
    (λ outside. false_from_ne_true _ (λ meets.
    let shared : HaveCommonPoint (single_range key) range = common_from_meet (single_range key) range meets in
    let same : shared.0 ≡ key = (bytes_decides shared.0 key).0 (sym (in_range-single key shared.0) ∙ shared.1) in
    both_ways _ outside (ap (in_range range) (sym same) ∙ shared.2)) ∙ sym outside)
    (cases_Bool (in_range range key))

-- what a mutation that names a range is
pub is_clear_range : (mutation : Mutation) (range : Range) → named mutation ≡ KeysIn range → mutation ≡ ClearRange range
is_clear_range (ClearRange cleared) range same = cc
is_clear_range mutation range same = absurd (cc)

-- of what a mutation names, that in the range is left
names-within : (range : Range) (mutation : Mutation) (x : Point) → ranges_meet (named_range mutation) range ≡ true
    → names (within range mutation) x ≡ (names mutation x && in_range range x)
names-within range (ClearRange cleared) x meets = in_common cleared range x
names-within range mutation x meets = key_in_range _ range x meets
  where
    key_in_range : (key : Point) (range : Range) (x : Point) → ranges_meet (single_range key) range ≡ true
        → point_eq x key ≡ (point_eq x key && in_range range x)
    key_in_range key range x meets = ⊎_elim
        (λ here. here ∙ sym (and_from (point_eq x key) (in_range range x) here
        (ap (in_range range) ((bytes_decides x key).0 here) ∙ sym (meets-single key range) ∙ meets)))
        (λ elsewhere. ap (λ (b : Bool). b) elsewhere ∙ sym (ap (λ (b : Bool). b && in_range range x) elsewhere))
        (cases_Bool (point_eq x key))

new_value-within : (range : Range) (mutation : Mutation) (old : Option (List ℕ))
    → new_value (within range mutation) old ≡ new_value mutation old
new_value-within range (ClearRange cleared) old = refl
new_value-within range mutation old = refl

-- one test within another
nested : (a b : Bool) (x y : Option (List ℕ)) → (if a && b then x else y) ≡ (if b then (if a then x else y) else y)
nested true true x y = refl
nested true false x y = refl
nested false true x y = refl
nested false false x y = refl

-- a clipped mutation does at the points of the range what the mutation does, and elsewhere nothing
pub effect-clipped : (range : Range) (mutation : Mutation) (map : Map) (x : Point)
    → get (effect_of map (clipped_mutation range mutation)) x
    ≡ (if in_range range x then get (effect map mutation) x else get map x)
effect-clipped range mutation map x = ⊎_elim
    (λ meets.
    ap (λ (m : Option Mutation). get (effect_of map m) x)
    (cond-true (ranges_meet (named_range mutation) range) (Some (within range mutation)) None meets)
    ∙ at_every_point map (within range mutation) x
    ∙ ap (λ (b : Bool). if b then new_value (within range mutation) (get map x) else get map x)
    (names-within range mutation x meets)
    ∙ ap (λ (new : Option (List ℕ)). if names mutation x && in_range range x then new else get map x)
    (new_value-within range mutation (get map x))
    ∙ as_cut (names mutation x && in_range range x) refl)
    (λ apart.
    ap (λ (m : Option Mutation). get (effect_of map m) x)
    (cond-false (ranges_meet (named_range mutation) range) (Some (within range mutation)) None apart)
    ∙ sym (cond-false (names mutation x && in_range range x) (new_value mutation (get map x)) (get map x)
    (false_from_ne_true _ (λ both.
    let parts : (names mutation x ≡ true) × (in_range range x ≡ true) = and_parts _ _ both in
    both_ways _ apart (meet_from_common (named_range mutation) range x
    (in_named_range mutation x ∙ parts.0) parts.1))))
    ∙ as_cut (names mutation x && in_range range x) refl)
    (cases_Bool (ranges_meet (named_range mutation) range))
  where
    as_cut : (b : Bool) → (names mutation x && in_range range x) ≡ b
        → (if names mutation x && in_range range x then new_value mutation (get map x) else get map x)
        ≡ (if in_range range x then get (effect map mutation) x else get map x)
    as_cut b is =
        nested (names mutation x) (in_range range x) (new_value mutation (get map x)) (get map x)
        ∙ ap (λ (now : Option (List ℕ)). if in_range range x then now else get map x)
        (sym (at_every_point map mutation x))

-- a clear of a range, if there is one
abbrev pub cleared_in : Option Range → Option Mutation
cleared_in None = None
cleared_in (Some range) = Some (ClearRange range)

-- what is left of a mutation of one key
pub clipped-key : (range : Range) (mutation : Mutation) (key : Point) → OneKey key ≡ named mutation
    → clipped_mutation range mutation ≡ (if in_range range key then Some mutation else None)
clipped-key range (ClearRange cleared) key same = absurd (cc)
clipped-key range mutation key same = ap (λ (b : Bool). if b then Some mutation else None)
    (meets-single _ range ∙ ap (in_range range) (sym (cc)))

-- what is left of a clear of a range
pub clipped-range : (range : Range) (mutation : Mutation) (cleared : Range) → KeysIn cleared ≡ named mutation
    → clipped_mutation range mutation ≡ cleared_in (clipped_range cleared range)
clipped-range range mutation cleared same =
    ap (clipped_mutation range) (is_clear_range mutation cleared (sym same)) ∙ either (ranges_meet cleared range)
  where
    either : (b : Bool) → (if b then Some (ClearRange (common_range cleared range)) else None)
        ≡ cleared_in (if b then Some (common_range cleared range) else None)
    either true = refl
    either false = refl

-- A mutation that names a range clears it.
pub ranges_are_cleared : RangesAreCleared
ranges_are_cleared mutation range same =
    let is = is_clear_range mutation range same in
    (ap is_blind is, λ old. ap (λ (one : Mutation). new_value one old) is)
