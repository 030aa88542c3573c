-- What mutations do to maps.
use Rattle.std.specs.Prelude.{◌≡◌, ℕ, ◌+◌, Bool, true, false, not, nat_lt, List, [], ◌∷◌, length, bit_and, bit_or}
use Rattle.std.specs.Prelude.{bit_xor, Option, Some, None, if◌then◌else◌}
use Rattle.std.specs.FinMap.{get, insert, remove, retain_keys}
use Rattle.fdb_keys.specs.Points.{Point}
use Rattle.fdb_keys.specs.Ranges.{Range, in_range, ranges_meet}
use Rattle.fdb_keys.specs.Insertion.{lesser_point, greater_point}
use Rattle.fdb_keys.specs.Clipping.{common_range}
use Rattle.fdb_keys.specs.declared.refusal.Refusal.{Refusal}
use Rattle.fdb_keys.specs.declared.refusal.Refusal.TheVariants.{ValueTooLarge, BadOperand}
use Rattle.fdb_mutations.specs.declared.mutation.Mutation.{Mutation}
use Rattle.fdb_mutations.specs.declared.mutation.Mutation.TheVariants.{Set, Clear, ClearRange, Add, And, Or, Xor, Max}
use Rattle.fdb_mutations.specs.declared.mutation.Mutation.TheVariants.{Min, ByteMin, ByteMax, CompareAndClear, Stamped}
use Rattle.fdb_mutations.specs.Limits.{value_limit}
use Rattle.fdb_mutations.specs.Maps.{Map}
use Rattle.fdb_mutations.specs.Naming.{NamedKeys, OneKey, KeysIn, is_named, range_of, naming_size}
use Rattle.fdb_mutations.specs.Numbers.{greater_number, lesser_number}
use Rattle.fdb_mutations.specs.Stamps.{has_room}
use Rattle.fdb_mutations.specs.Operands.{fit, present, combined, bytewise, sum_of, is_addend, has_value}

-- what the mutation names
abbrev pub named : Mutation → NamedKeys
named (Set key value) = OneKey key
named (Clear key) = OneKey key
named (ClearRange range) = KeysIn range
named (Add key operand) = OneKey key
named (And key operand) = OneKey key
named (Or key operand) = OneKey key
named (Xor key operand) = OneKey key
named (Max key operand) = OneKey key
named (Min key operand) = OneKey key
named (ByteMin key operand) = OneKey key
named (ByteMax key operand) = OneKey key
named (CompareAndClear key operand) = OneKey key
named (Stamped key operand offset) = OneKey key

-- the value or operand that the mutation carries, with no bytes where it carries none
abbrev pub carried : Mutation → List ℕ
carried (Set key value) = value
carried (Clear key) = []
carried (ClearRange range) = []
carried (Add key operand) = operand
carried (And key operand) = operand
carried (Or key operand) = operand
carried (Xor key operand) = operand
carried (Max key operand) = operand
carried (Min key operand) = operand
carried (ByteMin key operand) = operand
carried (ByteMax key operand) = operand
carried (CompareAndClear key operand) = operand
carried (Stamped key operand offset) = operand

-- What stands at a point that the mutation names, by what stood there. The bare operand of a Stamped stands for what it
-- becomes at its commit.
abbrev pub new_value : Mutation → Option (List ℕ) → Option (List ℕ)
new_value (Set key value) old = Some value
new_value (Clear key) old = None
new_value (ClearRange range) old = None
new_value (Add key operand) old = if is_addend operand then Some (sum_of (present old) operand) else old
new_value (And key operand) old = Some (combined (bytewise bit_and) old operand)
new_value (Or key operand) old = Some (bytewise bit_or (present old) operand)
new_value (Xor key operand) old = Some (bytewise bit_xor (present old) operand)
new_value (Max key operand) old = Some (greater_number (fit (length operand) (present old)) operand)
new_value (Min key operand) old =
    Some (combined (λ value other. lesser_number (fit (length other) value) other) old operand)
new_value (ByteMin key operand) old = Some (combined lesser_point old operand)
new_value (ByteMax key operand) old = Some (combined greater_point old operand)
new_value (CompareAndClear key operand) old = if has_value old operand then None else old
new_value (Stamped key operand offset) old = Some operand

-- the new value doesn't depend on the old one
abbrev pub is_blind : Mutation → Bool
is_blind (Set key value) = true
is_blind (Clear key) = true
is_blind (ClearRange range) = true
is_blind (Stamped key operand offset) = true
is_blind mutation = false

-- why the operand is none that the mutation takes
abbrev pub operand_fault : Mutation → Option Refusal
operand_fault (Add key operand) = if is_addend operand then None else Some BadOperand
operand_fault (Stamped key operand offset) = if has_room operand offset then None else Some BadOperand
operand_fault mutation = None

-- why a mutation is not a legal one
abbrev pub mutation_fault : Mutation → Option Refusal
mutation_fault mutation =
    if nat_lt value_limit (length (carried mutation)) then Some ValueTooLarge else operand_fault mutation

-- the mutation names the point
abbrev pub names : Mutation → Point → Bool
names mutation x = is_named (named mutation) x

-- what stands at a point after the mutation, by what stood there
abbrev pub value_after : Point → Option (List ℕ) → Mutation → Option (List ℕ)
value_after x value mutation = if names mutation x then new_value mutation value else value

-- the points that the mutation names, as a range
abbrev pub named_range : Mutation → Range
named_range mutation = range_of (named mutation)

-- how many bytes the mutation has: those that name its keys, and those that it carries
abbrev pub mutation_size : Mutation → ℕ
mutation_size mutation = naming_size (named mutation) + length (carried mutation)

-- the map with the value at the key, or with none
abbrev pub with_value : Map → Point → Option (List ℕ) → Map
with_value map key None = remove map key
with_value map key (Some value) = insert map key value

-- The map with the new values at the keys. At the keys of a range they are none.
abbrev pub with_new : Map → NamedKeys → (Option (List ℕ) → Option (List ℕ)) → Map
with_new map (OneKey key) new = with_value map key (new (get map key))
with_new map (KeysIn range) new = retain_keys map (λ x. not (in_range range x))

-- the map after the mutation
unfoldable pub effect : Map → Mutation → Map
effect map mutation = with_new map (named mutation) (new_value mutation)

-- the map after the mutations, the first one first
abbrev pub effects : Map → List Mutation → Map
effects map [] = map
effects map (mutation ∷ mutations) = effects (effect map mutation) mutations

-- At a point that a mutation names stands the new value, and at every other what stood there.
abbrev pub EffectAtEveryPoint : Type 0
EffectAtEveryPoint =
    (map : Map) (mutation : Mutation) (x : Point)
    → get (effect map mutation) x ≡ (if names mutation x then new_value mutation (get map x) else get map x)

-- A blind mutation makes the same of any two values.
abbrev pub BlindIsBlind : Type 0
BlindIsBlind =
    (mutation : Mutation) → is_blind mutation ≡ true → (a b : Option (List ℕ))
    → new_value mutation a ≡ new_value mutation b

-- A mutation that names a range clears it.
abbrev pub RangesAreCleared : Type 0
RangesAreCleared =
    (mutation : Mutation) (range : Range) → named mutation ≡ KeysIn range
    → (is_blind mutation ≡ true) × ((old : Option (List ℕ)) → new_value mutation old ≡ None)

-- the mutation, of whose keys those in the range are left
abbrev pub within : Range → Mutation → Mutation
within range (ClearRange cleared) = ClearRange (common_range cleared range)
within range mutation = mutation

-- the mutation cut to the range, if the two have a point in common
abbrev pub clipped_mutation : Range → Mutation → Option Mutation
clipped_mutation range mutation =
    if ranges_meet (named_range mutation) range then Some (within range mutation) else None

-- the map after the mutation, if there is one
abbrev pub effect_of : Map → Option Mutation → Map
effect_of map None = map
effect_of map (Some mutation) = effect map mutation
