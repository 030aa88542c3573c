-- What is unreadable after a program, and where a read of a range finds it.
use Rattle.std.proofs.Common.{◌≡◌, ap, refl, subst, Bool, true, false, not, ◌&&◌, if◌then◌else◌, ℕ, List, []}
use Rattle.std.proofs.Common.{◌∷◌, ◌∙◌, zero, suc, Option, Some, None}
use Rattle.std.specs.Prelude.{◌↔◌, ◌-◌, nat_eq, take, slice_get}
use Rattle.std.specs.Cmp.Lexicographic.{bytes_decides}
use Rattle.std.specs.List.{list_any}
use Rattle.std.specs.Option.{option_or}
use Rattle.std.proofs.lemmas.Bool.{and_parts, and_from, both_ways, or_left, or_right}
use Rattle.fdb_keys.specs.declared.refusal.Refusal.{Refusal}
use Rattle.fdb_keys.specs.declared.refusal.Refusal.TheVariants.{AccessedUnreadable}
use Rattle.fdb_keys.specs.Points.{Point}
use Rattle.fdb_keys.specs.Ranges.{Range, in_range, is_empty_range}
use Rattle.fdb_keys.proofs.Exports.{in_range-empty}
use Rattle.fdb_mutations.specs.declared.mutation.Mutation.{Mutation}
use Rattle.fdb_mutations.specs.declared.mutation.Mutation.TheVariants.{Stamped}
use Rattle.fdb_mutations.specs.Maps.{Map}
use Rattle.fdb_mutations.specs.Mutations.{names, is_blind}
use Rattle.fdb_mutations.specs.PairLaws.{scanned_of}
use Rattle.fdb_mutations.specs.Pairs.{first_of, is_limit_reached, part_to_last, scanned}
use Rattle.fdb_mutations.specs.Stamping.{is_stamped}
use Rattle.fdb_mutations.proofs.Exports.{no_values}
use Rattle.fdb_txn.proofs.Exports.{some_of-any}
use Rattle.fdb_client.specs.declared.program.Op.{Op}
use Rattle.fdb_client.specs.declared.program.Op.TheVariants.{Get, Write, AddRead, AddWrite}
use Rattle.fdb_client.specs.declared.program.Op.TheVariants as operation
use Rattle.fdb_client.specs.declared.program.Transcript.{Transcript}
use Rattle.fdb_client.specs.Programs.{program}
use Rattle.fdb_client.specs.Unreadable.{unreadable, unreadable_in, add_stamped, stamped_keys}
use Rattle.fdb_client.specs.Unreadable.{reads_readable}
use Rattle.fdb_machine.specs.machine.ClientSteps.{fault_after, map_read}
use Rattle.fdb_machine.specs.machine.Machine.{Machine}

-- what is found at an unreadable point is found among the keys of the program's Stamped mutations
module _ (found : Point → Bool) where
  found-later : (mutation : Mutation) (keys : List Point) → list_any found keys ≡ true
      → list_any found (add_stamped (Write mutation) keys) ≡ true
  found-later (Stamped key operand offset) keys later = or_right (found key) (list_any found keys) later
  found-later mutation keys later = later

  found-here : (mutation : Mutation) (keys : List Point) (x : Point) → is_stamped mutation ≡ true
      → names mutation x ≡ true → found x ≡ true → list_any found (add_stamped (Write mutation) keys) ≡ true
  found-here (Stamped key operand offset) keys x is named passes =
      or_left (found key) (list_any found keys)
      (subst (λ (y : Point). found y ≡ true) ((bytes_decides x key).0 named) passes)
  found-here mutation keys x is named passes = cc

  pub found-unreadable : (ops : List Op) (x : Point) → unreadable ops x ≡ true → found x ≡ true
      → list_any found (stamped_keys ops) ≡ true
  found-unreadable [] x is passes = cc
  found-unreadable (Get key snapshot ∷ earlier) x is passes = found-unreadable earlier x is passes
  found-unreadable (operation.Range range limit is_reverse snapshot ∷ earlier) x is passes =
      found-unreadable earlier x is passes
  found-unreadable (AddRead range ∷ earlier) x is passes = found-unreadable earlier x is passes
  found-unreadable (AddWrite range ∷ earlier) x is passes = found-unreadable earlier x is passes
  found-unreadable (Write mutation ∷ earlier) x is passes =
      by_test (is_blind mutation && names mutation x) refl is (λ before. found-unreadable earlier x before passes)
    where
      by_test : (here : Bool) → (is_blind mutation && names mutation x) ≡ here
          → (if here then is_stamped mutation else unreadable earlier x) ≡ true
          → (unreadable earlier x ≡ true → list_any found (stamped_keys earlier) ≡ true)
          → list_any found (add_stamped (Write mutation) (stamped_keys earlier)) ≡ true
      by_test true both is before =
          let parts = and_parts (is_blind mutation) (names mutation x) both in
          found-here mutation (stamped_keys earlier) x is parts.1 passes
      by_test false both is before = found-later mutation (stamped_keys earlier) (before is)

-- a range has an unreadable key exactly where one of its points is unreadable
pub some-unreadable : (ops : List Op) (range : Range)
    → (unreadable_in ops range ≡ true)
    ↔ ((x : Point) × (in_range range x ≡ true) × (unreadable ops x ≡ true))
some-unreadable ops range = (
  (λ any.
      let one = some_of-any (λ key. in_range range key && unreadable ops key) (stamped_keys ops) any in
      let parts = and_parts (in_range range one.0) (unreadable ops one.0) one.1 in
      (one.0, parts.0, parts.1)),
  (λ some. found-unreadable (λ key. in_range range key && unreadable ops key) ops some.0 some.2
      (and_from (in_range range some.0) (unreadable ops some.0) some.1 some.2)),
)

-- and has none exactly where each of them is readable
pub none-unreadable : (ops : List Op) (range : Range)
    → (unreadable_in ops range ≡ false)
    ↔ ((x : Point) → in_range range x ≡ true → unreadable ops x ≡ false)
none-unreadable ops range = (
  (λ none x inside. by_test x (unreadable ops x) refl (λ is. both_ways _ none
      ((some-unreadable ops range).1 (x, inside, is)))),
  (λ each. by_any (unreadable_in ops range) refl each),
)
  where
    by_test : (x : Point) (is : Bool) → unreadable ops x ≡ is → (unreadable ops x ≡ true → ⊥) → is ≡ false
    by_test x true same none = absurd (none same)
    by_test x false same none = refl

    by_any : (any : Bool) → unreadable_in ops range ≡ any
        → ((x : Point) → in_range range x ≡ true → unreadable ops x ≡ false) → any ≡ false
    by_any true same each =
        let one = (some-unreadable ops range).0 same in absurd (both_ways _ (each one.0 one.1) one.2)
    by_any false same each = refl

-- an operation that isn't refused reads no unreadable key
pub allowed-readable : (m : Machine) (transcript : Transcript) (operation : Op)
    → fault_after m transcript operation ≡ None
    → reads_readable (map_read m transcript) (program transcript.ops) operation ≡ true
allowed-readable m transcript (Get key snapshot) faultless =
    by_test (unreadable (program transcript.ops) key) _ faultless
  where
    by_test : (hidden : Bool) (fault : Option Refusal)
        → (if hidden then Some AccessedUnreadable else fault) ≡ None → not hidden ≡ true
    by_test true fault none = cc
    by_test false fault none = refl
allowed-readable m transcript (operation.Range range limit is_reverse snapshot) faultless =
    by_test _ _ faultless
  where
    by_test : (fault : Option Refusal) (hidden : Bool)
        → option_or fault (if hidden then Some AccessedUnreadable else None) ≡ None → not hidden ≡ true
    by_test None true none = cc
    by_test None false none = refl
    by_test (Some why) hidden none = cc
allowed-readable m transcript (Write mutation) faultless = refl
allowed-readable m transcript (AddRead range) faultless = refl
allowed-readable m transcript (AddWrite range) faultless = refl

-- a read of an empty range scans it whole
pub scanned-empty : (map : Map) (range : Range) (limit : ℕ) (is_reverse : Bool) → is_empty_range range ≡ true
    → scanned_of map range limit is_reverse ≡ range
scanned-empty map range limit is_reverse empty =
    ap (λ (pairs : List (Point × List ℕ)). scanned range limit is_reverse (first_of limit pairs))
    (no_values map range is_reverse (λ x inside. absurd (both_ways _ (in_range-empty range x empty) inside)))
    ∙ ap (scanned range limit is_reverse) (none_taken (nat_eq limit 0) limit)
    ∙ whole (is_limit_reached limit [])
  where
    none_taken : (all : Bool) (limit : ℕ)
        → ◌≡◌ {A = List (Point × List ℕ)} (if all then [] else take limit []) []
    none_taken true limit = refl
    none_taken false zero = refl
    none_taken false (suc limit) = refl

    whole : (ends : Bool)
        → (if ends then part_to_last range is_reverse (slice_get [] (0 - 1)) else range) ≡ range
    whole true = refl
    whole false = refl
