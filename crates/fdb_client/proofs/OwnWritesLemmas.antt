-- What a program's writes leave at a point.
use Rattle.std.proofs.Common.{◌≡◌, ◌∙◌, sym, ap, refl, ℕ, Bool, true, false, not, ◌&&◌, ◌||◌, if◌then◌else◌}
use Rattle.std.proofs.Common.{List, [], ◌∷◌, ◌++◌, fold, Option, None, ⊎_elim}
use Rattle.std.specs.FinMap.{get}
use Rattle.std.proofs.lemmas.Bool.{cases_Bool, cond-true, cond-false}
use Rattle.std.proofs.lemmas.List.Sums.{fold-append}
use Rattle.fdb_keys.specs.Points.{Point}
use Rattle.fdb_mutations.specs.declared.mutation.Mutation.{Mutation}
use Rattle.fdb_mutations.specs.Maps.{Map}
use Rattle.fdb_mutations.specs.declared.mutation.Mutation.TheVariants.{Stamped}
use Rattle.fdb_mutations.specs.Mutations.{names, new_value, is_blind}
use Rattle.fdb_mutations.specs.Stamping.{is_stamped}
use Rattle.fdb_mutations.proofs.Exports.{at_every_point, blind_is_blind}
use Rattle.fdb_client.specs.declared.left.Left.{Left}
use Rattle.fdb_client.specs.declared.left.Left.TheVariants.{Value, Unreadable, Changes}
use Rattle.fdb_client.specs.declared.program.Op.{Op}
use Rattle.fdb_client.specs.declared.program.Op.TheVariants.{Get, Write, AddRead, AddWrite}
use Rattle.fdb_client.specs.declared.program.Op.TheVariants as operation
use Rattle.fdb_client.specs.OwnWrites.{left_after, left_by_ops, value_over, is_value}
use Rattle.fdb_client.specs.Programs.{copy, decided}

-- a Stamped is blind
pub stamped-is_blind : (mutation : Mutation) → (not (is_stamped mutation) || is_blind mutation) ≡ true
stamped-is_blind (Stamped key operand offset) = refl
stamped-is_blind mutation = refl

-- and so what isn't blind is none
pub not-blind : (mutation : Mutation) → is_blind mutation ≡ false → is_stamped mutation ≡ false
not-blind mutation other = by_stamped (is_stamped mutation) (is_blind mutation) (stamped-is_blind mutation) other
  where
    by_stamped : (waits blind : Bool) → (not waits || blind) ≡ true → blind ≡ false → waits ≡ false
    by_stamped true blind decides other = sym decides ∙ other
    by_stamped false blind decides other = refl

-- what one more mutation leaves is a value where it was one, or where the mutation is blind
after-is_value : (left : Left) (mutation : Mutation)
    → is_value (left_after left mutation) ≡ (is_blind mutation || is_value left)
after-is_value (Value value) mutation = by_blind (is_stamped mutation) (is_blind mutation)
  where
    by_blind : (waits blind : Bool)
        → is_value (if waits then Unreadable (new_value mutation value) else Value (new_value mutation value))
        ≡ (blind || true)
    by_blind true true = refl
    by_blind true false = refl
    by_blind false true = refl
    by_blind false false = refl
after-is_value (Unreadable value) mutation = by_blind (is_blind mutation) (not (is_stamped mutation))
  where
    by_blind : (blind final : Bool)
        → is_value (if blind && final then Value (new_value mutation value) else Unreadable (new_value mutation value))
        ≡ (blind || true)
    by_blind true true = refl
    by_blind true false = refl
    by_blind false final = refl
after-is_value (Changes mutations) mutation =
    by_blind (is_stamped mutation) (is_blind mutation) (stamped-is_blind mutation)
  where
    by_blind : (waits blind : Bool) → (not waits || blind) ≡ true
        → is_value (if waits then Unreadable (new_value mutation None)
        else (if blind then Value (new_value mutation None) else Changes (mutations ++ mutation ∷ [])))
        ≡ (blind || false)
    by_blind true true decides = refl
    by_blind true false decides = sym decides
    by_blind false true decides = refl
    by_blind false false decides = refl

-- the writes decide a point exactly where they leave a value there
pub decided-left : (ops : List Op) (x : Point) → is_value (left_by_ops ops x) ≡ decided ops x
decided-left [] x = refl
decided-left (Get key snapshot ∷ earlier) x = decided-left earlier x
decided-left (operation.Range range limit is_reverse snapshot ∷ earlier) x = decided-left earlier x
decided-left (AddRead range ∷ earlier) x = decided-left earlier x
decided-left (AddWrite range ∷ earlier) x = decided-left earlier x
decided-left (Write mutation ∷ earlier) x =
    by_name (names mutation x) ∙ ap (λ (before : Bool). is_blind mutation && names mutation x || before)
    (decided-left earlier x)
  where
    by_name : (named : Bool)
        → is_value (if named then left_after (left_by_ops earlier x) mutation else left_by_ops earlier x)
        ≡ (is_blind mutation && named || is_value (left_by_ops earlier x))
    by_name true = after-is_value (left_by_ops earlier x) mutation
        ∙ ap (λ (blind : Bool). blind || is_value (left_by_ops earlier x)) (and-true (is_blind mutation))
      where
        and-true : (b : Bool) → b ≡ (b && true)
        and-true true = refl
        and-true false = refl
    by_name false = ap (λ (none : Bool). none || is_value (left_by_ops earlier x)) (and-false (is_blind mutation))
      where
        and-false : (b : Bool) → false ≡ (b && false)
        and-false true = refl
        and-false false = refl

-- the values that mutations of one point leave there, one after another
abbrev values_after : Option (List ℕ) → List Mutation → Option (List ℕ)
values_after value mutations =
    fold (λ (before : Option (List ℕ)) (mutation : Mutation). new_value mutation before) value mutations

-- one more mutation makes its new value of what stood there after the writes
over-after : (left : Left) (mutation : Mutation) (old : Option (List ℕ))
    → value_over (left_after left mutation) old ≡ new_value mutation (value_over left old)
over-after (Value value) mutation old = by_stamped (is_stamped mutation)
  where
    by_stamped : (waits : Bool)
        → value_over (if waits then Unreadable (new_value mutation value) else Value (new_value mutation value)) old
        ≡ new_value mutation value
    by_stamped true = refl
    by_stamped false = refl
over-after (Unreadable value) mutation old = by_final (is_blind mutation && not (is_stamped mutation))
  where
    by_final : (ends : Bool)
        → value_over (if ends then Value (new_value mutation value) else Unreadable (new_value mutation value)) old
        ≡ new_value mutation value
    by_final true = refl
    by_final false = refl
over-after (Changes mutations) mutation old = ⊎_elim
    (λ (blind : is_blind mutation ≡ true).
    by_stamped (is_stamped mutation) (Value (new_value mutation None))
    (cond-true _ (Value (new_value mutation None)) _ blind) refl
    ∙ blind_is_blind mutation blind None (values_after old mutations))
    (λ (other : is_blind mutation ≡ false).
    ap (λ (left : Left). value_over left old)
    (cond-false (is_stamped mutation) (Unreadable (new_value mutation None)) _ (not-blind mutation other)
    ∙ cond-false _ (Value (new_value mutation None)) _ other)
    ∙ fold-append (λ (before : Option (List ℕ)) (one : Mutation). new_value one before) old mutations (mutation ∷ []))
    (cases_Bool (is_blind mutation))
  where
    made : Option (List ℕ)
    made = new_value mutation None

    by_stamped : (waits : Bool) (left : Left) → (if is_blind mutation then Value made
        else Changes (mutations ++ mutation ∷ [])) ≡ left → value_over left old ≡ made
        → value_over (if waits then Unreadable made
        else (if is_blind mutation then Value made else Changes (mutations ++ mutation ∷ []))) old ≡ made
    by_stamped true left is over = refl
    by_stamped false left is over = ap (λ (there : Left). value_over there old) is ∙ over

-- what stands at a point of the copy is what the writes make of what stands there on the map
pub copy-left : (map : Map) (ops : List Op) (x : Point)
    → get (copy map ops) x ≡ value_over (left_by_ops ops x) (get map x)
copy-left map [] x = refl
copy-left map (Get key snapshot ∷ earlier) x = copy-left map earlier x
copy-left map (operation.Range range limit is_reverse snapshot ∷ earlier) x = copy-left map earlier x
copy-left map (AddRead range ∷ earlier) x = copy-left map earlier x
copy-left map (AddWrite range ∷ earlier) x = copy-left map earlier x
copy-left map (Write mutation ∷ earlier) x =
    at_every_point (copy map earlier) mutation x
    ∙ ap (λ (value : Option (List ℕ)). if names mutation x then new_value mutation value else value)
    (copy-left map earlier x)
    ∙ by_name (names mutation x)
  where
    by_name : (named : Bool)
        → (if named then new_value mutation (value_over (left_by_ops earlier x) (get map x))
        else value_over (left_by_ops earlier x) (get map x))
        ≡ value_over (if named then left_after (left_by_ops earlier x) mutation else left_by_ops earlier x) (get map x)
    by_name true = sym (over-after (left_by_ops earlier x) mutation (get map x))
    by_name false = refl
