-- Parts of a whole set, found range by range, or as those of its one owner.
use Rattle.std.proofs.Common.{◌≡◌, ◌∙◌, sym, ap, ap₂, refl, ℕ, ◌<◌, Bool, true, false, ◌&&◌, ◌||◌, ◌==◌}
use Rattle.std.proofs.Common.{List, [], ◌∷◌, ⊎_elim, arith, ◌⊎◌, inl, inr, if◌then◌else◌}
use Rattle.std.specs.List.{AllByRecursion}
use Rattle.std.proofs.lemmas.Bool.{cases_Bool, eqb-true, false_from_ne_true, cond-true, cond-false}
use Rattle.std.proofs.lemmas.List.Elements.{All-from_recursion}
use Rattle.std.proofs.Math.Bool.{and-true, or-false}
use Rattle.fdb_keys.specs.Points.{Point}
use Rattle.fdb_keys.specs.Ranges.{Range, in_range, in_set}
use Rattle.fdb_keys.proofs.Exports.{all-weaken}
use Rattle.fdb_txn.specs.rules.Admission.{has_points}
use Rattle.fdb_owners.specs.declared.parts.Owned.{Owned}
use Rattle.fdb_owners.specs.Parts.{ranges_at, AreRising, ArePartsOf}
use Rattle.fdb_owners.specs.Spreads.{is_held, AreOwned}

-- of parts of resolvers with greater numbers resolver i holds none
none-held : (parts : List Owned) (i : ℕ) (x : Point) → AllByRecursion (λ (part : Owned). i < part.resolver) parts
    → is_held parts i x ≡ false
none-held [] i x above = refl
none-held (part ∷ parts) i x above =
    let other : (part.resolver == i) ≡ false =
    false_from_ne_true _ (λ same. let equal = eqb-true part.resolver i same in absurd (omega (arith, equal, above))) in
    ap₂ (λ (same others : Bool). same && in_set part.ranges x || others) other (none-held parts i x above.1)

-- of parts of different resolvers the points that resolver i holds are those of its one part
held-alone : (parts : List Owned) (i : ℕ) (x : Point) → AreRising parts
    → is_held parts i x ≡ in_set (ranges_at parts i) x
held-alone [] i x rising = refl
held-alone (part ∷ parts) i x rising = ⊎_elim
    (λ (same : (part.resolver == i) ≡ true).
    ap₂ (λ (it others : Bool). it && in_set part.ranges x || others) same
    (none-held parts i x (let equal = eqb-true part.resolver i same in
    all-weaken _ _ (λ (later : Owned) above. omega (arith, equal, above)) parts rising.0))
    ∙ or-false (in_set part.ranges x)
    ∙ ap (λ (ranges : List Range). in_set ranges x)
    (sym (cond-true (part.resolver == i) part.ranges (ranges_at parts i) same)))
    (λ (other : (part.resolver == i) ≡ false).
    ap (λ (it : Bool). it && in_set part.ranges x || is_held parts i x) other
    ∙ held-alone parts i x rising.1
    ∙ ap (λ (ranges : List Range). in_set ranges x)
    (sym (cond-false (part.resolver == i) part.ranges (ranges_at parts i) other)))
    (cases_Bool (part.resolver == i))

-- so each part is of one of the resolvers, and has a point
pub parts-owned : (n : ℕ) (held : ℕ → Point → Bool) (parts : List Owned) → ArePartsOf n held parts
    → AreOwned n parts
parts-owned n held parts are k d within = (
  All-from_recursion (λ (part : Owned). part.resolver < n) parts are.within k d within,
  All-from_recursion (λ (part : Owned). has_points part.ranges ≡ true) parts are.some k d within,
)

-- and a point lies in a part of the resolver that holds it
pub parts-held : (n : ℕ) (held : ℕ → Point → Bool) (parts : List Owned) → ArePartsOf n held parts
    → (i : ℕ) (x : Point) → is_held parts i x ≡ held i x
parts-held n held parts are i x = held-alone parts i x are.rising ∙ are.points i x

-- one range more is spread, which was the first of those that were left
pub spread-next : (held owned : Bool) (range : Range) (left rest : List Range) (x : Point) (all : Bool)
    → left ≡ range ∷ rest → (held || in_set left x && owned) ≡ all
    → ((held || (in_range range x && owned)) || in_set rest x && owned) ≡ all
spread-next held owned range left rest x all first before =
    regroup held (in_range range x) (in_set rest x) owned
    ∙ ap (λ (ranges : List Range). held || in_set ranges x && owned) (sym first)
    ∙ before
  where
    regroup : (a r s h : Bool) → ((a || (r && h)) || s && h) ≡ (a || (r || s) && h)
    regroup true r s h = refl
    regroup false true true true = refl
    regroup false true true false = refl
    regroup false true false true = refl
    regroup false true false false = refl
    regroup false false s h = refl

-- a whole set is the part of the resolver that alone owned it
pub sole-parts : (n sole : ℕ) (set : List Range) (owned : ℕ → Point → Bool) → sole < n → has_points set ≡ true
    → ((i : ℕ) (x : Point) → in_set set x ≡ true → owned i x ≡ (sole == i))
    → ArePartsOf n (λ i x. in_set set x && owned i x) (record { resolver = sole; ranges = set } ∷ [])
sole-parts n sole set owned within some alone = record {
  rising = (tt, tt);
  within = (within, tt);
  some = (some, tt);
  points = λ i x. points i x (cases_Bool (sole == i));
}
  where
    turned : (own inside owned : Bool) → (inside ≡ true → owned ≡ own) → (own && inside) ≡ (inside && owned)
    turned own true owned alone = and-true own ∙ sym (alone refl)
    turned true false owned alone = refl
    turned false false owned alone = refl

    points : (i : ℕ) (x : Point) → ((sole == i) ≡ true) ⊎ ((sole == i) ≡ false)
        → in_set (if sole == i then set else []) x ≡ (in_set set x && owned i x)
    points i x (inl is) =
        ap (λ (ranges : List Range). in_set ranges x) (cond-true (sole == i) set [] is)
        ∙ ap (λ (b : Bool). b && in_set set x) (sym is)
        ∙ turned (sole == i) (in_set set x) (owned i x) (alone i x)
    points i x (inr is) =
        ap (λ (ranges : List Range). in_set ranges x) (cond-false (sole == i) set [] is)
        ∙ ap (λ (b : Bool). b && in_set set x) (sym is)
        ∙ turned (sole == i) (in_set set x) (owned i x) (alone i x)
