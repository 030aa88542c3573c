-- What each resolver is sent of a batch, place by place.
use Rattle.std.proofs.Common.{◌≡◌, ◌∙◌, sym, ap, subst, refl, ℕ, zero, suc, ◌+◌, true, false, ◌||◌, List, [], ◌∷◌, ◌++◌}
use Rattle.std.proofs.Common.{append-nil, length, slice_get, Option, Some, None, ⊎_elim, inl, inr, arith}
use Rattle.std.specs.Option.{option_to_list}
use Rattle.std.proofs.lemmas.Bool.{or_left, or_right, or_cases, false_from_ne_true, both_ways}
use Rattle.fdb_keys.specs.Points.{Point}
use Rattle.fdb_keys.specs.Ranges.{Range, in_set}
use Rattle.fdb_txn.specs.book.Book.{Head, Place, placed}
use Rattle.fdb_txn.specs.book.Transactions.{Transaction}
use Rattle.fdb_txn.specs.rules.Admission.{has_points}
use Rattle.fdb_txn.specs.rules.Owners.{is_asked}
use Rattle.fdb_txn.specs.rules.Resolvers.{part_reads, part_writes}
use Rattle.fdb_txn.proofs.Exports.{points_from-in_set, point_of-set, asked_at_some_point}
use Rattle.fdb_owners.specs.Spreads.{is_held}
use Rattle.fdb_resolver.specs.declared.part.Item.{Item}
use Rattle.fdb_resolver.specs.declared.part.Part.{Part}
use Rattle.fdb_resolver.specs.RuleLaws.{IsItemOf}
use Rattle.fdb_proxy.specs.declared.parting.Spread.{Spread}
use Rattle.fdb_proxy.specs.Parting.{AreItems}
use Rattle.fdb_proxy.specs.Spreads.{IsSpreadOf, IsItemIfAsked}

-- two sets of what resolver i holds of a place's reads and writes
module _ (splits : List Point) (i : ℕ) (place : Place) (spread : Spread) (reads writes : List Range)
    (are : IsSpreadOf splits place spread) (of_reads : (x : Point) → in_set reads x ≡ is_held spread.reads i x)
    (of_writes : (x : Point) → in_set writes x ≡ is_held spread.writes i x) where
  -- it isn't asked where neither has a point
  pub unasked : has_points reads ≡ false → has_points writes ≡ false → is_asked splits i place ≡ false
  unasked no_reads no_writes = false_from_ne_true _ (λ asked.
      let some = (asked_at_some_point splits i place).0 asked in
      ⊎_elim
      (λ writes_it. both_ways _ no_writes
      (points_from-in_set writes some.0 (of_writes some.0 ∙ are.writes i some.0 ∙ writes_it)))
      (λ reads_it. both_ways _ no_reads
      (points_from-in_set reads some.0 (of_reads some.0 ∙ are.reads i some.0 ∙ reads_it)))
      (or_cases (part_writes splits i place some.0) (part_reads splits i place some.0) some.1))

  -- it is asked where one of them has
  pub asked : (has_points reads || has_points writes) ≡ true → is_asked splits i place ≡ true
  asked some = (asked_at_some_point splits i place).1 (⊎_elim
      (λ (some_reads : has_points reads ≡ true).
      let point = point_of-set reads some_reads in (
        point.0,
        or_right (part_writes splits i place point.0) _
            (sym (are.reads i point.0) ∙ sym (of_reads point.0) ∙ point.1),
      ))
      (λ (some_writes : has_points writes ≡ true).
      let point = point_of-set writes some_writes in
      (point.0, or_left _ _ (sym (are.writes i point.0) ∙ sym (of_writes point.0) ∙ point.1)))
      (or_cases (has_points reads) (has_points writes) some))

module _ (splits : List Point) (head : Head) (i : ℕ) where
  -- a batch with one place more, of which the resolver is asked
  items-push : (p number : ℕ) (ts : List Transaction) (t : Transaction) (items : List Item) (item : Item)
      → AreItems splits head i p ts items → is_asked splits i (placed head number t) ≡ true
      → number ≡ p + length ts → item.place ≡ number → IsItemOf splits i (placed head number t) item
      → AreItems splits head i p (ts ++ t ∷ []) (items ++ item ∷ [])
  items-push p number [] t items item are asked last stands is =
      let same : number ≡ p = omega (arith, last) in
      inl (
        asked,
        (
          item,
          [],
          ap (λ (before : List Item). before ++ item ∷ []) are,
          stands ∙ same,
          subst (λ (n : ℕ). IsItemOf splits i (placed head n t) item) same is,
          refl,
        ),
      )
  items-push p number (first ∷ ts) t items item are asked last stands is =
      let next : number ≡ suc p + length ts = omega (arith, last) in
      ⊎_elim
      (λ here.
      let its = here.1 in
      inl (
        here.0,
        (
          its.0,
          its.1 ++ item ∷ [],
          ap (λ (all : List Item). all ++ item ∷ []) its.2,
          its.3,
          its.4,
          items-push (suc p) number ts t its.1 item its.5 asked next stands is,
        ),
      ))
      (λ other. inr (other.0, items-push (suc p) number ts t items item other.1 asked next stands is))
      are

  -- a batch with one place more, of which it isn't asked
  items-skip : (p number : ℕ) (ts : List Transaction) (t : Transaction) (items : List Item)
      → AreItems splits head i p ts items → is_asked splits i (placed head number t) ≡ false
      → AreItems splits head i p (ts ++ t ∷ []) items
  items-skip p number [] t items are unasked = inr (unasked, are)
  items-skip p number (first ∷ ts) t items are unasked = ⊎_elim
      (λ here.
      let its = here.1 in
      inl (here.0, (its.0, its.1, its.2, its.3, its.4, items-skip (suc p) number ts t its.1 its.5 unasked)))
      (λ other. inr (other.0, items-skip (suc p) number ts t items other.1 unasked))
      are

  -- with its item, if it is asked
  pub items-next : (ts : List Transaction) (t : Transaction) (number : ℕ) (items : List Item) (given : Option Item)
      → length ts ≡ number → AreItems splits head i 0 ts items
      → IsItemIfAsked splits i number (placed head number t) given
      → AreItems splits head i 0 (ts ++ t ∷ []) (items ++ option_to_list given)
  items-next ts t number items None count are unasked =
      subst (λ (all : List Item). AreItems splits head i 0 (ts ++ t ∷ []) all) (sym (append-nil items))
      (items-skip 0 number ts t items are unasked)
  items-next ts t number items (Some item) count are asked =
      items-push 0 number ts t items item are asked.0 (omega (arith, count)) asked.1 asked.2

-- what holds of each part and of one more at its number holds of all
parts-push : (P : ℕ → Part → Type 0) (parts : List Part) (part : Part)
    → ((i : ℕ) (given : Part) → slice_get parts i ≡ Some given → P i given) → P (length parts) part
    → (i : ℕ) (given : Part) → slice_get (parts ++ part ∷ []) i ≡ Some given → P i given
parts-push P [] part each last zero given there = let same : part ≡ given = cc in subst (P 0) same last
parts-push P [] part each last (suc i) given there = cc
parts-push P (first ∷ parts) part each last zero given there = each zero given there
parts-push P (first ∷ parts) part each last (suc i) given there =
    parts-push (λ (j : ℕ). P (suc j)) parts part (λ j one at. each (suc j) one at) last i given there

-- the same of a list that is longer by that one
pub parts-next : (P : ℕ → Part → Type 0) (old new : List Part) (number : ℕ) (part : Part) → new ≡ old ++ part ∷ []
    → length old ≡ number → ((i : ℕ) (given : Part) → slice_get old i ≡ Some given → P i given) → P number part
    → (i : ℕ) (given : Part) → slice_get new i ≡ Some given → P i given
parts-next P old new number part adds count each last i given there =
    parts-push P old part each (subst (λ (n : ℕ). P n part) (sym count) last) i given
    (ap (λ (parts : List Part). slice_get parts i) (sym adds) ∙ there)
