-- Index and records of a table agree after each of its transactions.
use Rattle.std.proofs.Common.{◌≡◌, ◌∙◌, sym, ap, subst, refl, ℕ, suc, Bool, true, false, ◌&&◌, if◌then◌else◌, ⊎_elim}
use Rattle.std.proofs.Common.{List, [], ◌∷◌, ◌++◌, length, Option, Some, None, fold, arith, nat_eq}
use Rattle.std.specs.Cmp.Lexicographic.{bytes_decides}
use Rattle.std.specs.FinMap.{get, empty}
use Rattle.std.proofs.lemmas.Bool.{cases_Bool, cond-true, cond-false}
use Rattle.std.proofs.lemmas.Option.{none-some, same_Some}
use Rattle.fdb_keys.specs.Points.{Point, point_eq}
use Rattle.fdb_mutations.specs.Maps.{Map}
use Rattle.fdb_mutations.specs.Mutations.{effects, value_after}
use Rattle.fdb_txn.proofs.Exports.{get-effects}
use Rattle.fdb_client.specs.declared.program.Op.{Op}
use Rattle.fdb_client.specs.declared.program.Reply.{Reply}
use Rattle.fdb_roles.specs.Layers.{Keeps}
use Rattle.fdb_layers.specs.Table.{value_size, record_key, entry_key, putting, removing, AreIndexed, IsPut}
use Rattle.fdb_layers.specs.Table.{IsRemoval, IsOfTable}
use Rattle.fdb_layers.proofs.OperationsLemmas.{written, kept-unwritten, left-by, answered-by, AgreeOn, same-value}
use Rattle.fdb_layers.proofs.OperationsLemmas.{itself, nothing-at, nowhere}

-- one more byte, the same or not, and the parts
more-eq : (same all first second : Bool) → all ≡ (first && second) → (same && all) ≡ ((same && first) && second)
more-eq true all first second is = is
more-eq false all first second is = refl

-- texts that begin with as many bytes are equal where their parts are
parted-eq : (v w a b : List ℕ) → length v ≡ length w → point_eq (v ++ a) (w ++ b) ≡ (point_eq v w && point_eq a b)
parted-eq [] [] a b long = refl
parted-eq [] (y ∷ w) a b long = absurd (let none : 0 ≡ suc (length w) = long in omega arith)
parted-eq (x ∷ v) [] a b long = absurd (let none : suc (length v) ≡ 0 = long in omega arith)
parted-eq (x ∷ v) (y ∷ w) a b long = more-eq (nat_eq x y) (point_eq (v ++ a) (w ++ b)) (point_eq v w) (point_eq a b)
    (parted-eq v w a b (let more : suc (length v) ≡ suc (length w) = long in omega arith))

-- entries of other values differ, and so do those of other IDs
other-value : (v w a b : List ℕ) → length v ≡ value_size → length w ≡ value_size → point_eq v w ≡ false
    → point_eq (v ++ a) (w ++ b) ≡ false
other-value v w a b long as_long other =
    parted-eq v w a b (long ∙ sym as_long) ∙ ap (λ (same : Bool). same && point_eq a b) other

other-id : (v w a b : List ℕ) → length v ≡ value_size → length w ≡ value_size → point_eq a b ≡ false
    → point_eq (v ++ a) (w ++ b) ≡ false
other-id v w a b long as_long other =
    parted-eq v w a b (long ∙ sym as_long) ∙ ap (λ (same : Bool). point_eq v w && same) other ∙ never (point_eq v w)
  where
    never : (b : Bool) → (b && false) ≡ false
    never true = refl
    never false = refl

abbrev Entries : Type 0
Entries = List ℕ → Option (List ℕ)

-- One ID's record, if there is one, and its entries, by their values, agree: the record has a value of four bytes, by
-- which an entry finds it, and no entry finds anything else.
record IsIndexed (row : Option (List ℕ)) (entry : Entries) : Type 0 where
  fits : (value : List ℕ) → row ≡ Some value → length value ≡ value_size
  found : (value : List ℕ) → row ≡ Some value → entry value ≡ Some []
  finds : (value content : List ℕ) → length value ≡ value_size → entry value ≡ Some content → row ≡ Some value

-- what agrees does so under the same records and entries
same-indexed : (row other : Option (List ℕ)) (entry others : Entries) → other ≡ row
    → ((v : List ℕ) → length v ≡ value_size → others v ≡ entry v) → IsIndexed row entry → IsIndexed other others
same-indexed row other entry others is are before = record {
  fits = λ v there. before.fits v (sym is ∙ there);
  found = λ v there. are v (before.fits v (sym is ∙ there)) ∙ before.found v (sym is ∙ there);
  finds = λ v content long stands. is ∙ before.finds v content long (sym (are v long) ∙ stands);
}

-- a record agrees with its entry, where no other value has one
set-indexed : (value : List ℕ) (entry : Entries) → length value ≡ value_size → entry value ≡ Some []
    → ((v content : List ℕ) → length v ≡ value_size → point_eq v value ≡ false → entry v ≡ Some content → ⊥)
    → IsIndexed (Some value) entry
set-indexed value entry long stands none = record {
  fits = λ v there. ap (λ (v : List ℕ). length v) (sym (same_Some value v there)) ∙ long;
  found = λ v there. subst (λ (v : List ℕ). entry v ≡ Some []) (same_Some value v there) stands;
  finds = λ v content v_long found. ⊎_elim
      (λ same. ap (λ (v : List ℕ). Some v) (sym ((bytes_decides v value).0 same)))
      (λ differs. absurd (none v content v_long differs found))
      (cases_Bool (point_eq v value));
}

-- where there is no record, no entry agrees with it
unset-indexed : (entry : Entries) → ((v content : List ℕ) → length v ≡ value_size → entry v ≡ Some content → ⊥)
    → IsIndexed None entry
unset-indexed entry none = record {
  fits = λ v there. absurd (none-some v there);
  found = λ v there. absurd (none-some v there);
  finds = λ v content long found. absurd (none v content long found);
}

-- the entries of an ID once those of the old value of a record are forgotten
abbrev forgotten : List ℕ → List ℕ → Option (List ℕ) → Entries → Entries
forgotten at id None entry v = entry v
forgotten at id (Some old) entry v = if point_eq (v ++ at) (old ++ id) then None else entry v

-- no entry of the record is left then
none-left : (id : List ℕ) (row : Option (List ℕ)) (entry : Entries) → IsIndexed row entry
    → (v content : List ℕ) → length v ≡ value_size → forgotten id id row entry v ≡ Some content → ⊥
none-left id None entry before v content long found = none-some v (before.finds v content long found)
none-left id (Some old) entry before v content long found = ⊎_elim
    (λ same. none-some content (sym (cond-true (point_eq (v ++ id) (old ++ id)) None (entry v) same) ∙ found))
    (λ differs. let stands : entry v ≡ Some content =
    sym (cond-false (point_eq (v ++ id) (old ++ id)) None (entry v) differs) ∙ found in
    let is : v ≡ old = sym (same_Some old v (before.finds v content long stands)) in
    let same : point_eq (v ++ id) (old ++ id) ≡ true =
    subst (λ (w : List ℕ). point_eq (v ++ id) (w ++ id) ≡ true) is (itself (v ++ id)) in
    let wrong : true ≡ false = sym same ∙ differs in cc)
    (cases_Bool (point_eq (v ++ id) (old ++ id)))

-- another ID's entries stay
others-stay : (at id : List ℕ) (row : Option (List ℕ)) (entry at_entry : Entries) → IsIndexed row entry
    → point_eq at id ≡ false → (v : List ℕ) → length v ≡ value_size
    → forgotten at id row at_entry v ≡ at_entry v
others-stay at id None entry at_entry before other v long = refl
others-stay at id (Some old) entry at_entry before other v long =
    cond-false (point_eq (v ++ at) (old ++ id)) None (at_entry v)
    (other-id v old at id long (before.fits old refl) other)

-- the row and the entries of an ID after a put
abbrev put_row : List ℕ → List ℕ → List ℕ → Option (List ℕ) → Option (List ℕ)
put_row at id value row = if point_eq at id then Some value else row

abbrev put_entry : List ℕ → List ℕ → List ℕ → Option (List ℕ) → Entries → Entries
put_entry at id value old entry v =
    if point_eq (v ++ at) (value ++ id) then Some [] else forgotten at id old entry v

put-here : (id value : List ℕ) (row old : Option (List ℕ)) (entry : Entries) → length value ≡ value_size
    → IsIndexed old entry → IsIndexed (put_row id id value row) (put_entry id id value old entry)
put-here id value row old entry long before = same-indexed (Some value) (put_row id id value row)
    (put_entry id id value old entry) (put_entry id id value old entry)
    (cond-true (point_eq id id) (Some value) row (itself id)) (λ v v_long. refl)
    (set-indexed value (put_entry id id value old entry) long
    (cond-true (point_eq (value ++ id) (value ++ id)) (Some []) (forgotten id id old entry value)
    (itself (value ++ id)))
    (λ v content v_long differs found. none-left id old entry before v content v_long
    (sym (cond-false (point_eq (v ++ id) (value ++ id)) (Some []) (forgotten id id old entry v)
    (other-value v value id id v_long long differs)) ∙ found)))

put-elsewhere : (at id value : List ℕ) (row at_row : Option (List ℕ)) (entry at_entry : Entries)
    → length value ≡ value_size → point_eq at id ≡ false → IsIndexed row entry → IsIndexed at_row at_entry
    → IsIndexed (put_row at id value at_row) (put_entry at id value row at_entry)
put-elsewhere at id value row at_row entry at_entry long other before at_before = same-indexed at_row
    (put_row at id value at_row) at_entry (put_entry at id value row at_entry)
    (cond-false (point_eq at id) (Some value) at_row other)
    (λ v v_long. cond-false (point_eq (v ++ at) (value ++ id)) (Some []) (forgotten at id row at_entry v)
    (other-id v value at id v_long long other)
    ∙ others-stay at id row entry at_entry before other v v_long)
    at_before

-- the row of an ID after a removal
abbrev removed_row : List ℕ → List ℕ → Option (List ℕ) → Option (List ℕ)
removed_row at id row = if point_eq at id then None else row

removed-here : (id : List ℕ) (row old : Option (List ℕ)) (entry : Entries)
    → IsIndexed old entry → IsIndexed (removed_row id id row) (forgotten id id old entry)
removed-here id row old entry before = same-indexed None (removed_row id id row)
    (forgotten id id old entry) (forgotten id id old entry)
    (cond-true (point_eq id id) None row (itself id)) (λ v v_long. refl)
    (unset-indexed (forgotten id id old entry) (none-left id old entry before))

removed-elsewhere : (at id : List ℕ) (row at_row : Option (List ℕ)) (entry at_entry : Entries)
    → point_eq at id ≡ false → IsIndexed row entry → IsIndexed at_row at_entry
    → IsIndexed (removed_row at id at_row) (forgotten at id row at_entry)
removed-elsewhere at id row at_row entry at_entry other before at_before = same-indexed at_row
    (removed_row at id at_row) at_entry (forgotten at id row at_entry)
    (cond-false (point_eq at id) None at_row other)
    (others-stay at id row entry at_entry before other) at_before

-- the entries of an ID in the map
abbrev entries_of : Map → List ℕ → Entries
entries_of map at v = get map (entry_key v at)

-- index and records of a map agree exactly where those of each ID do
abbrev EachIndexed : Map → Type 0
EachIndexed map = (at : List ℕ) → IsIndexed (get map (record_key at)) (entries_of map at)

each-from : (map : Map) → AreIndexed map → EachIndexed map
each-from map are at = record { fits = are.fits at; found = are.found at; finds = are.finds at }

from-each : (map : Map) → EachIndexed map → AreIndexed map
from-each map each = record {
  fits = λ at. (each at).fits;
  found = λ at. (each at).found;
  finds = λ at. (each at).finds;
}

module _ (map : Map) (before : AreIndexed map) (id : List ℕ) (old : Option (List ℕ))
    (read : get map (record_key id) ≡ old) where
  -- the record that was read agrees with its entries
  old-indexed : IsIndexed old (entries_of map id)
  old-indexed = subst (λ (row : Option (List ℕ)). IsIndexed row (entries_of map id)) read (each-from map before id)

  at-put : (value : List ℕ) → length value ≡ value_size → (at : List ℕ)
      → IsIndexed (put_row at id value (get map (record_key at))) (put_entry at id value old (entries_of map at))
  at-put value long at = ⊎_elim
      (λ same. subst
      (λ (x : List ℕ). IsIndexed (put_row x id value (get map (record_key x)))
      (put_entry x id value old (entries_of map x)))
      (sym ((bytes_decides at id).0 same))
      (put-here id value (get map (record_key id)) old (entries_of map id) long old-indexed))
      (λ other. put-elsewhere at id value old (get map (record_key at)) (entries_of map id) (entries_of map at) long
      other old-indexed (each-from map before at))
      (cases_Bool (point_eq at id))

  at-removed : (at : List ℕ)
      → IsIndexed (removed_row at id (get map (record_key at))) (forgotten at id old (entries_of map at))
  at-removed at = ⊎_elim
      (λ same. subst
      (λ (x : List ℕ). IsIndexed (removed_row x id (get map (record_key x))) (forgotten x id old (entries_of map x)))
      (sym ((bytes_decides at id).0 same))
      (removed-here id (get map (record_key id)) old (entries_of map id) old-indexed))
      (λ other. removed-elsewhere at id old (get map (record_key at)) (entries_of map id) (entries_of map at) other
      old-indexed (each-from map before at))
      (cases_Bool (point_eq at id))

-- what stands at a point after the operations
abbrev after_ops : Map → ℕ → ℕ → List (Op × Reply) → Point → Option (List ℕ)
after_ops map version place ops x = fold (value_after x) (get map x) (written version place ops)

-- so the map agrees where what stands at its points does
points-indexed : (map : Map) (version place : ℕ) (ops : List (Op × Reply))
    → ((at : List ℕ) → IsIndexed (after_ops map version place ops (record_key at))
    (λ v. after_ops map version place ops (entry_key v at)))
    → AreIndexed (effects map (written version place ops))
points-indexed map version place ops points = from-each (effects map (written version place ops)) (λ at. same-indexed
    (after_ops map version place ops (record_key at))
    (get (effects map (written version place ops)) (record_key at))
    (λ v. after_ops map version place ops (entry_key v at))
    (λ v. get (effects map (written version place ops)) (entry_key v at))
    (get-effects map (written version place ops) (record_key at))
    (λ v long. get-effects map (written version place ops) (entry_key v at))
    (points at))

pub put-indexed : (map : Map) (version place : ℕ) → AreIndexed map → (id : List ℕ) (old : Option (List ℕ))
    (value : List ℕ) → length value ≡ value_size → get map (record_key id) ≡ old
    → AreIndexed (effects map (written version place (putting id old value)))
put-indexed map version place before id None value long read =
    points-indexed map version place (putting id None value) (at-put map before id None read value long)
put-indexed map version place before id (Some old) value long read =
    points-indexed map version place (putting id (Some old) value) (at-put map before id (Some old) read value long)

removal-indexed : (map : Map) (version place : ℕ) → AreIndexed map → (id : List ℕ) (old : Option (List ℕ))
    → get map (record_key id) ≡ old → AreIndexed (effects map (written version place (removing id old)))
removal-indexed map version place before id None read = before
removal-indexed map version place before id (Some old) read =
    points-indexed map version place (removing id (Some old)) (at-removed map before id (Some old) read)

-- the value that a put or a removal was answered stood in the map
put-read : (map : Map) (id : List ℕ) (old : Option (List ℕ)) (value : List ℕ)
    → AgreeOn map (putting id old value) → get map (record_key id) ≡ old
put-read map id None value answered = sym (same-value None (get map (record_key id)) (answered.1.1.0 refl))
put-read map id (Some old) value answered =
    sym (same-value (Some old) (get map (record_key id)) (answered.1.1.1.0 refl))

removal-read : (map : Map) (id : List ℕ) (old : Option (List ℕ)) → AgreeOn map (removing id old)
    → get map (record_key id) ≡ old
removal-read map id None answered = sym (same-value None (get map (record_key id)) (answered.0 refl))
removal-read map id (Some old) answered =
    sym (same-value (Some old) (get map (record_key id)) (answered.1.1.0 refl))

put-keeps : Keeps IsPut AreIndexed
put-keeps map transcript version place (id, old, value, long, is) answered before =
    left-by AreIndexed map version place transcript (putting id old value) is
    (put-indexed map version place before id old value long
    (put-read map id old value (answered-by map transcript (putting id old value) is answered)))

removal-keeps : Keeps IsRemoval AreIndexed
removal-keeps map transcript version place (id, old, is) answered before =
    left-by AreIndexed map version place transcript (removing id old) is
    (removal-indexed map version place before id old
    (removal-read map id old (answered-by map transcript (removing id old) is answered)))

pub table_keeps : Keeps IsOfTable AreIndexed
table_keeps map transcript version place allowed answered before = ⊎_elim
    (λ none. kept-unwritten AreIndexed map transcript version place none answered before)
    (⊎_elim (λ put. put-keeps map transcript version place put answered before)
    (λ removal. removal-keeps map transcript version place removal answered before))
    allowed

-- no record and no entry stands in the empty map
pub table_starts : AreIndexed empty
table_starts = from-each nowhere (λ at. same-indexed None (get nowhere (record_key at)) (λ v. None)
    (entries_of nowhere at)
    (nothing-at (record_key at)) (λ v long. nothing-at (entry_key v at))
    (unset-indexed (λ v. None) (λ v content long found. none-some content found)))
