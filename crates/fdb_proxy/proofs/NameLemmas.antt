-- The ids of a list of requests, of which no two have the same.
use Rattle.std.proofs.Common.{◌≡◌, sym, ◌∙◌, ap, refl, Bool, true, false, not, ◌&&◌, ◌||◌, List, [], ◌∷◌, ◌++◌}
use Rattle.std.proofs.Common.{length, ◌<◌, ⊎_elim, Some, None, arith}
use Rattle.std.proofs.lemmas.Bool.{false≢true, or_parts, or_from, or_cases, cases_Bool, le-ltb, lt-ltb}
use Rattle.std.proofs.lemmas.Bool.{false_from_ne_true}
use Rattle.std.proofs.lemmas.Bool.Decides.{nat_tests}
use Rattle.std.proofs.lemmas.List.Folds.{list_any-append}
use Rattle.std.specs.List.{list_any, position_or_len}
use Rattle.fdb_txn.specs.Equality.{txn_id_eq}
use Rattle.fdb_txn.proofs.Exports.{txn_id_eq_decides}
use Rattle.fdb_txn.specs.book.Transactions.{Transaction}
use Rattle.fdb_txn.specs.declared.txn_id.TxnId.{TxnId}
use Rattle.fdb_proxy.specs.declared.names.Names.{Names}
use Rattle.fdb_proxy.specs.Names.{has}
use Rattle.fdb_proxy.specs.Requests.{AreNamedApart, is_named, place_of}
use Rattle.fdb_proxy.specs.RequestFields.{AreNamesOf}

flips : (a b : TxnId) → txn_id_eq a b ≡ txn_id_eq b a
flips a b = grind (arith, nat_tests)

-- ---- the place of an id

no_place_before : (test : Transaction → Bool) (ts : List Transaction) → list_any test ts ≡ false
    → position_or_len test ts ≡ length ts
no_place_before test [] none = refl
no_place_before test (t ∷ ts) none =
    let parts = or_parts (test t) (list_any test ts) none in
    let before = no_place_before test ts parts.1 in
    rw parts.0 (omega arith)

some_place_before : (test : Transaction → Bool) (ts : List Transaction) → list_any test ts ≡ true
    → position_or_len test ts < length ts
some_place_before test [] some = absurd (false≢true some)
some_place_before test (t ∷ ts) some =
    ⊎_elim (λ at_first. rw at_first (omega arith))
    (λ later.
    let others : list_any test ts ≡ true = rw later at some in
    let before = some_place_before test ts others in
    rw later (omega arith))
    (cases_Bool (test t))

pub no_place : (id : TxnId) (ts : List Transaction) → is_named ts id ≡ false → place_of id ts ≡ None
no_place id ts none =
    let e = no_place_before (λ (t : Transaction). txn_id_eq t.id id) ts none in
    rw (e, le-ltb (length ts) (length ts) (omega arith))

pub no_name : (id : TxnId) (ts : List Transaction) → place_of id ts ≡ None → is_named ts id ≡ false
no_name id ts none =
    false_from_ne_true (is_named ts id) (λ some.
    let test = λ (t : Transaction). txn_id_eq t.id id in
    let before = some_place_before test ts some in
    let e = lt-ltb (position_or_len test ts) (length ts) before in
    let wrong : Some (position_or_len test ts) ≡ None = rw e at none in
    cc)

-- ---- no two have the same

apart-push : (ts : List Transaction) (t : Transaction) → AreNamedApart ts → is_named ts t.id ≡ false
    → AreNamedApart (ts ++ t ∷ [])
unfolding AreNamedApart
apart-push [] t apart new = (refl, tt)
apart-push (first ∷ others) t apart new =
    let parts = or_parts (txn_id_eq first.id t.id) (is_named others t.id) new in
    let at_last : (txn_id_eq t.id first.id || false) ≡ false = or_from _ _ (flips t.id first.id ∙ parts.0) refl in (
      list_any-append (λ (s : Transaction). txn_id_eq s.id first.id) others (t ∷ [])
          ∙ or_from (is_named others first.id) (txn_id_eq t.id first.id || false) apart.0 at_last,
      apart-push others t apart.1 parts.1,
    )

-- who isn't among all is among no part
none_in_parts : (xs ys : List Transaction) (id : TxnId) → is_named (xs ++ ys) id ≡ false
    → (is_named xs id ≡ false) × (is_named ys id ≡ false)
none_in_parts xs ys id none =
    or_parts (is_named xs id) (is_named ys id)
    (sym (list_any-append (λ (t : Transaction). txn_id_eq t.id id) xs ys) ∙ none)

apart-first : (xs ys : List Transaction) → AreNamedApart (xs ++ ys) → AreNamedApart xs
unfolding AreNamedApart
apart-first [] ys apart = tt
apart-first (t ∷ xs) ys apart = ((none_in_parts xs ys t.id apart.0).0, apart-first xs ys apart.1)

apart-others : (xs ys : List Transaction) → AreNamedApart (xs ++ ys) → AreNamedApart ys
unfolding AreNamedApart
apart-others [] ys apart = apart
apart-others (t ∷ xs) ys apart = apart-others xs ys apart.1

-- no id is among the first and among the others
one_side : (xs ys : List Transaction) (id : TxnId) → AreNamedApart (xs ++ ys) → is_named xs id ≡ true
    → is_named ys id ≡ false
unfolding AreNamedApart
one_side [] ys id apart first = absurd (false≢true first)
one_side (t ∷ xs) ys id apart first =
    ⊎_elim (λ same.
    let is : t.id ≡ id = (txn_id_eq_decides t.id id).0 same in
    rw (← is) ((none_in_parts xs ys t.id apart.0).1))
    (λ later. one_side xs ys id apart.1 later) (or_cases (txn_id_eq t.id id) (is_named xs id) first)

-- ---- the names after a change

pub names-none : (names : Names) → ((id : TxnId) → has names id ≡ false) → AreNamesOf names []
unfolding AreNamedApart
names-none names none = record { every = none; apart = tt }

new_last : (a b : Bool) → (a || b) ≡ (b || (a || false))
new_last true true = refl
new_last true false = refl
new_last false true = refl
new_last false false = refl

pub names-pushed : (old new : Names) (ts : List Transaction) (t : Transaction) → AreNamesOf old ts
    → is_named ts t.id ≡ false → ((id : TxnId) → has new id ≡ (txn_id_eq t.id id || has old id))
    → AreNamesOf new (ts ++ t ∷ [])
names-pushed old new ts t names none added =
    record {
      every = λ id.
          added id
          ∙ ap (λ b. txn_id_eq t.id id || b) (names.every id)
          ∙ new_last (txn_id_eq t.id id) (is_named ts id)
          ∙ sym (list_any-append (λ (s : Transaction). txn_id_eq s.id id) ts (t ∷ []));
      apart = apart-push ts t names.apart none;
    }

left_first : (a b h : Bool) → h ≡ (a || b) → (a ≡ true → b ≡ false) → (not b && h) ≡ a
left_first true b h both one = rw (one refl, both)
left_first false true h both one = refl
left_first false false h both one = rw both

left_others : (a b h : Bool) → h ≡ (a || b) → (a ≡ true → b ≡ false) → (not a && h) ≡ b
left_others true b h both one = sym (one refl)
left_others false b h both one = both

-- who is among all is among the first or among the others
in_parts : (old : Names) (xs ys : List Transaction) → AreNamesOf old (xs ++ ys) → (id : TxnId)
    → has old id ≡ (is_named xs id || is_named ys id)
in_parts old xs ys names id = names.every id ∙ list_any-append (λ (t : Transaction). txn_id_eq t.id id) xs ys

pub names-first : (old new : Names) (xs ys : List Transaction) → AreNamesOf old (xs ++ ys)
    → ((id : TxnId) → has new id ≡ (not (is_named ys id) && has old id)) → AreNamesOf new xs
names-first old new xs ys names removed =
    record {
      every = λ id.
          removed id
          ∙ left_first (is_named xs id) (is_named ys id) (has old id) (in_parts old xs ys names id)
          (one_side xs ys id names.apart);
      apart = apart-first xs ys names.apart;
    }

pub names-others : (old new : Names) (xs ys : List Transaction) → AreNamesOf old (xs ++ ys)
    → ((id : TxnId) → has new id ≡ (not (is_named xs id) && has old id)) → AreNamesOf new ys
names-others old new xs ys names removed =
    record {
      every = λ id.
          removed id
          ∙ left_others (is_named xs id) (is_named ys id) (has old id) (in_parts old xs ys names id)
          (one_side xs ys id names.apart);
      apart = apart-others xs ys names.apart;
    }
