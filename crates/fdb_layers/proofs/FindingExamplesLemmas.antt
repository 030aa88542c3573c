-- What is found in a table by a value, worked, and that it is one list.
use Rattle.std.proofs.Common.{◌≡◌, ◌∙◌, sym, ap, ap₂, subst, refl, ℕ, true, false, if◌then◌else◌, ⊎_elim}
use Rattle.std.proofs.Common.{List, [], ◌∷◌, Option, Some, None, arith}
use Rattle.std.specs.Prelude.{codes}
use Rattle.std.specs.Cmp.Lexicographic.{bytes_decides, slice_cmp}
use Rattle.std.specs.FinMap.{from_entries, get, get-from_entries}
use Rattle.std.specs.FinMap.Entries.{find}
use Rattle.std.specs.List.{AllByRecursion}
use Rattle.std.specs.Ordering.{nat_cmp}
use Rattle.std.proofs.lemmas.Bool.{cases_Bool, cond-false, cond-true, or_cases, or_left, or_right}
use Rattle.std.proofs.lemmas.Cmp.{nat_list_cmp_total}
use Rattle.std.proofs.lemmas.Option.{none-some}
use Rattle.fdb_keys.specs.Points.{Point, point_eq, point_lt}
use Rattle.fdb_keys.proofs.Exports.{lt-itself, lt_one_way}
use Rattle.fdb_layers.specs.Finding.{AreFoundBy, is_among}
use Rattle.fdb_layers.specs.Table.{record_key}
use Rattle.fdb_layers.specs.TableExamples.{three_pairs, three_records, ValuesFindTheirRecords, OneListIsFound}
use Rattle.fdb_layers.proofs.FindingLemmas.{AreAfter, AreIDsInOrder, first-less}
use Rattle.fdb_layers.proofs.OperationsLemmas.{differ, itself}
use Rattle.fdb_layers.proofs.RangesLemmas.{find-first}

-- ---- what pairs have at a key
abbrev at-key : List (Point × List ℕ) → Point → Option (List ℕ)
at-key [] key = None
at-key (pair ∷ pairs) key = if point_eq key pair.0 then Some pair.1 else at-key pairs key

find-at : (key : Point) (pairs : List (Point × List ℕ)) → find (slice_cmp nat_cmp) key pairs ≡ at-key pairs key
find-at key [] = refl
find-at key (pair ∷ pairs) =
    find-first key pair pairs
    ∙ ap (λ (rest : Option (List ℕ)). if point_eq key pair.0 then Some pair.1 else rest) (find-at key pairs)

get-at : (pairs : List (Point × List ℕ)) (key : Point)
    → get (from_entries {R = slice_cmp nat_cmp} pairs) key ≡ at-key pairs key
get-at pairs key = get-from_entries nat_list_cmp_total pairs key ∙ find-at key pairs

-- ---- what holds of each of some IDs
each-among : (P : List ℕ → Type 0) (ids : List (List ℕ)) → AllByRecursion P ids → (id : List ℕ)
    → is_among ids id ≡ true → P id
each-among P [] all id among = absurd (let wrong : false ≡ true = among in cc)
each-among P (it ∷ ids) all id among = ⊎_elim
    (λ here. subst P ((bytes_decides it id).0 here) all.0)
    (λ later. each-among P ids all.1 id later)
    (or_cases (point_eq it id) (is_among ids id) among)

-- ---- the three records
abbrev held : List ℕ → Option (List ℕ)
held id =
    if point_eq id (codes "ann") then Some (codes "pink")
    else (if point_eq id (codes "bob") then Some (codes "pink")
    else (if point_eq id (codes "cid") then Some (codes "blue") else None))

-- what holds of each of them, and of all others, holds of every ID
by-held : (P : List ℕ → Option (List ℕ) → Type 0) → P (codes "ann") (Some (codes "pink"))
    → P (codes "bob") (Some (codes "pink")) → P (codes "cid") (Some (codes "blue")) → ((id : List ℕ) → P id None)
    → (id : List ℕ) → P id (held id)
by-held P ann bob cid none id =
    by-test (codes "ann") (codes "pink") (if point_eq id (codes "bob") then Some (codes "pink")
    else (if point_eq id (codes "cid") then Some (codes "blue") else None)) ann
    (by-test (codes "bob") (codes "pink") (if point_eq id (codes "cid") then Some (codes "blue") else None) bob
    (by-test (codes "cid") (codes "blue") None cid (none id)))
  where
    by-test : (it value : List ℕ) (rest : Option (List ℕ)) → P it (Some value) → P id rest
        → P id (if point_eq id it then Some value else rest)
    by-test it value rest here elsewhere = ⊎_elim
        (λ same. subst (P id) (sym (cond-true (point_eq id it) (Some value) rest same))
        (subst (λ (x : List ℕ). P x (Some value)) (sym ((bytes_decides id it).0 same)) here))
        (λ other. subst (P id) (sym (cond-false (point_eq id it) (Some value) rest other)) elsewhere)
        (cases_Bool (point_eq id it))

found-of : (value : List ℕ) (ids : List (List ℕ)) → AllByRecursion (λ id. held id ≡ Some value) ids
    → ((id : List ℕ) → held id ≡ Some value → is_among ids id ≡ true) → AreIDsInOrder ids
    → AreFoundBy three_records value ids
found-of value ids all each ordered = record {
  hold = λ id. (
    (λ among. get-at three_pairs (record_key id) ∙ each-among (λ it. held it ≡ Some value) ids all id among),
    (λ holds. each id (sym (get-at three_pairs (record_key id)) ∙ holds)),
  );
  in_order = ordered;
}

pub values_find_their_records : ValuesFindTheirRecords
values_find_their_records = (
  found-of (codes "pink") (codes "ann" ∷ codes "bob" ∷ []) (refl, (refl, tt))
      (by-held
      (λ id value. value ≡ Some (codes "pink") → is_among (codes "ann" ∷ codes "bob" ∷ []) id ≡ true)
      (λ is. refl) (λ is. refl) (λ is. absurd (differ (codes "blue") (codes "pink") refl is))
      (λ id is. absurd (none-some (codes "pink") is)))
      ((first-less 97 98 (codes "nn") (codes "ob") (omega arith), tt), (tt, tt)),
  found-of (codes "blue") (codes "cid" ∷ []) (refl, tt)
      (by-held (λ id value. value ≡ Some (codes "blue") → is_among (codes "cid" ∷ []) id ≡ true)
      (λ is. absurd (differ (codes "pink") (codes "blue") refl is))
      (λ is. absurd (differ (codes "pink") (codes "blue") refl is)) (λ is. refl)
      (λ id is. absurd (none-some (codes "blue") is)))
      (tt, tt),
  found-of (codes "mint") [] tt
      (by-held (λ id value. value ≡ Some (codes "mint") → is_among [] id ≡ true)
      (λ is. absurd (differ (codes "pink") (codes "mint") refl is))
      (λ is. absurd (differ (codes "pink") (codes "mint") refl is))
      (λ is. absurd (differ (codes "blue") (codes "mint") refl is))
      (λ id is. absurd (none-some (codes "mint") is)))
      tt,
)

-- ---- IDs in order are one list where they are the same
abbrev AreAllAmong : List (List ℕ) → List (List ℕ) → Type 0
AreAllAmong ids others = (id : List ℕ) → is_among ids id ≡ true → is_among others id ≡ true

first-among : (id : List ℕ) (ids : List (List ℕ)) → is_among (id ∷ ids) id ≡ true
first-among id ids = or_left (point_eq id id) (is_among ids id) (itself id)

-- no point is before itself
never-before : {A : Type 0} (x : List ℕ) → point_lt x x ≡ true → A
never-before x before = absurd (let wrong : true ≡ false = sym before ∙ lt-itself x in cc)

-- the first ones are the same
same-first : (x y : List ℕ) (xs ys : List (List ℕ)) → AreAfter x xs → AreAfter y ys
    → AreAllAmong (x ∷ xs) (y ∷ ys) → AreAllAmong (y ∷ ys) (x ∷ xs) → x ≡ y
same-first x y xs ys x_first y_first there back = ⊎_elim
    (λ same. sym ((bytes_decides y x).0 same))
    (λ x_later. ⊎_elim
    (λ same. (bytes_decides x y).0 same)
    (λ y_later. let one : point_lt y x ≡ true = each-among (λ other. point_lt y other ≡ true) ys y_first x x_later in
    let other : point_lt x y ≡ true = each-among (λ other. point_lt x other ≡ true) xs x_first y y_later in
    absurd (let wrong : true ≡ false = sym other ∙ lt_one_way y x one in cc))
    (or_cases (point_eq x y) (is_among xs y) (back y (first-among y ys))))
    (or_cases (point_eq y x) (is_among ys x) (there x (first-among x xs)))

-- and so are those behind them
rest-among : (x : List ℕ) (xs ys : List (List ℕ)) → AreAfter x xs → AreAllAmong (x ∷ xs) (x ∷ ys) → AreAllAmong xs ys
rest-among x xs ys first there id among = ⊎_elim
    (λ same. let before : point_lt x id ≡ true = each-among (λ other. point_lt x other ≡ true) xs first id among in
    never-before id (subst (λ (y : List ℕ). point_lt y id ≡ true) ((bytes_decides x id).0 same) before))
    (λ later. later)
    (or_cases (point_eq x id) (is_among ys id)
    (there id (or_right (point_eq x id) (is_among xs id) among)))

one-list : (ids others : List (List ℕ)) → AreIDsInOrder ids → AreIDsInOrder others → AreAllAmong ids others
    → AreAllAmong others ids → ids ≡ others
one-list [] [] ordered as_ordered there back = refl
one-list [] (y ∷ ys) ordered as_ordered there back =
    absurd (let wrong : false ≡ true = back y (first-among y ys) in cc)
one-list (x ∷ xs) [] ordered as_ordered there back =
    absurd (let wrong : false ≡ true = there x (first-among x xs) in cc)
one-list (x ∷ xs) (y ∷ ys) ordered as_ordered there back =
    let same : y ≡ x = sym (same-first x y xs ys ordered.0 as_ordered.0 there back) in
    let y_first : AreAfter x ys = subst (λ (z : List ℕ). AreAfter z ys) same as_ordered.0 in
    let forth : AreAllAmong (x ∷ xs) (x ∷ ys) = subst (λ (z : List ℕ). AreAllAmong (x ∷ xs) (z ∷ ys)) same there in
    let again : AreAllAmong (x ∷ ys) (x ∷ xs) = subst (λ (z : List ℕ). AreAllAmong (z ∷ ys) (x ∷ xs)) same back in
    ap₂ (λ (first : List ℕ) (rest : List (List ℕ)). first ∷ rest) (sym same)
    (one-list xs ys ordered.1 as_ordered.1 (rest-among x xs ys ordered.0 forth) (rest-among x ys xs y_first again))

pub one_list_is_found : OneListIsFound
one_list_is_found map value ids others found also =
    one-list ids others found.in_order also.in_order
    (λ id among. (also.hold id).1 ((found.hold id).0 among))
    (λ id among. (found.hold id).1 ((also.hold id).0 among))
