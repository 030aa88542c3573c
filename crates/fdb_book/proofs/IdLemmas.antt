-- The ids of a batch, place by place, and the greatest numbers known of their sessions.
use Rattle.std.proofs.Common.{◌≡◌, ◌∙◌, sym, ap, subst, ⊎_elim, ℕ, suc, add-one, ◌<◌, ◌≤◌, ◌+◌, Bool, true, false, cond}
use Rattle.std.proofs.Common.{List, [], ◌∷◌, ◌++◌, take, drop, length, get_or, slice_get, Option, Some, None, nat_lt}
use Rattle.std.proofs.Common.{arith}
use Rattle.std.specs.Prelude.{◌==◌, IfSome}
use Rattle.std.specs.BTreeMap.{get, is_at}
use Rattle.std.specs.Cmp.{unsigned_tied}
use Rattle.std.specs.Ordering.{nat_cmp}
use Rattle.std.proofs.Math.Seq.{drop-cons, take-suc}
use Rattle.std.proofs.lemmas.Bool.{cases_Bool, cond-true, cond-false, eqb-true, ne_eqb, and_left, and_right, lt-ltb}
use Rattle.std.proofs.lemmas.Bool.{ltb-true, ltb-false, le-ltb}
use Rattle.std.proofs.lemmas.List.Sums.{sum_by-cons, sum_by_push, count_by_more_no}
use Rattle.std.proofs.lemmas.Option.{IfSome_then, slice_get_within, get_or_from_slice_get}
use Rattle.fdb_txn.specs.declared.entry.Entry.{Entry}
use Rattle.fdb_txn.specs.declared.txn_id.TxnId.{TxnId}
use Rattle.fdb_txn.specs.book.Transactions.{Transaction}
use Rattle.fdb_txn.specs.book.Once.{same_id, times_with_id, times_in_book}
use Rattle.fdb_book.specs.Ids.{is_among, repeated_after, Latest, IsLater, Covers, AreTaken}

-- what is at a place, before the rest
at-place : {X : Type 0} (xs : List X) (i : ℕ) (x : X) → i < length xs → x ≡ get_or xs i x
    → drop i xs ≡ x ∷ drop (i + 1) xs
at-place {X = X} xs i x within is_x =
    rw add-one (drop-cons xs i x within ∙ ap (λ (first : X). first ∷ drop (suc i) xs) (sym is_x))

-- what is at a place, after what was before it
past-place : {X : Type 0} (xs : List X) (i : ℕ) (x : X) → i < length xs → x ≡ get_or xs i x
    → take (i + 1) xs ≡ take i xs ++ x ∷ []
past-place {X = X} xs i x within is_x =
    rw add-one (take-suc xs i x within ∙ ap (λ (last : X). take i xs ++ last ∷ []) (sym is_x))

-- how often the id is in the entries from a place on
times-from : (id : TxnId) (book : List Entry) (i : ℕ) (entry : Entry) → slice_get book i ≡ Some entry
    → times_in_book id (drop i book) ≡ times_with_id id entry.batch + times_in_book id (drop (i + 1) book)
times-from id book i entry there =
    ap (times_in_book id) (at-place book i entry (slice_get_within book i entry there)
    (sym (get_or_from_slice_get book i entry entry there)))
    ∙ sum_by-cons (λ (e : Entry). times_with_id id e.batch) entry (drop (i + 1) book)

-- at an entry with the id, and past one without it
pub named-here : (id : TxnId) (book : List Entry) (i : ℕ) (entry : Entry) → slice_get book i ≡ Some entry
    → times_in_book id book ≡ times_in_book id (drop i book) → nat_lt 0 (times_with_id id entry.batch) ≡ true
    → nat_lt 0 (times_in_book id book) ≡ true
named-here id book i entry there same named =
    let split = times-from id book i entry there in
    let some = ltb-true 0 (times_with_id id entry.batch) named in
    lt-ltb 0 (times_in_book id book) (rw same (omega arith))

pub named-past : (id : TxnId) (book : List Entry) (i : ℕ) (entry : Entry) → slice_get book i ≡ Some entry
    → times_in_book id book ≡ times_in_book id (drop i book) → nat_lt 0 (times_with_id id entry.batch) ≡ false
    → times_in_book id book ≡ times_in_book id (drop (i + 1) book)
named-past id book i entry there same named =
    let split = times-from id book i entry there in
    let none = ltb-false 0 (times_with_id id entry.batch) named in same ∙ omega arith

-- at a place whose id was there before
pub repeated-here : (book : List Entry) (batch : List Transaction) (i : ℕ) (t : Transaction) → i < length batch
    → t ≡ get_or batch i t → is_among t.id book (take i batch) ≡ true
    → repeated_after book (take i batch) (drop i batch) ≡ Some (length (take i batch))
repeated-here book batch i t within is_t among =
    ap (repeated_after book (take i batch)) (at-place batch i t within is_t)
    ∙ cond-true (is_among t.id book (take i batch)) _ _ among

-- past a place whose id wasn't there before
pub repeated-past : (book : List Entry) (batch : List Transaction) (i : ℕ) (t : Transaction) → i < length batch
    → t ≡ get_or batch i t → is_among t.id book (take i batch) ≡ false
    → repeated_after book (take i batch) (drop i batch) ≡ repeated_after book (take (i + 1) batch) (drop (i + 1) batch)
repeated-past book batch i t within is_t new =
    ap (repeated_after book (take i batch)) (at-place batch i t within is_t)
    ∙ cond-false (is_among t.id book (take i batch)) _ _ new
    ∙ ap (λ (earlier : List Transaction). repeated_after book earlier (drop (i + 1) batch))
    (sym (past-place batch i t within is_t))

-- an id at a place is there before it: it is in the book, or before it in the batch
pub among-book : (id : TxnId) (book : List Entry) (earlier : List Transaction) → nat_lt 0 (times_in_book id book) ≡ true
    → is_among id book earlier ≡ true
among-book id book earlier named =
    let some = ltb-true 0 (times_in_book id book) named in
    lt-ltb 0 (times_in_book id book + times_with_id id earlier) (omega arith)

pub among-batch : (id : TxnId) (book : List Entry) (earlier : List Transaction)
    → nat_lt 0 (times_with_id id earlier) ≡ true
    → is_among id book earlier ≡ true
among-batch id book earlier named =
    let some = ltb-true 0 (times_with_id id earlier) named in
    lt-ltb 0 (times_in_book id book + times_with_id id earlier) (omega arith)

-- or it isn't
pub among-none : (id : TxnId) (book : List Entry) (earlier : List Transaction)
    → nat_lt 0 (times_in_book id book) ≡ false
    → nat_lt 0 (times_with_id id earlier) ≡ false → is_among id book earlier ≡ false
among-none id book earlier not_in_book not_in_batch =
    let in_book = ltb-false 0 (times_in_book id book) not_in_book in
    let in_batch = ltb-false 0 (times_with_id id earlier) not_in_batch in
    le-ltb 0 (times_in_book id book + times_with_id id earlier) (omega arith)

-- what is later once a later id was put is another id, and was later before
pub later-put : (before after : Latest) (put id : TxnId) → IsLater before put
    → get nat_cmp after id.session
    ≡ cond (is_at (nat_cmp put.session) id.session) (Some put.number) (get nat_cmp before id.session)
    → IsLater after id → IsLater before id × (same_id id put ≡ false)
later-put before after put id later there is_later = ⊎_elim of_session of_other (cases_Bool (put.session == id.session))
  where
    now : Bool → Option ℕ
    now same = cond same (Some put.number) (get nat_cmp before id.session)

    found : (same : Bool) → (put.session == id.session) ≡ same → IfSome (now same) (λ known. known < id.number)
    found same is = subst (λ (o : Option ℕ). IfSome o (λ known. known < id.number))
        (there ∙ ap now (unsigned_tied put.session id.session ∙ is)) is_later

    of_session : (put.session == id.session) ≡ true → IsLater before id × (same_id id put ≡ false)
    of_session same =
        let less : put.number < id.number = found true same in
        let before_put : IfSome (get nat_cmp before id.session) (λ known. known < put.number) =
        subst (λ (s : ℕ). IfSome (get nat_cmp before s) (λ known. known < put.number))
        (eqb-true put.session id.session same) later in (
          IfSome_then (get nat_cmp before id.session) before_put (λ known below. omega arith),
          and_right (put.session == id.session) _ (ne_eqb put.number id.number (λ equal. omega arith)),
        )

    of_other : (put.session == id.session) ≡ false → IsLater before id × (same_id id put ≡ false)
    of_other apart = (found false apart, and_left (put.session == id.session) _ apart)

-- what is later than a known number of a session is no id of that session with a number up to the known one
pub later-apart : (latest : Latest) (old id : TxnId) (known : ℕ) → get nat_cmp latest old.session ≡ Some known
    → old.number ≤ known → IsLater latest id → same_id id old ≡ false
later-apart latest old id known there within is_later =
    ⊎_elim of_session (and_left (old.session == id.session) _) (cases_Bool (old.session == id.session))
  where
    of_session : (old.session == id.session) ≡ true → same_id id old ≡ false
    of_session same =
        let less : known < id.number = subst (λ (o : Option ℕ). IfSome o (λ (n : ℕ). n < id.number))
        (ap (get nat_cmp latest) (sym (eqb-true old.session id.session same)) ∙ there) is_later in
        and_right (old.session == id.session) _ (ne_eqb old.number id.number (λ equal. omega arith))

-- an id is later than a lesser number of its session
pub later-known : (latest : Latest) (id : TxnId) (known : ℕ) → Some known ≡ get nat_cmp latest id.session
    → known < id.number → IsLater latest id
later-known latest id known there = subst (λ (o : Option ℕ). IfSome o (λ (n : ℕ). n < id.number)) there

-- an id is later where no number of its session is known
pub later-unknown : (latest : Latest) (id : TxnId) → None ≡ get nat_cmp latest id.session → IsLater latest id
later-unknown latest id there = subst (λ (o : Option ℕ). IfSome o (λ (n : ℕ). n < id.number)) there tt

-- one id more is taken
pub taken-more : (before latest after : Latest) (batch : List Transaction) (i : ℕ) (t : Transaction) (put : TxnId)
    → i < length batch → t ≡ get_or batch i t → put ≡ t.id → AreTaken before (take i batch) latest
    → ((id : TxnId) → IsLater after id → IsLater latest id × (same_id id put ≡ false))
    → AreTaken before (take (i + 1) batch) after
taken-more before latest after batch i t put within is_t is_put taken step id is_later =
    let now : IsLater latest id × (same_id id put ≡ false) = step id is_later in
    let prior : IsLater before id × (times_with_id id (take i batch) ≡ 0) = taken id now.0 in (
      prior.0,
      count_by_more_no (λ (u : Transaction). same_id id u.id) batch i t within
          (ap (λ (u : Transaction). same_id id u.id) (sym is_t) ∙ ap (same_id id) (sym is_put) ∙ now.1) ∙ prior.1,
    )

-- past an id that is later than all that were taken before it
pub new-more : (before latest : Latest) (book : List Entry) (batch : List Transaction) (i : ℕ) (t : Transaction)
    (put : TxnId) → i < length batch → t ≡ get_or batch i t → put ≡ t.id → AreTaken before (take i batch) latest
    → Covers before book → IsLater latest put
    → repeated_after book (take i batch) (drop i batch) ≡ repeated_after book (take (i + 1) batch) (drop (i + 1) batch)
new-more before latest book batch i t put within is_t is_put taken covers later =
    let prior : IsLater before t.id × (times_with_id t.id (take i batch) ≡ 0) =
    taken t.id (subst (IsLater latest) is_put later) in
    let none : times_in_book t.id book ≡ 0 = covers t.id prior.0 in
    repeated-past book batch i t within is_t (le-ltb 0 _ (omega (arith, prior.1)))

-- what covers the ids of a book covers those of the book with one entry more, once its ids were taken
pub covers-more : (before after : Latest) (book : List Entry) (entry : Entry) → Covers before book
    → AreTaken before entry.batch after → Covers after (book ++ entry ∷ [])
covers-more before after book entry covers taken id is_later =
    let prior : IsLater before id × (times_with_id id entry.batch ≡ 0) = taken id is_later in
    sum_by_push (λ (e : Entry). times_with_id id e.batch) book entry ∙ omega (arith, covers id prior.0, prior.1)
