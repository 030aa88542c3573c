-- The book with an entry that may be appended to it.
use Rattle.std.proofs.Common.{◌≡◌, ◌≢◌, ◌∙◌, sym, ap, refl, subst, ⊎_elim, ℕ, ◌<◌, ◌≤◌, ◌+◌, append_assoc, Bool, true}
use Rattle.std.proofs.Common.{false, cond, List, [], ◌∷◌, ◌++◌, length, Option, Some, None, nat_le, nat_lt, arith}
use Rattle.std.specs.Prelude.{◌==◌, ◌&&◌}
use Rattle.std.specs.List.{AllByRecursion, list_all}
use Rattle.std.proofs.lemmas.Bool.{cases_Bool, cond-true, cond-false, and_parts, eqb-true, eqb-false}
use Rattle.std.proofs.lemmas.Bool.{false_from_ne_true, leb-true, ltb-true, ltb-false}
use Rattle.std.proofs.lemmas.List.{append-nil}
use Rattle.std.proofs.lemmas.List.Sums.{sum_by_push}
use Rattle.fdb_keys.specs.declared.refusal.Refusal.{Refusal}
use Rattle.fdb_keys.specs.declared.refusal.Refusal.TheVariants.{Chain}
use Rattle.fdb_txn.specs.declared.entry.Entry.{Entry}
use Rattle.fdb_txn.specs.declared.txn_id.TxnId.{TxnId}
use Rattle.fdb_txn.specs.book.Transactions.{Transaction}
use Rattle.fdb_txn.specs.book.Book.{last_version, last_horizon}
use Rattle.fdb_txn.specs.book.History.{ReadsBelow, IsSealed, HasHorizonBelow}
use Rattle.fdb_txn.specs.book.Once.{same_id, times_with_id, times_in_book}
use Rattle.fdb_book.specs.Appending.{has_next_horizon, goes_on, ids_fault, append_fault}
use Rattle.fdb_book.specs.Fronts.{IsLinkedBook}
use Rattle.fdb_book.specs.Ids.{is_among, repeated_after, repeated_place}
use Rattle.fdb_book.proofs.BookLemmas.{linked-append, rise-append, all-append}

-- where there is no fault, each part of the rule is met
record IsFaultless (capacity : ℕ) (book : List Entry) (entry : Entry) : Type 0 where
  continues : goes_on (last_version book) (last_horizon book) entry ≡ true
  new : repeated_place book entry.batch ≡ None
  room : length book ≢ capacity

ids-met : (place : Option ℕ) (is_full : Bool) → ids_fault place is_full ≡ None
    → (place ≡ None) × (is_full ≡ false)
ids-met (Some place) is_full none = cc
ids-met None true none = cc
ids-met None false none = (refl, refl)

faultless : (capacity : ℕ) (book : List Entry) (entry : Entry) → append_fault capacity book entry ≡ None
    → IsFaultless capacity book entry
faultless capacity book entry none = ⊎_elim met chained (cases_Bool continues)
  where
    continues : Bool
    continues = goes_on (last_version book) (last_horizon book) entry

    faults : Option Refusal
    faults = ids_fault (repeated_place book entry.batch) (length book == capacity)

    met : continues ≡ true → IsFaultless capacity book entry
    met on =
        let ids = ids-met (repeated_place book entry.batch) (length book == capacity)
        (sym (cond-true continues faults (Some Chain) on) ∙ none) in
        record { continues = on; new = ids.0; room = eqb-false (length book) capacity ids.1 }

    chained : continues ≡ false → IsFaultless capacity book entry
    chained off =
        let refused : Some Chain ≡ None =
        sym (cond-false continues faults (Some Chain) off) ∙ none in cc

-- where there is no fault, there is a cell left
pub append-room : (capacity : ℕ) (book : List Entry) (entry : Entry) → append_fault capacity book entry ≡ None
    → length book ≢ capacity
append-room capacity book entry none = (faultless capacity book entry none).room

reads-met : (version : ℕ) (batch : List Transaction)
    → list_all (λ (t : Transaction). nat_lt t.read version) batch ≡ true
    → AllByRecursion (λ (t : Transaction). t.read < version) batch
reads-met version [] all = tt
reads-met version (t ∷ batch) all =
    let parts = and_parts (nat_lt t.read version) (list_all (λ (u : Transaction). nat_lt u.read version) batch) all in
    (ltb-true t.read version parts.0, reads-met version batch parts.1)

times-push : (id : TxnId) (earlier : List Transaction) (t : Transaction)
    → times_with_id id (earlier ++ t ∷ []) ≡ times_with_id id earlier + cond (same_id id t.id) 1 0
times-push id earlier t = sum_by_push (λ (u : Transaction). cond (same_id id u.id) 1 0) earlier t

-- an id that is there at most once is so with an id more that wasn't there
once-more : (id : TxnId) (book : List Entry) (earlier : List Transaction) (t : Transaction)
    → is_among t.id book earlier ≡ false → times_in_book id book + times_with_id id earlier ≤ 1
    → times_in_book id book + times_with_id id (earlier ++ t ∷ []) ≤ 1
once-more id book earlier t new once =
    rw (times-push id earlier t) (⊎_elim same other (cases_Bool (same_id id t.id)))
  where
    goal : ℕ → Type 0
    goal one = times_in_book id book + (times_with_id id earlier + one) ≤ 1

    none : times_in_book t.id book + times_with_id t.id earlier ≤ 0
    none = ltb-false 0 _ new

    same : same_id id t.id ≡ true → goal (cond (same_id id t.id) 1 0)
    same is =
        let parts = and_parts (t.id.session == id.session) (t.id.number == id.number) is in
        let session : t.id.session ≡ id.session = eqb-true t.id.session id.session parts.0 in
        let number : t.id.number ≡ id.number = eqb-true t.id.number id.number parts.1 in
        let named : t.id ≡ id =
        ap (λ (s : ℕ). record t.id { session = s }) session
        ∙ ap (λ (n : ℕ). record id { number = n }) number in
        let here : times_in_book id book + times_with_id id earlier ≤ 0 =
        subst (λ (name : TxnId). times_in_book name book + times_with_id name earlier ≤ 0) named none in
        rw is (omega arith)

    other : same_id id t.id ≡ false → goal (cond (same_id id t.id) 1 0)
    other apart = rw apart (omega arith)

-- an id that is there at most once is so with a batch in which none is repeated
once-after : (id : TxnId) (book : List Entry) (earlier later : List Transaction)
    → repeated_after book earlier later ≡ None → times_in_book id book + times_with_id id earlier ≤ 1
    → times_in_book id book + times_with_id id (earlier ++ later) ≤ 1
once-after id book earlier [] new once = rw (append-nil earlier) once
once-after id book earlier (t ∷ later) new once =
    let fresh : is_among t.id book earlier ≡ false = false_from_ne_true (is_among t.id book earlier) (λ is.
    let repeated : Some (length earlier) ≡ None = sym (cond-true (is_among t.id book earlier) _ _ is) ∙ new in cc) in
    rw append_assoc at
    (once-after id book (earlier ++ t ∷ []) later (sym (cond-false (is_among t.id book earlier) _ _ fresh) ∙ new)
    (once-more id book earlier t fresh once))

-- where there is no fault, the book with the entry of sealed transactions is a book
pub append-book : (capacity : ℕ) (book : List Entry) (entry : Entry) → IsLinkedBook book
    → append_fault capacity book entry ≡ None → IsSealed entry → IsLinkedBook (book ++ entry ∷ [])
append-book capacity book entry linked none is_sealed =
    let met : IsFaultless capacity book entry = faultless capacity book entry none in
    let reads = list_all (λ (t : Transaction). nat_lt t.read entry.version) entry.batch in
    let is_above = nat_lt (last_version book) entry.version in
    let horizon = last_horizon book in
    let is_next = has_next_horizon horizon entry in
    let chain = and_parts (entry.prev == last_version book) (is_above && (is_next && reads)) met.continues in
    let above = and_parts is_above (is_next && reads) chain.1 in
    let next = and_parts is_next reads above.1 in
    let horizons = and_parts (nat_le horizon entry.horizon) (nat_lt entry.horizon entry.version) next.0 in
    record {
      linked = linked-append 0 book entry linked.linked (ltb-true (last_version book) entry.version above.0)
          (eqb-true entry.prev (last_version book) chain.0);
      reads = all-append ReadsBelow book entry linked.reads (reads-met entry.version entry.batch next.1);
      each_sealed = all-append IsSealed book entry linked.each_sealed is_sealed;
      ids = λ id. rw (sum_by_push (λ (e : Entry). times_with_id id e.batch) book entry)
          (once-after id book [] entry.batch met.new (omega (arith, linked.ids id)));
      horizons = rise-append 0 book entry linked.horizons (leb-true horizon entry.horizon horizons.0);
      below = all-append HasHorizonBelow book entry linked.below (ltb-true entry.horizon entry.version horizons.1);
    }
