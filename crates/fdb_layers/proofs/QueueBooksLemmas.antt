-- What the queue's transactions of a book push and take.
use Rattle.std.proofs.Common.{◌≡◌, ◌∙◌, sym, ap, subst, refl, ℕ, zero, suc, ◌+◌, ◌<◌, ◌≤◌, ◌^◌, ◌==◌, ◌&&◌, ◌⊎◌, ⊎_elim}
use Rattle.std.proofs.Common.{Bool, true, false, List, [], ◌∷◌, ◌++◌, take, drop, length, Option, Some, None, slice_get}
use Rattle.std.proofs.Common.{arith, cond, if◌then◌else◌}
use Rattle.std.specs.Prelude.{fold, sum_by, count_by}
use Rattle.std.proofs.Math.Logic.{inl, inr}
use Rattle.std.specs.Cmp.Lexicographic.{bytes_decides}
use Rattle.std.specs.FinMap.{get}
use Rattle.std.specs.List.{AllByRecursion, list_any}
use Rattle.std.proofs.lemmas.Bool.{and_from, cases_Bool, cond-true, cond-false, eq-eqb, or_left, or_right}
use Rattle.std.proofs.lemmas.List.{append_assoc}
use Rattle.std.proofs.lemmas.List.Sums.{sum_by-append, sum_by-cons}
use Rattle.std.proofs.lemmas.Option.{none-some, same_Some}
use Rattle.fdb_keys.specs.Points.{Point, point_eq}
use Rattle.fdb_keys.specs.Prefixes.{prefix_range}
use Rattle.fdb_mutations.specs.Maps.{Map}
use Rattle.fdb_mutations.specs.Mutations.{effects}
use Rattle.fdb_mutations.specs.PairLaws.{given_of}
use Rattle.fdb_mutations.specs.Stamps.{stamp_bytes}
use Rattle.fdb_mutations.specs.declared.mutation.Mutation.{Mutation}
use Rattle.fdb_mutations.specs.declared.mutation.Mutation.TheVariants.{Clear, Stamped}
use Rattle.fdb_txn.specs.declared.entry.Entry.{Entry}
use Rattle.fdb_txn.specs.declared.txn_id.TxnId.{TxnId}
use Rattle.fdb_txn.specs.book.Book.{Head, Place, Seen, add_entry, add_places, head_of, nothing, placed, seen_of}
use Rattle.fdb_txn.specs.book.History.{IsHistory}
use Rattle.fdb_txn.specs.book.Once.{NoIdTwice, same_id, times_in_book, times_with_id}
use Rattle.fdb_txn.specs.book.Transactions.{Transaction}
use Rattle.fdb_txn.specs.rules.Admission.{committed}
use Rattle.fdb_txn.specs.rules.SerialMap.{serial_map}
use Rattle.fdb_txn.specs.rules.Stamped.{stamped_at, stamped_by}
use Rattle.fdb_txn.proofs.Exports.{get-effects}
use Rattle.fdb_client.specs.declared.program.Op.{Op}
use Rattle.fdb_client.specs.declared.program.Reply.{Reply}
use Rattle.fdb_client.specs.declared.program.Reply.TheVariants.{Value, Pairs, Done}
use Rattle.fdb_client.specs.declared.program.Transcript.{Transcript}
use Rattle.fdb_client.specs.Programs.{program, mutations_of}
use Rattle.fdb_roles.specs.Layers.{IsAskedBy, IsBookOf}
use Rattle.fdb_roles.specs.Spots.{AnsweredOn}
use Rattle.fdb_roles.proofs.Exports.{answered-at, history-of}
use Rattle.fdb_layers.specs.Queue.{item_key, popping, pushing, queue, unstamped, FitsKey, IsOfQueue, IsOldestIfAny}
use Rattle.fdb_layers.specs.Queue.{IsPop, IsPush}
use Rattle.fdb_layers.specs.QueueBooks.{PushesAt, TakesAt, WasPushed, WasTaken, StandsUnder, IsWaiting}
use Rattle.fdb_layers.specs.QueueBooks.{QueueBooksKeepTheirItems}
use Rattle.fdb_layers.proofs.OperationsLemmas.{answered-by, itself, nothing-at}
use Rattle.fdb_layers.proofs.QueueExamplesLemmas.{pushes_have_own_keys}
use Rattle.fdb_layers.proofs.RangesLemmas.{has_pair, range_has_pair}

-- how many of the places are of a transaction with the id
abbrev times_at : TxnId → List Place → ℕ
times_at id places = count_by (λ (place : Place). same_id id place.transaction.id) places

abbrev one_at : TxnId → Place → ℕ
one_at id place = cond (same_id id place.transaction.id) 1 0

abbrev one_of : TxnId → Transaction → ℕ
one_of id t = cond (same_id id t.id) 1 0

batch-times : (id : TxnId) (head : Head) (p : ℕ) (ts : List Transaction) (earlier : List Place)
    → times_at id (add_places head p ts earlier) ≡ times_with_id id ts + times_at id earlier
batch-times id head p [] earlier = omega arith
batch-times id head p (t ∷ ts) earlier =
    let here : times_at id (placed head p t ∷ earlier) ≡ one_of id t + times_at id earlier =
    sum_by-cons (one_at id) (placed head p t) earlier in
    let there : times_with_id id (t ∷ ts) ≡ one_of id t + times_with_id id ts = sum_by-cons (one_of id) t ts in
    batch-times id head (suc p) ts (placed head p t ∷ earlier) ∙ omega (arith, here, there)

-- the places of a book are of an id so often as the book is
book-times : (id : TxnId) (seen : Seen) (book : List Entry)
    → times_at id (fold add_entry seen book).places ≡ times_at id seen.places + times_in_book id book
book-times id seen [] = omega arith
book-times id seen (entry ∷ book) =
    let here : times_at id (add_entry seen entry).places ≡ times_with_id id entry.batch + times_at id seen.places =
    batch-times id (head_of seen entry) 0 entry.batch seen.places in
    let there : times_in_book id (entry ∷ book) ≡ times_with_id id entry.batch + times_in_book id book =
    sum_by-cons (λ (e : Entry). times_with_id id e.batch) entry book in
    book-times id (add_entry seen entry) book ∙ omega (arith, here, there)

-- so it is that of one place at the most of those up to a place
id-once : (book : List Entry) (newer places : List Place) (id : TxnId) → NoIdTwice book
    → (seen_of book).places ≡ newer ++ places → times_at id places ≤ 1
id-once book newer places id ids is =
    let all : times_at id (seen_of book).places ≡ 0 + times_in_book id book = book-times id nothing book in
    let parts : times_at id (newer ++ places) ≡ times_at id newer + times_at id places =
    sum_by-append (one_at id) newer places in
    let same : times_at id (seen_of book).places ≡ times_at id (newer ++ places) = ap (times_at id) is in
    let most : times_in_book id book ≤ 1 = ids id in omega (arith, all, parts, same, most)

-- an id is itself
own-id : (id : TxnId) → same_id id id ≡ true
own-id id = and_from (id.session == id.session) (id.number == id.number) (eq-eqb id.session id.session refl)
    (eq-eqb id.number id.number refl)

-- ids that fit into their keys and have one key are the same
one-key : (id other : TxnId) → FitsKey id → FitsKey other → item_key id ≡ item_key other → same_id id other ≡ true
one-key id other fits others same =
    subst (λ (it : TxnId). same_id id it ≡ true) (pushes_have_own_keys id other fits others same) (own-id id)

-- a pair that stands in the list is one of it
there-has : (pairs : List (Point × List ℕ)) (at : ℕ) (pair : Point × List ℕ) → slice_get pairs at ≡ Some pair
    → has_pair pairs pair.0 pair.1 ≡ true
there-has [] at pair there = absurd (none-some pair there)
there-has (first ∷ pairs) zero pair there =
    let is : first ≡ pair = same_Some first pair there in
    or_left (point_eq first.0 pair.0 && point_eq first.1 pair.1) (has_pair pairs pair.0 pair.1)
    (and_from (point_eq first.0 pair.0) (point_eq first.1 pair.1)
    ((bytes_decides first.0 pair.0).1 (ap (λ (it : Point × List ℕ). it.0) is))
    ((bytes_decides first.1 pair.1).1 (ap (λ (it : Point × List ℕ). it.1) is)))
there-has (first ∷ pairs) (suc at) pair there =
    or_right (point_eq first.0 pair.0 && point_eq first.1 pair.1) (has_pair pairs pair.0 pair.1)
    (there-has pairs at pair there)

-- the pairs that a reply shows
abbrev pairs-of : Reply → List (Point × List ℕ)
pairs-of (Value value) = []
pairs-of (Pairs pairs) = pairs
pairs-of Done = []

-- what a pop takes stood there
pub popped-there : (map : Map) (transcript : Transcript) (pairs : List (Point × List ℕ)) (pair : Point × List ℕ)
    → IsOldestIfAny pairs (Some pair) → transcript.ops ≡ popping pairs (Some pair) → AnsweredOn map transcript
    → get map pair.0 ≡ Some pair.1
popped-there map transcript pairs pair oldest is answered =
    let agree = answered-by map transcript (popping pairs (Some pair)) is answered in
    let given : pairs ≡ given_of map (prefix_range queue) 0 false = ap pairs-of (agree.1.0 refl) in
    ((range_has_pair map (prefix_range queue) false pair.0 pair.1).0
    (subst (λ (these : List (Point × List ℕ)). has_pair these pair.0 pair.1 ≡ true) given
    (there-has pairs oldest.at pair oldest.there))).1

-- the item of a mutation that stamps one behind ten bytes
abbrev pub stamped-item : List Mutation → List ℕ
stamped-item (Stamped at operand offset ∷ rest) = drop 10 operand
stamped-item mutations = []

-- the key of a mutation that clears one
abbrev cleared-key : List Mutation → Point
cleared-key (Clear at ∷ rest) = at
cleared-key mutations = []

module _ (splits : List Point) (book : List Entry) (of : IsBookOf IsOfQueue splits book) where
  abbrev all : List Place
  all = (seen_of book).places

  abbrev IsAsked : Place → Type 0
  IsAsked place = IsAskedBy IsOfQueue splits all place

  -- what the places up to one leave
  abbrev left : List Place → Map
  left places = serial_map splits places

  -- a place stamps an item under the key of its id
  abbrev Stamps : Place → Type 0
  Stamps place = (item : List ℕ) × FitsKey place.transaction.id
      × (place.transaction.mutations ≡ Stamped (item_key place.transaction.id) (unstamped item) 0 ∷ [])

  -- it clears a key, at which something stands right before it where it is committed
  abbrev Clears : List Place → Place → Type 0
  Clears earlier place = (pair : Point × List ℕ) × (place.transaction.mutations ≡ Clear pair.0 ∷ [])
      × (committed splits earlier place ≡ true → get (left earlier) pair.0 ≡ Some pair.1)

  -- each place writes nothing, stamps an item or clears a key
  writes : (newer : List Place) (place : Place) (earlier : List Place) → all ≡ newer ++ place ∷ earlier
      → IsAsked place → (place.transaction.mutations ≡ []) ⊎ (Stamps place ⊎ Clears earlier place)
  writes newer place earlier is by = ⊎_elim (λ none. inl (wrote ∙ none))
      (⊎_elim (λ push. inr (inl (pushed push))) popped) by.allowed
    where
      ops : List (Op × Reply)
      ops = by.transcript.ops

      wrote : place.transaction.mutations ≡ mutations_of (program ops)
      wrote = ap (λ (t : Transaction). t.mutations) by.asked

      id-is : by.transcript.id ≡ place.transaction.id
      id-is = sym (ap (λ (t : Transaction). t.id) by.asked)

      pushed : IsPush by.transcript → Stamps place
      pushed (item, fits, done) = (
        item,
        subst FitsKey id-is fits,
        wrote ∙ ap (λ (these : List (Op × Reply)). mutations_of (program these)) done
            ∙ ap (λ (id : TxnId). Stamped (item_key id) (unstamped item) 0 ∷ []) id-is,
      )

      popped : IsPop by.transcript → (place.transaction.mutations ≡ []) ⊎ (Stamps place ⊎ Clears earlier place)
      popped (None, (pairs, oldest, done)) =
          inl (wrote ∙ ap (λ (these : List (Op × Reply)). mutations_of (program these)) done)
      popped (Some pair, (pairs, oldest, done)) = inr (inr (
        pair,
        wrote ∙ ap (λ (these : List (Op × Reply)). mutations_of (program these)) done,
        λ commits. popped-there (left earlier) by.transcript pairs pair oldest done
            (answered-at splits all newer place earlier by.transcript history is by.asked commits by.answered),
      ))
        where
          history : IsHistory (suc (length splits)) all
          history = history-of splits book of.book_is of.each_sealed

  -- What holds after the places up to one: what stands somewhere was pushed there; what was taken stands there no more,
  -- and was pushed; and what was pushed and not taken stands there.
  record Kept (places : List Place) : Type 0 where
    known : (key value : List ℕ) → get (left places) key ≡ Some value
        → (item : List ℕ) × WasPushed splits places key item
    gone : (key : Point) → WasTaken splits places key → get (left places) key ≡ None
    source : (key : Point) → WasTaken splits places key → (item : List ℕ) × WasPushed splits places key item
    stands : (key : Point) (item : List ℕ) → WasPushed splits places key item
        → WasTaken splits places key ⊎ StandsUnder (left places) key item

  -- a place that pushes nothing and takes nothing leaves all as it is
  idle : (place : Place) (earlier : List Place) → left (place ∷ earlier) ≡ left earlier
      → ((key : Point) (item : List ℕ) → PushesAt splits earlier place key item → ⊥)
      → ((key : Point) → TakesAt splits earlier place key → ⊥) → Kept earlier → Kept (place ∷ earlier)
  idle place earlier same pushes takes kept = record {
    known = λ key value there.
        let at = kept.known key value (ap (λ (m : Map). get m key) (sym same) ∙ there) in (at.0, inr at.1);
    gone = λ key. ⊎_elim (λ here. absurd (takes key here))
        (λ before. ap (λ (m : Map). get m key) same ∙ kept.gone key before);
    source = λ key. ⊎_elim (λ here. absurd (takes key here))
        (λ before. let at = kept.source key before in (at.0, inr at.1));
    stands = λ key item. ⊎_elim (λ here. absurd (pushes key item here))
        (λ before. ⊎_elim (λ taken. inl (inr taken))
        (λ there. inr (subst (λ (m : Map). StandsUnder m key item) (sym same) there)) (kept.stands key item before));
  }

  -- a place whose transaction wrote nothing is such a one
  idle-empty : (place : Place) (earlier : List Place) → place.transaction.mutations ≡ [] → Kept earlier
      → Kept (place ∷ earlier)
  idle-empty place earlier none kept = idle place earlier same
      (λ key item here. let wrong : [] ≡ Stamped key (unstamped item) 0 ∷ [] = sym none ∙ here.pushes in cc)
      (λ key here. let wrong : [] ≡ Clear key ∷ [] = sym none ∙ here.takes in cc) kept
    where
      after : Map
      after = effects (left earlier) (stamped_at place)

      is-before : after ≡ left earlier
      is-before = ap (λ (these : List Mutation). effects (left earlier) (stamped_by place.version place.number these))
          none

      same : left (place ∷ earlier) ≡ left earlier
      same = ⊎_elim
          (λ commits. cond-true (committed splits earlier place) after (left earlier) commits ∙ is-before)
          (λ fails. cond-false (committed splits earlier place) after (left earlier) fails)
          (cases_Bool (committed splits earlier place))

  -- and so is one that isn't committed
  idle-refused : (place : Place) (earlier : List Place) → committed splits earlier place ≡ false → Kept earlier
      → Kept (place ∷ earlier)
  idle-refused place earlier fails kept = idle place earlier
      (cond-false (committed splits earlier place) (effects (left earlier) (stamped_at place)) (left earlier) fails)
      (λ key item here. let wrong : true ≡ false = sym here.commits ∙ fails in cc)
      (λ key here. let wrong : true ≡ false = sym here.commits ∙ fails in cc) kept

  -- what stands at a point after a committed place with one mutation
  after-one : (place : Place) (earlier : List Place) (mutation : Mutation) (x : Point)
      → committed splits earlier place ≡ true → place.transaction.mutations ≡ mutation ∷ []
      → get (left (place ∷ earlier)) x
      ≡ get (effects (left earlier) (stamped_by place.version place.number (mutation ∷ []))) x
  after-one place earlier mutation x commits writes-it =
      ap (λ (m : Map). get m x)
      (cond-true (committed splits earlier place) (effects (left earlier) (stamped_at place)) (left earlier) commits
      ∙ ap (λ (these : List Mutation). effects (left earlier) (stamped_by place.version place.number these)) writes-it)

  -- Of places that were all asked for, one that was pushed under the key of an id that fits is of that id.
  pushed-times : (id : TxnId) (item : List ℕ) (newer places : List Place) → FitsKey id → all ≡ newer ++ places
      → AllByRecursion IsAsked places → WasPushed splits places (item_key id) item → 1 ≤ times_at id places
  pushed-times id item newer [] fits is asked pushed = absurd pushed
  pushed-times id item newer (place ∷ earlier) fits is asked pushed =
      let parts : times_at id (place ∷ earlier) ≡ one_at id place + times_at id earlier =
      sum_by-cons (one_at id) place earlier in
      ⊎_elim (λ here. let one : one_at id place ≡ 1 = ap (λ (same : Bool). cond same 1 0) (of-id here) in
      omega (arith, parts, one))
      (λ before. let some : 1 ≤ times_at id earlier = pushed-times id item (newer ++ place ∷ []) earlier fits
      (is ∙ sym (append_assoc newer (place ∷ []) earlier)) asked.1 before in omega (arith, parts, some))
      pushed
    where
      fits-too : PushesAt splits earlier place (item_key id) item → FitsKey place.transaction.id
      fits-too here = ⊎_elim
          (λ none. let wrong : [] ≡ Stamped (item_key id) (unstamped item) 0 ∷ [] = sym none ∙ here.pushes in cc)
          (⊎_elim (λ stamps. stamps.1)
          (λ clears. let wrong : Clear clears.0.0 ∷ [] ≡ Stamped (item_key id) (unstamped item) 0 ∷ [] =
          sym clears.1 ∙ here.pushes in cc))
          (writes newer place earlier is asked.0)

      of-id : PushesAt splits earlier place (item_key id) item → same_id id place.transaction.id ≡ true
      of-id here = one-key id place.transaction.id fits (fits-too here) here.key_is

  -- under the key of a place's own id nothing was pushed before
  fresh : (newer : List Place) (place : Place) (earlier : List Place) (item : List ℕ) → all ≡ newer ++ place ∷ earlier
      → FitsKey place.transaction.id → AllByRecursion IsAsked earlier
      → WasPushed splits earlier (item_key place.transaction.id) item → ⊥
  fresh newer place earlier item is fits asked pushed =
      let id = place.transaction.id in
      let some : 1 ≤ times_at id earlier = pushed-times id item (newer ++ place ∷ []) earlier fits
      (is ∙ sym (append_assoc newer (place ∷ []) earlier)) asked pushed in
      let parts : times_at id (place ∷ earlier) ≡ one_at id place + times_at id earlier =
      sum_by-cons (one_at id) place earlier in
      let one : one_at id place ≡ 1 = ap (λ (same : Bool). cond same 1 0) (own-id id) in
      let most : times_at id (place ∷ earlier) ≤ 1 = id-once book newer (place ∷ earlier) id of.book_is.ids is in
      absurd (omega (arith, some, parts, one, most))

  -- what a push leaves
  push-keeps : (newer : List Place) (place : Place) (earlier : List Place) → all ≡ newer ++ place ∷ earlier
      → AllByRecursion IsAsked earlier → committed splits earlier place ≡ true → Stamps place → Kept earlier
      → Kept (place ∷ earlier)
  push-keeps newer place earlier is asked commits (item, fits, writes-it) kept = record {
    known = λ at value there. ⊎_elim
        (λ same. (item, inl (push at same)))
        (λ other. let found = kept.known at value (sym (elsewhere at other) ∙ there) in (found.0, inr found.1))
        (cases_Bool (point_eq at key));
    gone = λ at. ⊎_elim (λ here. absurd (no-take at here))
        (λ before. ⊎_elim (λ same. absurd (untaken at same before))
        (λ other. elsewhere at other ∙ kept.gone at before) (cases_Bool (point_eq at key)));
    source = λ at. ⊎_elim (λ here. absurd (no-take at here))
        (λ before. let found = kept.source at before in (found.0, inr found.1));
    stands = λ at other_item. ⊎_elim
        (λ here. inr (stands-here at other_item here))
        (λ before. ⊎_elim (λ taken. inl (inr taken))
        (λ there. inr (there.0, there.1, elsewhere at (not-own at other_item before) ∙ there.2))
        (kept.stands at other_item before));
  }
    where
      key : Point
      key = item_key place.transaction.id

      stamp : List ℕ
      stamp = stamp_bytes place.version place.number

      point : (x : Point) → get (left (place ∷ earlier)) x
          ≡ (if point_eq x key then Some (stamp ++ item) else get (left earlier) x)
      point x = after-one place earlier (Stamped key (unstamped item) 0) x commits writes-it
          ∙ get-effects (left earlier)
          (stamped_by place.version place.number (Stamped key (unstamped item) 0 ∷ [])) x

      elsewhere : (x : Point) → point_eq x key ≡ false → get (left (place ∷ earlier)) x ≡ get (left earlier) x
      elsewhere x other = point x ∙ cond-false (point_eq x key) (Some (stamp ++ item)) (get (left earlier) x) other

      push : (at : Point) → point_eq at key ≡ true → PushesAt splits earlier place at item
      push at same =
          let at-key : at ≡ key = (bytes_decides at key).0 same in
          subst (λ (k : Point). PushesAt splits earlier place k item) (sym at-key)
          (record { commits = commits; key_is = refl; pushes = writes-it })

      no-take : (at : Point) → TakesAt splits earlier place at → ⊥
      no-take at here =
          let wrong : Stamped key (unstamped item) 0 ∷ [] ≡ Clear at ∷ [] = sym writes-it ∙ here.takes in cc

      unpushed : (at : Point) (other : List ℕ) → point_eq at key ≡ true → WasPushed splits earlier at other → ⊥
      unpushed at other same before = fresh newer place earlier other is fits asked
          (subst (λ (k : Point). WasPushed splits earlier k other) ((bytes_decides at key).0 same) before)

      untaken : (at : Point) → point_eq at key ≡ true → WasTaken splits earlier at → ⊥
      untaken at same before = let found = kept.source at before in unpushed at found.0 same found.1

      not-own : (at : Point) (other : List ℕ) → WasPushed splits earlier at other → point_eq at key ≡ false
      not-own at other before = ⊎_elim (λ same. absurd (unpushed at other same before)) (λ differs. differs)
          (cases_Bool (point_eq at key))

      stands-here : (at : Point) (other : List ℕ) → PushesAt splits earlier place at other
          → StandsUnder (left (place ∷ earlier)) at other
      stands-here at other here =
          let items : item ≡ other = ap stamped-item (sym writes-it ∙ here.pushes) in
          let same : point_eq at key ≡ true = (bytes_decides at key).1 here.key_is in (
            stamp,
            refl,
            point at ∙ cond-true (point_eq at key) (Some (stamp ++ item)) (get (left earlier) at) same
                ∙ ap (λ (its : List ℕ). Some (stamp ++ its)) items,
          )

  -- what a pop takes waits right before it
  pop-waits : (earlier : List Place) (key value : List ℕ) → get (left earlier) key ≡ Some value → Kept earlier
      → (item : List ℕ) × IsWaiting splits earlier key item
  pop-waits earlier key value there kept =
      let found = kept.known key value there in (
        found.0,
        record {
          pushed = found.1;
          untaken = λ taken. none-some value (sym (kept.gone key taken) ∙ there);
          stands = ⊎_elim (λ taken. absurd (none-some value (sym (kept.gone key taken) ∙ there))) (λ stands. stands)
              (kept.stands key found.0 found.1);
        },
      )

  -- what a pop leaves
  pop-keeps : (place : Place) (earlier : List Place) → committed splits earlier place ≡ true → Clears earlier place
      → Kept earlier → Kept (place ∷ earlier)
  pop-keeps place earlier commits (pair, writes-it, stood) kept = record {
    known = λ at value there. ⊎_elim
        (λ same. absurd (none-some value (sym (cleared at same) ∙ there)))
        (λ other. let found = kept.known at value (sym (elsewhere at other) ∙ there) in (found.0, inr found.1))
        (cases_Bool (point_eq at key));
    gone = λ at taken. ⊎_elim (cleared at)
        (λ other. elsewhere at other ∙ ⊎_elim (λ here. absurd (not-here at other here)) (kept.gone at) taken)
        (cases_Bool (point_eq at key));
    source = λ at. ⊎_elim
        (λ here. let found = kept.known key pair.1 (stood commits) in (
          found.0,
          inr (subst (λ (k : Point). WasPushed splits earlier k found.0) (sym (takes-key at here)) found.1),
        ))
        (λ before. let found = kept.source at before in (found.0, inr found.1));
    stands = λ at item. ⊎_elim (λ here. absurd (no-push at item here))
        (λ before. ⊎_elim (λ taken. inl (inr taken))
        (λ there. ⊎_elim (λ same. inl (inl (take-it at same)))
        (λ other. inr (there.0, there.1, elsewhere at other ∙ there.2)) (cases_Bool (point_eq at key)))
        (kept.stands at item before));
  }
    where
      key : Point
      key = pair.0

      point : (x : Point) → get (left (place ∷ earlier)) x ≡ (if point_eq x key then None else get (left earlier) x)
      point x = after-one place earlier (Clear key) x commits writes-it
          ∙ get-effects (left earlier) (stamped_by place.version place.number (Clear key ∷ [])) x

      elsewhere : (x : Point) → point_eq x key ≡ false → get (left (place ∷ earlier)) x ≡ get (left earlier) x
      elsewhere x other = point x ∙ cond-false (point_eq x key) None (get (left earlier) x) other

      cleared : (x : Point) → point_eq x key ≡ true → get (left (place ∷ earlier)) x ≡ None
      cleared x same = point x ∙ cond-true (point_eq x key) None (get (left earlier) x) same

      takes-key : (at : Point) → TakesAt splits earlier place at → at ≡ key
      takes-key at here = ap cleared-key (sym here.takes ∙ writes-it)

      not-here : (at : Point) → point_eq at key ≡ false → TakesAt splits earlier place at → ⊥
      not-here at other here =
          let wrong : true ≡ false = sym ((bytes_decides at key).1 (takes-key at here)) ∙ other in cc

      take-it : (at : Point) → point_eq at key ≡ true → TakesAt splits earlier place at
      take-it at same =
          let at-key : at ≡ key = (bytes_decides at key).0 same in
          subst (λ (k : Point). TakesAt splits earlier place k) (sym at-key)
          (record { commits = commits; takes = writes-it })

      no-push : (at : Point) (item : List ℕ) → PushesAt splits earlier place at item → ⊥
      no-push at item here =
          let wrong : Clear key ∷ [] ≡ Stamped at (unstamped item) 0 ∷ [] = sym writes-it ∙ here.pushes in cc

  next : (newer : List Place) (place : Place) (earlier : List Place) → all ≡ newer ++ place ∷ earlier
      → AllByRecursion IsAsked (place ∷ earlier) → Kept earlier → Kept (place ∷ earlier)
  next newer place earlier is asked kept = ⊎_elim
      (λ commits. ⊎_elim (λ none. idle-empty place earlier none kept)
      (⊎_elim (λ stamps. push-keeps newer place earlier is asked.1 commits stamps kept)
      (λ clears. pop-keeps place earlier commits clears kept))
      (writes newer place earlier is asked.0))
      (λ fails. idle-refused place earlier fails kept)
      (cases_Bool (committed splits earlier place))

  kept-from : (newer places : List Place) → all ≡ newer ++ places → AllByRecursion IsAsked places → Kept places
  kept-from newer [] is asked = record {
    known = λ key value there. absurd (none-some value (sym (nothing-at key) ∙ there));
    gone = λ key taken. absurd taken;
    source = λ key taken. absurd taken;
    stands = λ key item pushed. absurd pushed;
  }
  kept-from newer (place ∷ earlier) is asked = next newer place earlier is asked
      (kept-from (newer ++ place ∷ []) earlier (is ∙ sym (append_assoc newer (place ∷ []) earlier)) asked.1)

  -- what holds of all places holds of those up to one
  behind : (newer places : List Place) → AllByRecursion IsAsked (newer ++ places) → AllByRecursion IsAsked places
  behind [] places asked = asked
  behind (first ∷ newer) places asked = behind newer places asked.1

  asked-from : (newer places : List Place) → all ≡ newer ++ places → AllByRecursion IsAsked places
  asked-from newer places is = behind newer places (subst (AllByRecursion IsAsked) is of.each_asked)

  handed-once : (newer : List Place) (place : Place) (earlier : List Place) (key : Point)
      → all ≡ newer ++ place ∷ earlier → TakesAt splits earlier place key
      → (item : List ℕ) × IsWaiting splits earlier key item
  handed-once newer place earlier key is here =
      let asked = asked-from newer (place ∷ earlier) is in
      let kept = kept-from (newer ++ place ∷ []) earlier (is ∙ sym (append_assoc newer (place ∷ []) earlier)) asked.1 in
      ⊎_elim (λ none. let wrong : [] ≡ Clear key ∷ [] = sym none ∙ here.takes in cc)
      (⊎_elim
      (λ stamps. let wrong : Stamped (item_key place.transaction.id) (unstamped stamps.0) 0 ∷ [] ≡ Clear key ∷ [] =
      sym stamps.2 ∙ here.takes in cc)
      (λ clears. pop-waits earlier key clears.0.1
      (subst (λ (k : Point). get (left earlier) k ≡ Some clears.0.1)
      (ap cleared-key (sym clears.1 ∙ here.takes)) (clears.2 here.commits)) kept))
      (writes newer place earlier is asked.0)

  none-lost : (key : Point) (item : List ℕ) → WasPushed splits all key item
      → WasTaken splits all key ⊎ IsWaiting splits all key item
  none-lost key item pushed =
      let kept = kept-from [] all refl of.each_asked in
      ⊎_elim (λ taken. inl taken)
      (λ there. inr (record {
        pushed = pushed;
        untaken = λ taken. none-some (there.0 ++ item) (sym (kept.gone key taken) ∙ there.2);
        stands = there;
      }))
      (kept.stands key item pushed)

  own-key : (newer : List Place) (place : Place) (earlier : List Place) (key : Point) (item other : List ℕ)
      → all ≡ newer ++ place ∷ earlier → PushesAt splits earlier place key item
      → WasPushed splits earlier key other → ⊥
  own-key newer place earlier key item other is here before =
      let asked = asked-from newer (place ∷ earlier) is in
      ⊎_elim (λ none. let wrong : [] ≡ Stamped key (unstamped item) 0 ∷ [] = sym none ∙ here.pushes in cc)
      (⊎_elim
      (λ stamps. fresh newer place earlier other is stamps.1 asked.1
      (subst (λ (k : Point). WasPushed splits earlier k other) here.key_is before))
      (λ clears. let wrong : Clear clears.0.0 ∷ [] ≡ Stamped key (unstamped item) 0 ∷ [] =
      sym clears.1 ∙ here.pushes in cc))
      (writes newer place earlier is asked.0)

-- a book of the queue's transactions keeps its items
pub queue_books_keep_their_items : QueueBooksKeepTheirItems
queue_books_keep_their_items splits book of = record {
  once = handed-once splits book of;
  kept = none-lost splits book of;
  keys = own-key splits book of;
}
