-- The run of the book, entry by entry and place by place.
use Rattle.std.proofs.Common.{◌≡◌, ◌∙◌, sym, ap, ap₂, subst, refl, ℕ, zero, suc, ◌+◌, ◌<◌, ◌≤◌, le_refl, add-one, arith}
use Rattle.std.proofs.Common.{true, ◌&&◌, nat_lt, nat_le, get_or, List, [], ◌∷◌, ◌++◌, take, length, Option, Some, None}
use Rattle.std.proofs.Common.{⊎_elim}
use Rattle.std.specs.List.{slice_get}
use Rattle.std.proofs.lemmas.Bool.{and_parts, ltb-true, leb-true}
use Rattle.std.proofs.lemmas.List.{take_all}
use Rattle.std.proofs.lemmas.Option.{same_Some, slice_get_read}
use Rattle.fdb_keys.specs.Points.{Point}
use Rattle.fdb_mutations.specs.Maps.{Map}
use Rattle.fdb_mutations.specs.Mutations.{effects}
use Rattle.fdb_txn.specs.declared.entry.Entry.{Entry}
use Rattle.fdb_txn.specs.book.Transactions.{Transaction}
use Rattle.fdb_txn.specs.book.Book.{Seen, head_of, seen_of, last_version, seen_before}
use Rattle.fdb_txn.specs.book.History.{AreEntries}
use Rattle.fdb_txn.specs.rules.Messages.{Body, mutations_in}
use Rattle.fdb_txn.specs.rules.SerialMap.{serial_map, serial_map_at}
use Rattle.fdb_txn.proofs.Exports.{serial_map-add_places}
use Rattle.fdb_proxy.specs.declared.outcome.Outcome.{Outcome}
use Rattle.fdb_proxy.specs.Verdicts.{outcomes_on}
use Rattle.fdb_proxy.proofs.Exports.{body-committed}
use Rattle.fdb_roles.specs.Bodies.{body_by}
use Rattle.fdb_roles.proofs.Exports.{length-outcomes_on, take-next, entries-take, seen_before-next, last-push}
use Rattle.fdb_roles.proofs.Exports.{entries-rising, map-between}
use Rattle.fdb_check.specs.Running.{map_after, map_within, batch_of, IsRunAt, IsNotPast, HasComeTo}
use Rattle.fdb_check.specs.Versions.{is_below}
use Rattle.fdb_check.specs.Judged.{AreJudged}
use Rattle.fdb_check.specs.declared.run.Run.{Run}

-- nothing stands after a list's end
pub nothing-after : {A : Type 0} (xs : List A) (i : ℕ) → length xs ≤ i → slice_get xs i ≡ None
nothing-after [] i after = refl
nothing-after (x ∷ xs) zero after = absurd (omega (arith, after))
nothing-after (x ∷ xs) (suc i) after = nothing-after xs i (omega (arith, after))

-- the item that a look-up gave
pub item-there : {A : Type 0} (xs : List A) (i : ℕ) (x : A) → (true ≡ nat_lt i (length xs)) × (x ≡ get_or xs i x)
    → slice_get xs i ≡ Some x
item-there xs i x is = slice_get_read xs (length xs) i x refl (ltb-true i (length xs) (sym is.0)) is.1

-- the entry with a number, or the end of the book
abbrev pub IsUntil : List Entry → ℕ → Option ℕ → Type 0
IsUntil book n until = (entry : Entry) → slice_get book n ≡ Some entry → until ≡ Some entry.version

-- below the version of the next entry
below-next : (v : ℕ) (until : Option ℕ) (end : ℕ) → until ≡ Some end → is_below v until ≡ true → v < end
below-next v None end is below = cc
below-next v (Some version) end is below = let same : version ≡ end = cc in subst (λ n. v < n) same
    (ltb-true v version below)

-- a run that has come to the first place of an entry
pub comes-in : (splits : List Point) (book : List Entry) (n : ℕ) (run : Run) → run.entry ≡ n → run.place ≡ 0
    → AreJudged splits book run.judged.now → run.map ≡ serial_map splits (seen_before book n).places
    → HasComeTo splits book n 0 run
comes-in splits book n run at first judged map = (
  record {
    judged = judged;
    map = map ∙ ap (λ (k : ℕ). serial_map splits (seen_before book k).places) (sym at)
        ∙ ap (map_within splits (seen_before book run.entry) (slice_get book run.entry)) (sym first);
    within = subst (λ (k : ℕ). k ≤ length (batch_of (slice_get book run.entry))) (sym first) (omega arith);
  },
  at,
  first,
)

module _ (splits : List Point) (book : List Entry) (entries : AreEntries (suc (length splits)) 0 book) (n : ℕ) where
  -- the serial map after the first n entries
  abbrev after : Map
  after = serial_map splits (seen_before book n).places

  -- it is the map at each version from that of the last one of them up to the next one's
  pub map-here : (until : Option ℕ) (v : ℕ) → IsUntil book n until
      → nat_le (last_version (take n book)) v && is_below v until ≡ true
      → serial_map_at splits v (seen_of book).places ≡ after
  map-here until v next between =
      let parts = and_parts _ _ between in
      map-between splits book (entries-rising (suc (length splits)) book entries) n v (leb-true _ v parts.0)
      (λ entry there. below-next v until entry.version (next entry there) parts.1)

  -- no entry follows the last one
  pub until-end : length book ≤ n → IsUntil book n None
  until-end all entry there = let gone = sym there ∙ nothing-after book n all in cc

  module _ (entry : Entry) (there : slice_get book n ≡ Some entry) where
    abbrev before : Seen
    before = seen_before book n

    -- its version is the last one after it, and the next one before it
    pub last-next : last_version (take (n + 1) book) ≡ entry.version
    last-next = ap (λ (k : ℕ). last_version (take k book)) (add-one n) ∙ ap last_version (take-next book n entry there)
        ∙ last-push (take n book) entry

    pub until-next : IsUntil book n (Some entry.version)
    until-next other at = ap (λ (e : Entry). Some e.version) (same_Some entry other (sym there ∙ at))

    -- with those before it, it is a list of entries
    pub entries-front : AreEntries (suc (length splits)) 0 (take n book ++ entry ∷ [])
    entries-front = subst (AreEntries (suc (length splits)) 0) (take-next book n entry there)
        (entries-take (suc (length splits)) 0 (suc n) book entries)

    -- what becomes of the entry's places
    abbrev decided : List Outcome
    decided = outcomes_on splits before entry

    -- the map after all its places is the run's after the entry
    pub map-whole : map_after after entry.batch decided (length entry.batch)
        ≡ serial_map splits (seen_before book (suc n)).places
    map-whole =
        let as_many = length-outcomes_on splits before entry in
        ap₂ (λ (batch : List Transaction) (outcomes : List Outcome). effects after
        (mutations_in (body_by 0 batch outcomes)))
        (take_all (length entry.batch) entry.batch (le_refl (length entry.batch)))
        (take_all (length entry.batch) decided (omega (arith, as_many)))
        ∙ ap (λ (body : Body). effects after (mutations_in body)) (body-committed splits before entry)
        ∙ sym (serial_map-add_places splits (head_of before entry) 0 entry.batch before.places)
        ∙ ap (λ (seen : Seen). serial_map splits seen.places) (sym (seen_before-next book n entry there))

-- a run that goes on within an entry
pub moves-on : (splits : List Point) (book : List Entry) (old : Run) (place : ℕ) (map : Map) → IsRunAt splits book old
    → place ≤ length (batch_of (slice_get book old.entry))
    → map ≡ map_within splits (seen_before book old.entry) (slice_get book old.entry) place
    → HasComeTo splits book old.entry place (record old { map = map; place = place })
moves-on splits book old place map at within is =
    (record { judged = at.judged; map = is; within = within }, refl, refl)

-- nor at a later entry
pub not-later : (run : Run) (n place : ℕ) → IsNotPast run n place → run.entry ≤ n
not-later run n place not_past = ⊎_elim (λ before. omega (arith, before))
    (λ here. let same = here.0 in omega (arith, same)) not_past

-- the place in an entry from which a run that isn't past another one goes on there
pub goes-from : (old mid : Run) (n place : ℕ) → IsNotPast old n place
    → (old.entry < n → mid.place ≡ 0) × (old.entry ≡ n → mid.place ≡ old.place) → mid.place ≤ place
goes-from old mid n place not_past from = ⊎_elim
    (λ before. let first = from.0 before in omega (arith, first))
    (λ here. let same = from.1 here.0 in let reached = here.1 in omega (arith, same, reached))
    not_past

-- a run that has come to the end of the book stands at its only place
pub comes-out : (splits : List Point) (book : List Entry) (n place : ℕ) (run : Run) → IsRunAt splits book run
    → run.entry ≡ n → slice_get book n ≡ None → place ≤ length (batch_of (slice_get book n))
    → HasComeTo splits book n place run
comes-out splits book n place run at same none within =
    let last : place ≤ 0 = subst (λ (next : Option Entry). place ≤ length (batch_of next)) none within in
    let here : run.place ≤ 0 = subst (λ (next : Option Entry). run.place ≤ length (batch_of next))
    (ap (slice_get book) same ∙ none) at.within in
    (at, same, omega (arith, last, here))

-- the map of a run that has come to a place
pub map-there : (splits : List Point) (book : List Entry) (n p : ℕ) (run : Run) → HasComeTo splits book n p run
    → run.map ≡ map_within splits (seen_before book n) (slice_get book n) p
map-there splits book n p run come =
    come.0.map ∙ ap (map_within splits (seen_before book run.entry) (slice_get book run.entry)) come.2
    ∙ ap (λ (k : ℕ). map_within splits (seen_before book k) (slice_get book k) p) come.1

-- of one that has come to the first place of an entry
pub map-first : (splits : List Point) (book : List Entry) (n : ℕ) (run : Run) → HasComeTo splits book n 0 run
    → run.map ≡ serial_map splits (seen_before book n).places
map-first splits book n run come = map-there splits book n 0 run come

-- and of one that has come to a place of this entry
pub map-come : (splits : List Point) (book : List Entry) (n p : ℕ) (run : Run) → HasComeTo splits book n p run
    → (entry : Entry) → slice_get book n ≡ Some entry
    → run.map ≡ map_after (serial_map splits (seen_before book n).places) entry.batch
    (outcomes_on splits (seen_before book n) entry) p
map-come splits book n p run come entry there =
    map-there splits book n p run come
    ∙ ap (λ (next : Option Entry). map_within splits (seen_before book n) next p) there
