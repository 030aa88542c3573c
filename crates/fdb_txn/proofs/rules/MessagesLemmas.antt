-- A shard's messages, and the run.
use Rattle.std.proofs.Common.{◌≡◌, ◌∙◌, sym, ap, refl, ℕ, suc, ◌≤◌, le_trans, le_of_lt, subst, Bool, true, false}
use Rattle.std.proofs.Common.{if◌then◌else◌, nat_le, List, [], ◌∷◌, ◌++◌, map, fold, Option, ⊎_elim, arith}
use Rattle.std.specs.List.{AllByRecursion, filter}
use Rattle.std.specs.Ordering.{nat_cmp}
use Rattle.std.specs.Cmp.Lexicographic.{slice_cmp}
use Rattle.std.specs.FinMap.{get, get-empty}
use Rattle.std.proofs.lemmas.Bool.{cases_Bool, both_ways, cond-true, cond-false, leb-true, leb-false}
use Rattle.std.proofs.lemmas.Bool.{false_from_ne_true}
use Rattle.std.proofs.lemmas.List.{map-append}
use Rattle.std.proofs.lemmas.List.Sums.{fold-append}
use Rattle.fdb_keys.specs.Points.{Point}
use Rattle.fdb_keys.specs.Ranges.{Range, in_range}
use Rattle.fdb_keys.proofs.Exports.{HaveCommonPoint, all-append, all-weaken, common_from_meet, meet_from_common}
use Rattle.fdb_mutations.specs.declared.mutation.Mutation.{Mutation}
use Rattle.fdb_mutations.specs.Maps.{Map}
use Rattle.fdb_mutations.specs.Mutations.{names, named_range, new_value, effect, effects, value_after}
use Rattle.fdb_mutations.specs.Stamping.{is_stamped, stamped}
use Rattle.fdb_mutations.specs.Stamps.{stamp_bytes}
use Rattle.fdb_mutations.proofs.Exports.{at_every_point, in_named_range, stamps_are_final}
use Rattle.fdb_txn.specs.declared.entry.Entry.{Entry}
use Rattle.fdb_txn.specs.book.Transactions.{Transaction}
use Rattle.fdb_txn.specs.book.Book.{Head, Place, Seen, nothing, head_of, placed, add_places, add_entry, seen_of}
use Rattle.fdb_txn.specs.book.Book.{last_version}
use Rattle.fdb_txn.specs.rules.Admission.{committed}
use Rattle.fdb_txn.specs.book.History.{AreEntries}
use Rattle.fdb_txn.specs.rules.Messages.{meets_range, Body, mutations_in, at_place, committed_from, committed_in}
use Rattle.fdb_txn.specs.rules.Messages.{message_for, messages_after, value_with, MeetsAtSomePoint, IsForRange}
use Rattle.fdb_txn.specs.rules.Messages.{MessagesAreForTheRange, ShardsHoldTheRun, MessagesGoOn, ShardsGoOn}
use Rattle.fdb_txn.specs.rules.Messages.{MessagesAreStamped}
use Rattle.fdb_txn.specs.rules.SerialMap.{serial_map, up_to, serial_map_at}
use Rattle.fdb_txn.specs.rules.Stamped.{stamped_at}
use Rattle.fdb_txn.specs.laws.SerialMapLaws.{version_after}
use Rattle.fdb_txn.specs.declared.tag_msg.TagMsg.{TagMsg}
use Rattle.fdb_txn.proofs.book.HistoryLemmas.{AtMost, add_places-newer, up_to-all, up_to-above}

-- a mutation meets a range exactly where it names some point of it
pub meets_at_some_point : MeetsAtSomePoint
meets_at_some_point range mutation = (
  λ meets.
      let shared : HaveCommonPoint range (named_range mutation) = common_from_meet range (named_range mutation) meets in
      (shared.0, shared.1, sym (in_named_range mutation shared.0) ∙ shared.2),
  λ named. meet_from_common range (named_range mutation) named.0 named.1 (in_named_range mutation named.0 ∙ named.2),
)

-- of a body the mutations that pass a test, without their places, are those of its mutations that do
mutations-filter : (keep : Mutation → Bool) (body : Body)
    → mutations_in (filter (λ (sent : ℕ × Mutation). keep sent.1) body) ≡ filter keep (mutations_in body)
mutations-filter keep [] = refl
mutations-filter keep (sent ∷ body) = ⊎_elim
    (λ stays. ap mutations_in (cond-true (keep sent.1) (sent ∷ kept) kept stays)
    ∙ ap (λ (mutations : List Mutation). sent.1 ∷ mutations) (mutations-filter keep body)
    ∙ sym (cond-true (keep sent.1) (sent.1 ∷ filter keep others) (filter keep others) stays))
    (λ goes. ap mutations_in (cond-false (keep sent.1) (sent ∷ kept) kept goes) ∙ mutations-filter keep body
    ∙ sym (cond-false (keep sent.1) (sent.1 ∷ filter keep others) (filter keep others) goes))
    (cases_Bool (keep sent.1))
  where
    kept : Body
    kept = filter (λ (other : ℕ × Mutation). keep other.1) body

    others : List Mutation
    others = mutations_in body

-- the mutations at a place are the transaction's
mutations-at_place : (p : ℕ) (mutations : List Mutation) → mutations_in (at_place p mutations) ≡ mutations
mutations-at_place p [] = refl
mutations-at_place p (mutation ∷ mutations) =
    ap (λ (others : List Mutation). mutation ∷ others) (mutations-at_place p mutations)

-- and they are there where the transaction is committed
pub mutations-if : (p : ℕ) (is_committed : Bool) (mutations : List Mutation)
    → mutations_in (if is_committed then at_place p mutations else []) ≡ (if is_committed then mutations else [])
mutations-if p true mutations = mutations-at_place p mutations
mutations-if p false mutations = refl

-- what passes a filter by a test has what follows of the test
all-filter : (keep : Mutation → Bool) (P : Mutation → Type 0)
    → ((mutation : Mutation) → keep mutation ≡ true → P mutation)
    → (mutations : List Mutation) → AllByRecursion P (filter keep mutations)
all-filter keep P passed [] = tt
all-filter keep P passed (mutation ∷ mutations) = ⊎_elim
    (λ stays. subst (AllByRecursion P)
    (sym (cond-true (keep mutation) (mutation ∷ filter keep mutations) (filter keep mutations) stays))
    (passed mutation stays, all-filter keep P passed mutations))
    (λ goes. subst (AllByRecursion P)
    (sym (cond-false (keep mutation) (mutation ∷ filter keep mutations) (filter keep mutations) goes))
    (all-filter keep P passed mutations))
    (cases_Bool (keep mutation))

-- the messages of entries have nothing for other shards, after what was seen before
messages-for_range : (splits : List Point) (range : Range) (seen : Seen) (book : List Entry)
    → AllByRecursion (IsForRange range) (messages_after splits range seen book)
messages-for_range splits range seen [] = tt
messages-for_range splits range seen (entry ∷ book) = (
  subst (AllByRecursion named_there) (sym (mutations-filter (meets_range range) (committed_in splits seen entry)))
      (all-filter (meets_range range) named_there (λ mutation meets. (meets_at_some_point range mutation).0 meets)
      (mutations_in (committed_in splits seen entry))),
  messages-for_range splits range (add_entry seen entry) book,
)
  where
    named_there : Mutation → Type 0
    named_there mutation = (x : Point) × (in_range range x ≡ true) × (names mutation x ≡ true)

pub messages_are_for_the_range : MessagesAreForTheRange
messages_are_for_the_range splits range book = messages-for_range splits range nothing book

-- mutations that have a stamp wait for none
none-waits : (stamp : List ℕ) (mutations : List Mutation)
    → AllByRecursion (λ (mutation : Mutation). is_stamped mutation ≡ false) (map (stamped stamp) mutations)
none-waits stamp [] = tt
none-waits stamp (mutation ∷ mutations) = (stamps_are_final stamp mutation, none-waits stamp mutations)

-- nor does any of those that the committed transactions of a batch write
none-waits-from : (splits : List Point) (head : Head) (p : ℕ) (batch : List Transaction) (earlier : List Place)
    → AllByRecursion (λ (mutation : Mutation). is_stamped mutation ≡ false)
    (mutations_in (committed_from splits head p batch earlier))
none-waits-from splits head p [] earlier = tt
none-waits-from splits head p (t ∷ ts) earlier =
    subst (AllByRecursion (λ (mutation : Mutation). is_stamped mutation ≡ false))
    (sym (map-append (λ (sent : ℕ × Mutation). sent.1) (if is_committed then at_place p (stamped_at place) else [])
    (committed_from splits head (suc p) ts (place ∷ earlier))))
    (all-append _ (mutations_in (if is_committed then at_place p (stamped_at place) else []))
    (mutations_in (committed_from splits head (suc p) ts (place ∷ earlier)))
    (subst (AllByRecursion (λ (mutation : Mutation). is_stamped mutation ≡ false))
    (sym (mutations-if p is_committed (stamped_at place)))
    (by_commits is_committed))
    (none-waits-from splits head (suc p) ts (place ∷ earlier)))
  where
    place : Place
    place = placed head p t

    is_committed : Bool
    is_committed = committed splits earlier place

    by_commits : (commits : Bool) → AllByRecursion (λ (mutation : Mutation). is_stamped mutation ≡ false)
        (if commits then stamped_at place else [])
    by_commits true = none-waits (stamp_bytes place.version place.number) t.mutations
    by_commits false = tt

-- what is left of mutations has what holds of all of them
all-kept : (keep : Mutation → Bool) (P : Mutation → Type 0) (mutations : List Mutation)
    → AllByRecursion P mutations → AllByRecursion P (filter keep mutations)
all-kept keep P [] all = tt
all-kept keep P (mutation ∷ mutations) all = ⊎_elim
    (λ stays. subst (AllByRecursion P)
    (sym (cond-true (keep mutation) (mutation ∷ filter keep mutations) (filter keep mutations) stays))
    (all.0, all-kept keep P mutations all.1))
    (λ goes. subst (AllByRecursion P)
    (sym (cond-false (keep mutation) (mutation ∷ filter keep mutations) (filter keep mutations) goes))
    (all-kept keep P mutations all.1))
    (cases_Bool (keep mutation))

pub messages_are_stamped : MessagesAreStamped
messages_are_stamped splits range before [] = tt
messages_are_stamped splits range before (entry ∷ book) = (
  subst (AllByRecursion (λ (mutation : Mutation). is_stamped mutation ≡ false))
      (sym (mutations-filter (meets_range range) (committed_in splits before entry)))
      (all-kept (meets_range range) _ (mutations_in (committed_in splits before entry))
      (none-waits-from splits (head_of before entry) 0 entry.batch before.places)),
  messages_are_stamped splits range (add_entry before entry) book,
)

-- mutations that don't name the point may be left out
value-kept : (keep : Mutation → Bool) (x : Point)
    → ((mutation : Mutation) → names mutation x ≡ true → keep mutation ≡ true)
    → (value : Option (List ℕ)) (mutations : List Mutation)
    → fold (value_after x) value (filter keep mutations) ≡ fold (value_after x) value mutations
value-kept keep x kept value [] = refl
value-kept keep x kept value (mutation ∷ mutations) = ⊎_elim
    (λ stays. ap (fold (value_after x) value)
    (cond-true (keep mutation) (mutation ∷ filter keep mutations) (filter keep mutations) stays)
    ∙ value-kept keep x kept (value_after x value mutation) mutations)
    (λ goes. ap (fold (value_after x) value)
    (cond-false (keep mutation) (mutation ∷ filter keep mutations) (filter keep mutations) goes)
    ∙ value-kept keep x kept value mutations
    ∙ ap (λ (old : Option (List ℕ)). fold (value_after x) old mutations)
    (sym (cond-false (names mutation x) (new_value mutation value) value
    (false_from_ne_true _ (λ named. both_ways (keep mutation) goes (kept mutation named))))))
    (cases_Bool (keep mutation))

-- mutations change a map point by point
pub get-effects : (map : Map) (mutations : List Mutation) (x : Point)
    → get (effects map mutations) x ≡ fold (value_after x) (get map x) mutations
get-effects map [] x = refl
get-effects map (mutation ∷ mutations) x =
    get-effects (effect map mutation) mutations x
    ∙ ap (λ (value : Option (List ℕ)). fold (value_after x) value mutations) (at_every_point map mutation x)

-- the effects of a transaction's mutations where it is committed
effects-if : (map : Map) (is_committed : Bool) (mutations : List Mutation)
    → (if is_committed then effects map mutations else map) ≡ effects map (if is_committed then mutations else [])
effects-if map true mutations = refl
effects-if map false mutations = refl

-- the run goes on through a batch by the mutations of its committed transactions
pub serial_map-add_places : (splits : List Point) (head : Head) (p : ℕ) (batch : List Transaction)
    (earlier : List Place)
    → serial_map splits (add_places head p batch earlier) ≡ effects (serial_map splits earlier)
    (mutations_in (committed_from splits head p batch earlier))
serial_map-add_places splits head p [] earlier = refl
serial_map-add_places splits head p (t ∷ ts) earlier =
    serial_map-add_places splits head (suc p) ts (place ∷ earlier)
    ∙ ap (λ (map : Map). effects map (mutations_in others))
    (effects-if (serial_map splits earlier) is_committed (stamped_at place))
    ∙ sym (fold-append effect (serial_map splits earlier) (if is_committed then stamped_at place else [])
    (mutations_in others))
    ∙ ap (λ (here : List Mutation). effects (serial_map splits earlier) (here ++ mutations_in others))
    (sym (mutations-if p is_committed (stamped_at place)))
    ∙ ap (effects (serial_map splits earlier))
    (sym (map-append (λ (sent : ℕ × Mutation). sent.1) (if is_committed then at_place p (stamped_at place) else [])
    others))
  where
    place : Place
    place = placed head p t

    is_committed : Bool
    is_committed = committed splits earlier place

    others : Body
    others = committed_from splits head (suc p) ts (place ∷ earlier)

-- with an entry's places no place has a version above the entry's
pub at_most-add_places : (head : Head) (p : ℕ) (batch : List Transaction) (earlier : List Place)
    → AtMost head.version earlier
    → AtMost head.version (add_places head p batch earlier)
at_most-add_places head p batch earlier at_most =
    let added = add_places-newer head p batch earlier in
    subst (AtMost head.version) (sym added.1)
    (all-append (λ (place : Place). place.version ≤ head.version) added.0 earlier
    (all-weaken _ (λ (place : Place). place.version ≤ head.version) (λ (place : Place) same. omega (arith, same))
    added.0 added.2) at_most)

-- at most v is at most a greater number
pub at_most-more : (v w : ℕ) (places : List Place) → v ≤ w → AtMost v places → AtMost w places
at_most-more v w places more at_most =
    all-weaken (λ (place : Place). place.version ≤ v) (λ (place : Place). place.version ≤ w)
    (λ (place : Place) below. le_trans below more) places at_most

-- an entry's message leaves at a point of the range what the run leaves there
value-message : (splits : List Point) (range : Range) (v : ℕ) (x : Point) → in_range range x ≡ true
    → (seen : Seen) (entry : Entry)
    → AtMost entry.version seen.places
    → value_with v x (get (serial_map_at splits v seen.places) x) (message_for splits range seen entry)
    ≡ get (serial_map_at splits v (add_entry seen entry).places) x
value-message splits range v x inside seen entry at_most = ⊎_elim
    (λ reached. let up : entry.version ≤ v = leb-true entry.version v reached in
    cond-true _ _ _ reached
    ∙ ap (fold (value_after x) (get (serial_map_at splits v seen.places) x))
    (mutations-filter (meets_range range) (committed_in splits seen entry))
    ∙ value-kept (meets_range range) x (λ mutation named. (meets_at_some_point range mutation).1 (x, inside, named)) _
    body
    ∙ ap (λ (now : List Place). fold (value_after x) (get (serial_map splits now) x) body)
    (up_to-all v seen.places (at_most-more entry.version v seen.places up at_most))
    ∙ sym (get-effects (serial_map splits seen.places) body x)
    ∙ ap (λ (map : Map). get map x) (sym (serial_map-add_places splits head 0 entry.batch seen.places))
    ∙ ap (λ (now : List Place). get (serial_map splits now) x)
    (sym (up_to-all v places
    (at_most-more entry.version v places up
    (at_most-add_places head 0 entry.batch seen.places at_most)))))
    (λ above. let added = add_places-newer head 0 entry.batch seen.places in
    cond-false _ _ _ above
    ∙ ap (λ (now : List Place). get (serial_map splits now) x)
    (sym (ap (up_to v) added.1
    ∙ up_to-above v entry.version added.0 seen.places (leb-false entry.version v above) added.2)))
    (cases_Bool (nat_le entry.version v))
  where
    head : Head
    head = head_of seen entry

    places : List Place
    places = add_places head 0 entry.batch seen.places

    body : List Mutation
    body = mutations_in (committed_in splits seen entry)

-- and so do the messages of entries, after what was seen before
value-messages : (splits : List Point) (range : Range) (v : ℕ) (x : Point) → in_range range x ≡ true
    → (resolvers last : ℕ) (seen : Seen) (book : List Entry) → AtMost last seen.places → AreEntries resolvers last book
    → fold (value_with v x) (get (serial_map_at splits v seen.places) x) (messages_after splits range seen book)
    ≡ get (serial_map_at splits v (fold add_entry seen book).places) x
value-messages splits range v x inside resolvers last seen [] at_most entries = refl
value-messages splits range v x inside resolvers last seen (entry ∷ book) at_most entries =
    let here : AtMost entry.version seen.places = at_most-more last entry.version seen.places (le_of_lt entries.0)
    at_most in
    ap (λ (value : Option (List ℕ)). fold (value_with v x) value
    (messages_after splits range (add_entry seen entry) book))
    (value-message splits range v x inside seen entry here)
    ∙ value-messages splits range v x inside resolvers entry.version (add_entry seen entry) book
    (at_most-add_places (head_of seen entry) 0 entry.batch seen.places here)
    entries.4

-- a shard's messages leave at each point of its range what stands there on the serial map
pub shards_hold_the_run : ShardsHoldTheRun
shards_hold_the_run resolvers splits range book entries v x inside =
    ap (λ (value : Option (List ℕ)). fold (value_with v x) value (messages_after splits range nothing book))
    (sym (get-empty {X = List ℕ} (slice_cmp nat_cmp) x))
    ∙ value-messages splits range v x inside resolvers 0 nothing book tt entries

-- the messages of entries after others
messages-append : (splits : List Point) (range : Range) (seen : Seen) (before more : List Entry)
    → messages_after splits range seen (before ++ more)
    ≡ messages_after splits range seen before ++ messages_after splits range (fold add_entry seen before) more
messages-append splits range seen [] more = refl
messages-append splits range seen (entry ∷ before) more =
    ap (λ (others : List TagMsg). message_for splits range seen entry ∷ others)
    (messages-append splits range (add_entry seen entry) before more)

pub messages_go_on : MessagesGoOn
messages_go_on splits range before more = messages-append splits range nothing before more

-- entries are some of them, and then others after the version of the last one
pub entries-split : (resolvers last : ℕ) (before more : List Entry) → AreEntries resolvers last (before ++ more)
    → AreEntries resolvers last before × AreEntries resolvers (version_after last before) more
entries-split resolvers last [] more entries = (tt, entries)
entries-split resolvers last (entry ∷ before) more entries =
    let others = entries-split resolvers entry.version before more entries.4 in
    ((entries.0, entries.1, entries.2, entries.3, others.0), others.1)

-- no place of entries has a version above the last one's
at_most-entries : (resolvers last : ℕ) (seen : Seen) (book : List Entry) → AtMost last seen.places
    → AreEntries resolvers last book → AtMost (version_after last book) (fold add_entry seen book).places
at_most-entries resolvers last seen [] at_most entries = at_most
at_most-entries resolvers last seen (entry ∷ book) at_most entries =
    at_most-entries resolvers entry.version (add_entry seen entry) book
    (at_most-add_places (head_of seen entry) 0 entry.batch seen.places
    (at_most-more last entry.version seen.places (le_of_lt entries.0) at_most)) entries.4

-- a shard goes on from the serial map at its version
pub shards_go_on : ShardsGoOn
shards_go_on resolvers splits range before more entries v x inside later =
    ap (λ (places : List Place). fold (value_with v x) (get (serial_map splits places) x)
    (messages_after splits range (seen_of before) more))
    (up_to-all (last_version before) (seen_of before).places at_most
    ∙ sym (up_to-all v (seen_of before).places (at_most-more (last_version before) v (seen_of before).places later
    at_most)))
    ∙ value-messages splits range v x inside resolvers (last_version before) (seen_of before) more at_most parts.1
    ∙ ap (λ (seen : Seen). get (serial_map_at splits v seen.places) x)
    (sym (fold-append add_entry nothing before more))
  where
    parts : AreEntries resolvers 0 before × AreEntries resolvers (last_version before) more
    parts = entries-split resolvers 0 before more entries

    at_most : AtMost (last_version before) (seen_of before).places
    at_most = at_most-entries resolvers 0 nothing before tt parts.0
