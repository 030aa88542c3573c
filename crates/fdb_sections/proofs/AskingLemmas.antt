-- What is known of who asked for the transactions of a book stays known of its fronts.
use Rattle.std.proofs.Common.{◌≡◌, sym, subst, refl, ℕ, suc, ◌<◌, ◌≤◌, le_of_lt}
use Rattle.std.proofs.Common.{List, [], ◌∷◌, ◌++◌, length, arith}
use Rattle.std.specs.Prelude.{fold, None}
use Rattle.std.specs.List.{AllByRecursion}
use Rattle.std.proofs.lemmas.List.Sums.{fold-append}
use Rattle.std.proofs.Math.Logic.{∥∥₁_map, ∥∥₁_map₂}
use Rattle.fdb_mutations.specs.Maps.{Map}
use Rattle.fdb_txn.specs.declared.entry.Entry.{Entry}
use Rattle.fdb_txn.specs.declared.entry.Move.{Move}
use Rattle.fdb_txn.specs.book.Book.{Head, Place, Seen, seen_of, nothing, add_entry, add_places, placed, head_of}
use Rattle.fdb_txn.specs.book.Book.{last_version}
use Rattle.fdb_txn.specs.book.History.{AreEntries, IsSealed, ReadsBelow}
use Rattle.fdb_txn.specs.book.Transactions.{Transaction}
use Rattle.fdb_txn.specs.rules.SerialMap.{serial_map_at}
use Rattle.fdb_txn.proofs.Exports.{books_are_entries, seen_of-push}
use Rattle.fdb_book.specs.Appending.{append_fault}
use Rattle.fdb_book.specs.Fronts.{IsLinkedBook, IsPrefix}
use Rattle.fdb_proxy.specs.declared.config.Config.{Config}
use Rattle.fdb_client.specs.declared.program.Transcript.{Transcript}
use Rattle.fdb_roles.specs.Layers.{IsAskedBy, IsBookOf}
use Rattle.fdb_roles.specs.Spots.{AnsweredOn}
use Rattle.fdb_roles.proofs.Exports.{fronts_have_one_run, entries-linked, entries-below, last-push}
use Rattle.fdb_sections.specs.Asking.{IsAsked, AreAsked, EachAsked}
use Rattle.fdb_sections.proofs.IssueLemmas.{one-entry-more}
use Rattle.fdb_sections.proofs.SessionLemmas.{reaches}
use Rattle.fdb_sections.proofs.ShardViewLemmas.{one-run}

-- what holds of each of them, and makes something else hold
all-weaken : {X : Type 0} (P Q : X → Type 0) → ((x : X) → P x → Q x) → (xs : List X) → AllByRecursion P xs
    → AllByRecursion Q xs
all-weaken P Q implies [] all = tt
all-weaken P Q implies (x ∷ xs) all = (implies x all.0, all-weaken P Q implies xs all.1)

-- of each of them both
all-both : {X : Type 0} (P Q : X → Type 0) (xs : List X) → AllByRecursion P xs → AllByRecursion Q xs
    → AllByRecursion (λ x. P x × Q x) xs
all-both P Q [] all others = tt
all-both P Q (x ∷ xs) all others = ((all.0, others.0), all-both P Q xs all.1 others.1)

-- what is of the transactions of a place
abbrev AtPlaces : (Transaction → Type 0) → List Place → Type 0
AtPlaces P places = AllByRecursion (λ (place : Place). P place.transaction) places

-- what holds of a batch and of the earlier places holds of all of them
places-with : (P : Transaction → Type 0) (head : Head) (p : ℕ) (batch : List Transaction) (earlier : List Place)
    → AllByRecursion P batch → AtPlaces P earlier → AtPlaces P (add_places head p batch earlier)
places-with P head p [] earlier all before = before
places-with P head p (t ∷ batch) earlier all before =
    places-with P head (suc p) batch (placed head p t ∷ earlier) all.1 (all.0, before)

-- and of the earlier ones alone
places-without : (P : Transaction → Type 0) (head : Head) (p : ℕ) (batch : List Transaction) (earlier : List Place)
    → AtPlaces P (add_places head p batch earlier) → AtPlaces P earlier
places-without P head p [] earlier all = all
places-without P head p (t ∷ batch) earlier all =
    (places-without P head (suc p) batch (placed head p t ∷ earlier) all).1

-- what holds of each transaction of more entries holds of each one of those that were seen before
seen-before : (P : Transaction → Type 0) (seen : Seen) (rest : List Entry)
    → AtPlaces P (fold add_entry seen rest).places → AtPlaces P seen.places
seen-before P seen [] all = all
seen-before P seen (entry ∷ rest) all =
    places-without P (head_of seen entry) 0 entry.batch seen.places (seen-before P (add_entry seen entry) rest all)

-- so of each transaction of a front of a front
of-shorter : (P : Transaction → Type 0) (short long : List Entry) → IsPrefix short long
    → AtPlaces P (seen_of long).places → AtPlaces P (seen_of short).places
of-shorter P short long begins all = seen-before P (seen_of short) begins.0
    (subst (λ (seen : Seen). AtPlaces P seen.places) (fold-append add_entry nothing short begins.0)
    (subst (λ (book : List Entry). AtPlaces P (seen_of book).places) begins.1 all))

-- what was seen reads below the version, and so does what is seen with more entries
reads-from : (resolvers last : ℕ) (seen : Seen) (book : List Entry) → AreEntries resolvers last book
    → AtPlaces (λ (t : Transaction). t.read ≤ last) seen.places
    → AtPlaces (λ (t : Transaction). t.read ≤ fold (λ (last : ℕ) (entry : Entry). entry.version) last book)
    (fold add_entry seen book).places
reads-from resolvers last seen [] entries before = before
reads-from resolvers last seen (entry ∷ book) entries before =
    reads-from resolvers entry.version (add_entry seen entry) book entries.4
    (places-with (λ (t : Transaction). t.read ≤ entry.version) (head_of seen entry) 0 entry.batch seen.places
    (all-weaken _ (λ (t : Transaction). t.read ≤ entry.version) (λ (t : Transaction) may. le_of_lt may.0) entry.batch
    entries.3)
    (all-weaken (λ (place : Place). place.transaction.read ≤ last)
    (λ (place : Place). place.transaction.read ≤ entry.version)
    (λ (place : Place) below. let above = entries.0 in omega (arith, below, above)) seen.places before))

-- each transaction of a front read no later than at the front's last version
reads-reached : (resolvers : ℕ) (book : List Entry) → AreEntries resolvers 0 book
    → AtPlaces (λ (t : Transaction). t.read ≤ last_version book) (seen_of book).places
reads-reached resolvers book entries = reads-from resolvers 0 nothing book entries tt

-- the last entry of a book reads below its version
last-below : (before : List Entry) (entry : Entry) → AllByRecursion ReadsBelow (before ++ entry ∷ []) → ReadsBelow entry
last-below [] entry all = all.0
last-below (first ∷ before) entry all = last-below before entry all.1

module _ (allows : Transcript → Type 0) (config : Config) where
  -- who was answered as on the run of a front was so as on that of another one which reaches the read version
  moved : (own other : List Entry) (transaction : Transaction)
      → ((v : ℕ) → v ≤ last_version own → v ≤ last_version other
      → serial_map_at config.resolver_splits v (seen_of own).places ≡ serial_map_at config.resolver_splits v (seen_of
      other).places)
      → transaction.read ≤ last_version other → IsAsked allows config.resolver_splits own transaction
      → IsAsked allows config.resolver_splits other transaction
  moved own other transaction same reached is =
      let there : is.transcript.read_version ≤ last_version other =
      subst (λ (t : Transaction). t.read ≤ last_version other) is.asked reached in
      record {
        transcript = is.transcript;
        allowed = is.allowed;
        asked = is.asked;
        reached = there;
        answered = subst (λ (map : Map). AnsweredOn map is.transcript) (same is.transcript.read_version is.reached
            there)
            is.answered;
      }

  -- a front of a front of which each transaction is asked for is one too
  asked-short : (resolvers : ℕ) (short long : List Entry) → AreEntries resolvers 0 short → AreEntries resolvers 0 long
      → IsPrefix short long → EachAsked allows config.resolver_splits long
      → EachAsked allows config.resolver_splits short
  asked-short resolvers short long entries others begins each =
      all-weaken (λ (place : Place).
      IsAsked allows config.resolver_splits long place.transaction × (place.transaction.read ≤ last_version short))
      (λ (place : Place). IsAsked allows config.resolver_splits short place.transaction)
      (λ (place : Place) both. moved long short place.transaction
      (λ v reached there. sym (fronts_have_one_run config.resolver_splits short long begins (entries-linked resolvers 0
      long others) v
      there)) both.1 both.0)
      (seen_of short).places
      (all-both (λ (place : Place). IsAsked allows config.resolver_splits long place.transaction)
      (λ (place : Place). place.transaction.read ≤ last_version short) (seen_of short).places
      (of-shorter (IsAsked allows config.resolver_splits long) short long begins each) (reads-reached resolvers short
      entries))

  -- transactions that are asked for at a front are so at each front of the book that reaches what they read
  asked-there : (resolvers : ℕ) (own other : List Entry) → AreEntries resolvers 0 own → AreEntries resolvers 0 other
      → (length own ≤ length other → IsPrefix own other) → (length other ≤ length own → IsPrefix other own)
      → (transactions : List Transaction)
      → AllByRecursion (λ (t : Transaction). t.read ≤ last_version other) transactions
      → AreAsked allows config.resolver_splits own transactions
      → AreAsked allows config.resolver_splits other transactions
  asked-there resolvers own other entries others shorter longer transactions reached asked =
      all-weaken (λ (t : Transaction). IsAsked allows config.resolver_splits own t × (t.read ≤ last_version other))
      (IsAsked allows config.resolver_splits other)
      (λ (t : Transaction) both. moved own other t
      (λ v within there. one-run config resolvers v own other entries others shorter longer there within) both.1 both.0)
      transactions
      (all-both (IsAsked allows config.resolver_splits own) (λ (t : Transaction). t.read ≤ last_version other)
      transactions asked
      reached)

  -- one more entry, each transaction of which is asked for at some front of the book
  asked-push : (resolvers : ℕ) (book asked : List Entry) (entry : Entry)
      → AreEntries resolvers 0 (book ++ entry ∷ []) → AreEntries resolvers 0 asked
      → (length asked ≤ length (book ++ entry ∷ []) → IsPrefix asked (book ++ entry ∷ []))
      → (length (book ++ entry ∷ []) ≤ length asked → IsPrefix (book ++ entry ∷ []) asked) → AreEntries resolvers 0 book
      → EachAsked allows config.resolver_splits book → AreAsked allows config.resolver_splits asked entry.batch
      → EachAsked allows config.resolver_splits (book ++ entry ∷ [])
  asked-push resolvers book asked entry entries others shorter further earlier each batch =
      subst (λ (seen : Seen). AtPlaces (IsAsked allows config.resolver_splits longer) seen.places) (sym (seen_of-push
      book entry))
      (places-with (IsAsked allows config.resolver_splits longer) (head_of (seen_of book) entry) 0 entry.batch (seen_of
      book).places
      (asked-there resolvers asked longer others entries shorter further entry.batch reached batch)
      (all-weaken (λ (place : Place).
      IsAsked allows config.resolver_splits book place.transaction × (place.transaction.read ≤ last_version book))
      (λ (place : Place). IsAsked allows config.resolver_splits longer place.transaction)
      (λ (place : Place) both. moved book longer place.transaction
      (λ v within there. fronts_have_one_run config.resolver_splits book longer (entry ∷ [], refl)
      (entries-linked resolvers 0 longer entries) v within)
      (let read = both.1 in let last = reaches resolvers book longer entries (entry ∷ [], refl) in
      omega (arith, read, last)) both.0)
      (seen_of book).places
      (all-both (λ (place : Place). IsAsked allows config.resolver_splits book place.transaction)
      (λ (place : Place). place.transaction.read ≤ last_version book) (seen_of book).places each
      (reads-reached resolvers book earlier))))
    where
      longer : List Entry
      longer = book ++ entry ∷ []

      reached : AllByRecursion (λ (t : Transaction). t.read ≤ last_version longer) entry.batch
      reached = subst (λ (v : ℕ). AllByRecursion (λ (t : Transaction). t.read ≤ v) entry.batch)
          (sym (last-push book entry)) (all-weaken _ (λ (t : Transaction). t.read ≤ entry.version)
          (λ (t : Transaction) may. le_of_lt may) entry.batch (last-below book entry (entries-below resolvers 0 longer
          entries)))

  -- of transactions that are asked for at a front the same is known with a longer one
  asked-longer : (resolvers : ℕ) (short long : List Entry) → AreEntries resolvers 0 long → IsPrefix short long
      → (transactions : List Transaction) → AreAsked allows config.resolver_splits short transactions
      → AreAsked allows config.resolver_splits long transactions
  asked-longer resolvers short long entries begins transactions asked =
      all-weaken (IsAsked allows config.resolver_splits short) (IsAsked allows config.resolver_splits long)
      (λ (t : Transaction) is. record {
        transcript = is.transcript;
        allowed = is.allowed;
        asked = is.asked;
        reached = let was = is.reached in let last = reaches resolvers short long entries begins in
            omega (arith, was, last);
        answered = subst (λ (map : Map). AnsweredOn map is.transcript)
            (fronts_have_one_run config.resolver_splits short long begins (entries-linked resolvers 0 long entries)
            is.transcript.read_version is.reached) is.answered;
      })
      transactions asked

-- The same of what is merely known.
pub short-asked : (allows : Transcript → Type 0) (config : Config) (resolvers : ℕ) (short long : List Entry)
    → AreEntries resolvers 0 short → AreEntries resolvers 0 long → IsPrefix short long
    → ∥ EachAsked allows config.resolver_splits long ∥₁ → ∥ EachAsked allows config.resolver_splits short ∥₁
short-asked allows config resolvers short long entries others begins each =
    ∥∥₁_map each (asked-short allows config resolvers short long entries others begins)

pub push-asked : (allows : Transcript → Type 0) (config : Config) (resolvers : ℕ) (book asked : List Entry)
    (entry : Entry)
    → AreEntries resolvers 0 (book ++ entry ∷ []) → AreEntries resolvers 0 asked
    → (length asked ≤ length (book ++ entry ∷ []) → IsPrefix asked (book ++ entry ∷ []))
    → (length (book ++ entry ∷ []) ≤ length asked → IsPrefix (book ++ entry ∷ []) asked) → AreEntries resolvers 0 book
    → ∥ EachAsked allows config.resolver_splits book ∥₁ → ∥ AreAsked allows config.resolver_splits asked entry.batch ∥₁
    → ∥ EachAsked allows config.resolver_splits (book ++ entry ∷ []) ∥₁
push-asked allows config resolvers book asked entry entries others shorter further earlier each batch =
    ∥∥₁_map₂ each batch (asked-push allows config resolvers book asked entry entries others shorter further earlier)

pub longer-asked : (allows : Transcript → Type 0) (config : Config) (resolvers : ℕ) (short long : List Entry)
    → AreEntries resolvers 0 long → IsPrefix short long → (transactions : List Transaction)
    → ∥ AreAsked allows config.resolver_splits short transactions ∥₁
    → ∥ AreAsked allows config.resolver_splits long transactions ∥₁
longer-asked allows config resolvers short long entries begins transactions asked =
    ∥∥₁_map asked (asked-longer allows config resolvers short long entries begins transactions)

-- a front of which each transaction is asked for is a book of allowed transactions
pub book-allowed : (allows : Transcript → Type 0) (config : Config) (book : List Entry)
    → AreEntries (suc (length config.resolver_splits)) 0 book → IsLinkedBook book
    → ∥ EachAsked allows config.resolver_splits book ∥₁ → ∥ IsBookOf allows config.resolver_splits book ∥₁
book-allowed allows config book entries linked asked =
    ∥∥₁_map asked (λ each. record {
      book_is = ((books_are_entries (suc (length config.resolver_splits)) book).1
          (entries, linked.ids, linked.horizons)).0;
      each_sealed = linked.each_sealed;
      each_asked = all-weaken
          (λ (place : Place). IsAsked allows config.resolver_splits book place.transaction)
          (IsAskedBy allows config.resolver_splits (seen_of book).places)
          (λ (place : Place) is. record {
            transcript = is.transcript;
            allowed = is.allowed;
            asked = is.asked;
            answered = is.answered;
          }) (seen_of book).places each;
    })

-- what is known of a front
abbrev pub Known : (Transcript → Type 0) → Config → List Entry → Type 0
Known allows config front =
    AreEntries (suc (length config.resolver_splits)) 0 front × ∥ EachAsked allows config.resolver_splits front ∥₁

-- the same is known once an entry was appended, whose transactions are asked for at another front of the book
pub longer-known : (allows : Transcript → Type 0) (config : Config) (capacity : ℕ) (book asked longer : List Entry)
    (entry : Entry)
    → Known allows config book → Known allows config asked
    → (append_fault capacity book entry ≡ None) × (longer ≡ book ++ entry ∷ []) → IsSealed entry
    → AllByRecursion (λ (move : Move). move.to < suc (length config.resolver_splits)) entry.moves
    → ∥ AreAsked allows config.resolver_splits asked entry.batch ∥₁
    → (length asked ≤ length longer → IsPrefix asked longer) → (length longer ≤ length asked → IsPrefix longer asked)
    → Known allows config (book ++ entry ∷ [])
longer-known allows config capacity book asked longer entry own other answers names targets batch shorter further =
    let resolvers = suc (length config.resolver_splits) in
    let entries = one-entry-more resolvers capacity book entry own.0 answers.0 names targets in (
      entries,
      push-asked allows config resolvers book asked entry entries other.0
          (subst (λ (all : List Entry). length asked ≤ length all → IsPrefix asked all) answers.1 shorter)
          (subst (λ (all : List Entry). length all ≤ length asked → IsPrefix all asked) answers.1 further)
          own.0 own.1 batch,
    )
