-- Acknowledged transactions stand where they are placed, and go on standing there when the book grows.
use Rattle.std.proofs.Common.{◌≡◌, ◌∙◌, sym, ap, refl, ℕ, zero, suc, ◌+◌, ◌<◌, ◌≤◌, le_refl, le_trans, le_of_lt, Bool}
use Rattle.std.proofs.Common.{true, false, if◌then◌else◌, List, [], ◌∷◌, ◌++◌, append_assoc, fold, map, length, take}
use Rattle.std.proofs.Common.{Some, subst, zero-add, add-zero, arith, ◌==◌}
use Rattle.std.specs.List.{AllByRecursion, slice_get}
use Rattle.std.proofs.lemmas.Bool.{and_parts, eqb-true}
use Rattle.std.proofs.Math.Nat.{suc-add, add-suc}
use Rattle.fdb_keys.specs.Points.{Point}
use Rattle.fdb_keys.proofs.Exports.{all-append, all-weaken}
use Rattle.fdb_mutations.specs.Maps.{Map}
use Rattle.fdb_txn.specs.declared.entry.Entry.{Entry}
use Rattle.fdb_txn.specs.declared.spot.Spot.{Spot}
use Rattle.fdb_txn.specs.declared.spot.Spot.TheVariants as spot
use Rattle.fdb_txn.specs.book.Transactions.{Transaction}
use Rattle.fdb_txn.specs.book.Book.{Head, Place, Seen, nothing, head_of, placed, add_places, add_entry, seen_of}
use Rattle.fdb_txn.specs.book.Book.{last_version, seen_before}
use Rattle.fdb_txn.specs.book.Places.{place_in, place_of, place_at}
use Rattle.fdb_txn.specs.rules.Admission.{is_fresh, committed}
use Rattle.fdb_txn.specs.book.History.{IsHistory, AreEntries}
use Rattle.fdb_txn.specs.rules.SerialMap.{serial_map, serial_map_at}
use Rattle.fdb_txn.proofs.Exports.{add_places-newer, places_are_history, earlier_maps_stay}
use Rattle.fdb_txn.proofs.Exports.{reads_stand}
use Rattle.fdb_proxy.specs.declared.outcome.Outcome.{Outcome}
use Rattle.fdb_proxy.specs.declared.outcome.Outcome.TheVariants as outcome
use Rattle.fdb_proxy.specs.Verdicts.{outcomes_from, outcomes_on}
use Rattle.fdb_client.specs.declared.program.Op.{Op}
use Rattle.fdb_client.specs.declared.program.Reply.{Reply}
use Rattle.fdb_client.specs.declared.program.Transcript.{Transcript}
use Rattle.fdb_client.specs.ProgramLaws.{AgreeWhereOrdinary}
use Rattle.fdb_client.specs.Programs.{program, exec, mutations_of, write_ranges, commit_request_of, is_read_only}
use Rattle.fdb_client.specs.Programs.{replies_of}
use Rattle.fdb_client.proofs.Exports.{programs_agree, in_executed_ranges}
use Rattle.fdb_roles.specs.Spots.{AnsweredOn, IsSerializedAtSpot, WroteNothing, spot_version}
use Rattle.fdb_roles.specs.declared.placed.Placed.{Placed}
use Rattle.fdb_roles.proofs.Exports.{Extends, map-extends, history-earlier}
use Rattle.fdb_machine.specs.machine.Roles.{CommitProxy}
use Rattle.fdb_machine.specs.machine.Machine.{Machine}
use Rattle.fdb_machine.specs.machine.CommitProxySteps.{placed_from}
use Rattle.fdb_machine.specs.invariant.Invariant.{IsReplied, IsSerializedIn, IsReported}

-- a transaction is serialized at its spot, which is reported
abbrev pub Stands : Machine → Placed → Type 0
Stands m placed = IsSerializedIn m placed × IsReported m placed

-- the replies on a map agree with themselves
agree-itself : (map : Map) (ops : List Op) → AgreeWhereOrdinary ops (exec map ops) (exec map ops)
agree-itself map [] = tt
agree-itself map (op ∷ earlier) = (λ ordinary. refl, agree-itself map earlier)

-- a list that is tested as empty has nothing
nil-is : {A : Type 0} (xs : List A) → length xs == 0 ≡ true → xs ≡ []
nil-is [] none = refl
nil-is (x ∷ xs) none = let counted : length (x ∷ xs) ≡ 0 = eqb-true (length (x ∷ xs)) 0 none in absurd
    (omega (arith, counted))

-- a transaction that is read-only wrote nothing
pub wrote_nothing : (transcript : Transcript) → is_read_only transcript ≡ true → WroteNothing transcript
wrote_nothing transcript empty =
    let parts = and_parts _ _ empty in (
      nil-is (mutations_of (program transcript.ops)) parts.0,
      nil-is (write_ranges (program transcript.ops)) parts.1,
    )

-- an answered transaction that wrote nothing is serialized at its read version
pub read_only_serialized : (m : Machine) (transcript : Transcript) → IsReplied m transcript
    → is_read_only transcript ≡ true
    → IsSerializedIn m (record { spot = spot.ReadOnly transcript.read_version; transcript = transcript })
read_only_serialized m transcript told empty = (
  refl,
  wrote_nothing transcript empty,
  subst (λ (replies : List Reply). AgreeWhereOrdinary (program transcript.ops) replies
      (exec there (program transcript.ops)))
      (sym told.1) (agree-itself there (program transcript.ops)),
)
  where
    there : Map
    there = serial_map_at m.config.resolver_splits transcript.read_version (seen_of m.book).places

-- one more entry leaves every place where it is, and so those before it
place-stays : (seen : Seen) (book : List Entry) (entry : Entry) (n p : ℕ) (there : Place × List Place)
    → place_of (fold add_entry seen (take n book)) p (slice_get book n) ≡ Some there
    → place_of (fold add_entry seen (take n (book ++ entry ∷ []))) p (slice_get (book ++ entry ∷ []) n) ≡ Some there
place-stays seen [] entry zero p there at = cc
place-stays seen [] entry (suc n) p there at = cc
place-stays seen (first ∷ book) entry zero p there at = at
place-stays seen (first ∷ book) entry (suc n) p there at = place-stays (add_entry seen first) book entry n p there at

-- one more entry leaves everyone at a spot to which the entries have come
pub spot-stays : (m : Machine) (entry : Entry) (transcript : Transcript) (at : Spot)
    → last_version m.book < entry.version → spot_version at ≤ last_version m.book
    → IsSerializedAtSpot m.config.resolver_splits m.book transcript at
    → IsSerializedAtSpot m.config.resolver_splits (m.book ++ entry ∷ []) transcript at
spot-stays m entry transcript (spot.Entry n p version) above reached stands =
    (stands.0, place-stays nothing m.book entry n p stands.0 stands.1, stands.2, stands.3, stands.4, stands.5)
spot-stays m entry transcript (spot.ReadOnly version) above reached stands =
    let below : version < entry.version = omega (arith, above, reached) in (
      stands.0,
      stands.1,
      subst (λ (now : Map). AnsweredOn now transcript)
          (sym (earlier_maps_stay m.config.resolver_splits m.book entry version below)) stands.2,
    )

-- what extends places that extend the earlier ones extends those, too
extends-further : (version : ℕ) (places middle earlier : List Place) → Extends version places middle
    → Extends version middle earlier → Extends version places earlier
extends-further version places middle earlier later here = (
  later.0 ++ here.0,
  later.1 ∙ ap (λ (rest : List Place). later.0 ++ rest) here.1 ∙ sym (append_assoc later.0 here.0 earlier),
  all-append (λ (place : Place). version ≤ place.version) later.0 here.0 later.2 here.2,
)

-- the transactions of an entry extend the places by ones of its version
extends-batch : (least : ℕ) (head : Head) (p : ℕ) (batch : List Transaction) (earlier : List Place)
    → least ≤ head.version
    → Extends least (add_places head p batch earlier) earlier
extends-batch least head p batch earlier reached =
    let added = add_places-newer head p batch earlier in (
      added.0,
      added.1,
      all-weaken _ (λ (place : Place). least ≤ place.version)
          (λ (place : Place) is. omega (arith, is, reached)) added.0 added.2,
    )

-- entries after a version extend the places
extends-entries : (resolvers least last : ℕ) (seen : Seen) (book : List Entry) → least ≤ last
    → AreEntries resolvers last book
    → Extends least (fold add_entry seen book).places seen.places
extends-entries resolvers least last seen [] reached entries = ([], refl, tt)
extends-entries resolvers least last seen (entry ∷ book) reached entries =
    let here : least ≤ entry.version = le_trans reached (le_of_lt entries.0) in
    extends-further least (fold add_entry seen (entry ∷ book)).places (add_entry seen entry).places seen.places
    (extends-entries resolvers least entry.version (add_entry seen entry) book here entries.4)
    (extends-batch least (head_of seen entry) 0 entry.batch seen.places here)

-- a book extends what was seen through one of its entries by places of at least its version
extends-through : (resolvers last : ℕ) (seen : Seen) (book : List Entry) (n : ℕ) (entry : Entry)
    → AreEntries resolvers last book → slice_get book n ≡ Some entry
    → Extends entry.version (fold add_entry seen book).places
    (add_entry (fold add_entry seen (take n book)) entry).places
extends-through resolvers last seen [] n entry entries there = cc
extends-through resolvers last seen (first ∷ book) zero entry entries there =
    let same : first ≡ entry = cc in
    subst (λ (e : Entry). Extends e.version (fold add_entry seen (first ∷ book)).places (add_entry seen e).places) same
    (extends-entries resolvers first.version first.version (add_entry seen first) book (le_refl first.version)
    entries.4)
extends-through resolvers last seen (first ∷ book) (suc n) entry entries there =
    extends-through resolvers first.version (add_entry seen first) book n entry entries.4 there

-- a transaction that was answered on the map at its read version was answered as on the map right before its
-- place, where it is committed
answered-there : (splits : List Point) (transcript : Transcript) (head : Head) (p : ℕ) (earlier : List Place)
    → IsHistory (suc (length splits)) (placed head p (commit_request_of transcript) ∷ earlier)
    → committed splits earlier (placed head p (commit_request_of transcript)) ≡ true
    → replies_of transcript.ops
    ≡ exec (serial_map_at splits transcript.read_version
    (placed head p (commit_request_of transcript) ∷ earlier)) (program transcript.ops)
    → AnsweredOn (serial_map splits earlier) transcript
answered-there splits transcript head p earlier history commits answered =
    subst (λ (replies : List Reply). AgreeWhereOrdinary ops replies (exec (serial_map splits earlier) ops))
    (sym answered)
    (programs_agree read (serial_map splits earlier) ops
    (λ x is_read. reads_stand splits earlier place history commits x
    (in_executed_ranges read transcript.ops answered x ∙ is_read))).0
  where
    ops : List Op
    ops = program transcript.ops

    place : Place
    place = placed head p (commit_request_of transcript)

    read : Map
    read = serial_map_at splits transcript.read_version (place ∷ earlier)

-- one transaction more of a batch stands, if it is committed, and so do the others
first-stands : (m : Machine) (n p version : ℕ) (transcript : Transcript) (transcripts : List Transcript)
    (outcomes : List Outcome) (fresh commits : Bool)
    → (commits ≡ true → Stands m (record { spot = spot.Entry n p version; transcript = transcript }))
    → AllByRecursion (Stands m) (placed_from n transcripts outcomes)
    → AllByRecursion (Stands m) (placed_from n (transcript ∷ transcripts)
    ((if fresh then (if commits then outcome.Commit version p else outcome.Conflict) else outcome.Old) ∷ outcomes))
first-stands m n p version transcript transcripts outcomes false commits here others = others
first-stands m n p version transcript transcripts outcomes true false here others = others
first-stands m n p version transcript transcripts outcomes true true here others = (here refl, others)

-- a batch, transaction by transaction
module _ (m : Machine) (n : ℕ) (head : Head) (reported : head.version ≤ m.committed)
    (history : IsHistory (suc (length m.config.resolver_splits)) (seen_of m.book).places) where
  -- those that are committed stand, from place p on
  stands-from : (transcripts : List Transcript) (earlier : List Place) (p : ℕ)
      → AllByRecursion (IsReplied m) transcripts
      → Extends head.version (seen_of m.book).places
      (add_places head p (map commit_request_of transcripts) earlier)
      → ((q : ℕ) → place_at m.book n (p + q) ≡ place_in head p (map commit_request_of transcripts) earlier q)
      → AllByRecursion (Stands m)
      (placed_from n transcripts
      (outcomes_from m.config.resolver_splits head (map commit_request_of transcripts) earlier p))
  stands-from [] earlier p told extends at = tt
  stands-from (transcript ∷ transcripts) earlier p told extends at =
      first-stands m n p head.version transcript transcripts _ (is_fresh place)
      (committed m.config.resolver_splits earlier place)
      (λ commits. (
        (
          (place, earlier),
          ap (place_at m.book n) (sym (add-zero p)) ∙ at zero,
          refl,
          refl,
          commits,
          answered-there m.config.resolver_splits transcript head p earlier here commits
              (told.0.1 ∙ ap (λ (read : Map). exec read (program transcript.ops))
              (map-extends m.config.resolver_splits transcript.read_version head.version (seen_of m.book).places
              (place ∷ earlier) here.0.0 through)),
        ),
        (reported, here.0.0),
      ))
      (stands-from transcripts (place ∷ earlier) (suc p) told.1 extends
      (λ q. ap (place_at m.book n) (suc-add p q ∙ sym (add-suc p q)) ∙ at (suc q)))
    where
      place : Place
      place = placed head p (commit_request_of transcript)

      through : Extends head.version (seen_of m.book).places (place ∷ earlier)
      through = extends-further head.version (seen_of m.book).places
          (add_places head (suc p) (map commit_request_of transcripts) (place ∷ earlier)) (place ∷ earlier)
          extends (extends-batch head.version head (suc p) (map commit_request_of transcripts) (place ∷ earlier)
          (le_refl head.version))

      here : IsHistory (suc (length m.config.resolver_splits)) (place ∷ earlier)
      here = history-earlier (suc (length m.config.resolver_splits)) through.0 (place ∷ earlier)
          (subst (IsHistory (suc (length m.config.resolver_splits))) through.1 history)

-- those of a reported batch that are committed are serialized at their places
pub batch_serialized : (m : Machine) (commit_proxy : CommitProxy) (entry : Entry)
    → AreEntries (suc (length m.config.resolver_splits)) 0 m.book
    → AllByRecursion (IsReplied m) commit_proxy.in_flight → slice_get m.book commit_proxy.entry ≡ Some entry
    → entry.batch ≡ map commit_request_of commit_proxy.in_flight → entry.version ≤ m.committed
    → AllByRecursion (Stands m)
    (placed_from commit_proxy.entry commit_proxy.in_flight
    (outcomes_on m.config.resolver_splits (seen_before m.book commit_proxy.entry) entry))
batch_serialized m commit_proxy entry entries told there batch reported =
    subst (λ (ts : List Transaction). AllByRecursion (Stands m)
    (placed_from commit_proxy.entry commit_proxy.in_flight
    (outcomes_from m.config.resolver_splits head ts before.places 0)))
    (sym batch)
    (stands-from m commit_proxy.entry head reported
    (places_are_history (suc (length m.config.resolver_splits)) m.book entries)
    commit_proxy.in_flight before.places 0 told
    (subst (λ (ts : List Transaction). Extends entry.version (seen_of m.book).places
    (add_places head 0 ts before.places)) batch
    (extends-through (suc (length m.config.resolver_splits)) 0 nothing m.book commit_proxy.entry entry entries there))
    (λ q. ap (place_at m.book commit_proxy.entry) (zero-add q)
    ∙ ap (place_of before q) there
    ∙ ap (λ (ts : List Transaction). place_in head 0 ts before.places q) batch))
  where
    before : Seen
    before = seen_before m.book commit_proxy.entry

    head : Head
    head = head_of before entry
