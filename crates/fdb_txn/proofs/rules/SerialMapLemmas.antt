-- The run, at points that committed transactions write and read.
use Rattle.std.proofs.Common.{◌≡◌, ◌∙◌, sym, ap, ap₂, refl, ℕ, suc, ◌<◌, ◌≤◌, le_trans, Bool, true, false, not, ◌&&◌}
use Rattle.std.proofs.Common.{nat_lt}
use Rattle.std.proofs.Common.{nat_le, ◌||◌, List, [], ◌∷◌, map, length, ⊎_elim}
use Rattle.std.specs.List.{AllByRecursion}
use Rattle.std.specs.FinMap.{get}
use Rattle.std.proofs.lemmas.Bool.{cases_Bool, cond-false, leb-true, leb-false, lt-leb, lt-ltb, eq-eqb, and_parts}
use Rattle.std.proofs.lemmas.Bool.{and_from, or_parts, both_ways, cond_both, false_from_ne_true}
use Rattle.fdb_keys.specs.Points.{Point}
use Rattle.fdb_keys.specs.Ranges.{in_set}
use Rattle.fdb_keys.proofs.Exports.{all-weaken}
use Rattle.fdb_mutations.specs.declared.mutation.Mutation.{Mutation}
use Rattle.fdb_mutations.specs.Maps.{Map}
use Rattle.fdb_mutations.specs.Mutations.{names, new_value, effect, effects}
use Rattle.fdb_mutations.specs.Naming.{NamedKeys, is_named}
use Rattle.fdb_mutations.specs.Stamping.{stamped}
use Rattle.fdb_mutations.specs.Stamps.{stamp_bytes}
use Rattle.fdb_mutations.proofs.Exports.{at_every_point, stamps_keep_names}
use Rattle.fdb_txn.specs.book.Transactions.{some_names}
use Rattle.fdb_txn.specs.book.Book.{Place}
use Rattle.fdb_txn.specs.rules.Owners.{owner}
use Rattle.fdb_txn.specs.rules.Admission.{overlaps, no_conflict, admits, committed}
use Rattle.fdb_txn.specs.book.History.{Follows, IsHistory}
use Rattle.fdb_txn.specs.rules.SerialMap.{serial_map, up_to, serial_map_at}
use Rattle.fdb_txn.specs.rules.Stamped.{stamped_at}
use Rattle.fdb_txn.specs.laws.SerialMapLaws.{ReadsStand}
use Rattle.fdb_txn.proofs.rules.AskedLemmas.{all_below-decides, owner-exists}
use Rattle.fdb_txn.proofs.rules.CornersLemmas.{overlaps_at_some_point}
use Rattle.fdb_txn.proofs.book.HistoryLemmas.{AtMost, up_to-all}

-- mutations of which none names the point leave there what stood there
get-effects-unnamed : (map : Map) (mutations : List Mutation) (x : Point) → some_names mutations x ≡ false
    → get (effects map mutations) x ≡ get map x
get-effects-unnamed map [] x unnamed = refl
get-effects-unnamed map (mutation ∷ mutations) x unnamed =
    let parts = or_parts (names mutation x) (some_names mutations x) unnamed in
    get-effects-unnamed (effect map mutation) mutations x parts.1 ∙ at_every_point map mutation x
    ∙ cond-false (names mutation x) (new_value mutation (get map x)) (get map x) parts.0

-- A committed earlier place of a version above the read version names no point of the reads of a place that
-- every resolver admits.
no_conflict-unnamed : (splits : List Point) (others : List Place) (earlier later : Place)
    → IsHistory (suc (length splits)) (earlier ∷ others)
    → committed splits others earlier ≡ true → later.transaction.read < earlier.version
    → ((i : ℕ) → i < suc (length splits) → no_conflict splits i (earlier ∷ others) later ≡ true)
    → (x : Point) → in_set later.transaction.reads x ≡ true → some_names earlier.transaction.mutations x ≡ false
no_conflict-unnamed splits others earlier later history commits
    above none x is_read = false_from_ne_true _ (λ named. both_ways
    (no_conflict splits i (earlier ∷ others) later)
    (ap (λ (conflict : Bool). not conflict && no_conflict splits i others later) (conflicts named))
    (none i exists))
  where
    i : ℕ
    i = owner splits earlier.moves x earlier.version

    exists : i < suc (length splits)
    exists = owner-exists splits earlier.version earlier.moves x earlier.version history.0.2

    overlap : some_names earlier.transaction.mutations x ≡ true → overlaps splits i earlier later ≡ true
    overlap named = (overlaps_at_some_point splits i earlier later).1
        (x, and_from _ _ (and_from _ _ (history.0.1 x named) is_read) (eq-eqb i i refl))

    conflicts : some_names earlier.transaction.mutations x ≡ true
        → (nat_lt later.transaction.read earlier.version && overlaps splits i earlier later && admits splits i others
        earlier) ≡ true
    conflicts named =
        and_from _ _ (and_from _ _ (lt-ltb _ _ above) (overlap named))
        ((all_below-decides (λ (j : ℕ). admits splits j others earlier) (suc (length splits))).0 commits i exists)

-- no place of a history has a version above that of the newest
at_most-follow : (v : ℕ) (place : Place) (others : List Place) → place.version ≤ v
    → AllByRecursion (Follows place) others → AtMost v (place ∷ others)
at_most-follow v place others reached follow = (
  reached,
  all-weaken (Follows place) (λ (other : Place). other.version ≤ v)
      (λ (other : Place) follows. le_trans follows.0 reached) others follow,
)

-- stamped mutations name what they named before
some_names-stamped : (stamp : List ℕ) (mutations : List Mutation) (x : Point)
    → some_names (map (stamped stamp) mutations) x ≡ some_names mutations x
some_names-stamped stamp [] x = refl
some_names-stamped stamp (mutation ∷ mutations) x =
    ap₂ (λ (here others : Bool). here || others)
    (ap (λ (keys : NamedKeys). is_named keys x) (stamps_keep_names stamp mutation))
    (some_names-stamped stamp mutations x)

-- one place more, at a point that it names only if it isn't committed
get-serial_map-unnamed : (splits : List Point) (others : List Place) (place : Place) (x : Point)
    → (committed splits others place ≡ true → some_names place.transaction.mutations x ≡ false)
    → get (serial_map splits (place ∷ others)) x ≡ get (serial_map splits others) x
get-serial_map-unnamed splits others place x unnamed =
    cond_both (committed splits others place) (effects (serial_map splits others) (stamped_at place))
    (serial_map splits others)
    (λ (there : Map). get there x ≡ get (serial_map splits others) x)
    (λ commits. get-effects-unnamed (serial_map splits others) (stamped_at place) x
    (some_names-stamped (stamp_bytes place.version place.number) place.transaction.mutations x ∙ unnamed commits))
    (λ aborts. refl)

-- without a conflict, the map at the read version and the map after the earlier places have the same at each
-- point of the reads
get-serial_map-read : (splits : List Point) (earlier : List Place) (place : Place)
    → IsHistory (suc (length splits)) earlier
    → ((i : ℕ) → i < suc (length splits) → no_conflict splits i earlier place ≡ true)
    → (x : Point) → in_set place.transaction.reads x ≡ true
    → get (serial_map_at splits place.transaction.read earlier) x ≡ get (serial_map splits earlier) x
get-serial_map-read splits [] place history none x is_read = refl
get-serial_map-read splits (other ∷ others) place history none x is_read = ⊎_elim
    (λ reached. ap (λ (places : List Place). get (serial_map splits places) x)
    (up_to-all v (other ∷ others) (at_most-follow v other others (leb-true other.version v reached) history.1)))
    (λ above. ap (λ (places : List Place). get (serial_map splits places) x)
    (cond-false _ (other ∷ up_to v others) (up_to v others) above)
    ∙ get-serial_map-read splits others place history.2 (λ i exists. (and_parts _ _ (none i exists)).1) x is_read
    ∙ sym (get-serial_map-unnamed splits others other x
    (λ commits. no_conflict-unnamed splits others other place history commits (leb-false other.version v above) none x
    is_read)))
    (cases_Bool (nat_le other.version v))
  where
    v : ℕ
    v = place.transaction.read

-- what a committed transaction read stands there still where it commits
pub reads_stand : ReadsStand
reads_stand splits earlier place history commits x is_read =
    ap (λ (places : List Place). get (serial_map splits places) x)
    (cond-false _ (place ∷ up_to v earlier) (up_to v earlier) (lt-leb place.version v history.0.0))
    ∙ get-serial_map-read splits earlier place history.2
    (λ i exists. (and_parts _ _
    ((all_below-decides (λ (j : ℕ). admits splits j earlier place) (suc (length splits))).0 commits i exists)).1) x
    is_read
  where
    v : ℕ
    v = place.transaction.read
