-- The set that is found of a session's last transaction is its conflict set.
use Rattle.std.proofs.Common.{◌≡◌, ◌∙◌, refl, sym, ap, subst, ⊎_elim, ℕ, zero, suc, ◌+◌, Bool, true, false, ◌&&◌, List}
use Rattle.std.proofs.Common.{[], ◌∷◌, length, Option, Some, None, slice_get, if◌then◌else◌, arith}
use Rattle.std.proofs.lemmas.Bool.{and_from, and_parts, both_ways, cases_Bool, false_from_ne_true}
use Rattle.std.proofs.lemmas.Option.{same_Some, slice_get_within}
use Rattle.fdb_keys.specs.Points.{Point}
use Rattle.fdb_keys.specs.Ranges.{Range, in_set}
use Rattle.fdb_txn.specs.declared.entry.Entry.{Entry}
use Rattle.fdb_txn.specs.declared.txn_id.TxnId.{TxnId}
use Rattle.fdb_txn.specs.book.Book.{Head, Place, Seen, head_of, placed, seen_before}
use Rattle.fdb_txn.specs.book.History.{IsHistory}
use Rattle.fdb_txn.specs.book.Places.{place_at, place_in, place_of}
use Rattle.fdb_txn.specs.rules.Admission.{is_fresh}
use Rattle.fdb_txn.specs.rules.Conflicts.{in_conflict}
use Rattle.fdb_txn.proofs.Exports.{committed_without_conflict, places_are_found_in_the_book, places_are_history}
use Rattle.fdb_txn.proofs.Exports.{refused_by_conflict}
use Rattle.fdb_proxy.specs.Conflicts.{set_at}
use Rattle.fdb_proxy.specs.Verdicts.{conflict_at}
use Rattle.fdb_core.specs.declared.cluster.Cluster.{Cluster}
use Rattle.fdb_machine.specs.machine.Conflicts.{IsConflictOf, IsRefusedAt, id_of, last_told}
use Rattle.fdb_machine.specs.machine.Machine.{is_set}
use Rattle.fdb_machine.specs.machine.Sessions.{Session, is_waiting, session_of}
use Rattle.fdb_core.specs.refinement.Cluster.{machine_of, Refines}
use Rattle.fdb_core.specs.refinement.Conflicts.{IsFound, IsSetAt, IsSetOf}
use Rattle.fdb_roles.proofs.Exports.{history-earlier, place-found, within-item}

-- a session whose last transaction has an id doesn't wait
told-parts : (session : Session) (number : ℕ) (id : TxnId)
    → (if is_waiting session.state then None else id_of number session.last_number) ≡ Some id
    → (is_waiting session.state ≡ false) × (id.session ≡ number) × (session.last_number ≡ Some id.number)
told-parts session number id is = by_parts (is_waiting session.state) session.last_number is
  where
    by_parts : (waits : Bool) (last : Option ℕ) → (if waits then None else id_of number last) ≡ Some id
        → (waits ≡ false) × (id.session ≡ number) × (last ≡ Some id.number)
    by_parts true last is = cc
    by_parts false None is = cc
    by_parts false (Some last) is =
        let own : TxnId = record { session = number; number = last } in
        let same : own ≡ id = same_Some own id is in
        (refl, ap (λ (it : TxnId). it.session) (sym same), ap (λ (it : TxnId). Some it.number) same)

-- the set of a place has no point where the place isn't in the list
set-there : (all : List (List Range)) (p : ℕ) (x : Point) → in_set (set_at p all) x ≡ true
    → slice_get all p ≡ Some (set_at p all)
set-there [] p x inside = cc
set-there (set ∷ all) zero x inside = refl
set-there (set ∷ all) (suc p) x inside = set-there all p x inside

set-is : (all : List (List Range)) (p : ℕ) (set : List Range) → slice_get all p ≡ Some set → set ≡ set_at p all
set-is [] p set kept = cc
set-is (other ∷ all) zero set kept = sym (same_Some other set kept)
set-is (other ∷ all) (suc p) set kept = set-is all p set kept

nothing-at : (all : List (List Range)) (p : ℕ) (set : List Range) → all ≡ [] → slice_get all p ≡ Some set → ⊥
nothing-at [] p set none kept = cc
nothing-at (other ∷ all) p set none kept = cc

module _ (k : Cluster) (refines : Refines k) where
  abbrev splits : List Point
  splits = k.config.resolver_splits

  abbrev book : List Entry
  book = k.book.items

  -- a place stands in an entry
  entry-there : (n p : ℕ) (there : Place × List Place) → place_at book n p ≡ Some there
      → (entry : Entry) × (slice_get book n ≡ Some entry)
  entry-there n p there is = by_entry (slice_get book n) refl is
    where
      by_entry : (found : Option Entry) → slice_get book n ≡ found
          → place_of (seen_before book n) p found ≡ Some there → (entry : Entry) × (slice_get book n ≡ Some entry)
      by_entry None at is = cc
      by_entry (Some entry) at is = (entry, at)

  module _ (n p : ℕ) (there : Place × List Place) (is : place_at book n p ≡ Some there) (entry : Entry)
      (at : slice_get book n ≡ Some entry) where
    -- and those before it are a history with it
    history : IsHistory (suc (length splits)) (there.0 ∷ there.1)
    history =
        let found = places_are_found_in_the_book book n p entry there.0 there.1 at is in
        history-earlier (suc (length splits)) found.2.0 (there.0 ∷ there.1)
        (subst (IsHistory (suc (length splits))) found.2.1
        (places_are_history (suc (length splits)) book refines.book.entries))

    -- the set that is kept for it is by the rule
    by-rule : (all : List (List Range)) → slice_get k.conflicts.items n ≡ Some all
        → is_set k.decided.items n ≡ true → (x : Point)
        → in_set (set_at p all) x ≡ (is_fresh there.0 && in_conflict splits there.1 there.0 x)
    by-rule all kept done x =
        refines.conflicts.by_rule n entry all at done kept p x
        ∙ ap (λ (place : Option (Place × List Place)). conflict_at splits place x)
        (sym (ap (place_of (seen_before book n) p) at) ∙ is)

  module _ (session : ℕ) (id : TxnId) (told : last_told k.sessions session ≡ Some id) where
    told-as : (is_waiting (session_of k.sessions session).state ≡ false) × (id.session ≡ session)
        × ((session_of k.sessions session).last_number ≡ Some id.number)
    told-as = told-parts (session_of k.sessions session) session id told

    -- what is kept with a point
    module _ (n p : ℕ) (set : List Range) (found : IsSetOf book k.conflicts.items id n p set) where
      abbrev before : Seen
      before = seen_before book n

      abbrev its : IsSetAt found.entry.batch found.all id p set
      its = found.set_at

      abbrev head : Head
      head = head_of before found.entry

      earlier : (earlier : List Place)
          × (place_in head 0 found.entry.batch before.places p ≡ Some (placed head (0 + p) its.transaction, earlier))
      earlier =
          let place = place-found splits head found.entry.batch before.places 0 p its.transaction its.there in
          (place.0, place.1)

      abbrev there : Place × List Place
      there = (placed head (0 + p) its.transaction, earlier.0)

      is : place_at book n p ≡ Some there
      is = ap (place_of before p) found.there ∙ earlier.1

      done : is_set k.decided.items n ≡ true
      done = ⊎_elim
          (λ done. done)
          (λ waits. absurd (nothing-at found.all p set (refines.conflicts.undecided n found.all waits found.kept)
          its.kept))
          (cases_Bool (is_set k.decided.items n))

      points : (x : Point) → in_set set x ≡ (is_fresh there.0 && in_conflict splits there.1 there.0 x)
      points x = ap (λ (ranges : List Range). in_set ranges x) (set-is found.all p set its.kept)
          ∙ by-rule n p there is found.entry found.there found.all found.kept done x

      refused : (is_fresh there.0 ≡ true) × (in_conflict splits there.1 there.0 its.points.0 ≡ true)
      refused = and_parts _ _ (sym (points its.points.0) ∙ its.points.1)

      -- is the set of a place that was refused
      found-refused : IsConflictOf (machine_of k) session (Some set)
      found-refused = (
        n,
        p,
        there,
        record {
          at = is;
          decided = done;
          own = ap (λ (it : TxnId). it.session) its.own ∙ told-as.1;
          last = told-as.2 ∙ ap (λ (it : TxnId). Some it.number) (sym its.own);
          told = told-as.0;
          fresh = refused.0;
          uncommitted = false_from_ne_true _ (λ commits. both_ways _
              ((committed_without_conflict splits there.1 there.0 (history n p there is found.entry found.there)
              refused.0).0 commits its.points.0) refused.1);
        },
        λ x. points x ∙ ap (λ (fresh : Bool). fresh && in_conflict splits there.1 there.0 x) refused.0,
      )

    -- and where none is found, no place was
    none-refused : ((n p : ℕ) (set : List Range) → IsSetOf book k.conflicts.items id n p set → ⊥)
        → IsConflictOf (machine_of k) session None
    none-refused none n p there refused =
        let entry = entry-there n p there refused.at in
        let inside = slice_get_within book n entry.0 entry.1 in
        let count = refines.conflicts.each_kept in
        let all = within-item k.conflicts.items n (omega (arith, inside, count)) in
        let found = places_are_found_in_the_book book n p entry.0 there.0 there.1 entry.1 refused.at in
        let conflict = refused_by_conflict splits there.1 there.0
        (history n p there refused.at entry.0 entry.1) refused.fresh refused.uncommitted in
        let inside : in_set (set_at p all.0) conflict.0 ≡ true =
        by-rule n p there refused.at entry.0 entry.1 all.0 all.1 refused.decided conflict.0
        ∙ and_from _ _ refused.fresh conflict.1 in
        none n p (set_at p all.0) (record {
          entry = entry.0;
          there = entry.1;
          all = all.0;
          kept = all.1;
          set_at = record {
            transaction = there.0.transaction;
            there = found.0;
            own = λ i. record {
              session = (refused.own ∙ sym told-as.1) i;
              number = same_Some there.0.transaction.id.number id.number (sym refused.last ∙ told-as.2) i;
            };
            kept = set-there all.0 p conflict.0 inside;
            points = (conflict.0, inside);
          };
        })

    pub found-conflict : (set : Option (List Range)) → IsFound book k.conflicts.items id set
        → IsConflictOf (machine_of k) session set
    found-conflict None none = none-refused none
    found-conflict (Some set) found = found-refused found.0 found.1 set found.2

-- a session that began no transaction, or waits, wasn't told that its last one was refused
pub untold : (k : Cluster) (session : ℕ) → last_told k.sessions session ≡ None
    → IsConflictOf (machine_of k) session None
untold k session none n p there refused =
    let some : last_told k.sessions session
    ≡ Some (record { session = session; number = there.0.transaction.id.number }) =
    λ i. if refused.told i then None else id_of session (refused.last i) in
    let wrong = sym none ∙ some in cc
